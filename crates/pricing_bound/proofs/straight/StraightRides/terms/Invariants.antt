-- The terms of the calls that are left are still to come.
use Rattle.call_sets.specs.Counting.{members}
use Rattle.elevator_model.specs.Snapshot.{call_count}
use Rattle.pricing_bound.specs.Rates.{aim_at, term_at}
use Rattle.pricing_bound.proofs.WaitingLemmas.{AreSoFar}
use Rattle.pricing_bound.proofs.straight.StraightRides.terms.Given as goal

abbrev pub invariant-loop-call : goal.invariant-loop-call
invariant-loop-call l =
    AreSoFar l.fn.calls (call_count l.self.rates.now.snapshot) (term_at (aim_at l.self.rates.now l.self.car l.self.allowed l.self.required) l.moment)
    (members 128 l.call-iterator.left) l.sum
