-- The calls that are left are still to be judged.
use Rattle.call_sets.specs.Counting.{members}
use Rattle.pricing_bound.specs.Rates.{aim_at}
use Rattle.pricing_bound.proofs.SteadyLemmas.{AreSifted}
use Rattle.pricing_bound.proofs.straight.StraightRides.sift.Given as goal

abbrev pub invariant-loop-call : goal.invariant-loop-call
invariant-loop-call l =
    AreSifted (aim_at l.self.rates.now l.self.car l.self.allowed l.self.required) l.initial.waiting l.fn.due (members 128 l.call-iterator.left) l.waiting
