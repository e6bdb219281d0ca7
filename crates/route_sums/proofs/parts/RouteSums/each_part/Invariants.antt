-- The parts of the calls that are left are still to come.
use Rattle.call_sets.specs.Counting.{has, members}
use Rattle.elevator_model.specs.Snapshot.{call_count, call_of}
use Rattle.search_model.specs.Prices.{price_at}
use Rattle.pricing_bound.proofs.WaitingLemmas.{AreSoFar}
use Rattle.route_bound.specs.ForcedRoute.{part_if_boarded}
use Rattle.route_sums.specs.Idle.{adds}
use Rattle.route_sums.specs.Stands.{soonest}
use Rattle.route_sums.proofs.FilterLemmas.{IsFiltered}
use Rattle.route_sums.proofs.parts.RouteSums.each_part.Given as goal

abbrev pub invariant-loop-call : goal.invariant-loop-call
invariant-loop-call l = record {
  sum : AreSoFar l.fn.calls (call_count l.self.snapshot.now)
      (λ j. part_if_boarded l.self.snapshot.now l.self.car (price_at l.self.prices.now) (has l.self.required) j
      (soonest l.self.snapshot.now l.self.car l.stand (call_of l.self.snapshot.now j).origin)) (members 128 l.call-iterator.left) l.sum;
  waiting : IsFiltered (call_count l.self.snapshot.now) l.fn.calls
      (λ j. adds (part_if_boarded l.self.snapshot.now l.self.car (price_at l.self.prices.now) (has l.self.required) j
      (soonest l.self.snapshot.now l.self.car l.stand (call_of l.self.snapshot.now j).origin))) (members 128 l.call-iterator.left) l.waiting;
}
