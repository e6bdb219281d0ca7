-- The car's calls among those so far.
use Rattle.std.proofs.Common.{◌≡◌, take, slice_index}
use Rattle.plain_plan.specs.PlainPlans.{calls_for}
use Rattle.plain_plan.proofs.choosing.calls_of_car.Given as goal

abbrev pub invariant-loop-call : goal.invariant-loop-call
invariant-loop-call l = l.calls.items ≡ calls_for (slice_index l.cars) l.car (take l.call-index l.order)
