-- The stops so far, and then those that serve the calls left.
use Rattle.std.proofs.Common.{◌≡◌, ◌++◌, drop}
use Rattle.plain_plan.specs.PlainTours.{served}
use Rattle.plain_plan.proofs.plain.add_served.Given as goal

abbrev pub invariant-loop-call : goal.invariant-loop-call
invariant-loop-call l =
    l.stops.items ++ served l.snapshot l.pending (drop l.call-index l.calls) ≡ l.initial.stops.items ++ served l.snapshot l.initial.pending l.calls
