use Rattle.call_sets.specs.Counting.{has}
use Rattle.tour_extension.proofs.SetTests.{ended_told}
use Rattle.tour_extension.proofs.extending.passes_test.Goals as goal

pub returns-then-point : goal.returns-then-point
returns-then-point c = λ x at.
    ended_told c.args.layout.now.snapshot c.args.layout.now.car (has c.args.demand.now.allowed)
    (has c.args.demand.now.required) c.args.point.now x c.missing_calls.result c.any_call.result c.requires at c.missing_calls.ensures c.any_call.ensures
    c.if-point.true
