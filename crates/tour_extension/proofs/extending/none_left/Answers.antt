use Rattle.call_sets.specs.Counting.{has}
use Rattle.tour_extension.proofs.SetTests.{none_left_told}
use Rattle.tour_extension.proofs.extending.none_left.Goals as goal

pub returns : goal.returns
returns c = λ s car q stop demand at.
    none_left_told s car (has c.args.demand.now.allowed)
    (has c.args.demand.now.required) c.args.point.now q stop c.missing_calls-missing.result c.minus.result c.any_call.result demand at
    c.missing_calls-missing.ensures c.minus.ensures c.any_call.ensures
