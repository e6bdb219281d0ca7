use Rattle.call_sets.specs.Counting.{has}
use Rattle.tour_extension.proofs.SetTests.{due_told}
use Rattle.tour_extension.proofs.extending.due_calls.Goals as goal

pub returns-clause-due : goal.returns-clause-due
returns-clause-due c = λ s car q stop demand at j.
    due_told s car (has c.args.demand.now.allowed)
    (has c.args.demand.now.required) c.args.point.now q stop c.missing_calls.result c.intersection.result j demand at c.missing_calls.ensures
    c.intersection.ensures
