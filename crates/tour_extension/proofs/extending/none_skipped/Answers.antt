use Rattle.call_sets.specs.Counting.{has}
use Rattle.tour_extension.proofs.SetTests.{none_skipped_told, required_below}
use Rattle.tour_extension.proofs.extending.none_skipped.Goals as goal

pub returns : goal.returns
returns c = λ s car q stop demand at.
    none_skipped_told s car
    (has c.args.demand.now.required) c.args.point.now q stop c.due_calls-due.result c.after_last.result c.minus.result c.any_call.result at
    (λ j. c.due_calls-due.ensures.due s car q stop demand at j)
    (λ j e. required_below s car (has c.args.demand.now.allowed) (has c.args.demand.now.required) j demand (c.due_calls-due.ensures.required j e))
    c.after_last.ensures c.minus.ensures c.any_call.ensures
