use Rattle.call_sets.specs.Counting.{has}
use Rattle.tour_extension.proofs.SetTests.{all_fit_told, required_below}
use Rattle.tour_extension.proofs.extending.all_fit.Goals as goal

pub persons_in-requires : goal.persons_in-requires
persons_in-requires c = λ j e.
    required_below c.args.layout.now.snapshot c.args.layout.now.car (has c.args.demand.now.allowed) (has c.args.demand.now.required) j c.requires
    (c.due_calls-due.ensures.required j e)

pub returns : goal.returns
returns c = λ q stop at.
    let s = c.args.layout.now.snapshot in
    let car = c.args.layout.now.car in
    all_fit_told s car (has c.args.demand.now.required) c.args.point.now q stop c.due_calls-due.result c.persons_in.result at
    (λ j. c.due_calls-due.ensures.due s car q stop c.requires at j) c.persons_in.ensures.value
