use Rattle.call_sets.specs.Counting.{has}
use Rattle.tour_extension.proofs.SetTests.{useful_told, has_use_told, here_below}
use Rattle.tour_extension.proofs.extending.has_use.Goals as goal

pub any_keeps_queue_and_way-requires : goal.any_keeps_queue_and_way-requires
any_keeps_queue_and_way-requires c = λ j e.
    here_below c.args.layout.now.snapshot c.args.point.now (has c.args.demand.now.allowed) c.boards_here.result j c.boards_here.ensures e

pub returns-then-point : goal.returns-then-point
returns-then-point c = λ q stop at.
    useful_told c.args.layout.now.snapshot c.args.layout.now.car (has c.args.demand.now.allowed)
    (has c.args.demand.now.required) c.args.point.now q stop at c.if-point.true

pub returns : goal.returns
returns c = λ q stop at.
    let s = c.args.layout.now.snapshot in
    let car = c.args.layout.now.car in
    has_use_told s car (has c.args.demand.now.allowed)
    (has c.args.demand.now.required) c.args.point.now q stop c.of.result c.missing_calls.result c.boards_here.result c.any_keeps_queue_and_way.result
    c.requires at (c.of.ensures s car q stop at) c.missing_calls.ensures c.boards_here.ensures c.if-point.false c.any_keeps_queue_and_way.ensures
