use Rattle.std.proofs.Common.{◌&&◌, ◌∙◌, Bool, ap, not, refl, sym}
use Rattle.call_sets.specs.Counting.{any_below}
use Rattle.elevator_model.specs.Tours.{rider_count}
use Rattle.partial_tours.specs.Courses.{reached}
use Rattle.partial_tours.proofs.NextSets.{ends_same, ends_none}
use Rattle.partial_tours.proofs.following.ends_next.Goals as goal

pub returns-then-not-may_be_left : goal.returns-then-not-may_be_left
returns-then-not-may_be_left c = λ x t.
    ends_none c.args.layout.now.snapshot c.args.layout.now.car c.args.point.now x t (sym c.may_be_left.ensures ∙ c.if-not-may_be_left.true)

pub returns-then-not-needs_no_stop : goal.returns-then-not-needs_no_stop
returns-then-not-needs_no_stop c = λ x t.
    let s = c.args.layout.now.snapshot in
    let car = c.args.layout.now.car in
    let none = not (any_below (rider_count s) (reached s car x).carried) in
    ap (λ (b : Bool). b && none) (sym c.if-not-needs_no_stop.true ∙ c.needs_no_stop.ensures)
    ∙ ends_same s car c.args.point.now x none t (sym c.may_be_left.ensures ∙ c.if-not-may_be_left.false) refl

pub returns : goal.returns
returns c = λ x t.
    let s = c.args.layout.now.snapshot in
    let car = c.args.layout.now.car in
    ap (λ (b : Bool). b && c.carries_nobody.result) (sym c.if-not-needs_no_stop.false ∙ c.needs_no_stop.ensures)
    ∙ ends_same s car c.args.point.now x c.carries_nobody.result t (sym c.may_be_left.ensures ∙ c.if-not-may_be_left.false)
    (c.carries_nobody.ensures s car x t)
