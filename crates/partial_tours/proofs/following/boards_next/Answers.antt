use Rattle.std.proofs.Common.{◌&&◌, ◌∙◌, ℕ, Bool, ap, sym}
use Rattle.call_sets.specs.Counting.{has}
use Rattle.tour_rules.proofs.Riders.{zero_has}
use Rattle.car_layout.specs.Layouts.{starts_at}
use Rattle.partial_tours.specs.Courses.{is_after}
use Rattle.partial_tours.proofs.NextSets.{boards_same, boards_none}
use Rattle.partial_tours.proofs.following.boards_next.Goals as goal

pub returns-then-not-has_stopped : goal.returns-then-not-has_stopped
returns-then-not-has_stopped c = λ x t j.
    ap (λ (n : ℕ). has n j) c.empty.ensures ∙ zero_has j
    ∙ boards_none c.args.layout.now.snapshot c.args.layout.now.car c.args.point.now x (has c.args.allowed) j t
    (sym c.has_stopped.ensures ∙ c.if-not-has_stopped.true)

pub returns : goal.returns
returns c = λ x t j.
    let s = c.args.layout.now.snapshot in
    let point = c.args.point.now in
    c.intersection-2.ensures j ∙ ap (λ (z : Bool). z && has c.calls_with_room.result j) (c.after_last.ensures j)
    ∙ ap (λ (z : Bool). (z && is_after point.last j) && has c.calls_with_room.result j) (c.intersection-here.ensures j)
    ∙ ap (λ (z : Bool). ((z && has c.starting.result j) && is_after point.last j) && has c.calls_with_room.result j) (c.intersection.ensures j)
    ∙ ap (λ (z : Bool). (((has point.waiting j && has c.args.allowed j) && z) && is_after point.last j) && has c.calls_with_room.result j)
    (c.starting.ensures j) ∙ ap
    (λ (z : Bool). (((has point.waiting j && has c.args.allowed j) && starts_at s point.place.floor j) && is_after point.last j) && z)
    (c.calls_with_room.ensures j)
    ∙ boards_same s c.args.layout.now.car point x (has c.args.allowed) j t (sym c.has_stopped.ensures ∙ c.if-not-has_stopped.false)
