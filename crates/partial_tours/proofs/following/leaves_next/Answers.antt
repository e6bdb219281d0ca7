use Rattle.std.proofs.Common.{◌∙◌, ℕ, ap, sym}
use Rattle.call_sets.specs.Counting.{has}
use Rattle.tour_rules.proofs.Riders.{zero_has}
use Rattle.partial_tours.proofs.NextSets.{leaves_same, leaves_none}
use Rattle.partial_tours.proofs.following.leaves_next.Goals as goal

pub returns-then-not-may_be_left : goal.returns-then-not-may_be_left
returns-then-not-may_be_left c = λ x t g.
    ap (λ (n : ℕ). has n g) c.empty.ensures ∙ zero_has g
    ∙ leaves_none c.args.layout.now.snapshot c.args.layout.now.car c.args.point.now x g t (sym c.may_be_left.ensures ∙ c.if-not-may_be_left.true)

pub returns-then-point : goal.returns-then-point
returns-then-point c = λ x t g.
    c.later_floors_next.ensures x t (sym t.place.begun ∙ c.if-point.true) g
    ∙ leaves_same c.args.layout.now.snapshot c.args.layout.now.car c.args.point.now x g t (sym c.may_be_left.ensures ∙ c.if-not-may_be_left.false)

pub returns-else-point : goal.returns-else-point
returns-else-point c = λ x t g.
    c.first_floors_next.ensures x t (sym t.place.begun ∙ c.if-point.false) g
    ∙ leaves_same c.args.layout.now.snapshot c.args.layout.now.car c.args.point.now x g t (sym c.may_be_left.ensures ∙ c.if-not-may_be_left.false)
