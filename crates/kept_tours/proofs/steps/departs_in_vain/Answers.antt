use Rattle.std.proofs.Common.{◌≡◌, Some, subst}
use Rattle.std.proofs.lemmas.Int.{to_z-of_z}
use Rattle.std.specs.Prelude.{ℤ}
use mir.Syntax.{w128}
use Rattle.elevator_model.specs.declared.Move.{Move}
use Rattle.elevator_model.specs.Partial.{move_on}
use Rattle.pricing_bound.specs.Aims.{IsUpTo}
use Rattle.kept_tours.proofs.steps.departs_in_vain.Goals as goal

pub returns-in-Leave : goal.returns-in-Leave
returns-in-Leave g c = λ high x y departs moved.
    let a = g.B.TourBound.aim c.args.bound.now in
    let there = subst (λ (m : Move). move_on a.snapshot a.car x m ≡ Some y) c.in-Leave.is moved in
    subst (λ (z : ℤ). IsUpTo (g.B.TourBound.bounds c.args.bound.now) z y) (to_z-of_z w128 c.args.worth c.ranges.worth)
    (c.leaves_in_vain.ensures high x y c.in-Leave.field-0 departs there)
