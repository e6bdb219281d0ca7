use Rattle.std.proofs.Common.{◌∙◌, ◌-◌, ◌++◌, ℕ, List, ap}
use Rattle.plain_plan.specs.Openings.{is_destination, falling}
use Rattle.plain_plan.proofs.FloorSteps.{falling_step}
use Rattle.plain_plan.proofs.opening.floors_below.Goals as goal

pub loop-other-preserved : goal.loop-other-preserved
loop-other-preserved c =
    let test = is_destination c.args.snapshot.now c.args.car in
    let other = c.loop-other.other in
    ap (λ (l : List ℕ). l ++ falling test (other - 1)) c.in_ok-add_destination.ensures
    ∙ falling_step test other c.loop-other.floors.items c.loop-other-test.true ∙ c.loop-other.invariant
