use Rattle.std.proofs.Common.{◌∙◌, ◌+◌, ◌-◌, ◌++◌, ℕ, List, length, ap, arith}
use Rattle.elevator_model.specs.Building.{Building, floor_count}
use Rattle.plain_plan.specs.Openings.{is_destination, rising}
use Rattle.plain_plan.proofs.FloorSteps.{rising_step}
use Rattle.plain_plan.proofs.opening.floors_above.Goals as goal

pub overflow_step-other : goal.overflow_step-other
overflow_step-other c = let low = c.requires in omega (arith, low, c.building.ensures.accepted.building.floors_high)

pub loop-other-preserved : goal.loop-other-preserved
loop-other-preserved c =
    let s = c.args.snapshot.now in
    let test = is_destination s c.args.car in
    let top = floor_count s.building in
    let other = c.loop-other.other in
    let same = ap length c.heights.ensures.value ∙ ap (λ (b : Building). length b.heights) c.building.ensures.value in
    let below = c.loop-other-test.true in
    ap (λ (l : List ℕ). l ++ rising test (other + 1) (top - (other + 1))) c.in_ok-add_destination.ensures
    ∙ rising_step test other top c.loop-other.floors.items (omega (arith, same, below)) ∙ c.loop-other.invariant
