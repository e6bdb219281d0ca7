use Rattle.std.proofs.Common.{◌≡◌, ◌∙◌, ◌+◌, ℕ, Some, length, sym, ap, subst, arith}
use Rattle.elevator_model.specs.declared.CarState.TheVariants.{Moving}
use Rattle.elevator_model.specs.Building.{Building, floor_count}
use Rattle.elevator_model.specs.Snapshot.{is_open}
use Rattle.plain_plan.specs.Openings.{IsFound}
use Rattle.plain_plan.proofs.Found.{found_before, found_nearer, found_none}
use Rattle.plain_plan.proofs.opening.nearest_open.Goals as goal
use Rattle.plain_plan.proofs.opening.nearest_open.Goals.{then-is_open, else-is_open}

pub loop-floor-preserved : goal.loop-floor-preserved
loop-floor-preserved c =
    let s = c.args.snapshot.now in
    let test = is_open s.building c.args.car s.moment (Moving c.args.from c.args.up c.args.left) in
    let n = c.loop-floor.floor in
    let state = Moving c.args.from c.args.up c.args.left in
    let tested = c.is_open.ensures ∙ ap (λ (b : Building). is_open b c.args.car c.now.result state n) c.building-in-loop-floor.ensures.value
    ∙ ap (λ (t : ℕ). is_open s.building c.args.car t state n) c.now.ensures.value in
    elim c.if-is_open.branch [
      | then-is_open w ↦
          subst (IsFound test (n + 1)) (ap (λ (k : ℕ). Some k) (sym w.nearer.ensures) ∙ sym w.nearest-is)
          (found_nearer test c.args.up n c.loop-floor.nearest c.loop-floor.invariant (sym tested ∙ w.if-is_open.true))
      | else-is_open w ↦
          subst (IsFound test (n + 1)) (sym w.nearest-is) (found_before test n c.loop-floor.nearest c.loop-floor.invariant (sym tested ∙ w.if-is_open.false))
    ]

pub unreachable-requires : goal.unreachable-requires
unreachable-requires c =
    let s = c.args.snapshot.now in
    let counted : c.loop-floor.floor ≡ length c.heights.result.now = omega arith in
    found_none (is_open s.building c.args.car s.moment (Moving c.args.from c.args.up c.args.left)) c.loop-floor.floor
    (floor_count s.building) c.loop-floor.nearest c.loop-floor.invariant c.in-None.is
    (counted ∙ ap length c.heights.ensures.value ∙ ap (λ (b : Building). length b.heights) c.building.ensures.value) c.requires.some
