use Rattle.std.proofs.Common.{◌≡◌, ◌∙◌, ℕ, Bool, true, false, sym, ap, arith, Some, Option}
use Rattle.elevator_model.specs.Building.{Building}
use Rattle.elevator_model.specs.Snapshot.{is_open}
use Rattle.elevator_model.specs.Travel.{difference}
use Rattle.search_model.specs.Sums.{least_where, lesser_of}
use Rattle.day_state.proofs.Steps.{least-with, least-without}
use Rattle.day_state.proofs.openings.floors_to_open.Goals as goal
use Rattle.day_state.proofs.openings.floors_to_open.Goals.{then-is_open, else-is_open}

pub loop-floor-preserved : goal.loop-floor-preserved
loop-floor-preserved c =
    let s = c.args.snapshot.now in
    let test : ℕ → Bool = is_open s.building c.args.car s.moment c.args.state in
    let floor = c.loop-floor.floor in
    let open_is = c.is_open.ensures ∙ ap (λ (b : Building). is_open b c.args.car c.now.result c.args.state floor) c.building-in-loop-floor.ensures.value
    ∙ ap (λ (t : ℕ). is_open s.building c.args.car t c.args.state floor) c.now.ensures.value in
    elim c.if-is_open.branch [
      | then-is_open w ↦ (
          let far : w.abs_diff.result ≡ difference c.args.from floor = omega (arith, w.abs_diff.ensures) in
          let opens : test floor ≡ true = sym open_is ∙ w.if-is_open.true in
          w.least-is ∙ ap Some
          (w.lesser.ensures ∙ ap (λ (o : Option ℕ). lesser_of o w.abs_diff.result) c.loop-floor.invariant
          ∙ ap (lesser_of (least_where floor test (difference c.args.from))) far) ∙ sym (least-with floor test (difference c.args.from) opens))
      | else-is_open w ↦ (
          let closed : test floor ≡ false = sym open_is ∙ w.if-is_open.false in
          w.least-is ∙ c.loop-floor.invariant ∙ sym (least-without floor test (difference c.args.from) closed))
    ]
