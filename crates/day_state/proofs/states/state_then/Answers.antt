use Rattle.std.proofs.Common.{◌≡◌, ◌∙◌, false, sym, ap}
use Rattle.elevator_model.specs.declared.CarState.{CarState}
use Rattle.elevator_model.specs.Snapshot.{is_idle, is_moving}
use Rattle.search_model.specs.Advancing.{state_moving}
use Rattle.day_state.proofs.StatesThen.{then-begun, then-idle, then-moving, then-coming}
use Rattle.day_state.proofs.states.state_then.Goals as goal
use Rattle.day_state.proofs.states.state_then.Goals.{then-walker, else-walker}

pub returns-then-is_idle : goal.returns-then-is_idle
returns-then-is_idle c = λ p walks.
    let s = c.args.snapshot.now in
    let car = c.args.car in
    let left = c.args.left.now in
    c.state_standing.ensures p walks ∙ sym (elim c.if-walker.branch [
      | then-walker w ↦ then-begun s car c.args.t p left (sym walks.place.begun ∙ w.if-walker.true)
      | else-walker w ↦
          then-idle s car c.args.t p left (sym walks.place.begun ∙ w.if-walker.false)
          (ap is_idle (sym c.car-state.ensures.value) ∙ sym w.is_idle.ensures ∙ sym w.value-is ∙ c.if-is_idle.true)
    ])

pub returns-then-is_moving : goal.returns-then-is_moving
returns-then-is_moving c = λ p walks.
    let s = c.args.snapshot.now in
    let car = c.args.car in
    let left = c.args.left.now in
    let state = c.car-state.ensures.value in
    let begun : p.begun ≡ false = sym walks.place.begun ∙ elim c.if-walker.branch [
      | then-walker w ↦ cc
      | else-walker w ↦ w.if-walker.false
    ] in
    c.state_moving.ensures p walks ∙ ap (λ (x : CarState). state_moving s car c.args.t p x left) state
    ∙ sym (then-moving s car c.args.t p left begun (ap is_moving (sym state) ∙ sym c.is_moving.ensures ∙ c.if-is_moving.true))

pub returns-else-is_moving : goal.returns-else-is_moving
returns-else-is_moving c = λ p walks.
    let s = c.args.snapshot.now in
    let car = c.args.car in
    let left = c.args.left.now in
    let state = c.car-state.ensures.value in
    let moving = ap is_moving (sym state) ∙ sym c.is_moving.ensures ∙ c.if-is_moving.false in
    state ∙ sym (elim c.if-walker.branch [
      | then-walker w ↦ cc
      | else-walker w ↦
          then-coming s car c.args.t p left (sym walks.place.begun ∙ w.if-walker.false)
          (ap is_idle (sym state) ∙ sym w.is_idle.ensures ∙ sym w.value-is ∙ c.if-is_idle.false) moving
    ])
