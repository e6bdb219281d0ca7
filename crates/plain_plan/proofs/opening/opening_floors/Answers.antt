use Rattle.std.proofs.Common.{◌∙◌, ◌≡◌, ◌∷◌, [], ℕ, List, Vec, Global, length, vec_len, sym, ap, subst, arith}
use Rattle.std.proofs.lemmas.Bool.{eqb-true, eqb-false}
use Rattle.std.proofs.lemmas.Result.{IfOk-weaker}
use Rattle.plain_plan.specs.Openings.{IsOpening, floors_aboard}
use Rattle.plain_plan.proofs.Floors.{opens_idle, opens_coming, opens_moving, open_somewhere}
use Rattle.plain_plan.proofs.FloorSteps.{else_added, else_kept}
use Rattle.plain_plan.proofs.opening.opening_floors.Goals as goal
use Rattle.plain_plan.proofs.opening.opening_floors.Goals.{then-is_empty+in_ok-push-in-Moving, else-is_empty}

pub returns-in-Idle : goal.returns-in-Idle
returns-in-Idle c =
    let s = c.args.snapshot.now in
    let opening = opens_idle s c.args.car c.in-Idle.floor c.in-Idle.free c.in-Idle.ensures.accepted c.requires (sym c.in-Idle.ensures.value) in
    IfOk-weaker c.floors_aboard.result _ _ (λ floors same. subst (IsOpening s c.args.car) (sym same) opening) c.floors_aboard.ensures

pub returns-in_ok-insert-in-Coming : goal.returns-in_ok-insert-in-Coming
returns-in_ok-insert-in-Coming c =
    let s = c.args.snapshot.now in
    let floor = c.in-Coming.floor in
    let opening = opens_coming s c.args.car floor c.in-Coming.arrives c.in-Coming.ensures.accepted c.requires (sym c.in-Coming.ensures.value) in
    subst (IsOpening s c.args.car) (sym (c.in_ok-insert-in-Coming.ensures.items ∙ ap (λ (l : List ℕ). floor ∷ l) c.in_ok-floors-in-Coming.ensures)) opening

pub returns-after-is_empty : goal.returns-after-is_empty
returns-after-is_empty c =
    let s = c.args.snapshot.now in
    let car = c.args.car in
    let from = c.in-Moving.from in
    let ok = c.in-Moving.ensures.accepted in
    let state = sym c.in-Moving.ensures.value in
    let floors = c.in_ok-floors-in-Moving.floors in
    let count : length floors.items ≡ vec_len floors = omega (arith, floors.ok.0) in
    elim c.if-is_empty.branch [
      | then-is_empty+in_ok-push-in-Moving w ↦
          (let o = w.nearest_open.result in let none = eqb-true (vec_len floors) 0 (sym c.is_empty.ensures ∙ w.if-is_empty.true) in
          let items = ap (λ (v : Vec ℕ Global). v.items) w.floors-is ∙ w.in_ok-push-in-Moving.ensures.items
          ∙ else_added floors.items (floors_aboard s car from) o c.in_ok-floors-in-Moving.ensures (count ∙ none) in
          subst (IsOpening s car) (sym items) (opens_moving s car from c.in-Moving.up c.in-Moving.left o ok c.requires state w.nearest_open.ensures))
      | else-is_empty w ↦
          (let some = eqb-false (vec_len floors) 0 (sym c.is_empty.ensures ∙ w.if-is_empty.false) in
          let found = open_somewhere s car from c.in-Moving.up c.in-Moving.left ok c.requires state in
          let items = ap (λ (v : Vec ℕ Global). v.items) w.floors-is
          ∙ else_kept floors.items (floors_aboard s car from) (found.0 ∷ []) c.in_ok-floors-in-Moving.ensures (λ none. some (sym count ∙ none)) in
          subst (IsOpening s car) (sym items) (opens_moving s car from c.in-Moving.up c.in-Moving.left found.0 ok c.requires state found.1))
    ]
