use Rattle.std.proofs.Common.{◌≡◌, ◌∙◌, ◌<◌, ◌++◌, ◌∷◌, [], ℕ, List, Bool, ltb, map, take, length, get_or, sym, ap, arith, append_assoc}
use Rattle.std.specs.List.{filter}
use Rattle.std.proofs.lemmas.Bool.{lt-ltb, le-ltb}
use Rattle.std.proofs.lemmas.List.{take_all}
use Rattle.elevator_model.specs.declared.Aboard.{Aboard}
use Rattle.elevator_model.specs.Snapshot.{call_count}
use Rattle.search_model.specs.Advancing.{group_from}
use Rattle.day_state.proofs.Steps.{kept-with, kept-without}
use Rattle.day_state.proofs.remaining.add_new_groups.Goals as goal
use Rattle.day_state.proofs.remaining.add_new_groups.Goals.{then-rider-calls+in_ok-push, else-rider-calls}

pub loop-rider-preserved : goal.loop-rider-preserved
loop-rider-preserved c = λ p riders r.
    let s = c.args.snapshot.now in
    let car = c.args.car in
    let i = c.loop-rider.rider-index in
    let all = c.args.ride.now.riders.items in
    let items = c.deref-rider-items.ensures.value in
    let rider = get_or all i 0 in
    let same : get_or c.deref-rider-items.result.now i 0 ≡ rider = ap (λ (xs : List ℕ). get_or xs i 0) items in
    let below : i < length all = (let long = ap length items in omega (arith, long, c.loop-rider-test.true)) in
    let count = ap length c.calls.ensures.value in
    let made : ℕ → Aboard = group_from s car p in
    let is_call : ℕ → Bool = λ x. ltb x (call_count s) in
    let first = c.args.groups.now.items in
    let earlier = map made (filter is_call (take i all)) in
    let so_far = c.loop-rider.invariant p riders r in
    elim c.if-rider-calls.branch [
      | then-rider-calls+in_ok-push w ↦ (
          let call = lt-ltb rider (call_count s) (omega (arith, same, count, w.if-rider-calls.true)) in
          let group = w.group_from.ensures p riders r ∙ ap made same in
          ap (λ x. x.items) w.groups-is ∙ w.in_ok-push.ensures.items ∙ ap (λ (xs : List Aboard). xs ++ w.group_from.result ∷ []) so_far
          ∙ ap (λ (x : Aboard). (first ++ earlier) ++ x ∷ []) group ∙ append_assoc first earlier (made rider ∷ [])
          ∙ ap (λ (xs : List Aboard). first ++ xs) (sym (kept-with made is_call all i 0 below call)))
      | else-rider-calls w ↦ (
          let group = le-ltb rider (call_count s) (omega (arith, same, count, w.if-rider-calls.false)) in
          ap (λ x. x.items) w.groups-is ∙ so_far ∙ ap (λ (xs : List Aboard). first ++ xs) (sym (kept-without made is_call all i 0 below group)))
    ]

pub returns : goal.returns
returns c = λ p riders r.
    let s = c.args.snapshot.now in
    let i = c.loop-rider.rider-index in
    let all = c.args.ride.now.riders.items in
    let over = take_all i all (let long = ap length c.deref-rider-items.ensures.value in omega (arith, long, c.loop-rider-test.false)) in
    c.loop-rider.invariant p riders r
    ∙ ap (λ (xs : List ℕ). c.args.groups.now.items ++ map (group_from s c.args.car p) (filter (λ x. ltb x (call_count s)) xs)) (over ∙ r.aboard)
