-- Draws one after another, and the lists of what is made from them.
use Rattle.std.proofs.Common.{◌≡◌, ℕ, zero, suc, ◌+◌, ◌-◌, ◌*◌, ◌%◌, List, [], ◌∷◌, ◌++◌, map, None, refl, sym, ap, ◌∙◌, add-zero, add-suc, add-one, zero-add}
use Rattle.std.proofs.Common.{arith}
use Rattle.std.specs.List.{range_with_len}
use Rattle.std.proofs.lemmas.List.FromFn.{map-range_with_len_more}
use Rattle.elevator_model.specs.declared.CarState.TheVariants.{Idle}
use Rattle.elevator_model.specs.declared.Call.{Call}
use Rattle.search_model.specs.Cases.{state_after, drawn_by, state_of_draw, draw, pick, other_floor, case_state, case_call}
use Rattle.case_maker.specs.NextCall.{next_call}

pub state_of_draw-next : (x n : ℕ) → state_of_draw x (n + 1) ≡ state_after (state_of_draw x n)
state_of_draw-next x n = ap (state_of_draw x) (add-one n)

-- draws that go on from a later state
pub state_of_draw-add : (x n k : ℕ) → state_of_draw (state_of_draw x n) k ≡ state_of_draw x (n + k)
state_of_draw-add x n zero = ap (state_of_draw x) (sym (add-zero n))
state_of_draw-add x n (suc k) = ap state_after (state_of_draw-add x n k) ∙ ap (state_of_draw x) (sym (add-suc n k))

draw-add : (x n k : ℕ) → draw (state_of_draw x n) k ≡ draw x (n + k)
draw-add x n k = ap drawn_by (state_of_draw-add x n k)

-- a list that is made in the order of the indices, and one more
pub made-push : {X : Type 0} (f : ℕ → X) (n : ℕ) (made : List X) (x : X) → made ≡ map f (range_with_len 0 n) → x ≡ f n
    → made ++ x ∷ [] ≡ map f (range_with_len 0 (n + 1))
made-push f n made x before here =
    ap (λ xs. xs ++ x ∷ []) before ∙ ap (λ y. map f (range_with_len 0 n) ++ y ∷ []) here ∙ sym (map-range_with_len_more f 0 n n (zero-add n))

-- the state that is drawn next
pub case_state-next : (x floors n state floor : ℕ) → state ≡ state_of_draw x n → floor ≡ drawn_by (state_after state) % floors
    → Idle floor 600000 ≡ case_state x floors n
case_state-next x floors n state floor drawn here =
    let same : floor ≡ pick x (n + 1) floors = here ∙ ap (λ (s : ℕ). drawn_by (state_after s) % floors) drawn
    ∙ ap (λ (s : ℕ). drawn_by s % floors) (sym (state_of_draw-next x n)) in
    ap (λ (f : ℕ). Idle f 600000) same

pub drawn-next : (x n state after : ℕ) → state ≡ state_of_draw x n → after ≡ state_after state → after ≡ state_of_draw x (n + 1)
drawn-next x n state after drawn here = here ∙ ap state_after drawn ∙ sym (state_of_draw-next x n)

-- the call that four draws make
abbrev call_with : (floors id first second third fourth : ℕ) → Call
call_with floors id first second third fourth = record {
  id = id;
  origin = first % floors;
  destination = other_floor (first % floors) (second % (floors - 1));
  persons = 1 + third % 2;
  released = 600000 - 1000 * (fourth % 64);
  pin = None;
}

call-next : (x floors cars j : ℕ) → next_call (state_of_draw x (cars + 4 * j)) floors (j + 1) ≡ case_call x floors cars j
call-next x floors cars j =
    let n = cars + 4 * j in
    let s = state_of_draw x n in
    ap (λ (d : ℕ). call_with floors (j + 1) d (draw s 2) (draw s 3) (draw s 4)) (draw-add x n 1)
    ∙ ap (λ (d : ℕ). call_with floors (j + 1) (draw x (n + 1)) d (draw s 3) (draw s 4)) (draw-add x n 2)
    ∙ ap (λ (d : ℕ). call_with floors (j + 1) (draw x (n + 1)) (draw x (n + 2)) d (draw s 4)) (draw-add x n 3)
    ∙ ap (λ (d : ℕ). call_with floors (j + 1) (draw x (n + 1)) (draw x (n + 2)) (draw x (n + 3)) d) (draw-add x n 4)

-- the call that is drawn next
pub case_call-next : (x floors n state : ℕ) (call : Call) → state ≡ state_of_draw x (4 * n) → call ≡ next_call state floors (n + 1)
    → call ≡ case_call x floors 0 n
case_call-next x floors n state call drawn here =
    here ∙ ap (λ (s : ℕ). next_call s floors (n + 1)) (drawn ∙ ap (state_of_draw x) (sym (zero-add (4 * n)))) ∙ call-next x floors 0 n

pub drawn-four : (x n state after : ℕ) → state ≡ state_of_draw x (4 * n) → after ≡ state_of_draw state 4 → after ≡ state_of_draw x (4 * (n + 1))
drawn-four x n state after drawn here =
    let count : 4 * n + 4 ≡ 4 * (n + 1) = omega arith in
    here ∙ ap (λ (s : ℕ). state_of_draw s 4) drawn ∙ state_of_draw-add x (4 * n) 4 ∙ ap (state_of_draw x) count

-- the calls of a case are those that are drawn from the state after its cars
case_call-from : (x floors cars j : ℕ) → case_call (state_of_draw x cars) floors 0 j ≡ case_call x floors cars j
case_call-from x floors cars j =
    let count : cars + (0 + 4 * j) ≡ cars + 4 * j = omega arith in
    sym (call-next (state_of_draw x cars) floors 0 j)
    ∙ ap (λ (s : ℕ). next_call s floors (j + 1)) (state_of_draw-add x cars (0 + 4 * j) ∙ ap (state_of_draw x) count) ∙ call-next x floors cars j

map-same : {X : Type 0} (f g : ℕ → X) (ks : List ℕ) → ((k : ℕ) → f k ≡ g k) → map f ks ≡ map g ks
map-same f g [] same = refl
map-same f g (k ∷ ks) same = ap (λ x. x ∷ map f ks) (same k) ∙ ap (λ xs. g k ∷ xs) (map-same f g ks same)

pub case_calls-from : (x floors cars calls : ℕ)
    → map (case_call (state_of_draw x cars) floors 0) (range_with_len 0 calls) ≡ map (case_call x floors cars) (range_with_len 0 calls)
case_calls-from x floors cars calls =
    map-same (case_call (state_of_draw x cars) floors 0) (case_call x floors cars) (range_with_len 0 calls) (case_call-from x floors cars)
