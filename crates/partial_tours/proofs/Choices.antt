-- The first of the moves that may follow, out of sets.
use Rattle.std.proofs.Common.{◌≡◌, ℕ, zero, suc, ◌+◌, ◌<◌, ◌≤◌, Bool, true, false, cond, ◌&&◌, List, [], ◌∷◌, ◌++◌, map, refl, sym, ap, ◌∙◌, inl, inr, arith}
use Rattle.std.proofs.Common.{append_assoc, Option, Some, None}
use Rattle.std.specs.List.{filter, range_with_len}
use Rattle.std.proofs.lemmas.Bool.{cases_eq, both_ways}
use Rattle.elevator_model.specs.declared.Move.{Move}
use Rattle.elevator_model.specs.declared.Move.TheVariants.{Board, Leave, End}
use Rattle.elevator_model.specs.Building.{floor_count}
use Rattle.elevator_model.specs.Snapshot.{Snapshot, call_count}
use Rattle.elevator_model.specs.Partial.{all_moves}
use Rattle.std.specs.Option.{MatchOption, is_some}
use Rattle.call_sets.specs.Counting.{has}
use Rattle.partial_tours.specs.Orders.{first_of, first_choice, comes_before, next_after}

-- the least number below a bound that passes a test, and none where none passes
abbrev pub IsLeastBelow : ℕ → (ℕ → Bool) → Option ℕ → Type 0
IsLeastBelow n t None = (k : ℕ) → k < n → t k ≡ false
IsLeastBelow n t (Some j) = (j < n) × (t j ≡ true) × ((k : ℕ) → k < j → t k ≡ false)

first_cond : (t : Move → Bool) (m : Move) (ms : List Move) → t m ≡ true → first_of (filter t (m ∷ ms)) ≡ Some m
first_cond t m ms e = ap (λ (b : Bool). first_of (cond b (m ∷ filter t ms) (filter t ms))) e

skip_cond : (t : Move → Bool) (m : Move) (ms : List Move) → t m ≡ false → filter t (m ∷ ms) ≡ filter t ms
skip_cond t m ms e = ap (λ (b : Bool). cond b (m ∷ filter t ms) (filter t ms)) e

-- no number of the range passes
none_in : (t : Move → Bool) (f : ℕ → Move) (a n : ℕ) (rest : List Move) → ((k : ℕ) → k < a + n → t (f k) ≡ false)
    → filter t (map f (range_with_len a n) ++ rest) ≡ filter t rest
none_in t f a zero rest none = refl
none_in t f a (suc n) rest none = skip_cond t (f a) (map f (range_with_len (a + 1) n) ++ rest) (none a (omega arith))
    ∙ none_in t f (a + 1) n rest (λ k lt. none k (omega (arith, lt)))

-- the least number that passes comes first
first_in : (t : Move → Bool) (f : ℕ → Move) (a n j : ℕ) (rest : List Move) → a ≤ j → j < a + n → t (f j) ≡ true → ((k : ℕ) → k < j → t (f k) ≡ false)
    → first_of (filter t (map f (range_with_len a n) ++ rest)) ≡ Some (f j)
first_in t f a zero j rest low high passes before = absurd (omega arith)
first_in t f a (suc n) j rest low high passes before =
    elim (cases_eq a j) [
      | inl e ↦ first_cond t (f a) (map f (range_with_len (a + 1) n) ++ rest) (ap (λ (k : ℕ). t (f k)) e ∙ passes) ∙ ap (λ (k : ℕ). Some (f k)) e
      | inr ne ↦ ap first_of (skip_cond t (f a) (map f (range_with_len (a + 1) n) ++ rest) (before a (omega (arith, low, ne))))
          ∙ first_in t f (a + 1) n j rest (omega (arith, low, ne)) (omega (arith, high)) passes before
    ]

end_alone : (t : Move → Bool) (ends : Bool) → ends ≡ t End → first_of (filter t (End ∷ [])) ≡ first_choice None None ends
end_alone t true e = first_cond t End [] (sym e)
end_alone t false e = ap first_of (skip_cond t End [] (sym e))

leaves_first : (t : Move → Bool) (floors : ℕ) (floor : Option ℕ) (ends : Bool) → IsLeastBelow floors (λ g. t (Leave g)) floor → ends ≡ t End
    → first_of (filter t (map Leave (range_with_len 0 floors) ++ End ∷ [])) ≡ first_choice None floor ends
leaves_first t floors None ends none e = ap first_of (none_in t Leave 0 floors (End ∷ []) (λ k lt. none k (omega (arith, lt)))) ∙ end_alone t ends e
leaves_first t floors (Some g) ends least e = first_in t Leave 0 floors g (End ∷ []) (omega arith) (omega (arith, least.0)) least.1 least.2

boards_first : (t : Move → Bool) (calls floors : ℕ) (call floor : Option ℕ) (ends : Bool) → IsLeastBelow calls (λ j. t (Board j)) call
    → (call ≡ None → IsLeastBelow floors (λ g. t (Leave g)) floor) → (call ≡ None → ends ≡ t End)
    → first_of (filter t (map Board (range_with_len 0 calls) ++ (map Leave (range_with_len 0 floors) ++ End ∷ []))) ≡ first_choice call floor ends
boards_first t calls floors None floor ends none least e =
    ap first_of (none_in t Board 0 calls (map Leave (range_with_len 0 floors) ++ End ∷ []) (λ k lt. none k (omega (arith, lt))))
    ∙ leaves_first t floors floor ends (least refl) (e refl)
boards_first t calls floors (Some j) floor ends call least e =
    first_in t Board 0 calls j (map Leave (range_with_len 0 floors) ++ End ∷ []) (omega arith) (omega (arith, call.0)) call.1 call.2

-- The first move that passes a test, by the least call, the least floor, and the end.
pub first_passing : (s : Snapshot) (t : Move → Bool) (call floor : Option ℕ) (ends : Bool) → IsLeastBelow (call_count s) (λ j. t (Board j)) call
    → (call ≡ None → IsLeastBelow (floor_count s.building) (λ g. t (Leave g)) floor) → (call ≡ None → ends ≡ t End)
    → first_of (filter t (all_moves s)) ≡ first_choice call floor ends
first_passing s t call floor ends calls floors e =
    ap (λ (ms : List Move). first_of (filter t ms))
    (append_assoc (map Board (range_with_len 0 (call_count s))) (map Leave (range_with_len 0 (floor_count s.building))) (End ∷ []))
    ∙ boards_first t (call_count s) (floor_count s.building) call floor ends calls floors e

filter_one : (t u : Move → Bool) (m : Move) (ms : List Move) → filter t (filter u ms) ≡ filter (λ x. u x && t x) ms → (b : Bool) → u m ≡ b
    → filter t (cond (u m) (m ∷ filter u ms) (filter u ms)) ≡ cond (u m && t m) (m ∷ filter (λ x. u x && t x) ms) (filter (λ x. u x && t x) ms)
filter_one t u m ms rest true e = ap (λ (b : Bool). filter t (cond b (m ∷ filter u ms) (filter u ms))) e ∙ ap (λ (xs : List Move). cond (t m) (m ∷ xs) xs) rest
    ∙ ap (λ (b : Bool). cond (b && t m) (m ∷ filter (λ x. u x && t x) ms) (filter (λ x. u x && t x) ms)) (sym e)
filter_one t u m ms rest false e = ap (λ (b : Bool). filter t (cond b (m ∷ filter u ms) (filter u ms))) e ∙ rest
    ∙ ap (λ (b : Bool). cond (b && t m) (m ∷ filter (λ x. u x && t x) ms) (filter (λ x. u x && t x) ms)) (sym e)

-- two tests one after another
pub filter_both : (t u : Move → Bool) (ms : List Move) → filter t (filter u ms) ≡ filter (λ m. u m && t m) ms
filter_both t u [] = refl
filter_both t u (m ∷ ms) = filter_one t u m ms (filter_both t u ms) (u m) refl

-- The first move after another that passes a test.
pub next_passing : (s : Snapshot) (t : Move → Bool) (last : Move) (call floor : Option ℕ) (ends : Bool)
    → IsLeastBelow (call_count s) (λ j. t (Board j) && comes_before last (Board j)) call
    → (call ≡ None → IsLeastBelow (floor_count s.building) (λ g. t (Leave g) && comes_before last (Leave g)) floor)
    → (call ≡ None → ends ≡ (t End && comes_before last End)) → next_after last (filter t (all_moves s)) ≡ first_choice call floor ends
next_passing s t last call floor ends calls floors e =
    ap first_of (filter_both (comes_before last) t (all_moves s)) ∙ first_passing s (λ m. t m && comes_before last m) call floor ends calls floors e

-- the least member of a set is the least number that passes its test
pub least_in : (n set most : ℕ) (t : ℕ → Bool) (least : Option ℕ) → ((k : ℕ) → has set k ≡ t k) → ((k : ℕ) → t k ≡ true → k < n)
    → MatchOption least ((k : ℕ) → has set k ≡ false) (λ one. (has set one ≡ true) × (one < most))
    → MatchOption least (set ≡ 0) (λ one. (k : ℕ) → k < one → has set k ≡ false) → IsLeastBelow n t least
least_in n set most t None same below member least = λ k lt. sym (same k) ∙ member k
least_in n set most t (Some one) same below member least = (below one (sym (same one) ∙ member.0), sym (same one) ∙ member.0, λ k lt. sym (same k) ∙ least k lt)

pub none_of : (o : Option ℕ) → is_some o ≡ false → o ≡ None
none_of None h = refl
none_of (Some n) h = absurd (both_ways true h refl)

-- nothing comes after the end
pub nothing_after : (ms : List Move) → next_after End ms ≡ None
nothing_after [] = refl
nothing_after (m ∷ ms) = nothing_after ms
