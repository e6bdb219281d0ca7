-- What a loop keeps: a number found that passes a test, and facts of each element of a list.
use Rattle.call_sets.proofs.BelowTests.{any_below-more}
use Rattle.std.specs.Option.{unwrap_or}
use Rattle.std.proofs.Common.{below_more, get_or, length, List, [], ◌∷◌, ◌++◌, cond, ◌⊎◌, inl, inr, ◌≡◌, ℕ, ◌+◌, ◌<◌, Bool, true, false, sym, subst, arith}
use Rattle.std.proofs.Common.{Option, Some, None}
use Rattle.std.proofs.lemmas.Bool.{both_ways}
use Rattle.std.proofs.lemmas.List.{get_or_append_left}
use Rattle.std.proofs.Math.Seq.{get_or-append_seam}
use Rattle.elevator_model.specs.declared.Stop.{Stop}
use Rattle.call_sets.specs.Counting.{any_below}
use Rattle.elevator_model.specs.Snapshot.{Snapshot, call_of, car_count, is_possible}
use Rattle.elevator_model.specs.Plans.{tour_of}
use Rattle.plain_plan.specs.Openings.{IsFound, IsPlainTour}
use Rattle.plain_plan.specs.PlainPlans.{calls_for}

pub found_here : (t : ℕ → Bool) (n : ℕ) → t n ≡ true → IsFound t (n + 1) (Some n)
found_here t n here = (omega arith, here)

pub found_before : (t : ℕ → Bool) (n : ℕ) (o : Option ℕ) → IsFound t n o → t n ≡ false → IsFound t (n + 1) o
found_before t n None found none = any_below-more t n found none
found_before t n (Some k) found none = let lt = found.0 in (omega arith, found.1)

pub found_kept : (t : ℕ → Bool) (n k : ℕ) → IsFound t n (Some k) → IsFound t (n + 1) (Some k)
found_kept t n k found = let lt = found.0 in (omega arith, found.1)

pub found_nearer : (t : ℕ → Bool) (up : Bool) (n : ℕ) (o : Option ℕ) → IsFound t n o → t n ≡ true → IsFound t (n + 1) (Some (cond up (unwrap_or o n) n))
found_nearer t true n None found here = found_here t n here
found_nearer t true n (Some k) found here = found_kept t n k found
found_nearer t false n o found here = found_here t n here

pub found_either : (t : ℕ → Bool) (n k : ℕ) (o : Option ℕ) → IsFound t n o → t n ≡ true → (k ≡ n) ⊎ (o ≡ Some k) → IsFound t (n + 1) (Some k)
found_either t n k o found here either =
    elim either [ inl e ↦ subst (λ (x : ℕ). IsFound t (n + 1) (Some x)) (sym e) (found_here t n here) | inr e ↦ found_kept t n k (subst (IsFound t n) e found) ]

-- what is found where something passes
pub found_none : (t : ℕ → Bool) (n m : ℕ) (o : Option ℕ) → IsFound t n o → o ≡ None → n ≡ m → any_below m t ≡ true → ⊥
found_none t n m o found e same some = both_ways (any_below m t) (subst (λ (k : ℕ). any_below k t ≡ false) same (subst (IsFound t n) e found)) some

-- ---- lists with one element more

pub chosen_more : (s : Snapshot) (cars : List ℕ) (n car : ℕ) → length cars ≡ n
    → ((j : ℕ) → j < n → (get_or cars j 0 < car_count s) × (is_possible s (get_or cars j 0) (call_of s j) ≡ true)) → (car < car_count s)
    × (is_possible s car (call_of s n) ≡ true) → (j : ℕ) → j < n + 1 → (get_or (cars ++ car ∷ []) j 0 < car_count s)
    × (is_possible s (get_or (cars ++ car ∷ []) j 0) (call_of s j) ≡ true)
chosen_more s cars n car counted before here =
    below_more _ _ (λ j lt.
    subst (λ (x : ℕ). (x < car_count s) × (is_possible s x (call_of s j) ≡ true)) (sym (get_or_append_left cars (car ∷ []) 0 j (omega arith)))
    (before j lt)) (subst (λ (x : ℕ). (x < car_count s) × (is_possible s x (call_of s n) ≡ true))
    (sym (subst (λ (k : ℕ). get_or (cars ++ car ∷ []) k 0 ≡ car) counted (get_or-append_seam cars car [] 0))) here)

pub tours_more : (s : Snapshot) (chosen : ℕ → ℕ) (order : List ℕ) (tours : List (List Stop)) (n : ℕ) (tour : List Stop) → length tours ≡ n
    → ((c : ℕ) → c < n → IsPlainTour s c (calls_for chosen c order) (tour_of tours c)) → IsPlainTour s n (calls_for chosen n order) tour → (c : ℕ) → c < n + 1
    → IsPlainTour s c (calls_for chosen c order) (tour_of (tours ++ tour ∷ []) c)
tours_more s chosen order tours n tour counted before here =
    below_more _ _ (λ c lt. subst (IsPlainTour s c (calls_for chosen c order)) (sym (get_or_append_left tours (tour ∷ []) [] c (omega arith))) (before c lt))
    (subst (IsPlainTour s n (calls_for chosen n order))
    (sym (subst (λ (k : ℕ). tour_of (tours ++ tour ∷ []) k ≡ tour) counted (get_or-append_seam tours tour [] []))) here)
