-- The first fault of a list of items: item by item, and where there is none.
use Rattle.std.proofs.Common.{◌≡◌, ℕ, zero, suc, ◌+◌, ◌<◌, Bool, true, false, List, [], ◌∷◌, ◌++◌, length, get_or, take, drop, Option, Some, None, sym, ◌∙◌, ap}
use Rattle.std.proofs.Common.{refl, arith, append_assoc, add-one, drop-cons}
use Rattle.std.proofs.lemmas.List.{take_more, append-nil, drop_all}
use Rattle.elevator_model.specs.declared.Fault.{Fault}
use Rattle.elevator_model.specs.Faults.{Placed, fault_or, first_found, first_in, first_of_tests}

-- no test of a list finds its fault where none is first
pub first_of_tests-none : (b : Bool) (fault : Fault) (ts : List (Bool × Fault)) → first_of_tests ((b, fault) ∷ ts) ≡ None → (b ≡ false)
    × (first_of_tests ts ≡ None)
first_of_tests-none false fault ts none = (refl, none)
first_of_tests-none true fault ts none = cc

pub first_of_tests-clear : (b : Bool) (fault : Fault) (ts : List (Bool × Fault)) → b ≡ false → first_of_tests ts ≡ None
    → first_of_tests ((b, fault) ∷ ts) ≡ None
first_of_tests-clear b fault ts fails none = rw (fails, none)

pub fault_or-none : (o : Option Fault) (k : ℕ) (later : Option Placed) → fault_or o k later ≡ None → (o ≡ None) × (later ≡ None)
fault_or-none None k later none = (refl, none)
fault_or-none (Some fault) k later none = cc

pub first_found-none : (o later : Option Placed) → first_found o later ≡ None → (o ≡ None) × (later ≡ None)
first_found-none None later none = (refl, none)
first_found-none (Some found) later none = cc

module _ {X : Type 0} (fault : List X → X → Option Fault) where
  -- the items from place i on: the one there, and then the others
  pub first_in-at : (xs : List X) (i k : ℕ) (d : X) → i < length xs
      → first_in fault (take i xs) (drop i xs) k ≡ fault_or (fault (take i xs) (get_or xs i d)) k (first_in fault (take (i + 1) xs) (drop (i + 1) xs) (k + 1))
  first_in-at xs i k d within =
      let cut : drop i xs ≡ get_or xs i d ∷ drop (i + 1) xs = rw add-one (drop-cons xs i d within) in
      ap (λ rest. first_in fault (take i xs) rest k) cut
      ∙ ap (λ before. fault_or (fault (take i xs) (get_or xs i d)) k (first_in fault before (drop (i + 1) xs) (k + 1))) (sym (take_more xs i d within))

  pub first_in-end : (xs : List X) (i k : ℕ) → i ≡ length xs → first_in fault (take i xs) (drop i xs) k ≡ None
  first_in-end xs i k end = ap (λ rest. first_in fault (take i xs) rest k) (drop_all i xs (omega arith))

  -- where no fault is found, no item has one
  pub first_in-none : (before xs : List X) (k i : ℕ) (d : X) → first_in fault before xs k ≡ None → i < length xs
      → fault (before ++ take i xs) (get_or xs i d) ≡ None
  first_in-none before [] k i d none within = absurd (omega arith)
  first_in-none before (x ∷ xs) k zero d none within = rw append-nil ((fault_or-none (fault before x) k (first_in fault (before ++ x ∷ []) xs (k + 1)) none).0)
  first_in-none before (x ∷ xs) k (suc i) d none within =
      rw (← append_assoc before (x ∷ []) (take i xs))
      (first_in-none (before ++ x ∷ []) xs (k + 1) i d ((fault_or-none (fault before x) k (first_in fault (before ++ x ∷ []) xs (k + 1)) none).1)
      (omega arith))

  pub first_in-clear : (before xs : List X) (k : ℕ) (d : X) → ((i : ℕ) → i < length xs → fault (before ++ take i xs) (get_or xs i d) ≡ None)
      → first_in fault before xs k ≡ None
  first_in-clear before [] k d clear = refl
  first_in-clear before (x ∷ xs) k d clear =
      let here : fault before x ≡ None = rw append-nil at (clear 0 (omega arith)) in
      let later = first_in-clear (before ++ x ∷ []) xs (k + 1) d (λ i within. rw (append_assoc before (x ∷ []) (take i xs)) (clear (suc i) (omega arith))) in
      rw (here, later)
