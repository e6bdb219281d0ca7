-- A move that is chosen out of the lawful ones is lawful.
use Rattle.std.proofs.Common.{◌≡◌, ℕ, Bool, true, false, cond, List, [], ◌∷◌, ◌++◌, refl, sym, ap, ◌∙◌, Option, Some, None}
use Rattle.std.specs.List.{filter}
use Rattle.std.specs.Option.{is_some, IfSome}
use Rattle.std.proofs.lemmas.Bool.{and_parts}
use Rattle.elevator_model.specs.declared.Move.{Move}
use Rattle.elevator_model.specs.Snapshot.{Snapshot}
use Rattle.elevator_model.specs.Partial.{Course, course_of, move_on, move_on_from, all_moves, lawful_moves, IsLawful}
use Rattle.partial_tours.specs.Courses.{may_be_next}
use Rattle.partial_tours.specs.Orders.{first_of, comes_before, next_after}
use Rattle.partial_tours.proofs.Follow.{course_more}

first_passes : (t : Move → Bool) (ms : List Move) (m : Move) → first_of (filter t ms) ≡ Some m → t m ≡ true
first_passes t [] m h = absurd (cc)
first_passes t (n ∷ ms) m h = by_test (t n) refl (first_passes t ms m) h
  where
    some_same : {a b : Move} → Some a ≡ Some b → a ≡ b
    some_same e = cc

    by_test : (v : Bool) → t n ≡ v → (first_of (filter t ms) ≡ Some m → t m ≡ true) → first_of (cond v (n ∷ filter t ms) (filter t ms)) ≡ Some m → t m ≡ true
    by_test true e later h = ap t (sym (some_same h)) ∙ e
    by_test false e later h = later h

lawful_with : (s : Snapshot) (c : ℕ) (moves : List Move) (x : Course) (allowed : ℕ → Bool) (m : Move) → course_of s c moves ≡ Some x
    → may_be_next s c x allowed m ≡ true → IsLawful s c (moves ++ m ∷ [])
lawful_with s c moves x allowed m at h =
    ap is_some (course_more s c moves m ∙ ap (λ (o : Option Course). move_on_from s c o m) at) ∙ (and_parts _ (is_some (move_on s c x m)) h).1

pub first_lawful : (s : Snapshot) (c : ℕ) (moves : List Move) (x : Course) (allowed : ℕ → Bool) (o : Option Move) → course_of s c moves ≡ Some x
    → o ≡ first_of (lawful_moves s c x allowed) → IfSome o (λ m. IsLawful s c (moves ++ m ∷ []))
first_lawful s c moves x allowed None at h = tt
first_lawful s c moves x allowed (Some m) at h = lawful_with s c moves x allowed m at (first_passes (may_be_next s c x allowed) (all_moves s) m (sym h))

filter_twice : (t u : Move → Bool) (ms : List Move) (m : Move) → first_of (filter u (filter t ms)) ≡ Some m → t m ≡ true
filter_twice t u [] m h = absurd (cc)
filter_twice t u (n ∷ ms) m h = by_test (t n) refl (u n) (filter_twice t u ms m) h
  where
    some_same : {a b : Move} → Some a ≡ Some b → a ≡ b
    some_same e = cc

    taken : (v : Bool) → t n ≡ true → (first_of (filter u (filter t ms)) ≡ Some m → t m ≡ true)
        → first_of (cond v (n ∷ filter u (filter t ms)) (filter u (filter t ms))) ≡ Some m → t m ≡ true
    taken true e later h = ap t (sym (some_same h)) ∙ e
    taken false e later h = later h

    by_test : (v : Bool) → t n ≡ v → (w : Bool) → (first_of (filter u (filter t ms)) ≡ Some m → t m ≡ true)
        → first_of (filter u (cond v (n ∷ filter t ms) (filter t ms))) ≡ Some m → t m ≡ true
    by_test true e w later h = taken (u n) e later h
    by_test false e w later h = later h

pub next_lawful : (s : Snapshot) (c : ℕ) (moves : List Move) (x : Course) (allowed : ℕ → Bool) (last : Move) (o : Option Move) → course_of s c moves ≡ Some x
    → o ≡ next_after last (lawful_moves s c x allowed) → IfSome o (λ m. IsLawful s c (moves ++ m ∷ []))
next_lawful s c moves x allowed last None at h = tt
next_lawful s c moves x allowed last (Some m) at h =
    lawful_with s c moves x allowed m at (filter_twice (may_be_next s c x allowed) (comes_before last) (all_moves s) m (sym h))
