-- The moves of a walk, and what it keeps.
use Rattle.std.proofs.Common.{◌≡◌, ℕ, Bool, true, false, cond, ◌&&◌, List, [], ◌∷◌, ◌++◌, filter, refl, sym, ap, ◌∙◌, subst, Some}
use Rattle.std.specs.Prelude.{is_some}
use Rattle.std.proofs.lemmas.Bool.{and_parts}
use Rattle.elevator_model.specs.declared.Move.{Move}
use Rattle.elevator_model.specs.Snapshot.{Snapshot}
use Rattle.elevator_model.specs.Partial.{Course, course_of, move_on, all_moves, boards_allowed, lawful_moves, IsLawful}
use Rattle.partial_tours.specs.Orders.{comes_before, first_of, next_after}
use Rattle.partial_tours.specs.PartialTour.{PartialTour, course, with_move}
use Rattle.partial_tours.proofs.Follow.{is_some_has}
use Rattle.pricing_bound.specs.declared.straight.Sums.{Sums}
use Rattle.pricing_bound.specs.Aims.{Aim, IsNextMove}
use Rattle.pricing_bound.specs.LowerLemmas.{allowed_both}
use Rattle.pricing_bound.specs.Running.{StandFor}
use Rattle.library_tests.specs.Walks.{IsKept}

-- the first that passes passes
first_passes : (p : Move → Bool) (ms : List Move) (m : Move) → first_of (filter p ms) ≡ Some m → p m ≡ true
first_passes p [] m h = absurd (cc)
first_passes p (n ∷ ms) m h = by_test (p n) refl (λ k. first_passes p ms m k) h
  where
    by_test : (b : Bool) → p n ≡ b → (first_of (filter p ms) ≡ Some m → p m ≡ true) → first_of (cond b (n ∷ filter p ms) (filter p ms)) ≡ Some m → p m ≡ true
    by_test true e rest k = let same : n ≡ m = cc in sym (ap p same) ∙ e
    by_test false e rest k = rest k

second_passes : (q p : Move → Bool) (ms : List Move) (m : Move) → first_of (filter q (filter p ms)) ≡ Some m → p m ≡ true
second_passes q p [] m h = absurd (cc)
second_passes q p (n ∷ ms) m h = by_test (p n) refl (λ k. second_passes q p ms m k) h
  where
    by_both : (b : Bool) → p n ≡ true → (first_of (filter q (filter p ms)) ≡ Some m → p m ≡ true)
        → first_of (cond b (n ∷ filter q (filter p ms)) (filter q (filter p ms))) ≡ Some m → p m ≡ true
    by_both true e rest k = let same : n ≡ m = cc in sym (ap p same) ∙ e
    by_both false e rest k = rest k

    by_test : (b : Bool) → p n ≡ b → (first_of (filter q (filter p ms)) ≡ Some m → p m ≡ true)
        → first_of (filter q (cond b (n ∷ filter p ms) (filter p ms))) ≡ Some m → p m ≡ true
    by_test true e rest k = by_both (q n) e rest k
    by_test false e rest k = rest k

pub first_allowed : (s : Snapshot) (c : ℕ) (x : Course) (allowed : ℕ → Bool) (m : Move) → first_of (lawful_moves s c x allowed) ≡ Some m
    → boards_allowed allowed m ≡ true
first_allowed s c x allowed m h =
    (and_parts (boards_allowed allowed m) (is_some (move_on s c x m))
    (first_passes (λ n. boards_allowed allowed n && is_some (move_on s c x n)) (all_moves s) m h)).0

pub next_allowed : (s : Snapshot) (c : ℕ) (x : Course) (allowed : ℕ → Bool) (last m : Move) → next_after last (lawful_moves s c x allowed) ≡ Some m
    → boards_allowed allowed m ≡ true
next_allowed s c x allowed last m h =
    (and_parts (boards_allowed allowed m) (is_some (move_on s c x m))
    (second_passes (comes_before last) (λ n. boards_allowed allowed n && is_some (move_on s c x n)) (all_moves s) m h)).0

pub walk_step : (a : Aim) (t : PartialTour) (sums : Sums) (step : Move) → IsKept a t sums → boards_allowed a.allowed step ≡ true
    → IsLawful t.snapshot t.car (t.moves ++ step ∷ []) → IsNextMove a (StandFor a sums) t step
walk_step a t sums step h may lawful =
    record { before = h.at; leads = h.leads; stands_before = h.stands; lawful = lawful; may = allowed_both a.allowed t.moves (step ∷ []) h.may (may, tt) }

pub walk_kept : (a : Aim) (t t' : PartialTour) (sums new : Sums) (step : Move) → IsKept a t sums → t' ≡ with_move t step → boards_allowed a.allowed step ≡ true
    → IsLawful t.snapshot t.car (t.moves ++ step ∷ []) → ((y : Course) → course (with_move t step) ≡ Some y → StandFor a new y) → IsKept a t' new
walk_kept a t t' sums new step h is may lawful stands =
    let led = is_some_has (course_of t.snapshot t.car (t.moves ++ step ∷ [])) lawful in
    let stand = stands led.0 led.1 in
    subst (λ (z : PartialTour). IsKept a z new) (sym is)
    (record {
      for_it = record { snapshot = h.for_it.snapshot; car = h.for_it.car };
      at = led.0;
      leads = led.1;
      stands = stand;
      may =
          allowed_both a.allowed t.moves (step ∷ []) h.may (may, tt);
    })
