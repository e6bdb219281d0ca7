-- A list of all tours that an empty partial tour can lead to has each feasible tour.
use Rattle.std.proofs.Common.{◌≡◌, ℕ, zero, suc, ◌+◌, ◌<◌, Bool, cond, ◌&&◌, List, [], ◌∷◌, ◌++◌, map, refl, sym, ap, ◌∙◌, subst, arith, Option, Some, None}
use Rattle.std.specs.List.{filter, flat_map, range_with_len}
use Rattle.std.proofs.lemmas.Bool.{lt-ltb}
use Rattle.elevator_model.specs.declared.Stop.{Stop}
use Rattle.elevator_model.specs.declared.Move.{Move}
use Rattle.elevator_model.specs.declared.Move.TheVariants.{Board, Leave, End}
use Rattle.call_sets.specs.Counting.{is_among}
use Rattle.elevator_model.specs.Snapshot.{Snapshot, call_count}
use Rattle.elevator_model.specs.Tours.{Progress, IsFeasible, start_of, after_stops}
use Rattle.elevator_model.specs.Costs.{cost_of, settled_cost}
use Rattle.elevator_model.specs.Partial.{Course, course_of, rising_boards, moves_of_stop, moves_of}
use Rattle.tour_rules.proofs.Rising.{rising_same}
use Rattle.tour_rules.proofs.Reached.{risen, moves_reach}
use Rattle.partial_tours.specs.PartialTour.{PartialTour}
use Rattle.partial_tours.specs.Listed.{AddsTours, AreAllTours}

filter_same : (t u : ℕ → Bool) (a n : ℕ) → ((j : ℕ) → j < a + n → t j ≡ u j) → filter t (range_with_len a n) ≡ filter u (range_with_len a n)
filter_same t u a zero h = refl
filter_same t u a (suc n) h =
    let later = filter_same t u (a + 1) n (λ j b. h j (omega arith)) in
    ap (λ (b : Bool). cond b (a ∷ filter t (range_with_len (a + 1) n)) (filter t (range_with_len (a + 1) n))) (h a (omega arith))
    ∙ ap (λ (l : List ℕ). cond (u a) (a ∷ l) l) later

risen_twice : (s : Snapshot) (boards : List ℕ) → rising_boards s (rising_boards s boards) ≡ rising_boards s boards
risen_twice s boards = filter_same (λ j. is_among j (rising_boards s boards)) (λ j. is_among j boards) 0 (call_count s) (λ j b. same_at j (omega arith))
  where
    same_at : (j : ℕ) → j < call_count s → is_among j (rising_boards s boards) ≡ is_among j boards
    same_at j below =
        let at_stop = ap (λ (t : ℕ → Bool). t j) (rising_same s 0 boards) in
        sym (ap (λ (b : Bool). b && is_among j (rising_boards s boards)) (lt-ltb j (call_count s) below)) ∙ at_stop
        ∙ ap (λ (b : Bool). b && is_among j boards) (lt-ltb j (call_count s) below)

risen_flat : (s : Snapshot) (tour : List Stop) → flat_map (moves_of_stop s) (map (risen s) tour) ≡ flat_map (moves_of_stop s) tour
risen_flat s [] = refl
risen_flat s (st ∷ tour) =
    ap (λ (boards : List ℕ). (Leave st.floor ∷ map Board boards) ++ flat_map (moves_of_stop s) (map (risen s) tour)) (risen_twice s st.boards)
    ∙ ap (λ (ms : List Move). moves_of_stop s st ++ ms) (risen_flat s tour)

risen_moves : (s : Snapshot) (tour : List Stop) → moves_of s (map (risen s) tour) ≡ moves_of s tour
risen_moves s tour = ap (λ (ms : List Move). ms ++ End ∷ []) (risen_flat s tour)

pub all_tours : (p : PartialTour) (s : Snapshot) (c : ℕ) (none tours : List (List Stop)) → p ≡ record { snapshot = s; car = c; moves = [] } → none ≡ []
    → AddsTours p none tours → AreAllTours s c tours
all_tours p s c none tours same empty added =
    let start : PartialTour = record { snapshot = s; car = c; moves = [] } in
    let adds = subst (λ (q : PartialTour). AddsTours q [] tours) same (subst (λ (old : List (List Stop)). AddsTours p old tours) empty added) in
    record {
      feasible = λ k b. adds.feasible k (omega arith) b;
      complete = λ tour feasible.
          (let found = adds.complete (moves_of s tour) _ (moves_reach s c tour feasible) refl in
          (found.0, found.1, ap (moves_of s) found.2 ∙ risen_moves s tour));
      once = λ j k lt b e. adds.once j k (omega arith) lt b e;
    }

-- ---- what the moves of a feasible tour determine

pub same_end : (s : Snapshot) (c : ℕ) (t u : List Stop) → IsFeasible s c t → IsFeasible s c u → moves_of s t ≡ moves_of s u
    → after_stops s c (start_of s c) t ≡ after_stops s c (start_of s c) u
same_end s c t u first second same =
    ap before_of (sym (moves_reach s c t first) ∙ ap (course_of s c) same ∙ moves_reach s c u second)
  where
    before_of : Option Course → Progress
    before_of None = start_of s c
    before_of (Some x) = x.before

-- Feasible tours with the same moves cost the same.
pub same_cost : (s : Snapshot) (c : ℕ) (t u : List Stop) → IsFeasible s c t → IsFeasible s c u → moves_of s t ≡ moves_of s u → cost_of s c t ≡ cost_of s c u
same_cost s c t u first second same = ap (settled_cost s c) (same_end s c t u first second same)
