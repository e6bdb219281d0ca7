-- The plain tour of a car: it lets off those aboard, and then serves its calls one after another.
use Rattle.std.specs.Prelude.{◌≡◌, ℕ, ◌<◌, ◌==◌, List, [], ◌∷◌, true, false, if◌then◌else◌, Option, Some, None}
use Rattle.elevator_model.specs.declared.Stop.{Stop}
use Rattle.call_sets.specs.Counting.{is_among}
use Rattle.elevator_model.specs.Snapshot.{Snapshot, call_count, call_of, is_possible}
use Rattle.elevator_model.specs.Tours.{is_later_in_queue}

abbrev pub at : ℕ → List ℕ → Stop
at g boards = record { floor = g; boards = boards }

-- The car stops at the pending floor before the stop at floor g, unless it is the same floor.
abbrev pub after_pending : (pending : Option ℕ) → (g : ℕ) → List Stop → List Stop
after_pending None g stops = stops
after_pending (Some f) g stops = if f == g then stops else at f [] ∷ stops

abbrev pub pending_stop : Option ℕ → List Stop
pending_stop None = []
pending_stop (Some f) = at f [] ∷ []

-- The calls one after another. The pending floor is where the car stops next, since all that it carries
-- get off there.
abbrev pub served : Snapshot → (pending : Option ℕ) → List ℕ → List Stop
served s pending [] = pending_stop pending
served s pending (j ∷ js) =
    after_pending pending (call_of s j).origin (at (call_of s j).origin (j ∷ []) ∷ served s (Some (call_of s j).destination) js)

-- First the floors where the car has to stop, then the calls.
abbrev pub opened : Snapshot → (pending : Option ℕ) → (floors calls : List ℕ) → List Stop
opened s pending [] js = served s pending js
opened s pending (g ∷ gs) js = after_pending pending g (opened s (Some g) gs js)

-- A car may serve these calls in this order: each is an open call for which it is possible, none comes
-- twice, and none comes after a later one of its queue.
abbrev pub AreServable : Snapshot → ℕ → List ℕ → Type 0
AreServable s c [] = Unit {0}
AreServable s c (j ∷ js) =
    (j < call_count s) × (is_possible s c (call_of s j) ≡ true) × ((i : ℕ) → is_among i js ≡ true → j ≡ i → ⊥)
    × ((i : ℕ) → is_among i js ≡ true → is_later_in_queue (call_of s j) (call_of s i) ≡ false) × AreServable s c js
