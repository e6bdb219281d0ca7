-- The least times between floors form a travel square.
use Rattle.std.proofs.Common.{◌≡◌, ◌≢◌, ℕ, ◌+◌, ◌*◌, ◌/◌, ◌%◌, ◌<◌, ◌≤◌, List, [], ◌∷◌, ◌++◌, length, slice_index, inl, inr, refl, arith}
use Rattle.std.proofs.lemmas.Nat.{mul-add-lt, same_from_place}
use Rattle.std.proofs.lemmas.List.{length_push, get_or_push, get_or_append_left}
use borrow.Author.Count.{below_more}
use Rattle.std.proofs.lemmas.Bool.{cases_lt}
use Rattle.elevator_model.specs.Travel.{difference, Square, time_between, IsLeastTime, IsTravelOf, IsTravelSquare}
use Rattle.car_motion.specs.Times.{AreTimes}
use Rattle.car_motion.proofs.Covers.{CanCover, CanCover-from, covers-short}
use Rattle.car_motion.proofs.Least.{IsLeastTime-le, IsLeastTime-triangle}

-- the row and the column of a place
place_of : (f g n : ℕ) → g < n → ((f * n + g) / n ≡ f) × ((f * n + g) % n ≡ g)
place_of f g n within = same_from_place ((f * n + g) / n) ((f * n + g) % n) f g n (omega arith) within (omega arith)

pub IsTravelOf-from : (heights : List ℕ) (v a : ℕ) (times : List ℕ) → AreTimes heights v a (length heights * length heights) times
    → IsTravelOf heights v a (record { floors = length heights; times = times })
IsTravelOf-from heights v a times all = record {
  floors = refl;
  size = all.size;
  least = λ f g f_floor g_floor.
      let place = place_of f g (length heights) g_floor in
      rw (place.0, place.1) at (all.least (f * length heights + g) (mul-add-lt f (length heights) g (length heights) f_floor g_floor));
}

-- no time covers nothing else
covers-zero : (v a t d : ℕ) → t ≡ 0 → CanCover v a t d → d ≡ 0
covers-zero v a t d none (inl w) = let nothing : a * t * t ≡ 0 = rw none (omega arith) in omega (arith, w.1, nothing)
covers-zero v a t d none (inr w) = let nothing : a * t ≡ 0 = rw none (omega arith) in absurd (omega (arith, w.0, nothing))

IsLeastTime-zero : (v a d t : ℕ) → d ≡ 0 → IsLeastTime v a d t → t ≡ 0
IsLeastTime-zero v a d t none time =
    let upper : t ≤ 0 = time.least 0 (covers-short v a 0 d (omega arith) (omega (arith, none))) in
    omega (arith, upper)

IsLeastTime-positive : (v a d t : ℕ) → 1 ≤ d → IsLeastTime v a d t → 1 ≤ t
IsLeastTime-positive v a d t some time =
    elim (cases_lt 0 t) [
      | inl positive ↦ positive
      | inr none ↦ let nothing : d ≡ 0 = covers-zero v a t d (omega (arith, none)) (CanCover-from v a t d time.enough) in absurd (omega (arith, some, nothing))
    ]

-- heights that rise, to 1 km at most, and a car's numbers in their ranges
pub record AreRising (heights : List ℕ) : Type 0 where
  pub low : (f : ℕ) → f < length heights → slice_index heights f ≤ 1000000
  pub rising : (f g : ℕ) → f < g → g < length heights → slice_index heights f < slice_index heights g

apart : (heights : List ℕ) (f g : ℕ) → AreRising heights → f < length heights → g < length heights → f ≢ g
    → 1 ≤ difference (slice_index heights f) (slice_index heights g)
apart heights f g rising f_floor g_floor other =
    elim (cases_lt f g) [
      | inl up ↦ omega (arith, rising.rising f g up g_floor)
      | inr down ↦ let below : g < f = omega arith in omega (arith, rising.rising g f below f_floor)
    ]

near : (x y : ℕ) → x ≤ 1000000 → y ≤ 1000000 → difference x y ≤ 1000000
near x y low high = omega arith

no_shorter : (x y z : ℕ) → difference x z ≤ difference x y + difference y z
no_shorter x y z = omega arith

none_apart : (x : ℕ) → difference x x ≡ 0
none_apart x = omega arith

pub IsTravelSquare-from : (heights : List ℕ) (v a : ℕ) (t : Square) → 2 ≤ length heights → length heights ≤ 64 → AreRising heights → 100 ≤ v → v ≤ 20000
    → 100 ≤ a → IsTravelOf heights v a t → IsTravelSquare t
IsTravelSquare-from heights v a t two many rising slow fast gentle of = record {
  floors_low = rw of.floors two;
  floors_high = rw of.floors many;
  size = rw of.floors of.size;
  at_rest = λ f floor.
      let within = rw of.floors at floor in
      IsLeastTime-zero v a _ _ (none_apart (slice_index heights f)) (of.least f f within within);
  positive = λ f g f_floor g_floor other.
      let f_within = rw of.floors at f_floor in
      let g_within = rw of.floors at g_floor in
      IsLeastTime-positive v a _ _ (apart heights f g rising f_within g_within other) (of.least f g f_within g_within);
  bounded = λ f g f_floor g_floor.
      let f_within = rw of.floors at f_floor in
      let g_within = rw of.floors at g_floor in
      let time = of.least f g f_within g_within in
      let distance = near (slice_index heights f) (slice_index heights g) (rising.low f f_within) (rising.low g g_within) in
      let upper : time_between t f g ≤ 10001000 = IsLeastTime-le v a _ (time_between t f g) slow fast gentle distance time in
      omega (arith, upper);
  triangle = λ f g h f_floor g_floor h_floor.
      let f_within = rw of.floors at f_floor in
      let g_within = rw of.floors at g_floor in
      let h_within = rw of.floors at h_floor in
      IsLeastTime-triangle v a _ _ _ _ _ _ (omega arith) (no_shorter (slice_index heights f) (slice_index heights g) (slice_index heights h))
      (of.least f g f_within g_within) (of.least g h g_within h_within) (of.least f h f_within h_within);
}

pub AreTimes-push : (heights : List ℕ) (v a count : ℕ) (times : List ℕ) (time : ℕ) → AreTimes heights v a count times
    → IsLeastTime v a (difference (slice_index heights (count / length heights)) (slice_index heights (count % length heights))) time
    → AreTimes heights v a (count + 1) (times ++ time ∷ [])
AreTimes-push heights v a count times time before next = record {
  size = omega (arith, length_push times time, before.size);
  least = below_more (λ place.
      IsLeastTime v a (difference (slice_index heights (place / length heights)) (slice_index heights (place % length heights)))
      (slice_index (times ++ time ∷ []) place)) count
      (λ place within. let there : place < length times = omega (arith, before.size) in
      rw (get_or_append_left times (time ∷ []) 0 place there) (before.least place within))
      (rw (get_or_push times time 0 count before.size) next);
}
