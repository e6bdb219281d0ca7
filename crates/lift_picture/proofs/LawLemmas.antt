-- What holds of every picture.
use Rattle.std.proofs.Common.{◌≡◌, ℕ, zero, suc, ◌+◌, ◌-◌, ◌≤◌, ◌<◌, ◌==◌, ◌&&◌, ◌⊎◌, Bool, true, false, cond, List, [], ◌∷◌, length, map, filter, Option, None}
use Rattle.std.proofs.Common.{Some, refl, ap, subst, arith, inl, inr}
use Rattle.std.proofs.lemmas.Bool.{eq-eqb, eqb-true, false_from_ne_true}
use Rattle.call_sets.specs.Counting.{sum_below}
use Rattle.call_sets.proofs.Sums.{sum_below-add, sum_below-same, sum_below-zero}
use Rattle.lift_picture.specs.declared.scenes.Leg.{Leg}
use Rattle.lift_picture.specs.declared.frames.Frame.{Frame}
use Rattle.lift_picture.specs.declared.segments.Segment.{Segment}
use Rattle.lift_picture.specs.Frames.{scaled}
use Rattle.lift_picture.specs.Segments.{is_repeated, is_same, thinned}
use Rattle.lift_picture.specs.Layers.{doors_line, doors_of, is_of}
use Rattle.lift_picture.specs.Laws.{AreOfCars, IsIn, PictureLaws}

-- ---- places

scaled_within : (part whole span : ℕ) → scaled part whole span ≤ span
unfolding scaled
scaled_within part whole span = omega arith

-- ---- what is left out

both : (a b : Bool) → (a && b) ≡ true → (a ≡ true) × (b ≡ true)
both true b h = (refl, h)
both false b h = absurd cc

same_is : (a b : Segment) → is_same a b ≡ true → a ≡ b
same_is a b h =
    let last = both _ (a.y2 == b.y2) h in
    let third = both _ (a.x2 == b.x2) last.0 in
    let first = both (a.x1 == b.x1) (a.y1 == b.y1) third.0 in
    λ i. record { x1 = eqb-true a.x1 b.x1 first.0 i; y1 = eqb-true a.y1 b.y1 first.1 i; x2 = eqb-true a.x2 b.x2 third.1 i; y2 = eqb-true a.y2 b.y2 last.1 i }

-- the last segment that was drawn
abbrev IsLast : Option Segment → Segment → Type 0
IsLast None s = ⊥
IsLast (Some last) s = last ≡ s

repeated_is : (last : Option Segment) (s : Segment) → is_repeated last s ≡ true → IsLast last s
repeated_is None s h = absurd cc
repeated_is (Some last) s h = same_is last s h

drawn_after : (last : Option Segment) (segments : List Segment) (s : Segment) → IsIn segments s → IsIn (thinned last segments) s ⊎ IsLast last s
drawn_after last [] s in_them = absurd in_them
drawn_after last (x ∷ xs) s in_them =
    by_test (is_repeated last x) refl in_them (λ later. drawn_after last xs s later) (λ later. drawn_after (Some x) xs s later)
  where
    by_test : (b : Bool) → is_repeated last x ≡ b → (x ≡ s) ⊎ IsIn xs s → (IsIn xs s → IsIn (thinned last xs) s ⊎ IsLast last s)
        → (IsIn xs s → IsIn (thinned (Some x) xs) s ⊎ (x ≡ s))
        → IsIn (cond {A = List Segment} b (thinned last xs) (x ∷ thinned (Some x) xs)) s ⊎ IsLast last s
    by_test true h (inl here) same fresh = inr (subst (IsLast last) here (repeated_is last x h))
    by_test true h (inr later) same fresh = same later
    by_test false h (inl here) same fresh = inl (inl here)
    by_test false h (inr later) same fresh = elim (fresh later) [ inl drawn ↦ inl (inr drawn) | inr here ↦ inl (inl here) ]

drawn_all : (segments : List Segment) (s : Segment) → IsIn segments s → IsIn (thinned None segments) s
drawn_all segments s in_them = elim (drawn_after None segments s in_them) [ inl drawn ↦ drawn | inr none ↦ absurd none ]

known_all : (last : Option Segment) (segments : List Segment) (s : Segment) → IsIn (thinned last segments) s → IsIn segments s
known_all last [] s drawn = drawn
known_all last (x ∷ xs) s drawn = by_test (is_repeated last x) drawn (λ later. known_all last xs s later) (λ later. known_all (Some x) xs s later)
  where
    by_test : (b : Bool) → IsIn (cond {A = List Segment} b (thinned last xs) (x ∷ thinned (Some x) xs)) s → (IsIn (thinned last xs) s → IsIn xs s)
        → (IsIn (thinned (Some x) xs) s → IsIn xs s) → (x ≡ s) ⊎ IsIn xs s
    by_test true drawn same fresh = inr (same drawn)
    by_test false (inl here) same fresh = inl here
    by_test false (inr later) same fresh = inr (fresh later)

-- ---- each event has one line

-- one car alone is this one
abbrev one_of : (j k : ℕ) → ℕ
one_of j k = cond (j == k) 1 0

other : (j n : ℕ) → j < n → (j == n) ≡ false
other j n below = false_from_ne_true (j == n) (λ same. let e = eqb-true j n same in omega (arith, below, e))

past : (n j : ℕ) → n ≤ j → sum_below n (one_of j) ≡ 0
past zero j above = refl
past (suc n) j above =
    let rest = past n j (omega (arith, above)) in
    let here : one_of j n ≡ 0 =
    ap (λ (b : Bool). cond {A = ℕ} b 1 0) (false_from_ne_true (j == n) (λ same. let e = eqb-true j n same in omega (arith, above, e))) in
    omega (arith, rest, here)

one_below : (n j : ℕ) → j < n → sum_below n (one_of j) ≡ 1
one_below zero j below = absurd (omega (arith, below))
one_below (suc n) j below = by_test (j == n) refl (λ apart. one_below n j (omega (arith, below, apart)))
  where
    by_test : (b : Bool) → (j == n) ≡ b → ((j ≡ n → ⊥) → sum_below n (one_of j) ≡ 1) → sum_below n (one_of j) + cond (j == n) 1 0 ≡ 1
    by_test true h later =
        let e = eqb-true j n h in
        let rest = past n j (omega (arith, e)) in
        let here : one_of j n ≡ 1 = ap (λ (x : Bool). cond {A = ℕ} x 1 0) h in
        omega (arith, rest, here)
    by_test false h later =
        let apart : j ≡ n → ⊥ = λ e. let same = eq-eqb j n e in absurd cc in
        let rest = later apart in
        let here : one_of j n ≡ 0 = ap (λ (x : Bool). cond {A = ℕ} x 1 0) h in
        omega (arith, rest, here)

more_doors : (f : Frame) (leg : Leg) (legs : List Leg) (car : ℕ) → length (doors_of f (leg ∷ legs) car) ≡ one_of leg.car car + length (doors_of f legs car)
more_doors f leg legs car = by_test (is_of car leg)
  where
    by_test : (b : Bool)
        → length (map (doors_line f) (cond {A = List Leg} b (leg ∷ filter (is_of car) legs) (filter (is_of car) legs)))
        ≡ cond b 1 0 + length (map (doors_line f) (filter (is_of car) legs))
    by_test true = omega arith
    by_test false = omega arith

no_doors : (f : Frame) (cars : ℕ) → sum_below cars (λ car. length (doors_of f [] car)) ≡ 0
no_doors f cars = sum_below-zero cars

doors_once : (f : Frame) (legs : List Leg) (cars : ℕ) → AreOfCars cars legs → sum_below cars (λ car. length (doors_of f legs car)) ≡ length legs
doors_once f [] cars of_cars = no_doors f cars
doors_once f (leg ∷ legs) cars of_cars =
    let later = doors_once f legs cars of_cars.1 in
    let one = one_below cars leg.car of_cars.0 in
    let split = sum_below-same cars (λ car. length (doors_of f (leg ∷ legs) car)) (λ car. one_of leg.car car + length (doors_of f legs car))
    (λ car below. more_doors f leg legs car) in
    let added = sum_below-add cars (one_of leg.car) (λ car. length (doors_of f legs car)) in
    omega (arith, later, one, split, added)

-- ---- all of it

pub all_laws : PictureLaws
all_laws = record {
  left = λ f moment. omega arith;
  right = λ f moment. let within = scaled_within (moment - f.first) f.whole f.across in omega (arith, within);
  top = λ f floor. omega arith;
  bottom = λ f floor. omega arith;
  drawn = drawn_all;
  known = known_all None;
  once = doors_once;
}
