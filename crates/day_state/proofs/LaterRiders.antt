-- Who is in the world at a later moment: the calls that wait, and the seats of those aboard.
use Rattle.std.proofs.Common.{◌≡◌, ℕ, zero, suc, ◌+◌, ◌-◌, ◌<◌, ◌≤◌, Bool, true, false, cond, ◌&&◌, eqb, ltb, leb, List, [], ◌∷◌, ◌++◌, map, length, get_or}
use Rattle.std.proofs.Common.{All, refl, sym, ap, ◌∙◌, subst, inl, inr, arith}
use Rattle.std.proofs.lemmas.List.Elements.{All-nil, All-cons, All-append, All-map, All-get_or}
use Rattle.std.proofs.lemmas.List.Concat.{flat_map-cons}
use Rattle.std.proofs.lemmas.Simd.{map-map}
use Rattle.std.proofs.lemmas.List.{length-map}
use Rattle.std.specs.List.{filter, range_with_len, flat_map}
use Rattle.std.proofs.lemmas.Bool.{and_parts, or_cases, or_left, or_right, false≢true, ltb-true, eqb-true, eq-eqb, both_ways, not-true, false_from_ne_true}
use Rattle.std.proofs.lemmas.List.{map-append, get_or-map, get_or_append_left, get_or-append-add}
use Rattle.elevator_model.specs.declared.Aboard.{Aboard}
use Rattle.call_sets.specs.Counting.{any_below, is_among}
use Rattle.elevator_model.specs.Snapshot.{Snapshot, IsAccepted, car_count, call_count, call_of, group_of, no_call, no_group}
use Rattle.elevator_model.specs.Tours.{rider_count, destination_of, persons_of, is_aboard, start_of}
use Rattle.elevator_model.specs.Plans.{IsFeasiblePlan}
use Rattle.search_model.specs.Advancing.{World, advanced, done_by, progress_at, id_of_rider, riders_at_start, riders_after_all, rides_on, group_from}
use Rattle.search_model.specs.Advancing.{new_groups, for_cars, is_waiting}
use Rattle.call_sets.proofs.BelowTests.{any_below-false}
use Rattle.tour_rules.proofs.Rising.{among_chosen}
use Rattle.tour_rules.proofs.RiderSums.{is_call, is_no_call, group_index, destination_of-group, persons_of-group, is_aboard-call}
use Rattle.day_state.proofs.Boarding.{planned, one-car}
use Rattle.day_state.proofs.ListedRiders.{AreListed, listed-start, listed-after, among-filter}
use Rattle.day_state.proofs.Numbering.{passing}

-- a rider aboard a car, as a group of the later snapshot
pub record Seat : Type 0 where
  pub car : ℕ
  pub rider : ℕ
  pub group : Aboard

abbrev pub no_seat : Seat
no_seat = record { car = 0; rider = 0; group = no_group }

abbrev pub staying_seat : Snapshot → ℕ → Seat
staying_seat s k = record { car = (group_of s k).car; rider = call_count s + k; group = group_of s k }

abbrev pub new_seat : World → (t c : ℕ) → ℕ → Seat
new_seat w t c r = record { car = c; rider = r; group = group_from w.snapshot c (progress_at w t c) r }

-- the calls that boarded the car and ride on
abbrev pub new_riders : World → (t c : ℕ) → List ℕ
new_riders w t c = filter (λ r. ltb r (call_count w.snapshot)) (riders_after_all w.snapshot (riders_at_start w.snapshot c) (done_by w t c))

abbrev pub staying_groups : World → (t : ℕ) → List ℕ
staying_groups w t = passing (rides_on w t) (length w.snapshot.aboard)

abbrev pub new_seats : World → (t : ℕ) → List Seat
new_seats w t = for_cars w.snapshot (λ c. map (new_seat w t c) (new_riders w t c))

abbrev pub seats : World → (t : ℕ) → List Seat
seats w t = map (staying_seat w.snapshot) (staying_groups w t) ++ new_seats w t

abbrev pub waiting : World → (t : ℕ) → List ℕ
waiting w t = passing (is_waiting w t) (call_count w.snapshot)

-- the riders of the later snapshot, by their numbers in the earlier one
abbrev pub old_riders : World → (t : ℕ) → List ℕ
old_riders w t = waiting w t ++ map (λ (x : Seat). x.rider) (seats w t)

abbrev pub old_of : World → (t : ℕ) → ℕ → ℕ
old_of w t r = get_or (old_riders w t) r 0

-- ---- lists

pub map-ranges : {X Y : Type 0} (g : X → Y) (f : ℕ → List X) (a n : ℕ)
    → map g (flat_map f (range_with_len a n)) ≡ flat_map (λ c. map g (f c)) (range_with_len a n)
map-ranges g f a zero = refl
map-ranges {X} {Y} g f a (suc n) =
    ap (map g) (flat_map-cons f a (range_with_len (a + 1) n)) ∙ map-append g (f a) (flat_map f (range_with_len (a + 1) n))
    ∙ ap (λ (ys : List Y). map g (f a) ++ ys) (map-ranges g f (a + 1) n) ∙ sym (flat_map-cons (λ c. map g (f c)) a (range_with_len (a + 1) n))

pub all-ranges : {X : Type 0} (P : X → Type 0) (f : ℕ → List X) (a n : ℕ) → ((c : ℕ) → a ≤ c → c < a + n → All P (f c))
    → All P (flat_map f (range_with_len a n))
all-ranges P f a zero each = All-nil P
all-ranges {X} P f a (suc n) each =
    subst (All P) (sym (flat_map-cons f a (range_with_len (a + 1) n)))
    (All-append P (f a) (flat_map f (range_with_len (a + 1) n)) (each a (omega arith) (omega arith))
    (all-ranges P f (a + 1) n (λ c low high. each c (omega arith) (omega arith))))

pub all-among : (P : ℕ → Type 0) (xs : List ℕ) → ((r : ℕ) → is_among r xs ≡ true → P r) → All P xs
all-among P [] each = All-nil P
all-among P (x ∷ xs) each =
    All-cons P x xs (each x (or_left (eqb x x) (is_among x xs) (eq-eqb x x refl))) (all-among P xs (λ r h. each r (or_right (eqb x r) (is_among r xs) h)))

-- ---- the later snapshot's lists

pub later-calls : (w : World) (t : ℕ) → call_count (advanced w t).snapshot ≡ length (waiting w t)
later-calls w t = length-map (waiting w t) (call_of w.snapshot)

pub later-aboard : (w : World) (t : ℕ) → (advanced w t).snapshot.aboard ≡ map (λ (x : Seat). x.group) (seats w t)
later-aboard w t =
    sym (map-append (λ (x : Seat). x.group) (map (staying_seat w.snapshot) (staying_groups w t)) (new_seats w t)
    ∙ ap (λ (xs : List Aboard). xs ++ map (λ (x : Seat). x.group) (new_seats w t))
    (map-map (λ (x : Seat). x.group) (staying_seat w.snapshot) (staying_groups w t))
    ∙ ap (λ (xs : List Aboard). map (group_of w.snapshot) (staying_groups w t) ++ xs)
    (map-ranges (λ (x : Seat). x.group) (λ c. map (new_seat w t c) (new_riders w t c)) 0 (car_count w.snapshot) ∙ ranges-same 0 (car_count w.snapshot)))
  where
    ranges-same : (a n : ℕ)
        → flat_map (λ c. map (λ (x : Seat). x.group) (map (new_seat w t c) (new_riders w t c))) (range_with_len a n)
        ≡ flat_map (new_groups w t) (range_with_len a n)
    ranges-same a zero = refl
    ranges-same a (suc n) =
        flat_map-cons (λ c. map (λ (x : Seat). x.group) (map (new_seat w t c) (new_riders w t c))) a (range_with_len (a + 1) n)
        ∙ ap (λ (xs : List Aboard). xs ++ flat_map (λ c. map (λ (x : Seat). x.group) (map (new_seat w t c) (new_riders w t c))) (range_with_len (a + 1) n))
        (map-map (λ (x : Seat). x.group) (new_seat w t a) (new_riders w t a)) ∙ ap (λ (xs : List Aboard). new_groups w t a ++ xs) (ranges-same (a + 1) n)
        ∙ sym (flat_map-cons (new_groups w t) a (range_with_len (a + 1) n))

pub later-groups : (w : World) (t : ℕ) → length (advanced w t).snapshot.aboard ≡ length (seats w t)
later-groups w t = ap length (later-aboard w t) ∙ length-map (seats w t) (λ (x : Seat). x.group)

pub later-call : (w : World) (t j : ℕ) → j < length (waiting w t) → call_of (advanced w t).snapshot j ≡ call_of w.snapshot (get_or (waiting w t) j 0)
later-call w t j below = get_or-map (call_of w.snapshot) (waiting w t) j 0 no_call below

pub later-group : (w : World) (t k : ℕ) → k < length (seats w t) → group_of (advanced w t).snapshot k ≡ (get_or (seats w t) k no_seat).group
later-group w t k below = ap (λ (xs : List Aboard). get_or xs k no_group) (later-aboard w t)
    ∙ get_or-map (λ (x : Seat). x.group) (seats w t) k no_seat no_group below

pub old-call : (w : World) (t j : ℕ) → j < length (waiting w t) → old_of w t j ≡ get_or (waiting w t) j 0
old-call w t j below = get_or_append_left (waiting w t) (map (λ (x : Seat). x.rider) (seats w t)) 0 j below

pub old-group : (w : World) (t k : ℕ) → k < length (seats w t) → old_of w t (length (waiting w t) + k) ≡ (get_or (seats w t) k no_seat).rider
old-group w t k below = get_or-append-add (waiting w t) (map (λ (x : Seat). x.rider) (seats w t)) k 0
    ∙ get_or-map (λ (x : Seat). x.rider) (seats w t) k no_seat 0 below

-- ---- what a seat is

pub record IsSeat (w : World) (t : ℕ) (x : Seat) : Type 0 where
  pub car : x.car < car_count w.snapshot
  pub rider : x.rider < rider_count w.snapshot
  pub carried : (progress_at w t x.car).carried x.rider ≡ true
  pub group_car : x.group.car ≡ x.car
  pub destination : x.group.destination ≡ destination_of w.snapshot x.rider
  pub persons : x.group.persons ≡ persons_of w.snapshot x.rider
  pub id : x.group.id ≡ id_of_rider w.snapshot x.rider
  pub boarded : x.group.boarded ≡ (progress_at w t x.car).boarded_at x.rider

-- those aboard a car at the moment, as its list and its progress have them
pub listed : (w : World) (t c : ℕ) → IsFeasiblePlan w.snapshot w.plan → c < car_count w.snapshot
    → AreListed w.snapshot c (progress_at w t c) (riders_after_all w.snapshot (riders_at_start w.snapshot c) (done_by w t c))
listed w t c f below = listed-after w.snapshot c (start_of w.snapshot c) (riders_at_start w.snapshot c) (done_by w t c) (planned w t c f below).done
    (listed-start w.snapshot c)

id-of-group : (s : Snapshot) (k : ℕ) → id_of_rider s (call_count s + k) ≡ (group_of s k).id
id-of-group s k = at_group (ltb (call_count s + k) (call_count s)) (is_no_call s k) ∙ ap (λ (i : ℕ). (group_of s i).id) (group_index s k)
  where
    at_group : (b : Bool) → b ≡ false
        → cond b (call_of s (call_count s + k)).id (group_of s (call_count s + k - call_count s)).id ≡ (group_of s (call_count s + k - call_count s)).id
    at_group false e = refl
    at_group true e = absurd (false≢true (sym e))

staying-is-seat : (w : World) (t k : ℕ) → IsAccepted w.snapshot → IsFeasiblePlan w.snapshot w.plan → is_among k (staying_groups w t) ≡ true
    → IsSeat w t (staying_seat w.snapshot k)
staying-is-seat w t k a f among =
    let s = w.snapshot in
    let found = among_chosen (rides_on w t) 0 (length s.aboard) k among in
    let below : k < length s.aboard = (let b = found.1 in omega arith) in
    let there = (a.groups k below).car in
    record {
      car = there;
      rider = omega arith;
      carried = found.2;
      group_car = refl;
      destination = sym (destination_of-group s k);
      persons = sym (persons_of-group s k);
      id = sym (id-of-group s k);
      boarded = sym ((listed w t (group_of s k).car f there).kept.groups k);
    }

at-call : {X : Type 0} (s : Snapshot) (r : ℕ) (x y : X) → r < call_count s → x ≡ cond (ltb r (call_count s)) x y
at-call {X} s r x y below = ap (λ (b : Bool). cond b x y) (sym (is_call s r below))

new-is-seat : (w : World) (t c r : ℕ) → IsFeasiblePlan w.snapshot w.plan → c < car_count w.snapshot → is_among r (new_riders w t c) ≡ true
    → IsSeat w t (new_seat w t c r)
new-is-seat w t c r f below among =
    let s = w.snapshot in
    let riders = riders_after_all s (riders_at_start s c) (done_by w t c) in
    let parts = and_parts (is_among r riders) (ltb r (call_count s)) (sym (among-filter (λ x. ltb x (call_count s)) riders r) ∙ among) in
    let low = ltb-true r (call_count s) parts.1 in
    record {
      car = below;
      rider = omega arith;
      carried = sym ((listed w t c f below).lists.among r) ∙ parts.0;
      group_car = refl;
      destination = refl;
      persons = refl;
      id = at-call s r (call_of s r).id _ low;
      boarded = refl;
    }

pub all-seats : (w : World) (t : ℕ) → IsAccepted w.snapshot → IsFeasiblePlan w.snapshot w.plan → All (IsSeat w t) (seats w t)
all-seats w t a f =
    All-append (IsSeat w t) (map (staying_seat w.snapshot) (staying_groups w t)) (new_seats w t)
    (All-map (IsSeat w t) (staying_seat w.snapshot) (staying_groups w t)
    (all-among (λ k. IsSeat w t (staying_seat w.snapshot k)) (staying_groups w t) (λ k h. staying-is-seat w t k a f h)))
    (all-ranges (IsSeat w t) (λ c. map (new_seat w t c) (new_riders w t c)) 0 (car_count w.snapshot)
    (λ c low high. All-map (IsSeat w t) (new_seat w t c) (new_riders w t c)
    (all-among (λ r. IsSeat w t (new_seat w t c r)) (new_riders w t c) (λ r h. new-is-seat w t c r f (omega arith) h))))

pub seat-at : (w : World) (t k : ℕ) → IsAccepted w.snapshot → IsFeasiblePlan w.snapshot w.plan → k < length (seats w t)
    → IsSeat w t (get_or (seats w t) k no_seat)
seat-at w t k a f below = All-get_or (IsSeat w t) (seats w t) k no_seat below (all-seats w t a f)

-- whom a car carries is carried by no other one
pub one-carries : (w : World) (t c d r : ℕ) → IsFeasiblePlan w.snapshot w.plan → c < car_count w.snapshot → d < car_count w.snapshot
    → (progress_at w t c).carried r ≡ true → (progress_at w t d).carried r ≡ true → c ≡ d
one-carries w t c d r f bc bd on_c on_d =
    let s = w.snapshot in
    let kc = (listed w t c f bc).kept in
    let kd = (listed w t d f bd).kept in
    elim (or_cases ((progress_at w t c).boarded r) (is_aboard s c r) (kc.carried r on_c)) [
      | inl e ↦ elim (or_cases ((progress_at w t d).boarded r) (is_aboard s d r) (kd.carried r on_d)) [
        | inl g ↦ one-car w t c d r f bc bd e g
        | inr g ↦ absurd (both_ways (is_aboard s d r) (is_aboard-call s d r (kc.calls r e)) g)
      ]
      | inr e ↦ elim (or_cases ((progress_at w t d).boarded r) (is_aboard s d r) (kd.carried r on_d)) [
        | inl g ↦ absurd (both_ways (is_aboard s c r) (is_aboard-call s c r (kd.calls r g)) e)
        | inr g ↦ sym (eqb-true (group_of s (r - call_count s)).car c
            (and_parts (leb (call_count s) r && ltb r (rider_count s)) (eqb (group_of s (r - call_count s)).car c) e).1)
            ∙ eqb-true (group_of s (r - call_count s)).car d
            (and_parts (leb (call_count s) r && ltb r (rider_count s)) (eqb (group_of s (r - call_count s)).car d) g).1
      ]
    ]

-- a call that waits is carried by no car
pub waiting-off : (w : World) (t c j : ℕ) → IsFeasiblePlan w.snapshot w.plan → c < car_count w.snapshot → j < call_count w.snapshot → is_waiting w t j ≡ true
    → (progress_at w t c).carried j ≡ false
waiting-off w t c j f below low waits =
    let s = w.snapshot in
    let none = any_below-false (car_count s) (λ d. (progress_at w t d).boarded j) c
    (not-true (any_below (car_count s) (λ d. (progress_at w t d).boarded j)) waits) below in
    false_from_ne_true ((progress_at w t c).carried j)
    (λ h. elim (or_cases ((progress_at w t c).boarded j) (is_aboard s c j) ((listed w t c f below).kept.carried j h)) [
      | inl e ↦ both_ways ((progress_at w t c).boarded j) none e
      | inr e ↦ both_ways (is_aboard s c j) (is_aboard-call s c j low) e
    ])
