-- Each car of an accepted snapshot has floors at which to open its tour.
use Rattle.std.proofs.Common.{◌≡◌, ℕ, zero, suc, ◌+◌, ◌-◌, ◌<◌, ◌≤◌, Bool, true, false, cond, ◌&&◌, ◌||◌, eqb, ltb, leb, List, [], ◌∷◌, length, refl, sym, ap}
use Rattle.std.proofs.Common.{◌∙◌, subst, inl, inr, arith}
use Rattle.std.proofs.lemmas.Bool.{or_left, or_right, or_cases, and_parts, and_from, and_left, and_right, false≢true, false_from_ne_true, both_ways, eqb-true}
use Rattle.std.proofs.lemmas.Bool.{eqb-false, eq-eqb, cases_Bool, cases_order, not_from_true, leb-true, le-leb, ltb-true, lt-ltb}
use Rattle.elevator_model.specs.declared.CarState.{CarState}
use Rattle.elevator_model.specs.declared.CarState.TheVariants.{Idle, Coming, Moving}
use Rattle.elevator_model.specs.Building.{floor_count}
use Rattle.call_sets.specs.Counting.{any_below, is_among}
use Rattle.elevator_model.specs.Snapshot.{Snapshot, IsAccepted, IsTimely, AreOnOneSide, call_count, call_of, car_count, group_of, spec_of, state_of, floor_of}
use Rattle.elevator_model.specs.Snapshot.{is_idle, is_coming, is_open, may_stop_first, persons_aboard, serves}
use Rattle.elevator_model.specs.Tours.{destination_of, gets_off, has_leg, is_aboard, persons_of, persons_where, rider_count, start_of, turns_with}
use Rattle.call_sets.proofs.BelowTests.{any_below-at, any_below-true}
use Rattle.call_sets.proofs.Sums.{sum_below-same, sum_below-split, sum_below-zero}
use Rattle.tour_rules.proofs.Riders.{at_group}
use Rattle.tour_rules.proofs.Rising.{among_chosen, chosen_has}
use Rattle.plain_plan.specs.Openings.{IsWay, Opens, IsOpening, is_destination, falling, rising, or_else, floors_above, floors_aboard, lowest, opening_of}
use Rattle.plain_plan.proofs.StopClear.{no_turn, no_turn-all}
use Rattle.plain_plan.proofs.Serving.{idle_may, ahead_of, nobody_goes}

-- ---- lists of floors

pub among_falling : (t : ℕ → Bool) (n h : ℕ) → is_among h (falling t n) ≡ true → (h < n) × (t h ≡ true)
among_falling t zero h e = absurd (false≢true e)
among_falling t (suc n) h e = cases (t n) refl (among_falling t n h) e
  where
    cases : (b : Bool) → t n ≡ b → (is_among h (falling t n) ≡ true → (h < n) × (t h ≡ true)) → is_among h (cond b (n ∷ falling t n) (falling t n)) ≡ true
        → (h < suc n) × (t h ≡ true)
    cases false same later e = let r = later e in let lt = r.0 in (omega arith, r.1)
    cases true same later e =
        elim (or_cases (eqb n h) (is_among h (falling t n)) e) [
          | inl k ↦ (let at_n = eqb-true n h k in (omega arith, subst (λ (x : ℕ). t x ≡ true) at_n same))
          | inr k ↦ (let r = later k in let lt = r.0 in (omega arith, r.1))
        ]

pub falling_has : (t : ℕ → Bool) (n h : ℕ) → h < n → t h ≡ true → is_among h (falling t n) ≡ true
falling_has t zero h lt e = absurd (omega arith)
falling_has t (suc n) h lt e = cases (t n) refl (falling_has t n h)
  where
    cases : (b : Bool) → t n ≡ b → (h < n → t h ≡ true → is_among h (falling t n) ≡ true) → is_among h (cond b (n ∷ falling t n) (falling t n)) ≡ true
    cases false same later =
        elim (cases_Bool (eqb n h)) [
          | inl k ↦ absurd (both_ways (t n) same (subst (λ (x : ℕ). t x ≡ true) (sym (eqb-true n h k)) e))
          | inr k ↦ (let apart = eqb-false n h k in later (omega arith) e)
        ]
    cases true same later =
        elim (cases_Bool (eqb n h)) [ inl k ↦ or_left (eqb n h) _ k | inr k ↦ (let apart = eqb-false n h k in or_right (eqb n h) _ (later (omega arith) e)) ]

falling_way : (t : ℕ → Bool) (n f : ℕ) → n ≤ f → IsWay f (falling t n)
falling_way t zero f le = tt
falling_way t (suc n) f le = cases (t n) (falling_way t n f (omega arith)) (falling_way t n n (omega arith))
  where
    cases : (b : Bool) → IsWay f (falling t n) → IsWay n (falling t n) → IsWay f (cond b (n ∷ falling t n) (falling t n))
    cases false from_f from_n = from_f
    cases true from_f from_n = (
      λ h e same. elim (or_cases (eqb n h) (is_among h (falling t n)) e) [
        | inl k ↦ (let at_n = eqb-true n h k in omega arith)
        | inr k ↦ (let lt = (among_falling t n h k).0 in omega arith)
      ],
      λ h e. (let lt = (among_falling t n h e).0 in (λ up. omega arith, λ down. omega arith)),
      from_n,
    )

rising_way : (t : ℕ → Bool) (a m f : ℕ) → f < a → IsWay f (rising t a m)
rising_way t a zero f lt = tt
rising_way t a (suc m) f lt = cases (t a) (rising_way t (a + 1) m f (omega arith)) (rising_way t (a + 1) m a (omega arith))
  where
    cases : (b : Bool) → IsWay f (rising t (a + 1) m) → IsWay a (rising t (a + 1) m) → IsWay f (cond b (a ∷ rising t (a + 1) m) (rising t (a + 1) m))
    cases false from_f from_a = from_f
    cases true from_f from_a = (
      λ h e same. elim (or_cases (eqb a h) (is_among h (rising t (a + 1) m)) e) [
        | inl k ↦ (let at_a = eqb-true a h k in omega arith)
        | inr k ↦ (let le = (among_chosen t (a + 1) m h k).0 in omega arith)
      ],
      λ h e. (let le = (among_chosen t (a + 1) m h e).0 in (λ up. omega arith, λ down. omega arith)),
      from_a,
    )

pub lowest_passes : (n : ℕ) (t : ℕ → Bool) → any_below n t ≡ true → (lowest n t < n) × (t (lowest n t) ≡ true)
lowest_passes zero t h = absurd (false≢true h)
lowest_passes (suc n) t h = cases (any_below n t) refl (lowest_passes n t) h
  where
    cases : (b : Bool) → any_below n t ≡ b → (any_below n t ≡ true → (lowest n t < n) × (t (lowest n t) ≡ true)) → (b || t n) ≡ true
        → (cond b (lowest n t) n < suc n) × (t (cond b (lowest n t) n) ≡ true)
    cases true e below h = let r = below e in let lt = r.0 in (omega arith, r.1)
    cases false e below h = (omega arith, h)

-- ---- who is aboard

-- a rider aboard is one of the car's groups
record IsGroupOf (s : Snapshot) (c r : ℕ) : Type 0 where
  group : ℕ
  within : group < length s.aboard
  car : (group_of s group).car ≡ c
  goes : destination_of s r ≡ (group_of s group).destination

destination_of-group : (s : Snapshot) (r : ℕ) → call_count s ≤ r → destination_of s r ≡ (group_of s (r - call_count s)).destination
destination_of-group s r le = at_group r (call_count s) (call_of s r).destination (group_of s (r - call_count s)).destination le

group_aboard : (s : Snapshot) (c r : ℕ) → r < rider_count s → is_aboard s c r ≡ true → IsGroupOf s c r
group_aboard s c r below on =
    let outer = and_parts (leb (call_count s) r && ltb r (rider_count s)) (eqb (group_of s (r - call_count s)).car c) on in
    let inner = and_parts (leb (call_count s) r) (ltb r (rider_count s)) outer.0 in
    let le = leb-true (call_count s) r inner.0 in
    record { group = r - call_count s; within = omega arith; car = eqb-true (group_of s (r - call_count s)).car c outer.1; goes = destination_of-group s r le }

-- no two of the car's groups go to different sides of floor f
abbrev NotApart : Snapshot → ℕ → ℕ → Type 0
NotApart s c f = (k m : ℕ) → k < length s.aboard → m < length s.aboard → (group_of s k).car ≡ c → (group_of s m).car ≡ c → f < (group_of s k).destination
    → (group_of s m).destination < f → ⊥

destination_group : (s : Snapshot) (c g : ℕ) → is_destination s c g ≡ true → (k : ℕ) × (k < length s.aboard) × ((group_of s k).car ≡ c)
    × ((group_of s k).destination ≡ g)
destination_group s c g h =
    let r = any_below-true (length s.aboard) _ h in
    let parts = and_parts (eqb (group_of s r.0).car c) (eqb (group_of s r.0).destination g) r.2 in
    (r.0, r.1, eqb-true (group_of s r.0).car c parts.0, eqb-true (group_of s r.0).destination g parts.1)

is_destination_at : (s : Snapshot) (c k : ℕ) → k < length s.aboard → (group_of s k).car ≡ c → is_destination s c (group_of s k).destination ≡ true
is_destination_at s c k below car =
    any_below-at (length s.aboard) _ k below
    (and_from (eqb (group_of s k).car c) _ (eq-eqb (group_of s k).car c car) (eq-eqb (group_of s k).destination (group_of s k).destination refl))

-- what the floors of those aboard are
record AreFloors (s : Snapshot) (c f : ℕ) (gs : List ℕ) : Type 0 where
  way : IsWay f gs
  used : (h : ℕ) → is_among h gs ≡ true → is_destination s c h ≡ true
  all : (k : ℕ) → k < length s.aboard → (group_of s k).car ≡ c → ((group_of s k).destination ≡ f → ⊥) → is_among (group_of s k).destination gs ≡ true

served_floor : (s : Snapshot) (k : ℕ) → IsAccepted s → k < length s.aboard → (group_of s k).destination < floor_count s.building
served_floor s k ok below =
    ltb-true (group_of s k).destination (floor_count s.building)
    (and_parts (ltb (group_of s k).destination (floor_count s.building)) _ (ok.groups k below).served).0

above_has : (s : Snapshot) (c f k : ℕ) → IsAccepted s → k < length s.aboard → (group_of s k).car ≡ c → f < (group_of s k).destination
    → is_among (group_of s k).destination (floors_above s c f) ≡ true
above_has s c f k ok below car lt =
    let top = served_floor s k ok below in
    chosen_has (is_destination s c) (f + 1) (floor_count s.building - (f + 1)) (group_of s k).destination (omega arith) (omega arith)
    (is_destination_at s c k below car)

floors_hold : (s : Snapshot) (c f : ℕ) → IsAccepted s → NotApart s c f → AreFloors s c f (floors_aboard s c f)
floors_hold s c f ok one_side = choose (floors_above s c f) refl
  where
    choose : (xs : List ℕ) → floors_above s c f ≡ xs → AreFloors s c f (or_else xs (falling (is_destination s c) f))
    choose [] e = record {
      way = falling_way (is_destination s c) f f (omega arith);
      used = λ h k. (among_falling (is_destination s c) f h k).1;
      all = λ k below car apart. elim (cases_order f (group_of s k).destination) [
        | inl same ↦ absurd (apart (sym same))
        | inr other ↦ elim other [
          | inl up ↦ absurd (false≢true (subst (λ (xs : List ℕ). is_among (group_of s k).destination xs ≡ true) e (above_has s c f k ok below car up)))
          | inr down ↦ falling_has (is_destination s c) f (group_of s k).destination down (is_destination_at s c k below car)
        ]
      ];
    }
    choose (x ∷ xs) e =
        let here : is_among x (floors_above s c f) ≡ true =
        subst (λ (l : List ℕ). is_among x l ≡ true) (sym e) (or_left (eqb x x) (is_among x xs) (eq-eqb x x refl)) in
        let at_x = among_chosen (is_destination s c) (f + 1) (floor_count s.building - (f + 1)) x here in
        let up = destination_group s c x at_x.2 in
        record {
          way = subst (IsWay f) e (rising_way (is_destination s c) (f + 1) (floor_count s.building - (f + 1)) f (omega arith));
          used = λ h k.
              (among_chosen (is_destination s c) (f + 1) (floor_count s.building - (f + 1)) h (subst (λ (l : List ℕ). is_among h l ≡ true) (sym e) k)).2;
          all = λ k below car apart. elim (cases_order f (group_of s k).destination) [
            | inl same ↦ absurd (apart (sym same))
            | inr other ↦ elim other [
              | inl high ↦ subst (λ (l : List ℕ). is_among (group_of s k).destination l ≡ true) e (above_has s c f k ok below car high)
              | inr low ↦ absurd (one_side up.0 k up.1 below up.2 car (let a = at_x.0 in let b = up.3 in omega arith) low)
            ]
          ];
        }

-- ---- the persons aboard

fits_start : (s : Snapshot) (c : ℕ) → persons_where s (is_aboard s c) ≡ persons_aboard s c
fits_start s c =
    let n = call_count s in
    let split = sum_below-split n (length s.aboard) (λ r. cond (is_aboard s c r) (persons_of s r) 0) in
    let front = sum_below-same n (λ r. cond (is_aboard s c r) (persons_of s r) 0) (λ k. 0)
    (λ r lt. ap (λ (b : Bool). cond b (persons_of s r) 0) (no_call r lt)) in
    let none = sum_below-zero n in
    let back = sum_below-same (length s.aboard) (λ k. cond (is_aboard s c (n + k)) (persons_of s (n + k)) 0)
    (λ k. cond (eqb (group_of s k).car c) (group_of s k).persons 0) group in
    omega (arith, split, front, none, back)
  where
    no_call : (r : ℕ) → r < call_count s → is_aboard s c r ≡ false
    no_call r lt =
        and_left (leb (call_count s) r && ltb r (rider_count s)) _
        (and_left (leb (call_count s) r) _ (false_from_ne_true _ (λ e. let le = leb-true (call_count s) r e in omega arith)))

    group : (k : ℕ) → k < length s.aboard
        → cond (is_aboard s c (call_count s + k)) (persons_of s (call_count s + k)) 0 ≡ cond (eqb (group_of s k).car c) (group_of s k).persons 0
    group k lt =
        let n = call_count s in
        let e : n + k - n ≡ k = omega arith in
        ap (λ (b : Bool). cond (b && ltb (n + k) (rider_count s) && eqb (group_of s (n + k - n)).car c) (persons_of s (n + k)) 0)
        (le-leb n (n + k) (omega arith))
        ∙ ap (λ (b : Bool). cond (true && b && eqb (group_of s (n + k - n)).car c) (persons_of s (n + k)) 0) (lt-ltb (n + k) (rider_count s) (omega arith))
        ∙ ap (λ (x : ℕ). cond (eqb (group_of s (n + k - n)).car c) x 0)
        (at_group (n + k) n (call_of s (n + k)).persons (group_of s (n + k - n)).persons (omega arith))
        ∙ ap (λ (i : ℕ). cond (eqb (group_of s i).car c) (group_of s i).persons 0) e

-- ---- the opening stops

-- a floor where someone aboard goes is one where someone gets off
off_at_start : (s : Snapshot) (c h : ℕ) → is_destination s c h ≡ true → any_below (rider_count s) (gets_off s (start_of s c) h) ≡ true
off_at_start s c h used =
    let r = destination_group s c h used in
    let n = call_count s in
    let k = r.0 in
    let lt = r.1 in
    let e : n + k - n ≡ k = omega arith in
    let aboard : is_aboard s c (n + k) ≡ true =
    and_from (leb n (n + k) && ltb (n + k) (rider_count s)) _
    (and_from (leb n (n + k)) _ (le-leb n (n + k) (omega arith)) (lt-ltb (n + k) (rider_count s) (omega arith)))
    (eq-eqb (group_of s (n + k - n)).car c (ap (λ (i : ℕ). (group_of s i).car) e ∙ r.2)) in
    any_below-at (rider_count s) (gets_off s (start_of s c) h) (n + k) (omega arith)
    (and_from (is_aboard s c (n + k)) _ aboard
    (eq-eqb (destination_of s (n + k)) h (destination_of-group s (n + k) (omega arith) ∙ ap (λ (i : ℕ). (group_of s i).destination) e ∙ r.3)))

used_served : (s : Snapshot) (c h : ℕ) → IsAccepted s → is_destination s c h ≡ true → serves s.building c h ≡ true
used_served s c h ok used =
    let r = destination_group s c h used in
    subst (λ (d : ℕ). serves s.building c d ≡ true) r.3
    (subst (λ (x : ℕ). serves s.building x (group_of s r.0).destination ≡ true) r.2 (ok.groups r.0 r.1).served)

fits_at_start : (s : Snapshot) (c : ℕ) → IsAccepted s → c < car_count s → persons_where s (start_of s c).carried ≤ (spec_of s c).capacity
fits_at_start s c ok below = let e = fits_start s c in let le = (ok.placed c below).capacity in omega (arith, e, le)

-- those aboard all go to other floors than f
abbrev AllLeave : Snapshot → ℕ → ℕ → Type 0
AllLeave s c f = (k : ℕ) → k < length s.aboard → (group_of s k).car ≡ c → (group_of s k).destination ≡ f → ⊥

goes_among : (s : Snapshot) (c f : ℕ) (gs : List ℕ) → AreFloors s c f gs → AllLeave s c f → (r : ℕ) → r < rider_count s → is_aboard s c r ≡ true
    → is_among (destination_of s r) gs ≡ true
goes_among s c f gs floors leave r below on =
    let g = group_aboard s c r below on in
    subst (λ (d : ℕ). is_among d gs ≡ true) (sym g.goes) (floors.all g.group g.within g.car (leave g.group g.within g.car))

-- a car that stands at its floor or left it: the first stop is on the way of all
opens_on : (s : Snapshot) (c : ℕ) (g : ℕ) (gs : List ℕ) → IsAccepted s → c < car_count s → AreFloors s c (floor_of (state_of s c)) (g ∷ gs)
    → AllLeave s c (floor_of (state_of s c)) → may_stop_first s.building c s.moment (state_of s c) g ≡ true → Opens s c (start_of s c) g gs
opens_on s c g gs ok below floors leave first =
    let p = start_of s c in
    let goes = goes_among s c p.floor (g ∷ gs) floors leave in
    let here = or_left (eqb g g) (is_among g gs) (eq-eqb g g refl) in
    record {
      reaches = record {
        first = λ _. first;
        apart = λ e. absurd (false≢true e);
        no_turn =
            and_right (has_leg s c p) (turns_with s p p.floor g)
            (no_turn s p p.floor g (λ r b on. ahead_of p.floor g (destination_of s r) gs floors.way.1 (goes r b on)));
      };
      useful = λ _. off_at_start s c g (floors.used g here);
      fits = fits_at_start s c ok below;
      served = used_served s c g ok (floors.used g here);
      goes = goes;
      way = floors.way.2;
      later_served = λ h e. used_served s c h ok (floors.used h (or_right (eqb g h) (is_among h gs) e));
      later_useful = λ h e. off_at_start s c h (floors.used h (or_right (eqb g h) (is_among h gs) e));
      fresh = λ _. refl;
    }

nobody_aboard : (s : Snapshot) (c f : ℕ) → AreFloors s c f [] → AllLeave s c f → (r : ℕ) → r < rider_count s → is_aboard s c r ≡ false
nobody_aboard s c f floors leave r below = false_from_ne_true _ (λ on. false≢true (goes_among s c f [] floors leave r below on))

-- an idle car
opening_idle : (s : Snapshot) (c : ℕ) (gs : List ℕ) → IsAccepted s → c < car_count s → is_idle (state_of s c) ≡ true
    → AreFloors s c (floor_of (state_of s c)) gs → AllLeave s c (floor_of (state_of s c)) → IsOpening s c gs
opening_idle s c [] ok below idle floors leave = (idle, nobody_aboard s c (floor_of (state_of s c)) floors leave)
opening_idle s c (g ∷ gs) ok below idle floors leave = opens_on s c g gs ok below floors leave (idle_may s.building c s.moment (state_of s c) g idle)

-- a coming car
opening_coming : (s : Snapshot) (c : ℕ) (gs : List ℕ) → IsAccepted s → c < car_count s → is_coming (state_of s c) ≡ true → is_idle (state_of s c) ≡ false
    → AreFloors s c (floor_of (state_of s c)) gs → may_stop_first s.building c s.moment (state_of s c) (floor_of (state_of s c)) ≡ true
    → IsOpening s c (floor_of (state_of s c) ∷ gs)
opening_coming s c gs ok below coming not_idle floors first = record {
  reaches = record {
    first = λ _. first;
    apart = λ e. absurd (false≢true e);
    no_turn =
        and_left (has_leg s c (start_of s c)) (turns_with s (start_of s c) f f) (not_from_true _ coming);
  };
  useful = λ e. absurd (both_ways (is_idle (state_of s c)) not_idle e);
  fits = fits_at_start s c ok below;
  served = (ok.placed c below).served;
  goes = goes_of;
  way = floors.way;
  later_served = λ h e. used_served s c h ok (floors.used h e);
  later_useful = λ h e. off_at_start s c h (floors.used h e);
  fresh = λ _. refl;
}
  where
    f : ℕ
    f = floor_of (state_of s c)

    goes_of : (r : ℕ) → r < rider_count s → is_aboard s c r ≡ true → is_among (destination_of s r) (floor_of (state_of s c) ∷ gs) ≡ true
    goes_of r b on =
        let g = group_aboard s c r b on in
        let d = (group_of s g.group).destination in
        let at_floor = floor_of (state_of s c) in
        subst (λ (x : ℕ). is_among x (at_floor ∷ gs) ≡ true) (sym g.goes) (elim (cases_Bool (eqb at_floor d)) [
          | inl e ↦ or_left (eqb at_floor d) (is_among d gs) e
          | inr e ↦ or_right (eqb at_floor d) (is_among d gs) (floors.all g.group g.within g.car (λ same. eqb-false at_floor d e (sym same)))
        ])

-- a moving car: where nobody is aboard, one open floor
opening_moving : (s : Snapshot) (c o : ℕ) (gs : List ℕ) → IsAccepted s → c < car_count s → is_idle (state_of s c) ≡ false
    → AreFloors s c (floor_of (state_of s c)) gs → AllLeave s c (floor_of (state_of s c))
    → ((h : ℕ) → is_among h gs ≡ true → may_stop_first s.building c s.moment (state_of s c) h ≡ true)
    → may_stop_first s.building c s.moment (state_of s c) o ≡ true → serves s.building c o ≡ true → IsOpening s c (or_else gs (o ∷ []))
opening_moving s c o [] ok below not_idle floors leave may first served =
    let p = start_of s c in
    let none = nobody_aboard s c (floor_of (state_of s c)) floors leave in
    record {
      reaches = record {
        first = λ _. first;
        apart = λ e. absurd (false≢true e);
        no_turn =
            and_right (has_leg s c p) (turns_with s p p.floor o) (no_turn-all s p p.floor o (nobody_goes s p o none));
      };
      useful = λ e. absurd (both_ways (is_idle (state_of s c)) not_idle e);
      fits = fits_at_start s c ok below;
      served = served;
      goes = λ r b on. absurd (both_ways (is_aboard s c r) (none r b) on);
      way = tt;
      later_served = λ h e. absurd (false≢true e);
      later_useful = λ h e. absurd (false≢true e);
      fresh = λ _. refl;
    }
opening_moving s c o (g ∷ gs) ok below not_idle floors leave may first served =
    opens_on s c g gs ok below floors leave (may g (or_left (eqb g g) (is_among g gs) (eq-eqb g g refl)))

-- ---- the three states

idle_apart : (s : Snapshot) (c f free : ℕ) → AreOnOneSide s c (Idle f free) → NotApart s c f
idle_apart s c f free side k m kb mb kc mc up down =
    elim (or_cases (ltb (group_of s k).destination f && ltb (group_of s m).destination f) _ (side k m kb mb kc mc)) [
      | inl e ↦ (let lt = ltb-true (group_of s k).destination f (and_parts (ltb (group_of s k).destination f) _ e).0 in omega arith)
      | inr e ↦ (let lt = ltb-true f (group_of s m).destination (and_parts (ltb f (group_of s k).destination) _ e).1 in omega arith)
    ]

idle_leave : (s : Snapshot) (c f free : ℕ) → AreOnOneSide s c (Idle f free) → AllLeave s c f
idle_leave s c f free side k kb kc same =
    elim (or_cases (ltb (group_of s k).destination f && ltb (group_of s k).destination f) _ (side k k kb kb kc kc)) [
      | inl e ↦ (let lt = ltb-true (group_of s k).destination f (and_parts (ltb (group_of s k).destination f) _ e).0 in omega arith)
      | inr e ↦ (let lt = ltb-true f (group_of s k).destination (and_parts (ltb f (group_of s k).destination) _ e).1 in omega arith)
    ]

coming_apart : (s : Snapshot) (c f arrives : ℕ) → AreOnOneSide s c (Coming f arrives) → NotApart s c f
coming_apart s c f arrives side k m kb mb kc mc up down =
    elim (or_cases (leb (group_of s k).destination f && leb (group_of s m).destination f) _ (side k m kb mb kc mc)) [
      | inl e ↦ (let le = leb-true (group_of s k).destination f (and_parts (leb (group_of s k).destination f) _ e).0 in omega arith)
      | inr e ↦ (let le = leb-true f (group_of s m).destination (and_parts (leb f (group_of s k).destination) _ e).1 in omega arith)
    ]

-- an open floor is ahead of the car
abbrev IsAhead : Bool → (from g : ℕ) → Type 0
IsAhead true from g = from < g
IsAhead false from g = g < from

is_ahead : (up : Bool) (from g : ℕ) → cond up (ltb from g) (ltb g from) ≡ true → IsAhead up from g
is_ahead true from g h = ltb-true from g h
is_ahead false from g h = ltb-true g from h

open_ahead : (s : Snapshot) (c from : ℕ) (up : Bool) (left g : ℕ) → is_open s.building c s.moment (Moving from up left) g ≡ true → IsAhead up from g
open_ahead s c from up left g h =
    is_ahead up from g (and_parts (serves s.building c g) _ (and_parts (serves s.building c g && cond up (ltb from g) (ltb g from)) _ (and_parts _ _ h).0).0).1

pub open_served : (s : Snapshot) (c from : ℕ) (up : Bool) (left g : ℕ) → is_open s.building c s.moment (Moving from up left) g ≡ true
    → serves s.building c g ≡ true
open_served s c from up left g h =
    (and_parts (serves s.building c g) _ (and_parts (serves s.building c g && cond up (ltb from g) (ltb g from)) _ (and_parts _ _ h).0).0).0

ahead_apart : (up : Bool) (from g h : ℕ) → IsAhead up from g → IsAhead up from h → from < g → h < from → ⊥
ahead_apart true from g h a b high low = omega arith
ahead_apart false from g h a b high low = omega arith

ahead_leaves : (up : Bool) (from g : ℕ) → IsAhead up from g → g ≡ from → ⊥
ahead_leaves true from g a same = omega arith
ahead_leaves false from g a same = omega arith

moving_apart : (s : Snapshot) (c from : ℕ) (up : Bool) (left : ℕ) → AreOnOneSide s c (Moving from up left) → NotApart s c from
moving_apart s c from up left side k m kb mb kc mc high low =
    ahead_apart up from (group_of s k).destination (group_of s m).destination (open_ahead s c from up left _ (side k kb kc))
    (open_ahead s c from up left _ (side m mb mc)) high low

moving_leave : (s : Snapshot) (c from : ℕ) (up : Bool) (left : ℕ) → AreOnOneSide s c (Moving from up left) → AllLeave s c from
moving_leave s c from up left side k kb kc same = ahead_leaves up from (group_of s k).destination (open_ahead s c from up left _ (side k kb kc)) same

-- where an idle car has to stop
pub opens_idle : (s : Snapshot) (c floor free : ℕ) → IsAccepted s → c < car_count s → state_of s c ≡ Idle floor free → IsOpening s c (floors_aboard s c floor)
opens_idle s c floor free ok below e =
    let side = subst (AreOnOneSide s c) e (ok.placed c below).one_side in
    let floors = floors_hold s c floor ok (idle_apart s c floor free side) in
    opening_idle s c (floors_aboard s c floor) ok below (ap is_idle e)
    (subst (λ (st : CarState). AreFloors s c (floor_of st) (floors_aboard s c floor)) (sym e) floors)
    (subst (λ (st : CarState). AllLeave s c (floor_of st)) (sym e) (idle_leave s c floor free side))

-- where a coming car has to stop
pub opens_coming : (s : Snapshot) (c floor arrives : ℕ) → IsAccepted s → c < car_count s → state_of s c ≡ Coming floor arrives
    → IsOpening s c (floor ∷ floors_aboard s c floor)
opens_coming s c floor arrives ok below e =
    let side = subst (AreOnOneSide s c) e (ok.placed c below).one_side in
    let floors = floors_hold s c floor ok (coming_apart s c floor arrives side) in
    let first = ap (λ (st : CarState). may_stop_first s.building c s.moment st (floor_of (state_of s c))) e
    ∙ eq-eqb (floor_of (state_of s c)) floor (ap floor_of e) in
    subst (λ (f : ℕ). IsOpening s c (f ∷ floors_aboard s c floor)) (ap floor_of e)
    (opening_coming s c (floors_aboard s c floor) ok below (ap is_coming e) (ap is_idle e)
    (subst (λ (st : CarState). AreFloors s c (floor_of st) (floors_aboard s c floor)) (sym e) floors) first)

-- where a moving car has to stop, where o is an open floor
pub opens_moving : (s : Snapshot) (c from : ℕ) (up : Bool) (left o : ℕ) → IsAccepted s → c < car_count s → state_of s c ≡ Moving from up left
    → is_open s.building c s.moment (Moving from up left) o ≡ true → IsOpening s c (or_else (floors_aboard s c from) (o ∷ []))
opens_moving s c from up left o ok below e is_open_here =
    let side = subst (AreOnOneSide s c) e (ok.placed c below).one_side in
    let floors = floors_hold s c from ok (moving_apart s c from up left side) in
    let may = (λ (h : ℕ) (k : is_among h (floors_aboard s c from) ≡ true).
    (let g = destination_group s c h (floors.used h k) in
    ap (λ (st : CarState). may_stop_first s.building c s.moment st h) e
    ∙ subst (λ (d : ℕ). is_open s.building c s.moment (Moving from up left) d ≡ true) g.3 (side g.0 g.1 g.2))) in
    opening_moving s c o (floors_aboard s c from) ok below (ap is_idle e)
    (subst (λ (st : CarState). AreFloors s c (floor_of st) (floors_aboard s c from)) (sym e) floors)
    (subst (λ (st : CarState). AllLeave s c (floor_of st)) (sym e) (moving_leave s c from up left side)) may
    (ap (λ (st : CarState). may_stop_first s.building c s.moment st o) e ∙ is_open_here) (open_served s c from up left o is_open_here)

-- a moving car has an open floor
pub open_somewhere : (s : Snapshot) (c from : ℕ) (up : Bool) (left : ℕ) → IsAccepted s → c < car_count s → state_of s c ≡ Moving from up left → (o : ℕ)
    × (is_open s.building c s.moment (Moving from up left) o ≡ true)
open_somewhere s c from up left ok below e =
    let some = (subst (IsTimely s c) e (ok.placed c below).timely).1 in
    let test = is_open s.building c s.moment (Moving from up left) in
    (lowest (floor_count s.building) test, (lowest_passes (floor_count s.building) test some).1)

opening_case : (s : Snapshot) (c : ℕ) → IsAccepted s → c < car_count s → (st : CarState) → state_of s c ≡ st → IsOpening s c (opening_of s c st)
unfolding open_somewhere
opening_case s c ok below (Idle floor free) e = opens_idle s c floor free ok below e
opening_case s c ok below (Coming floor arrives) e = opens_coming s c floor arrives ok below e
opening_case s c ok below (Moving from up left) e =
    let found = open_somewhere s c from up left ok below e in
    opens_moving s c from up left found.0 ok below e found.1

-- Each car of an accepted snapshot has floors at which to open its tour.
pub opening_holds : (s : Snapshot) (c : ℕ) → IsAccepted s → c < car_count s → IsOpening s c (opening_of s c (state_of s c))
opening_holds s c ok below = opening_case s c ok below (state_of s c) refl
