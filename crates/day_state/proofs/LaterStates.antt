-- The state of a car at a later moment keeps the rules of a snapshot, and the rest of its tour may start from it.
use Rattle.std.proofs.Common.{◌≡◌, ℕ, ◌+◌, ◌<◌, ◌≤◌, Bool, true, false, cond, not, ◌&&◌, ◌||◌, eqb, ltb, leb, List, [], ◌∷◌, length, refl, sym, ap, ◌∙◌, subst}
use Rattle.std.proofs.Common.{inl, inr, arith, None, Some}
use Rattle.std.proofs.lemmas.Bool.{and_parts, and_from, and_cases, or_cases, or_left, or_right, or_parts, false≢true, lt-ltb, ltb-true, ltb-false, leb-true}
use Rattle.std.proofs.lemmas.Bool.{leb-false, le-leb, eqb-true, eq-eqb, both_ways, not-true, not-false, false_from_ne_true, cond-true, cond-false, cases_order}
use Rattle.elevator_model.specs.declared.Stop.{Stop}
use Rattle.elevator_model.specs.declared.CarState.{CarState}
use Rattle.elevator_model.specs.declared.CarState.TheVariants.{Idle, Coming, Moving}
use Rattle.elevator_model.specs.declared.Rule.TheVariants.{FirstStop, Delivery}
use Rattle.call_sets.specs.Counting.{any_below}
use Rattle.elevator_model.specs.Travel.{time_between}
use Rattle.elevator_model.specs.Building.{floor_count}
use Rattle.elevator_model.specs.Snapshot.{Snapshot, IsAccepted, IsTimely, IsUnmoving, AreOnOneSide, car_count, call_count, group_of, state_of, floor_of}
use Rattle.elevator_model.specs.Snapshot.{moment_of, is_idle, is_coming, is_open, may_stop_first, serves}
use Rattle.elevator_model.specs.Tours.{Progress, rider_count, destination_of, is_aboard, has_leg, arrival, turns_with, start_of, breaks, broken_at}
use Rattle.elevator_model.specs.Tours.{broken_at_end, none_taken, rules_of_stop}
use Rattle.search_model.specs.Advancing.{can_still_choose, comes_to, state_under_way, state_standing, state_moving, state_before_stops, state_then}
use Rattle.call_sets.proofs.BelowTests.{any_below-at, any_below-false}
use Rattle.tour_rules.specs.Leaving.{IsKept}
use Rattle.tour_rules.proofs.BoundedTests.{AllClear-from}
use Rattle.tour_rules.proofs.Moments.{arrival-le}
use Rattle.tour_rules.proofs.RiderSums.{destination_of-group}
use Rattle.day_state.proofs.LaterTimes.{IsTimelyAt, aboard-group}

-- ---- what is to be shown of a state

-- all whom the car carries lie on one side
abbrev pub OnSide : Snapshot → (c t : ℕ) → Progress → CarState → Type 0
OnSide s c t p (Idle floor free) =
    (r m : ℕ) → p.carried r ≡ true → p.carried m ≡ true
    → ((ltb (destination_of s r) floor && ltb (destination_of s m) floor) || (ltb floor (destination_of s r) && ltb floor (destination_of s m))) ≡ true
OnSide s c t p (Coming floor arrives) =
    (r m : ℕ) → p.carried r ≡ true → p.carried m ≡ true
    → ((leb (destination_of s r) floor && leb (destination_of s m) floor) || (leb floor (destination_of s r) && leb floor (destination_of s m))) ≡ true
OnSide s c t p (Moving from up left) = (r : ℕ) → p.carried r ≡ true → is_open s.building c t (Moving from up left) (destination_of s r) ≡ true

abbrev pub IsTimelyState : Snapshot → (c t : ℕ) → CarState → Type 0
IsTimelyState s c t (Idle floor free) = (t ≤ free) × (free ≤ t + 100000000)
IsTimelyState s c t (Coming floor arrives) = (t ≤ arrives) × (arrives ≤ t + 100000000)
IsTimelyState s c t (Moving from up left) = (left ≤ t) × (any_below (floor_count s.building) (is_open s.building c t (Moving from up left)) ≡ true)

pub record IsFirstFor (s : Snapshot) (c t : ℕ) (p : Progress) (st : CarState) (stop : Stop) : Type 0 where
  pub may : may_stop_first s.building c t st stop.floor ≡ true
  pub need : is_idle st ≡ true → (p.begun || is_idle (state_of s c)) ≡ true
  pub leg : is_coming st ≡ false → (has_leg s c p ≡ true) × (floor_of st ≡ p.floor)

-- the rest of the tour may start from the state
abbrev pub FirstFor : Snapshot → (c t : ℕ) → Progress → CarState → List Stop → Type 0
FirstFor s c t p st [] = is_idle st ≡ true
FirstFor s c t p st (stop ∷ stops) = IsFirstFor s c t p st stop

pub record Fits (s : Snapshot) (c t : ℕ) (p : Progress) (left : List Stop) (st : CarState) : Type 0 where
  pub served : serves s.building c (floor_of st) ≡ true
  pub timely : IsTimelyState s c t st
  pub unmoving : s.version ≡ 1 → IsUnmoving st
  pub side : OnSide s c t p st
  pub first : FirstFor s c t p st left

-- what is known of the car: it breaks no rule, now or later
pub record IsLeft (s : Snapshot) (c t : ℕ) (p : Progress) (left : List Stop) : Type 0 where
  pub kept : IsKept s c p
  pub timely : IsTimelyAt s c t p
  -- a first stop that is left breaks no rule and is reached later; without one the tour may end
  pub next : (stop : Stop) (rest : List Stop) → left ≡ stop ∷ rest → (broken_at s c none_taken p stop ≡ None) × (t < arrival s c p stop.floor)
  pub ends : left ≡ [] → broken_at_end s c p ≡ None

-- ---- sides

carried-below : (s : Snapshot) (c : ℕ) (p : Progress) → IsKept s c p → (r : ℕ) → p.carried r ≡ true → r < rider_count s
carried-below s c p kept r h =
    elim (or_cases (p.boarded r) (is_aboard s c r) (kept.carried r h)) [
      | inl e ↦ (let low = kept.calls r e in omega arith)
      | inr e ↦ ltb-true r (rider_count s)
          (and_parts (leb (call_count s) r) (ltb r (rider_count s)) (and_parts (leb (call_count s) r && ltb r (rider_count s)) _ e).0).1
    ]

-- a leg turns with nobody: all destinations lie at its end or beyond
beyond-up : (s : Snapshot) (c : ℕ) (p : Progress) (f g : ℕ) → IsKept s c p → turns_with s p f g ≡ false → f < g → (r : ℕ) → p.carried r ≡ true
    → g ≤ destination_of s r
beyond-up s c p f g kept none low r h =
    let up = (or_parts (ltb f g && any_below (rider_count s) (λ i. p.carried i && ltb (destination_of s i) g)) _ none).0 in
    let no_one : any_below (rider_count s) (λ i. p.carried i && ltb (destination_of s i) g) ≡ false =
    elim (and_cases (ltb f g) (any_below (rider_count s) (λ i. p.carried i && ltb (destination_of s i) g)) up) [
      | inl e ↦ absurd (both_ways (ltb f g) e (lt-ltb f g low))
      | inr e ↦ e
    ] in
    let here = any_below-false (rider_count s) (λ i. p.carried i && ltb (destination_of s i) g) r no_one (carried-below s c p kept r h) in
    ltb-false (destination_of s r) g
    (false_from_ne_true (ltb (destination_of s r) g)
    (λ k. both_ways (p.carried r && ltb (destination_of s r) g) here (and_from (p.carried r) (ltb (destination_of s r) g) h k)))

beyond-down : (s : Snapshot) (c : ℕ) (p : Progress) (f g : ℕ) → IsKept s c p → turns_with s p f g ≡ false → g < f → (r : ℕ) → p.carried r ≡ true
    → destination_of s r ≤ g
beyond-down s c p f g kept none low r h =
    let down = (or_parts _ (ltb g f && any_below (rider_count s) (λ i. p.carried i && ltb g (destination_of s i))) none).1 in
    let no_one : any_below (rider_count s) (λ i. p.carried i && ltb g (destination_of s i)) ≡ false =
    elim (and_cases (ltb g f) (any_below (rider_count s) (λ i. p.carried i && ltb g (destination_of s i))) down) [
      | inl e ↦ absurd (both_ways (ltb g f) e (lt-ltb g f low))
      | inr e ↦ e
    ] in
    let here = any_below-false (rider_count s) (λ i. p.carried i && ltb g (destination_of s i)) r no_one (carried-below s c p kept r h) in
    ltb-false g (destination_of s r)
    (false_from_ne_true (ltb g (destination_of s r))
    (λ k. both_ways (p.carried r && ltb g (destination_of s r)) here (and_from (p.carried r) (ltb g (destination_of s r)) h k)))

idle-side : (s : Snapshot) (c t : ℕ) (p : Progress) (f g free : ℕ) → IsKept s c p → (f ≡ g → ⊥) → turns_with s p f g ≡ false → OnSide s c t p (Idle f free)
idle-side s c t p f g free kept apart none = λ r m hr hm.
    elim (cases_order f g) [
      | inl e ↦ absurd (apart e)
      | inr either ↦ elim either [
        | inl up ↦ (let x = beyond-up s c p f g kept none up r hr in let y = beyond-up s c p f g kept none up m hm in
            or_right (ltb (destination_of s r) f && ltb (destination_of s m) f) (ltb f (destination_of s r) && ltb f (destination_of s m))
            (and_from (ltb f (destination_of s r)) (ltb f (destination_of s m)) (lt-ltb f (destination_of s r) (omega arith))
            (lt-ltb f (destination_of s m) (omega arith))))
        | inr down ↦ (let x = beyond-down s c p f g kept none down r hr in let y = beyond-down s c p f g kept none down m hm in
            or_left (ltb (destination_of s r) f && ltb (destination_of s m) f) (ltb f (destination_of s r) && ltb f (destination_of s m))
            (and_from (ltb (destination_of s r) f) (ltb (destination_of s m) f) (lt-ltb (destination_of s r) f (omega arith))
            (lt-ltb (destination_of s m) f (omega arith))))
      ]
    ]

coming-side : (s : Snapshot) (c t : ℕ) (p : Progress) (f g arrives : ℕ) → IsKept s c p → (f ≡ g → ⊥) → turns_with s p f g ≡ false
    → OnSide s c t p (Coming g arrives)
coming-side s c t p f g arrives kept apart none = λ r m hr hm.
    elim (cases_order f g) [
      | inl e ↦ absurd (apart e)
      | inr either ↦ elim either [
        | inl up ↦ or_right (leb (destination_of s r) g && leb (destination_of s m) g) (leb g (destination_of s r) && leb g (destination_of s m))
            (and_from (leb g (destination_of s r)) (leb g (destination_of s m)) (le-leb g (destination_of s r) (beyond-up s c p f g kept none up r hr))
            (le-leb g (destination_of s m) (beyond-up s c p f g kept none up m hm)))
        | inr down ↦ or_left (leb (destination_of s r) g && leb (destination_of s m) g) (leb g (destination_of s r) && leb g (destination_of s m))
            (and_from (leb (destination_of s r) g) (leb (destination_of s m) g) (le-leb (destination_of s r) g (beyond-down s c p f g kept none down r hr))
            (le-leb (destination_of s m) g (beyond-down s c p f g kept none down m hm)))
      ]
    ]

nobody-left : (s : Snapshot) (c : ℕ) (p : Progress) → IsKept s c p → broken_at_end s c p ≡ None → (r : ℕ) → p.carried r ≡ true → ⊥
nobody-left s c p kept h r on =
    let none = nobody (not p.begun && not (is_idle (state_of s c))) (any_below (rider_count s) p.carried) h in
    both_ways (p.carried r) (any_below-false (rider_count s) p.carried r none (carried-below s c p kept r on)) on
  where
    nobody : (first any : Bool) → cond first (Some FirstStop) (cond any (Some Delivery) None) ≡ None → any ≡ false
    nobody true any h = absurd (cc)
    nobody false true h = absurd (cc)
    nobody false false h = refl

-- a car with nowhere to go may have stopped nowhere only where it is idle
may-end : (s : Snapshot) (c : ℕ) (p : Progress) → broken_at_end s c p ≡ None → (p.begun || is_idle (state_of s c)) ≡ true
may-end s c p h = free p.begun (is_idle (state_of s c)) (any_below (rider_count s) p.carried) h
  where
    free : (b i any : Bool) → cond (not b && not i) (Some FirstStop) (cond any (Some Delivery) None) ≡ None → (b || i) ≡ true
    free true i any h = refl
    free false true any h = refl
    free false false any h = absurd (cc)

-- ---- a car on its way

served-below : (s : Snapshot) (c f : ℕ) → serves s.building c f ≡ true → f < floor_count s.building
served-below s c f h = ltb-true f (floor_count s.building) (and_parts (ltb f (floor_count s.building)) _ h).0

leg-arrival : (s : Snapshot) (c : ℕ) (p : Progress) (g : ℕ) → has_leg s c p ≡ true → arrival s c p g ≡ p.leaves + time_between s.building.travel p.floor g
leg-arrival s c p g leg = cond-true (has_leg s c p) (p.leaves + time_between s.building.travel p.floor g) p.leaves leg

-- a stop that is reached later than the car leaves is elsewhere
elsewhere : (s : Snapshot) (c t : ℕ) (p : Progress) (g : ℕ) → IsAccepted s → serves s.building c p.floor ≡ true → has_leg s c p ≡ true → p.leaves ≤ t
    → t < arrival s c p g → p.floor ≡ g → ⊥
elsewhere s c t p g a served leg left late same =
    let floors = a.building.travel_floors in
    let below = served-below s c p.floor served in
    let rest = a.building.travel.at_rest p.floor (omega (arith, floors, below)) in
    let time = leg-arrival s c p g leg in
    let there = ap (time_between s.building.travel p.floor) (sym same) in
    omega (arith, rest, time, there, left, late)

fits-coming : (s : Snapshot) (c t : ℕ) (p : Progress) (stop : Stop) (rest : List Stop) → IsAccepted s → IsLeft s c t p (stop ∷ rest) → has_leg s c p ≡ true
    → p.leaves ≤ t → Fits s c t p (stop ∷ rest) (comes_to s c p stop)
fits-coming s c t p stop rest a is leg left =
    let next = is.next stop rest refl in
    let clear = AllClear-from (breaks s c none_taken p stop) rules_of_stop next.0 in
    let served = not-false (serves s.building c stop.floor) clear.1.1.1.1.1.1.1.0 in
    let soon = arrival-le s c p stop.floor a (served-below s c p.floor is.timely.served) (served-below s c stop.floor served) in
    let none : turns_with s p p.floor stop.floor ≡ false = elim (and_cases (has_leg s c p) (turns_with s p p.floor stop.floor) clear.1.1.1.0) [
      | inl e ↦ absurd (both_ways (has_leg s c p) e leg)
      | inr e ↦ e
    ] in
    record {
      served = served;
      timely = (let late = next.1 in (omega arith, omega (arith, soon, left)));
      unmoving = λ _. tt;
      side = coming-side s c t p p.floor stop.floor (arrival s c p stop.floor) is.kept (elsewhere s c t p stop.floor a is.timely.served leg left next.1) none;
      first = record { may = eq-eqb stop.floor stop.floor refl; need = λ e. absurd (false≢true e); leg = λ e. absurd (false≢true (sym e)) };
    }

fits-moving : (s : Snapshot) (c t : ℕ) (p : Progress) (stop : Stop) (rest : List Stop) (from : ℕ) (up : Bool) (left : ℕ) → IsLeft s c t p (stop ∷ rest)
    → has_leg s c p ≡ true → from ≡ p.floor → left ≤ t → (s.version ≡ 1 → ⊥) → can_still_choose s c t p (Moving from up left) stop ≡ true
    → Fits s c t p (stop ∷ rest) (Moving from up left)
fits-moving s c t p stop rest from up left is leg same before two can =
    let st : CarState = Moving from up left in
    let parts = and_parts (is_open s.building c t st stop.floor)
    (not (any_below (rider_count s) (λ r. p.carried r && not (is_open s.building c t st (destination_of s r))))) can in
    let none = not-true (any_below (rider_count s) (λ r. p.carried r && not (is_open s.building c t st (destination_of s r)))) parts.1 in
    let served = not-false (serves s.building c stop.floor)
    (AllClear-from (breaks s c none_taken p stop) rules_of_stop (is.next stop rest refl).0).1.1.1.1.1.1.1.0 in
    record {
      served = subst (λ (f : ℕ). serves s.building c f ≡ true) (sym same) is.timely.served;
      timely = (before, any_below-at (floor_count s.building) (is_open s.building c t st) stop.floor (served-below s c stop.floor served) parts.0);
      unmoving = λ one. absurd (two one);
      side = λ r h. open_at (p.carried r) (is_open s.building c t st (destination_of s r)) h
          (any_below-false (rider_count s) (λ i. p.carried i && not (is_open s.building c t st (destination_of s i))) r none (carried-below s c p is.kept r h));
      first = record { may = parts.0; need = λ e. absurd (false≢true e); leg = λ e. (leg, same) };
    }
  where
    open_at : (k o : Bool) → k ≡ true → (k && not o) ≡ false → o ≡ true
    open_at true true e h = refl
    open_at true false e h = absurd (false≢true (sym h))
    open_at false o e h = absurd (false≢true e)

fits-under_way : (s : Snapshot) (c t : ℕ) (p : Progress) (left : List Stop) → IsAccepted s → IsLeft s c t p left → has_leg s c p ≡ true → p.leaves ≤ t
    → Fits s c t p left (state_under_way s c t p left)
fits-under_way s c t p [] a is leg gone = record {
  served = is.timely.served;
  timely = (omega arith, omega arith);
  unmoving = λ _. tt;
  side = λ r m hr hm. absurd (nobody-left s c p is.kept (is.ends refl) r hr);
  first = refl;
}
fits-under_way s c t p (stop ∷ rest) a is leg gone =
    either (eqb s.version 2) (can_still_choose s c t p (Moving p.floor (ltb p.floor stop.floor) p.leaves) stop) refl refl
  where
    either : (v b : Bool) → eqb s.version 2 ≡ v → can_still_choose s c t p (Moving p.floor (ltb p.floor stop.floor) p.leaves) stop ≡ b
        → Fits s c t p (stop ∷ rest) (cond (v && b) (Moving p.floor (ltb p.floor stop.floor) p.leaves) (comes_to s c p stop))
    either false b two can = fits-coming s c t p stop rest a is leg gone
    either true false two can = fits-coming s c t p stop rest a is leg gone
    either true true two can =
        fits-moving s c t p stop rest p.floor (ltb p.floor stop.floor) p.leaves is leg refl gone
        (λ one. let same = eqb-true s.version 2 two in omega (arith, one, same)) can

fits-standing : (s : Snapshot) (c t : ℕ) (p : Progress) (left : List Stop) → IsAccepted s → IsLeft s c t p left → has_leg s c p ≡ true
    → (p.begun || is_idle (state_of s c)) ≡ true → p.leaves ≤ t + 100000000 → OnSide s c t p (Idle p.floor p.leaves)
    → Fits s c t p left (state_standing s c t p left)
fits-standing s c t p left a is leg need soon side = cut (leb t p.leaves) refl
  where
    first_of : (xs : List Stop) → FirstFor s c t p (Idle p.floor p.leaves) xs
    first_of [] = refl
    first_of (stop ∷ rest) = record { may = refl; need = λ _. need; leg = λ _. (leg, refl) }

    cut : (b : Bool) → leb t p.leaves ≡ b → Fits s c t p left (cond b (Idle p.floor p.leaves) (state_under_way s c t p left))
    cut true e = record { served = is.timely.served; timely = (leb-true t p.leaves e, soon); unmoving = λ _. tt; side = side; first = first_of left }
    cut false e = let gone = leb-false t p.leaves e in fits-under_way s c t p left a is leg (omega arith)

-- ---- after a stop

begun-side : (s : Snapshot) (c t : ℕ) (p : Progress) (left : List Stop) → IsLeft s c t p left → p.begun ≡ true → OnSide s c t p (Idle p.floor p.leaves)
begun-side s c t p [] is begun = λ r m hr hm. absurd (nobody-left s c p is.kept (is.ends refl) r hr)
begun-side s c t p (stop ∷ rest) is begun =
    let clear = AllClear-from (breaks s c none_taken p stop) rules_of_stop (is.next stop rest refl).0 in
    let elsewhere_is : eqb stop.floor p.floor ≡ false = elim (and_cases p.begun (eqb stop.floor p.floor) clear.1.0) [
      | inl e ↦ absurd (both_ways p.begun e begun)
      | inr e ↦ e
    ] in
    let none : turns_with s p p.floor stop.floor ≡ false = elim (and_cases (has_leg s c p) (turns_with s p p.floor stop.floor) clear.1.1.1.0) [
      | inl e ↦ absurd (both_ways (has_leg s c p) e (or_left p.begun _ begun))
      | inr e ↦ e
    ] in
    idle-side s c t p p.floor stop.floor p.leaves is.kept (λ same. both_ways (eqb stop.floor p.floor) elsewhere_is (eq-eqb stop.floor p.floor (sym same))) none

-- ---- before the first stop

-- whom the car carries at its start is a group of it
start-group : (s : Snapshot) (c : ℕ) (P : ℕ → Type 0) → ((k : ℕ) → k < length s.aboard → (group_of s k).car ≡ c → P (group_of s k).destination) → (r : ℕ)
    → is_aboard s c r ≡ true → P (destination_of s r)
start-group s c P each r h =
    let g = aboard-group s c r h in
    subst (λ (x : ℕ). P (destination_of s x)) g.2 (subst P (sym (destination_of-group s g.0)) (each g.0 g.1 g.3))

start-side : (s : Snapshot) (c t : ℕ) (st : CarState) → is_idle st ≡ true → AreOnOneSide s c st → OnSide s c t (start_of s c) st
start-side s c t (Idle floor free) e side = λ r m hr hm.
    start-group s c (λ d. ((ltb d floor && ltb (destination_of s m) floor) || (ltb floor d && ltb floor (destination_of s m))) ≡ true)
    (λ k bk ck. start-group s c
    (λ d. ((ltb (group_of s k).destination floor && ltb d floor) || (ltb floor (group_of s k).destination && ltb floor d)) ≡ true)
    (λ n bn cn. side k n bk bn ck cn) m hm) r hr
start-side s c t (Coming floor arrives) e side = absurd (false≢true e)
start-side s c t (Moving from up left) e side = absurd (false≢true e)

coming-start-side : (s : Snapshot) (c t floor arrives : ℕ) → AreOnOneSide s c (Coming floor arrives) → OnSide s c t (start_of s c) (Coming floor arrives)
coming-start-side s c t floor arrives side = λ r m hr hm.
    start-group s c (λ d. ((leb d floor && leb (destination_of s m) floor) || (leb floor d && leb floor (destination_of s m))) ≡ true)
    (λ k bk ck. start-group s c
    (λ d. ((leb (group_of s k).destination floor && leb d floor) || (leb floor (group_of s k).destination && leb floor d)) ≡ true)
    (λ n bn cn. side k n bk bn ck cn) m hm) r hr

fits-idle : (s : Snapshot) (c t : ℕ) (left : List Stop) (floor free : ℕ) → IsAccepted s → c < car_count s → s.moment ≤ t → IsLeft s c t (start_of s c) left
    → state_of s c ≡ Idle floor free → Fits s c t (start_of s c) left (state_standing s c t (start_of s c) left)
fits-idle s c t left floor free a below later is e =
    let placed = a.placed c below in
    let timely = subst (IsTimely s c) e placed.timely in
    let soon = timely.1 in
    let moment = ap moment_of e in
    let side = start-side s c t (state_of s c) (ap is_idle e) placed.one_side in
    fits-standing s c t (start_of s c) left a is (ap (λ (st : CarState). not (is_coming st)) e) (ap is_idle e) (omega (arith, soon, moment, later))
    (subst (OnSide s c t (start_of s c)) (e ∙ sym at) side)
  where
    at : Idle (start_of s c).floor (start_of s c).leaves ≡ Idle floor free
    at = ap (λ (st : CarState). Idle (floor_of st) (moment_of st)) e

fits-coming-start : (s : Snapshot) (c t : ℕ) (left : List Stop) (floor arrives : ℕ) → IsAccepted s → c < car_count s → s.moment ≤ t
    → IsLeft s c t (start_of s c) left → state_of s c ≡ Coming floor arrives → Fits s c t (start_of s c) left (Coming floor arrives)
fits-coming-start s c t [] floor arrives a below later is e =
    absurd (both_ways (is_idle (state_of s c)) (ap is_idle e) (may-end s c (start_of s c) (is.ends refl)))
fits-coming-start s c t (stop ∷ rest) floor arrives a below later is e =
    let placed = a.placed c below in
    let timely = subst (IsTimely s c) e placed.timely in
    let next = is.next stop rest refl in
    let clear = AllClear-from (breaks s c none_taken (start_of s c) stop) rules_of_stop next.0 in
    let no_leg : has_leg s c (start_of s c) ≡ false = ap (λ (st : CarState). not (is_coming st)) e in
    let at_once = cond-false (has_leg s c (start_of s c)) ((start_of s c).leaves + time_between s.building.travel (start_of s c).floor stop.floor)
    (start_of s c).leaves no_leg in
    let moment = ap moment_of e in
    let late = next.1 in
    let soon = timely.1 in
    record {
      served = subst (λ (st : CarState). serves s.building c (floor_of st) ≡ true) e placed.served;
      timely = (omega (arith, late, at_once, moment), omega (arith, soon, later));
      unmoving = λ _. tt;
      side = coming-start-side s c t floor arrives (subst (AreOnOneSide s c) e placed.one_side);
      first = record {
        may =
            subst (λ (st : CarState). may_stop_first s.building c s.moment st stop.floor ≡ true) e
            (not-false (may_stop_first s.building c s.moment (state_of s c) stop.floor) clear.0);
        need = λ i. absurd (false≢true i);
        leg =
            λ i. absurd (false≢true (sym i));
      };
    }

fits-moving-start : (s : Snapshot) (c t : ℕ) (left : List Stop) (from : ℕ) (up : Bool) (since : ℕ) → IsAccepted s → c < car_count s → s.moment ≤ t
    → IsLeft s c t (start_of s c) left → state_of s c ≡ Moving from up since
    → Fits s c t (start_of s c) left (state_moving s c t (start_of s c) (Moving from up since) left)
fits-moving-start s c t [] from up since a below later is e =
    absurd (both_ways (is_idle (state_of s c)) (ap is_idle e) (may-end s c (start_of s c) (is.ends refl)))
fits-moving-start s c t (stop ∷ rest) from up since a below later is e =
    cut (can_still_choose s c t (start_of s c) (Moving from up since) stop) refl
  where
    leg : has_leg s c (start_of s c) ≡ true
    leg = ap (λ (st : CarState). not (is_coming st)) e

    left_before : since ≤ t
    left_before = let before = (subst (IsTimely s c) e (a.placed c below).timely).0 in omega (arith, before, later)

    cut : (b : Bool) → can_still_choose s c t (start_of s c) (Moving from up since) stop ≡ b
        → Fits s c t (start_of s c) (stop ∷ rest) (cond b (Moving from up since) (comes_to s c (start_of s c) stop))
    cut true can = fits-moving s c t (start_of s c) stop rest from up since is leg (sym (ap floor_of e)) left_before
        (λ one. subst IsUnmoving e (a.unmoving one c below)) can
    cut false can = fits-coming s c t (start_of s c) stop rest a is leg (let moment = ap moment_of e in omega (arith, moment, left_before))

fits-start : (s : Snapshot) (c t : ℕ) (left : List Stop) → IsAccepted s → c < car_count s → s.moment ≤ t → IsLeft s c t (start_of s c) left → (st : CarState)
    → state_of s c ≡ st → Fits s c t (start_of s c) left (state_before_stops s c t (start_of s c) st left)
fits-start s c t left a below later is (Idle floor free) e = fits-idle s c t left floor free a below later is e
fits-start s c t left a below later is (Coming floor arrives) e = fits-coming-start s c t left floor arrives a below later is e
fits-start s c t left a below later is (Moving from up since) e = fits-moving-start s c t left from up since a below later is e

-- ---- both

-- after stops
pub fits-begun : (s : Snapshot) (c t : ℕ) (p : Progress) (left : List Stop) → IsAccepted s → IsLeft s c t p left → p.begun ≡ true
    → Fits s c t p left (state_then s c t p left)
fits-begun s c t p left a is begun =
    subst (Fits s c t p left) (sym (cond-true p.begun (state_standing s c t p left) (state_before_stops s c t p (state_of s c) left) begun))
    (fits-standing s c t p left a is (or_left p.begun (not (is_coming (state_of s c))) begun) (or_left p.begun (is_idle (state_of s c)) begun)
    (is.timely.leaves begun) (begun-side s c t p left is begun))

-- before them
pub fits-unbegun : (s : Snapshot) (c t : ℕ) (left : List Stop) → IsAccepted s → c < car_count s → s.moment ≤ t → IsLeft s c t (start_of s c) left
    → Fits s c t (start_of s c) left (state_then s c t (start_of s c) left)
fits-unbegun s c t left a below later is = fits-start s c t left a below later is (state_of s c) refl
