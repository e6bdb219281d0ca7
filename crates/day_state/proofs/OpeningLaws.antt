-- The plan with which a day begins is feasible.
use Rattle.std.proofs.Common.{◌≡◌, ℕ, zero, suc, ◌+◌, ◌-◌, ◌<◌, ◌≤◌, Bool, true, false, cond, not, ◌&&◌, ◌||◌, ltb, [], refl, sym, ap, ◌∙◌, subst, inl, inr}
use Rattle.std.proofs.Common.{◌⊎◌, arith, Option, None, Some}
use Rattle.std.proofs.lemmas.List.FromFn.{get_or-map-range_with_len, length-map-range_with_len}
use Rattle.std.specs.Option.{unwrap_or}
use Rattle.std.specs.Prelude.{min}
use Rattle.std.proofs.lemmas.Bool.{and_left, and_right, and_parts, or_from, or_parts, cases_lt, false≢true, le-ltb, ltb-true, eq-eqb, not_from_true, cond-false}
use Rattle.elevator_model.specs.declared.Stop.{Stop}
use Rattle.elevator_model.specs.declared.CarState.{CarState}
use Rattle.elevator_model.specs.declared.CarState.TheVariants.{Idle, Coming, Moving}
use Rattle.elevator_model.specs.declared.Rule.TheVariants.{FirstStop, Delivery}
use Rattle.call_sets.specs.Counting.{any_below, sum_where}
use Rattle.elevator_model.specs.Travel.{difference}
use Rattle.elevator_model.specs.Building.{floor_count}
use Rattle.elevator_model.specs.Snapshot.{Snapshot, IsAccepted, IsTimely, car_count, call_count, spec_of, state_of, floor_of, is_idle, is_open, may_stop_first}
use Rattle.elevator_model.specs.Snapshot.{serves}
use Rattle.elevator_model.specs.Tours.{rider_count, persons_of, persons_where, stays_on, boards_at, start_of, make_stop, has_leg, turns_with, breaks, broken_at}
use Rattle.elevator_model.specs.Tours.{broken_at_end, none_taken, rules_of_stop, IsFeasible}
use Rattle.elevator_model.specs.Plans.{IsFeasiblePlan, tour_of}
use Rattle.search_model.specs.Sums.{least_where, lesser_of}
use Rattle.search_model.specs.Days.{floors_to_open, nearest_open, lone_stop, opening_tour, opening_world}
use Rattle.tour_rules.proofs.BoundedTests.{first_rule-clear}
use Rattle.day_state.specs.Openings.{IsOpeningSnapshot}
use Rattle.day_state.proofs.LaterTours.{ends-there, goes-on-there}

-- ---- the nearest open floor

abbrev IsFound : ℕ → (ℕ → Bool) → (ℕ → ℕ) → Option ℕ → Type 0
IsFound n t f o = (k : ℕ) × (k < n) × (t k ≡ true) × (o ≡ Some (f k))

least-none : (n : ℕ) (t : ℕ → Bool) (f : ℕ → ℕ) → any_below n t ≡ false → least_where n t f ≡ None
least-none zero t f h = refl
least-none (suc n) t f h =
    let parts = or_parts (any_below n t) (t n) h in
    cond-false (t n) (Some (lesser_of (least_where n t f) (f n))) (least_where n t f) parts.1 ∙ least-none n t f parts.0

lesser-either : (x y : ℕ) → (min x y ≡ x) ⊎ (min x y ≡ y)
lesser-either x y = elim (cases_lt x y) [ inl lt ↦ inl (omega arith) | inr ge ↦ inr (omega arith) ]

least-step : (n : ℕ) (t : ℕ → Bool) (f : ℕ → ℕ) → (any_below n t ≡ true → IsFound n t f (least_where n t f)) → (b d : Bool) → t n ≡ b → any_below n t ≡ d
    → (d || b) ≡ true → IsFound (suc n) t f (cond b (Some (lesser_of (least_where n t f) (f n))) (least_where n t f))
least-step n t f before false false e none h = absurd (false≢true h)
least-step n t f before false true e some h = let r = before some in let b = r.1 in (r.0, omega arith, r.2, r.3)
least-step n t f before true false e none h = (n, omega arith, e, ap (λ (o : Option ℕ). Some (lesser_of o (f n))) (least-none n t f none))
least-step n t f before true true e some h =
    let r = before some in
    let b = r.1 in
    let same = ap (λ (o : Option ℕ). Some (lesser_of o (f n))) r.3 in
    elim (lesser-either (f r.0) (f n)) [ inl g ↦ (r.0, omega arith, r.2, same ∙ ap Some g) | inr g ↦ (n, omega arith, e, same ∙ ap Some g) ]

-- the least number is that of one that passes
pub least-found : (n : ℕ) (t : ℕ → Bool) (f : ℕ → ℕ) → any_below n t ≡ true → IsFound n t f (least_where n t f)
least-found zero t f h = absurd (false≢true h)
least-found (suc n) t f h = least-step n t f (least-found n t f) (t n) (any_below n t) refl refl h

-- the floor that is this many floors ahead
ahead-there : (up : Bool) (from k : ℕ) → cond up (ltb from k) (ltb k from) ≡ true → cond up (from + difference from k) (from - difference from k) ≡ k
ahead-there true from k h = let lt = ltb-true from k h in omega arith
ahead-there false from k h = let lt = ltb-true k from h in omega arith

is-ahead : (s : Snapshot) (c from : ℕ) (up : Bool) (left k : ℕ) → is_open s.building c s.moment (Moving from up left) k ≡ true
    → cond up (ltb from k) (ltb k from) ≡ true
is-ahead s c from up left k h =
    (and_parts (serves s.building c k) _ (and_parts (serves s.building c k && cond up (ltb from k) (ltb k from)) _ (and_parts _ _ h).0).0).1

pub nearest-is-open : (s : Snapshot) (c from : ℕ) (up : Bool) (left : ℕ)
    → any_below (floor_count s.building) (is_open s.building c s.moment (Moving from up left)) ≡ true
    → is_open s.building c s.moment (Moving from up left) (nearest_open s c (Moving from up left)) ≡ true
nearest-is-open s c from up left some =
    let r = least-found (floor_count s.building) (is_open s.building c s.moment (Moving from up left)) (difference from) some in
    let k = r.0 in
    let floors : floors_to_open s c from (Moving from up left) ≡ difference from k = ap (λ (o : Option ℕ). unwrap_or o 0) r.3 in
    let there : nearest_open s c (Moving from up left) ≡ k = ap (λ (n : ℕ). cond up (from + n) (from - n)) floors
    ∙ ahead-there up from k (is-ahead s c from up left k r.2) in
    subst (λ (g : ℕ). is_open s.building c s.moment (Moving from up left) g ≡ true) (sym there) r.2

nearest-ahead : (s : Snapshot) (c from : ℕ) (up : Bool) (left : ℕ)
    → any_below (floor_count s.building) (is_open s.building c s.moment (Moving from up left)) ≡ true → (k : ℕ) × (k < floor_count s.building)
    × (cond up (ltb from k) (ltb k from) ≡ true) × (floors_to_open s c from (Moving from up left) ≡ difference from k)
nearest-ahead s c from up left some =
    let r = least-found (floor_count s.building) (is_open s.building c s.moment (Moving from up left)) (difference from) some in
    (r.0, r.1, is-ahead s c from up left r.0 r.2, ap (λ (o : Option ℕ). unwrap_or o 0) r.3)

-- It is a floor of the building.
pub rises-within : (s : Snapshot) (c from : ℕ) (up : Bool) (left : ℕ)
    → any_below (floor_count s.building) (is_open s.building c s.moment (Moving from up left)) ≡ true → up ≡ true
    → from + floors_to_open s c from (Moving from up left) < floor_count s.building
rises-within s c from up left some e =
    let r = nearest-ahead s c from up left some in
    let lt = ltb-true from r.0 (subst (λ (b : Bool). cond b (ltb from r.0) (ltb r.0 from) ≡ true) e r.2) in
    let far = r.3 in
    let below = r.1 in
    omega (arith, lt, far, below)

pub falls-within : (s : Snapshot) (c from : ℕ) (up : Bool) (left : ℕ)
    → any_below (floor_count s.building) (is_open s.building c s.moment (Moving from up left)) ≡ true → up ≡ false
    → floors_to_open s c from (Moving from up left) ≤ from
falls-within s c from up left some e =
    let r = nearest-ahead s c from up left some in
    let lt = ltb-true r.0 from (subst (λ (b : Bool). cond b (ltb from r.0) (ltb r.0 from) ≡ true) e r.2) in
    let far = r.3 in
    omega (arith, lt, far)

-- ---- one stop, with nobody aboard and no call

none-of : (n : ℕ) (t : ℕ → Bool) → n ≡ 0 → any_below n t ≡ false
none-of n t e = ap (λ (m : ℕ). any_below m t) e

no-riders : (s : Snapshot) → IsOpeningSnapshot s → rider_count s ≡ 0
no-riders s o = let calls = o.calls in let groups = o.aboard in omega (arith, calls, groups)

lone-fine : (s : Snapshot) (c floor : ℕ) → IsOpeningSnapshot s → is_idle (state_of s c) ≡ false
    → may_stop_first s.building c s.moment (state_of s c) floor ≡ true → serves s.building c floor ≡ true
    → broken_at s c none_taken (start_of s c) (record { floor = floor; boards = [] }) ≡ None
lone-fine s c floor o moves may served =
    let p = start_of s c in
    let stop : Stop = record { floor = floor; boards = [] } in
    let riders = no-riders s o in
    let turn = or_from (ltb p.floor floor && any_below (rider_count s) _) (ltb floor p.floor && any_below (rider_count s) _)
    (and_right (ltb p.floor floor) _ (none-of (rider_count s) _ riders)) (and_right (ltb floor p.floor) _ (none-of (rider_count s) _ riders)) in
    let empty : (t : ℕ → Bool) → sum_where (rider_count s) t (persons_of s) ≡ 0 = λ t. ap (λ (n : ℕ). sum_where n t (persons_of s)) riders in
    let load = empty (stays_on s p floor) in
    let more = empty (boards_at s stop) in
    first_rule-clear (breaks s c none_taken p stop) rules_of_stop (
      not_from_true (may_stop_first s.building c s.moment (state_of s c) floor) may,
      (
        refl,
        (
          and_left (is_idle (state_of s c) && _) _ (and_left (is_idle (state_of s c)) _ moves),
          (
            and_right (has_leg s c p) (turns_with s p p.floor floor) turn,
            (
              le-ltb (spec_of s c).capacity (persons_where s (stays_on s p floor) + persons_where s (boards_at s stop)) (omega (arith, load, more)),
              (
                none-of (call_count s) _ o.calls,
                (refl, (not_from_true (serves s.building c floor) served, (none-of (call_count s) _ o.calls, (none-of (call_count s) _ o.calls, tt)))),
              ),
            ),
          ),
        ),
      ),
    )

lone-feasible : (s : Snapshot) (c floor : ℕ) → IsOpeningSnapshot s → is_idle (state_of s c) ≡ false
    → may_stop_first s.building c s.moment (state_of s c) floor ≡ true → serves s.building c floor ≡ true → IsFeasible s c (lone_stop floor)
lone-feasible s c floor o moves may served =
    let stop : Stop = record { floor = floor; boards = [] } in
    let here = lone-fine s c floor o moves may served in
    let ends : broken_at_end s c (make_stop s c (start_of s c) stop) ≡ None =
    cond-false (any_below (rider_count s) (make_stop s c (start_of s c) stop).carried) (Some Delivery) None
    (none-of (rider_count s) (make_stop s c (start_of s c) stop).carried (no-riders s o)) in
    goes-on-there s c (start_of s c) 1 stop [] here (ends-there s c (make_stop s c (start_of s c) stop) 2 ends)

open-served : (s : Snapshot) (c from : ℕ) (up : Bool) (left k : ℕ) → is_open s.building c s.moment (Moving from up left) k ≡ true → serves s.building c k ≡ true
open-served s c from up left k h =
    (and_parts (serves s.building c k) _ (and_parts (serves s.building c k && cond up (ltb from k) (ltb k from)) _ (and_parts _ _ h).0).0).0

opening-tour-fine : (s : Snapshot) (c : ℕ) → IsAccepted s → IsOpeningSnapshot s → c < car_count s → (st : CarState) → state_of s c ≡ st
    → IsFeasible s c (opening_tour s c st)
opening-tour-fine s c a o below (Idle floor free) e =
    let idle = ap is_idle e in
    let ends : broken_at_end s c (start_of s c) ≡ None =
    idle-ends (is_idle (state_of s c)) (any_below (rider_count s) (start_of s c).carried) idle
    (none-of (rider_count s) (start_of s c).carried (no-riders s o)) in
    ends-there s c (start_of s c) 1 ends
  where
    idle-ends : (i any : Bool) → i ≡ true → any ≡ false → cond (not false && not i) (Some FirstStop) (cond any (Some Delivery) None) ≡ None
    idle-ends true false e h = refl
    idle-ends true true e h = absurd (false≢true (sym h))
    idle-ends false any e h = absurd (false≢true e)
opening-tour-fine s c a o below (Coming floor arrives) e =
    lone-feasible s c floor o (ap is_idle e) (ap (λ (st : CarState). may_stop_first s.building c s.moment st floor) e ∙ eq-eqb floor floor refl)
    (subst (λ (st : CarState). serves s.building c (floor_of st) ≡ true) e (a.placed c below).served)
opening-tour-fine s c a o below (Moving from up left) e =
    let found = nearest-is-open s c from up left (subst (IsTimely s c) e (a.placed c below).timely).1 in
    lone-feasible s c (nearest_open s c (Moving from up left)) o (ap is_idle e)
    (ap (λ (st : CarState). may_stop_first s.building c s.moment st (nearest_open s c (Moving from up left))) e ∙ found)
    (open-served s c from up left (nearest_open s c (Moving from up left)) found)

pub opening-tour-is : (s : Snapshot) (c : ℕ) → c < car_count s → tour_of (opening_world s).plan c ≡ opening_tour s c (state_of s c)
opening-tour-is s c below = get_or-map-range_with_len (λ d. opening_tour s d (state_of s d)) 0 (car_count s) c c [] below (omega arith)

-- The opening plan is feasible.
pub opening-feasible : (s : Snapshot) → IsAccepted s → IsOpeningSnapshot s → IsFeasiblePlan s (opening_world s).plan
opening-feasible s a o = record {
  cars = length-map-range_with_len (λ d. opening_tour s d (state_of s d)) 0 (car_count s);
  tours = λ c b. subst (IsFeasible s c) (sym (opening-tour-is s c b)) (opening-tour-fine s c a o b (state_of s c) refl);
  serves_once = λ j b. let none = o.calls in absurd (omega (arith, none, b));
}
