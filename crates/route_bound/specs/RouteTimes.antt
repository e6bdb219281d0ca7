-- No completion is sooner than the forced route: those carried get off no sooner, and no call boards sooner.
use Rattle.std.proofs.Common.{◌≡◌, ℕ, ◌<◌, ◌≤◌, ◌⊎◌, Bool, true, false, cond, not, ◌&&◌, ◌||◌, eqb, ltb, List, [], ◌∷◌, ◌++◌, refl, sym, ap, ◌∙◌, subst, inl}
use Rattle.std.proofs.Common.{inr, arith, Option, Some, None}
use Rattle.std.specs.List.{list_all}
use Rattle.std.specs.Option.{is_some}
use Rattle.std.proofs.lemmas.Bool.{and_cases, and_left, and_parts, and_right, both_ways, cases_Bool, cond_both, eqb-false, eqb-true, false≢true, ltb-false}
use Rattle.std.proofs.lemmas.Bool.{ltb-true, not-false, or_left, or_parts}
use Rattle.std.proofs.Math.Nat.{eq-or-lt_of_le}
use Rattle.call_sets.specs.Counting.{any_below}
use Rattle.call_sets.proofs.BelowTests.{any_below-false}
use Rattle.elevator_model.specs.declared.Rule.TheVariants.{Delivery, FirstStop}
use Rattle.elevator_model.specs.declared.Stop.{Stop}
use Rattle.elevator_model.specs.declared.Move.{Move}
use Rattle.elevator_model.specs.declared.Move.TheVariants.{Board, Leave, End}
use Rattle.elevator_model.specs.Building.{floor_count}
use Rattle.elevator_model.specs.Snapshot.{Snapshot, IsAccepted, call_count, call_of, is_idle, state_of}
use Rattle.elevator_model.specs.Tours.{Progress, broken_at_end, destination_of, has_leg, is_aboard, is_upward, rider_count, same_direction}
use Rattle.elevator_model.specs.Partial.{Course, may_end, move_on, moves_on, progress_after}
use Rattle.tour_rules.proofs.BoundedTests.{none-from}
use Rattle.tour_rules.proofs.RiderSums.{destination_of-call}
use Rattle.tour_rules.proofs.Sound.{cond-some, leads_on}
use Rattle.partial_tours.specs.Courses.{IsOnWay, any_goes_to, boards_of, may_leave, reached}
use Rattle.partial_tours.proofs.Follow.{end_some, leave_leads_to}
use Rattle.partial_tours.proofs.Next.{stands_empty}
use Rattle.pricing_bound.specs.LowerLemmas.{nobody_carried}
use Rattle.pricing_bound.specs.Standing.{IsStanding, standing_move}
use Rattle.route_bound.specs.ForcedRoute.{boards_from, forced_stops, halted, is_before, may_still_board, next_open, opens_at, rides_along, route_end}
use Rattle.route_bound.specs.Moves.{Boarding, IsNoLater, IsTimed, boarding, boarding_stays, halt_later, leaving, move_later, move_legs, next_here, no_later_on}
use Rattle.route_bound.specs.Moves.{timed_halt}
use Rattle.route_bound.specs.Completions.{CanEnd, Completes, Rode, boarding_has, boards_by, delivers_by}
use Rattle.route_bound.specs.OnRoute.{AreGoals, IsBeyond, IsOnRoute, beyond_apart, beyond_on, elsewhere, goer, goes, goes_in, goes_on, leg_forth, on_way}
use Rattle.route_bound.specs.OnRoute.{route_begins, route_moves, within_below, within_tests}

-- ---- the moments of the route

-- a stop of the route makes nothing sooner
pub opens_least : (s : Snapshot) (c : ℕ) (up : Bool) (p q r : Progress) (fs : List ℕ) (g : ℕ) → IsAccepted s → IsTimed s c q → AreGoals s p r fs
    → g < floor_count s.building → next_open s c q g ≤ opens_at s c up q fs g
opens_least s c up p q r [] g a timed goals b = omega arith
opens_least s c up p q r (f ∷ fs) g a timed goals b =
    let inside = goes_in s r f a goals.0.some in
    let stop = halt_later s c q f a timed inside g b in
    let rest = opens_least s c up p (halted s c q f) r fs g a (timed_halt s c q f inside) goals.1 b in
    cond_both (is_before up q.floor f g) (next_open s c q g) (opens_at s c up (halted s c q f) fs g) (λ (n : ℕ). next_open s c q g ≤ n) (λ e. omega arith)
    (λ e. omega (arith, stop, rest))

pub opens_later : (s : Snapshot) (c : ℕ) (up : Bool) (q r : Progress) (f : ℕ) (fs : List ℕ) (g : ℕ) → IsAccepted s → IsOnRoute s c up q r (f ∷ fs)
    → g < floor_count s.building → opens_at s c up q (f ∷ fs) g ≤ opens_at s c up (halted s c q f) fs g
opens_later s c up q r f fs g a on b =
    let inside = goes_in s r f a on.goals.0.some in
    let stop = halt_later s c q f a on.timed inside g b in
    let rest = opens_least s c up q (halted s c q f) r fs g a (timed_halt s c q f inside) on.goals.1 b in
    cond_both (is_before up q.floor f g) (next_open s c q g) (opens_at s c up (halted s c q f) fs g) (λ (n : ℕ). n ≤ opens_at s c up (halted s c q f) fs g)
    (λ e. omega (arith, stop, rest)) (λ e. omega arith)

-- where the car is, the route could not be later
opens_here : (s : Snapshot) (c : ℕ) (up : Bool) (q r : Progress) (fs : List ℕ) → IsOnRoute s c up q r fs → r.floor < floor_count s.building → r.begun ≡ true
    → opens_at s c up q fs r.floor ≤ r.opened
opens_here s c up q r [] on b begun =
    let low = on.later r.floor b in
    let here = next_here s c r r.floor begun refl in
    omega (arith, low, here)
opens_here s c up q r (f ∷ fs) on b begun =
    let low = on.later r.floor b in
    let here = next_here s c r r.floor begun refl in
    let way = ap (λ (x : Bool). cond x (next_open s c q r.floor) (opens_at s c up (halted s c q f) fs r.floor)) (within_tests up q.floor f r.floor on.place) in
    omega (arith, low, here, way)

-- The car is on the route, which can open its doors nowhere before these moments.
pub record Follows (s : Snapshot) (c : ℕ) (up : Bool) (b : ℕ → ℕ) (x : Course) : Type 0 where
  pub route : Progress
  pub ahead : List ℕ
  pub on : IsOnRoute s c up route (reached s c x) ahead
  pub low : (g : ℕ) → g < floor_count s.building → b g ≤ opens_at s c up route ahead g
  pub leg : has_leg s c (reached s c x) ≡ true

no_stop_ahead : (s : Snapshot) (c : ℕ) (up : Bool) (q p t : Progress) → IsNoLater s c p t → IsOnRoute s c up q p [] → IsOnRoute s c up q t []
no_stop_ahead s c up q p t later on = record { timed = on.timed; later = no_later_on s c q p t on.later later; place = tt; order = tt; goals = tt }

follows_on : (s : Snapshot) (c : ℕ) (up : Bool) (b : ℕ → ℕ) (q : Progress) (fs : List ℕ) (x : Course) (m : Move) (y : Course) → IsAccepted s → IsStanding s c x
    → has_leg s c (reached s c x) ≡ true → move_on s c x m ≡ Some y → IsOnRoute s c up q (reached s c x) fs
    → ((g : ℕ) → g < floor_count s.building → b g ≤ opens_at s c up q fs g) → Follows s c up b y
follows_on s c up b q [] x m y a h leg leads on low =
    record {
      route = q;
      ahead = [];
      on = no_stop_ahead s c up q (reached s c x) (reached s c y) (move_later s c x m y a h leg leads) on;
      low = low;
      leg =
          move_legs s c x m y h leg leads;
    }
follows_on s c up b q (f ∷ fs) x m y a h leg leads on low =
    let legs = move_legs s c x m y h leg leads in
    let lower : (g : ℕ) → g < floor_count s.building
    → b g ≤ opens_at s c up (halted s c q f) fs g =
    λ g lt. (let one = low g lt in let two = opens_later s c up q (reached s c x) f fs g a on lt in omega (arith, one, two)) in
    elim (route_moves s c up q f fs x m y a h leg leads on) [
      | inl next ↦ record { route = halted s c q f; ahead = fs; on = next; low = lower; leg = legs }
      | inr stays ↦ record { route = q; ahead = f ∷ fs; on = stays; low = low; leg = legs }
    ]

follows_move : (s : Snapshot) (c : ℕ) (up : Bool) (b : ℕ → ℕ) (x : Course) (m : Move) (y : Course) → IsAccepted s → IsStanding s c x → Follows s c up b x
    → move_on s c x m ≡ Some y → Follows s c up b y
follows_move s c up b x m y a h on leads = follows_on s c up b on.route on.ahead x m y a h on.leg leads on.on on.low

follows_here : (s : Snapshot) (c : ℕ) (up : Bool) (b : ℕ → ℕ) (x : Course) (g : ℕ) → g < floor_count s.building → Follows s c up b x
    → (reached s c x).begun ≡ true → (reached s c x).floor ≡ g → b g ≤ (reached s c x).opened
follows_here s c up b x g lt on begun floor =
    let r = reached s c x in
    let below : r.floor < floor_count s.building = omega (arith, floor, lt) in
    let low = on.low r.floor below in
    let here = opens_here s c up on.route r on.ahead on.on below begun in
    let same = ap b floor in
    omega (arith, low, here, same)

follows_first : (s : Snapshot) (c : ℕ) (up : Bool) (x : Course) → IsTimed s c (reached s c x)
    → Follows s c up (opens_at s c up (reached s c x) (forced_stops s up (reached s c x))) x
follows_first s c up x timed = record {
  route = reached s c x;
  ahead = forced_stops s up (reached s c x);
  on = route_begins s c up (reached s c x) timed;
  low = λ g b. omega arith;
  leg = timed.leg;
}

-- Who is carried gets off no sooner than on the forced route.
pub delivers_late : (s : Snapshot) (c r : ℕ) (up : Bool) (x : Course) (later : List Move) (z : Course) → IsAccepted s → r < rider_count s
    → destination_of s r < floor_count s.building → IsStanding s c x → IsTimed s c (reached s c x) → ((reached s c x).boarded r || is_aboard s c r) ≡ true
    → (reached s c x).carried r ≡ true → Completes s c x later z
    → opens_at s c up (reached s c x) (forced_stops s up (reached s c x)) (destination_of s r) ≤ (reached s c z).delivered_at r
delivers_late s c r up x later z a in_all to h timed known on goes =
    let b = opens_at s c up (reached s c x) (forced_stops s up (reached s c x)) in
    delivers_by s c r (Follows s c up b) (b (destination_of s r)) in_all (λ v m w standing p leads. follows_move s c up b v m w a standing p leads)
    (λ w p begun floor. follows_here s c up b w (destination_of s r) to p begun floor) x later z h (follows_first s c up x timed) known on goes

-- A call boards no sooner than the doors can be open at its floor.
boards_late : (s : Snapshot) (c j : ℕ) (up : Bool) (x : Course) (later : List Move) (z : Course) → IsAccepted s → j < call_count s → IsStanding s c x
    → IsTimed s c (reached s c x) → (reached s c x).boarded j ≡ false → (reached s c z).boarded j ≡ true → Completes s c x later z
    → Rode s c j (opens_at s c up (reached s c x) (forced_stops s up (reached s c x)) (call_of s j).origin) (reached s c z)
boards_late s c j up x later z a lt h timed old new goes =
    let b = opens_at s c up (reached s c x) (forced_stops s up (reached s c x)) in
    let origin = (call_of s j).origin in
    let inside = (a.calls j lt).origin in
    boards_by s c j (Follows s c up b) (b origin) a (λ v m w standing p leads. follows_move s c up b v m w a standing p leads)
    (λ v w standing next p at ends. let has = boarding_has s c j v w at in
    follows_here s c up b v origin inside p (ap (λ (t : Progress). t.begun) at.old) (has.before ∙ has.floor)) x later z h
    (follows_first s c up x timed) old new goes

-- ---- what may not be at the end

-- the tour may end there
may_end_at : (s : Snapshot) (c : ℕ) (x : Course) (y : Course) → move_on s c x End ≡ Some y → broken_at_end s c (reached s c x) ≡ None
may_end_at s c x y leads =
    let open_end = (cond-some x.ended _ y leads).0 in
    let parts = and_parts (may_leave s c x.before x.present) (may_end s c (reached s c x)) (sym (end_some s c x open_end) ∙ ap is_some leads) in
    none-from (broken_at_end s c (reached s c x)) parts.1

ends_empty : (s : Snapshot) (c : ℕ) (x : Course) (y : Course) → move_on s c x End ≡ Some y → (r : ℕ) → r < rider_count s → (reached s c x).carried r ≡ false
ends_empty s c x y leads r b =
    let none = nobody_carried (not (reached s c x).begun && not (is_idle (state_of s c))) (any_below (rider_count s) (reached s c x).carried)
    (may_end_at s c x y leads) in
    any_below-false (rider_count s) (reached s c x).carried r none b

first_stop : (begun idle carried : Bool) → cond (not begun && not idle) (Some FirstStop) (cond carried (Some Delivery) None) ≡ None → begun ≡ false
    → idle ≡ false → ⊥
first_stop false false carried h e f = absurd (cc)
first_stop true idle carried h e f = false≢true (sym e)
first_stop false true carried h e f = false≢true (sym f)

-- a car that is coming stops before it ends
pub ends_first : (s : Snapshot) (c : ℕ) (x : Course) (y : Course) → move_on s c x End ≡ Some y → (reached s c x).begun ≡ false → is_idle (state_of s c) ≡ false
    → ⊥
ends_first s c x y leads begun idle =
    first_stop (reached s c x).begun (is_idle (state_of s c)) (any_below (rider_count s) (reached s c x).carried) (may_end_at s c x y leads) begun idle

-- no leg leads on both to a floor ahead and to one behind
stands_still : (up : Bool) (r f d g : ℕ) → IsBeyond up r f → IsBeyond up d r → IsOnWay r g f → IsOnWay r g d → g ≡ r
stands_still true r f d g ahead behind to back =
    elim (cases_Bool (ltb r g)) [
      | inl e ↦ absurd (let lt = ltb-true r g e in let le = back.up lt in omega (arith, lt, le, behind))
      | inr e ↦ (let ge = ltb-false r g e in elim (eq-or-lt_of_le ge) [
        | inl same ↦ same
        | inr less ↦ absurd (let le = to.down less in omega (arith, less, le, ahead))
      ])
    ]
stands_still false r f d g ahead behind to back =
    elim (cases_Bool (ltb r g)) [
      | inl e ↦ absurd (let lt = ltb-true r g e in let le = to.up lt in omega (arith, lt, le, ahead))
      | inr e ↦ (let ge = ltb-false r g e in elim (eq-or-lt_of_le ge) [
        | inl same ↦ same
        | inr less ↦ absurd (let le = back.down less in omega (arith, less, le, behind))
      ])
    ]

-- A car that has stopped carries someone who goes ahead, and someone who goes back.
pub record GoesBothWays (s : Snapshot) (c : ℕ) (up : Bool) (f d : ℕ) (x : Course) : Type 0 where
  pub begun : (reached s c x).begun ≡ true
  pub open_end : x.ended ≡ false
  pub ahead : IsBeyond up (reached s c x).floor f
  pub behind : IsBeyond up d (reached s c x).floor
  pub goes_ahead : any_goes_to s (reached s c x) f ≡ true
  pub goes_back : any_goes_to s (reached s c x) d ≡ true

-- No tour goes on from there.
pub both_ways_ends : (s : Snapshot) (c : ℕ) (up : Bool) (f d : ℕ) (x : Course) (later : List Move) (z : Course) → IsStanding s c x → GoesBothWays s c up f d x
    → moves_on s c (Some x) later ≡ Some z → z.ended ≡ true → ⊥
both_ways_ends s c up f d x [] z h both leads ended =
    let same : x ≡ z = cc in
    both_ways x.ended both.open_end (ap (λ (w : Course). w.ended) same ∙ ended)
both_ways_ends s c up f d x (Leave g ∷ later) z h both leads ended =
    let r = reached s c x in
    let one = leads_on s c x (Leave g) later z leads in
    let stands = stands_empty s c r g (leave_leads_to s c x g one.next one.first).1 in
    let leg : has_leg s c r ≡ true = or_left r.begun _ both.begun in
    elsewhere s c r g both.begun stands
    (stands_still up r.floor f d g both.ahead both.behind (on_way s c r g f leg stands both.goes_ahead) (on_way s c r g d leg stands both.goes_back))
both_ways_ends s c up f d x (Board i ∷ later) z h both leads ended =
    let one = leads_on s c x (Board i) later z leads in
    let at = boarding s c x i one.next h one.first in
    let stays = boarding_stays s c i x one.next at in
    let p = reached s c x in
    let t = reached s c one.next in
    both_ways_ends s c up f d one.next later z (standing_move s c x (Board i) one.next h one.first)
    (record {
      begun = stays.begun
          ∙ both.begun;
      open_end = at.open_end;
      ahead = subst (λ (k : ℕ). IsBeyond up k f) (sym stays.floor) both.ahead;
      behind =
          subst (λ (k : ℕ). IsBeyond up d k) (sym stays.floor) both.behind;
      goes_ahead = goes_on s p t f stays.carried both.goes_ahead;
      goes_back =
          goes_on s p t d stays.carried both.goes_back;
    }) one.later ended
both_ways_ends s c up f d x (End ∷ later) z h both leads ended =
    let one = leads_on s c x End later z leads in
    let who = goer s (reached s c x) f both.goes_ahead in
    both_ways ((reached s c x).carried who.rider) (ends_empty s c x one.next one.first who.rider who.below) who.carried

-- ---- calls that cannot board on the way

-- no forced stop is ahead, and the doors can be open at floor g no sooner than at the moment b
pub record HasPassed (s : Snapshot) (c b g : ℕ) (x : Course) : Type 0 where
  pub low : b ≤ next_open s c (reached s c x) g
  pub leg : has_leg s c (reached s c x) ≡ true

-- a forced stop is ahead, and after the last one the doors can be open at floor g no sooner than at the
-- moment b
pub record HasAhead (s : Snapshot) (c : ℕ) (up : Bool) (b g : ℕ) (x : Course) : Type 0 where
  pub route : Progress
  pub next : ℕ
  pub ahead : List ℕ
  pub on : IsOnRoute s c up route (reached s c x) (next ∷ ahead)
  pub low : b ≤ next_open s c (route_end s c route (next ∷ ahead)) g
  pub leg : has_leg s c (reached s c x) ≡ true

passed_on : (s : Snapshot) (c b g : ℕ) (x : Course) (m : Move) (y : Course) → IsAccepted s → g < floor_count s.building → IsStanding s c x
    → HasPassed s c b g x → move_on s c x m ≡ Some y → HasPassed s c b g y
passed_on s c b g x m y a lt h passed leads =
    let low = passed.low in
    let later = move_later s c x m y a h passed.leg leads g lt in
    record { low = omega (arith, low, later); leg = move_legs s c x m y h passed.leg leads }

next_ahead : (s : Snapshot) (c : ℕ) (up : Bool) (b g : ℕ) (q : Progress) (fs : List ℕ) (y : Course) → g < floor_count s.building
    → IsOnRoute s c up q (reached s c y) fs → b ≤ next_open s c (route_end s c q fs) g → has_leg s c (reached s c y) ≡ true → HasPassed s c b g y
    ⊎ HasAhead s c up b g y
next_ahead s c up b g q [] y lt on low leg =
    let later = on.later g lt in
    inl (record { low = omega (arith, low, later); leg = leg })
next_ahead s c up b g q (f ∷ fs) y lt on low leg = inr (record { route = q; next = f; ahead = fs; on = on; low = low; leg = leg })

ahead_on : (s : Snapshot) (c : ℕ) (up : Bool) (b g : ℕ) (x : Course) (m : Move) (y : Course) → IsAccepted s → g < floor_count s.building → IsStanding s c x
    → HasAhead s c up b g x → move_on s c x m ≡ Some y → HasPassed s c b g y ⊎ HasAhead s c up b g y
ahead_on s c up b g x m y a lt h at leads =
    let leg = move_legs s c x m y h at.leg leads in
    elim (route_moves s c up at.route at.next at.ahead x m y a h at.leg leads at.on) [
      | inl next ↦ next_ahead s c up b g (halted s c at.route at.next) at.ahead y lt next at.low leg
      | inr stays ↦ inr (record { route = at.route; next = at.next; ahead = at.ahead; on = stays; low = at.low; leg = leg })
    ]

passed_here : (s : Snapshot) (c j b : ℕ) (x y : Course) → HasPassed s c b (call_of s j).origin x → Boarding s c j x y → b ≤ (reached s c x).opened
passed_here s c j b x y passed at =
    let has = boarding_has s c j x y at in
    let low = passed.low in
    let here = next_here s c (reached s c x) (call_of s j).origin (ap (λ (t : Progress). t.begun) at.old) (sym (has.before ∙ has.floor)) in
    omega (arith, low, here)

-- ---- a call that goes the other way

-- its destination lies behind its origin
behind_origin : (up : Bool) (origin destination : ℕ) → (origin ≡ destination → ⊥) → same_direction up (ltb origin destination) ≡ false
    → IsBeyond up destination origin
behind_origin true origin destination ne opposite =
    let le = ltb-false origin destination opposite in
    elim (eq-or-lt_of_le le) [ inl same ↦ absurd (ne (sym same)) | inr less ↦ less ]
behind_origin false origin destination ne opposite = ltb-true origin destination (not-false (ltb origin destination) opposite)

pub turns_back : (s : Snapshot) (c j : ℕ) (up : Bool) (b : ℕ) (x y : Course) → IsAccepted s → IsStanding s c y
    → same_direction up (is_upward (call_of s j)) ≡ false → HasAhead s c up b (call_of s j).origin x → Boarding s c j x y → CanEnd s c y → ⊥
turns_back s c j up b x y a h opposite at now ends =
    let has = boarding_has s c j x y now in
    let stays = boarding_stays s c j x y now in
    let call = a.calls j has.call in
    let p = reached s c x in
    let t = reached s c y in
    let in_all : j < rider_count s = let lt = has.call in omega (arith, lt) in
    let back = behind_origin up (call_of s j).origin (call_of s j).destination call.travels opposite in
    both_ways_ends s c up at.next (call_of s j).destination y ends.later ends.last h
    (record {
      begun = has.begun;
      open_end = now.open_end;
      ahead =
          subst (λ (k : ℕ). IsBeyond up k at.next) has.before (within_below up at.route.floor at.next p.floor at.on.place);
      behind =
          subst (λ (k : ℕ). IsBeyond up (call_of s j).destination k) (sym has.floor) back;
      goes_ahead =
          goes_on s p t at.next stays.carried at.on.goals.0.some;
      goes_back =
          goes s t (call_of s j).destination (record { rider = j; below = in_all; carried = has.carried; to = destination_of-call s j has.call });
    })
    ends.completes.leads ends.completes.ended

-- the car has passed the forced stops, or has some ahead
abbrev IsUnderWay : Snapshot → ℕ → (up : Bool) → (b g : ℕ) → Course → Type 0
IsUnderWay s c up b g x = HasPassed s c b g x ⊎ HasAhead s c up b g x

under_way_on : (s : Snapshot) (c : ℕ) (up : Bool) (b g : ℕ) (x : Course) (m : Move) (y : Course) → IsAccepted s → g < floor_count s.building → IsStanding s c x
    → IsUnderWay s c up b g x → move_on s c x m ≡ Some y → IsUnderWay s c up b g y
under_way_on s c up b g x m y a lt h at leads =
    elim at [ inl passed ↦ inl (passed_on s c b g x m y a lt h passed leads) | inr ahead ↦ ahead_on s c up b g x m y a lt h ahead leads ]

opposite_here : (s : Snapshot) (c j : ℕ) (up : Bool) (b : ℕ) (x y : Course) → IsAccepted s → IsStanding s c y
    → same_direction up (is_upward (call_of s j)) ≡ false → IsUnderWay s c up b (call_of s j).origin x → Boarding s c j x y → CanEnd s c y
    → b ≤ (reached s c x).opened
opposite_here s c j up b x y a h opposite at now ends =
    elim at [ inl passed ↦ passed_here s c j b x y passed now | inr ahead ↦ absurd (turns_back s c j up b x y a h opposite ahead now ends) ]

-- the earliest moment at which a call can board that cannot board on the way
abbrev pub boards_last : Snapshot → ℕ → (up : Bool) → Progress → ℕ → ℕ
boards_last s c up p j = next_open s c (route_end s c p (forced_stops s up p)) (call_of s j).origin

begins_under_way : (s : Snapshot) (c : ℕ) (up : Bool) (g : ℕ) (x : Course) → IsTimed s c (reached s c x) → g < floor_count s.building
    → IsUnderWay s c up (next_open s c (route_end s c (reached s c x) (forced_stops s up (reached s c x))) g) g x
begins_under_way s c up g x timed lt =
    next_ahead s c up _ g (reached s c x) (forced_stops s up (reached s c x)) x lt (route_begins s c up (reached s c x) timed) (omega arith) timed.leg

boards_opposite : (s : Snapshot) (c j : ℕ) (up : Bool) (x : Course) (later : List Move) (z : Course) → IsAccepted s → j < call_count s → IsStanding s c x
    → IsTimed s c (reached s c x) → same_direction up (is_upward (call_of s j)) ≡ false → (reached s c x).boarded j ≡ false → (reached s c z).boarded j ≡ true
    → Completes s c x later z → Rode s c j (boards_last s c up (reached s c x) j) (reached s c z)
boards_opposite s c j up x later z a lt h timed opposite old new goes =
    let b = boards_last s c up (reached s c x) j in
    let origin = (call_of s j).origin in
    let inside = (a.calls j lt).origin in
    boards_by s c j (IsUnderWay s c up b origin) b a (λ v m w standing p leads. under_way_on s c up b origin v m w a inside standing p leads)
    (λ v w standing next p now ends. opposite_here s c j up b v w a next opposite p now ends) x later z h
    (begins_under_way s c up origin x timed inside) old new goes

-- ---- a call whose turn has passed at the present stop

-- the car is still at the stop, where a later index has boarded
pub record IsHeld (s : Snapshot) (c j : ℕ) (x : Course) : Type 0 where
  pub begun : (reached s c x).begun ≡ true
  pub floor : (reached s c x).floor ≡ (call_of s j).origin
  pub shut : may_still_board x j ≡ false

-- it is still there, or beyond
abbrev IsShut : Snapshot → ℕ → (up : Bool) → ℕ → Course → Type 0
IsShut s c up j x = IsBeyond up (call_of s j).origin (reached s c x).floor ⊎ IsHeld s c j x

shut_leaves : (s : Snapshot) (c : ℕ) (up : Bool) (b j : ℕ) (x : Course) (g : ℕ) (y : Course) → HasAhead s c up b (call_of s j).origin x
    → move_on s c x (Leave g) ≡ Some y → IsShut s c up j x → IsBeyond up (call_of s j).origin g
shut_leaves s c up b j x g y at leads shut =
    let r = reached s c x in
    let stands = stands_empty s c r g (leave_leads_to s c x g y leads).1 in
    let way = on_way s c r g at.next at.leg stands at.on.goals.0.some in
    let forth = leg_forth up at.route.floor at.next r.floor g at.on.place way in
    elim shut [
      | inl past ↦ elim (cases_Bool (eqb g r.floor)) [
        | inl e ↦ subst (λ (k : ℕ). IsBeyond up (call_of s j).origin k) (sym (eqb-true g r.floor e)) past
        | inr e ↦ beyond_on up (call_of s j).origin r.floor g past (forth (eqb-false g r.floor e))
      ]
      | inr held ↦ subst (λ (k : ℕ). IsBeyond up k g) held.floor (forth (elsewhere s c r g held.begun stands))
    ]

pub all_more : (p : ℕ → Bool) (xs : List ℕ) (i : ℕ) → list_all p xs ≡ false → list_all p (xs ++ i ∷ []) ≡ false
all_more p [] i h = absurd (false≢true (sym h))
all_more p (x ∷ xs) i h =
    elim (and_cases (p x) (list_all p xs) h) [
      | inl e ↦ and_left (p x) (list_all p (xs ++ i ∷ [])) e
      | inr e ↦ and_right (p x) (list_all p (xs ++ i ∷ [])) (all_more p xs i e)
    ]

held_board : (s : Snapshot) (c j i : ℕ) (x y : Course) → Boarding s c i x y → IsHeld s c j x → IsHeld s c j y
held_board s c j i x y at held =
    let stays = boarding_stays s c i x y at in
    let test : (o : Option Stop) → Bool = λ o. list_all (λ k. ltb k j) (boards_of o) in
    record {
      begun = stays.begun ∙ held.begun;
      floor = stays.floor ∙ held.floor;
      shut = ap test at.now ∙ all_more (λ k. ltb k j) at.stop.boards i (sym (ap test at.present) ∙ held.shut);
    }

shut_on : (s : Snapshot) (c : ℕ) (up : Bool) (b j : ℕ) (x : Course) (m : Move) (y : Course) → IsStanding s c x → HasAhead s c up b (call_of s j).origin x
    → move_on s c x m ≡ Some y → IsShut s c up j x → IsShut s c up j y
shut_on s c up b j x (Leave g) y h at leads shut =
    inl (subst (λ (r : Progress). IsBeyond up (call_of s j).origin r.floor) (sym (leaving s c x g y leads)) (shut_leaves s c up b j x g y at leads shut))
shut_on s c up b j x (Board i) y h at leads shut =
    let now = boarding s c x i y h leads in
    elim shut [
      | inl past ↦ inl (subst (λ (k : ℕ). IsBeyond up (call_of s j).origin k) (sym (boarding_stays s c i x y now).floor) past)
      | inr held ↦ inr (held_board s c j i x y now held)
    ]
shut_on s c up b j x End y h at leads shut =
    let who = goer s (reached s c x) at.next at.on.goals.0.some in
    absurd (both_ways ((reached s c x).carried who.rider) (ends_empty s c x y leads who.rider who.below) who.carried)

pub record IsShutOut (s : Snapshot) (c : ℕ) (up : Bool) (b j : ℕ) (x : Course) : Type 0 where
  pub ahead : HasAhead s c up b (call_of s j).origin x
  pub shut : IsShut s c up j x

abbrev IsPassedBy : Snapshot → ℕ → (up : Bool) → (b j : ℕ) → Course → Type 0
IsPassedBy s c up b j x = HasPassed s c b (call_of s j).origin x ⊎ IsShutOut s c up b j x

passed_by_on : (s : Snapshot) (c : ℕ) (up : Bool) (b j : ℕ) (x : Course) (m : Move) (y : Course) → IsAccepted s → (call_of s j).origin < floor_count s.building
    → IsStanding s c x → IsPassedBy s c up b j x → move_on s c x m ≡ Some y → IsPassedBy s c up b j y
passed_by_on s c up b j x m y a lt h at leads =
    elim at [
      | inl passed ↦ inl (passed_on s c b (call_of s j).origin x m y a lt h passed leads)
      | inr out ↦ elim (ahead_on s c up b (call_of s j).origin x m y a lt h out.ahead leads) [
        | inl passed ↦ inl passed
        | inr ahead ↦ inr (record { ahead = ahead; shut = shut_on s c up b j x m y h out.ahead leads out.shut })
      ]
    ]

-- it cannot board there
shut_boards : (s : Snapshot) (c j : ℕ) (up : Bool) (x y : Course) → IsShut s c up j x → Boarding s c j x y → ⊥
shut_boards s c j up x y shut at =
    let has = boarding_has s c j x y at in
    elim shut [
      | inl past ↦ beyond_apart up (call_of s j).origin (reached s c x).floor past (has.before ∙ has.floor)
      | inr held ↦ both_ways (may_still_board x j) held.shut (ap (λ (o : Option Stop). list_all (λ k. ltb k j) (boards_of o)) at.present ∙ at.rises)
    ]

passed_by_here : (s : Snapshot) (c j : ℕ) (up : Bool) (b : ℕ) (x y : Course) → IsPassedBy s c up b j x → Boarding s c j x y → b ≤ (reached s c x).opened
passed_by_here s c j up b x y at now =
    elim at [ inl passed ↦ passed_here s c j b x y passed now | inr out ↦ absurd (shut_boards s c j up x y out.shut now) ]

pub has_stopped : (s : Snapshot) (c j : ℕ) (before : Progress) (present : Option Stop) → list_all (λ k. ltb k j) (boards_of present) ≡ false
    → (progress_after s c before present).begun ≡ true
has_stopped s c j before None h = absurd (false≢true (sym h))
has_stopped s c j before (Some stop) h = refl

boards_shut : (s : Snapshot) (c j : ℕ) (up : Bool) (x : Course) (later : List Move) (z : Course) → IsAccepted s → j < call_count s → IsStanding s c x
    → IsTimed s c (reached s c x) → (call_of s j).origin ≡ (reached s c x).floor → may_still_board x j ≡ false → (reached s c x).boarded j ≡ false
    → (reached s c z).boarded j ≡ true → Completes s c x later z → Rode s c j (boards_last s c up (reached s c x) j) (reached s c z)
boards_shut s c j up x later z a lt h timed floor shut old new goes =
    let b = boards_last s c up (reached s c x) j in
    let origin = (call_of s j).origin in
    let inside = (a.calls j lt).origin in
    let held : IsHeld s c j x = record { begun = has_stopped s c j x.before x.present shut; floor = sym floor; shut = shut } in
    let begins : IsPassedBy s c up b j x = elim (begins_under_way s c up origin x timed inside) [
      | inl passed ↦ inl passed
      | inr ahead ↦ inr (record { ahead = ahead; shut = inr held })
    ] in
    boards_by s c j (IsPassedBy s c up b j) b a (λ v m w standing p leads. passed_by_on s c up b j v m w a inside standing p leads)
    (λ v w standing next p now ends. passed_by_here s c j up b v w p now) x later z h begins old new goes

-- ---- any call

-- No call boards sooner than the forced route lets it.
pub call_rides : (s : Snapshot) (c j : ℕ) (up : Bool) (x : Course) (later : List Move) (z : Course) → IsAccepted s → j < call_count s → IsStanding s c x
    → IsTimed s c (reached s c x) → (reached s c x).boarded j ≡ false → (reached s c z).boarded j ≡ true → Completes s c x later z
    → Rode s c j (boards_from s c up (reached s c x) (forced_stops s up (reached s c x)) (may_still_board x) j) (reached s c z)
call_rides s c j up x later z a lt h timed old new goes =
    let p = reached s c x in
    let fs = forced_stops s up p in
    let same_way = same_direction up (is_upward (call_of s j)) in
    let turn = not (eqb (call_of s j).origin p.floor) || may_still_board x j in
    cond_both (rides_along s up p (may_still_board x) j) (opens_at s c up p fs (call_of s j).origin) (boards_last s c up p j)
    (λ (b : ℕ). Rode s c j b (reached s c z)) (λ e. boards_late s c j up x later z a lt h timed old new goes) (λ e. elim (and_cases same_way turn e) [
      | inl opposite ↦ boards_opposite s c j up x later z a lt h timed opposite old new goes
      | inr over ↦ (let parts = or_parts (not (eqb (call_of s j).origin p.floor)) (may_still_board x j) over in
          boards_shut s c j up x later z a lt h timed
          (eqb-true (call_of s j).origin p.floor (not-false (eqb (call_of s j).origin p.floor) parts.0)) parts.1 old new goes)
    ])
