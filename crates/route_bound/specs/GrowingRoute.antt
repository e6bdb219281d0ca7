-- Where some tour goes on, no call boards sooner after a move: a car that goes along its own forced stops goes over those
-- of a shorter partial tour, and is at no floor sooner than on the route of that.
use Rattle.std.proofs.Common.{◌≡◌, ℕ, zero, suc, ◌+◌, ◌-◌, ◌<◌, ◌≤◌, ◌⊎◌, Bool, true, false, cond, not, ◌&&◌, ◌||◌, eqb, leb, ltb, List, [], ◌∷◌, refl, sym, ap}
use Rattle.std.proofs.Common.{◌∙◌, subst, inl, inr, arith, Option, Some}
use Rattle.std.specs.List.{list_all}
use Rattle.std.proofs.lemmas.Bool.{and_left, and_parts, both_ways, cases_Bool, cond_both, eq-eqb, eqb-true, false≢true, leb-true, ltb-true, not-false}
use Rattle.std.proofs.lemmas.Bool.{not_from_true, or_from, or_cases, or_left, or_parts, or_right, false_from_ne_true}
use Rattle.std.proofs.Math.Nat.{eq-or-lt_of_le}
use Rattle.call_sets.specs.Counting.{is_among}
use Rattle.elevator_model.specs.declared.Stop.{Stop}
use Rattle.elevator_model.specs.declared.Move.{Move}
use Rattle.elevator_model.specs.declared.Move.TheVariants.{Board, Leave, End}
use Rattle.elevator_model.specs.Building.{floor_count}
use Rattle.elevator_model.specs.Snapshot.{Snapshot, IsAccepted, call_count, call_of}
use Rattle.elevator_model.specs.Tours.{Progress, has_leg, is_upward, same_direction}
use Rattle.elevator_model.specs.Partial.{Course, move_on, moves_on}
use Rattle.search_model.specs.Extending.{any_above}
use Rattle.partial_tours.specs.Courses.{IsOnWay, any_goes_to, boards_of, reached}
use Rattle.partial_tours.proofs.Follow.{ending_leads_to, leave_leads_to}
use Rattle.partial_tours.proofs.Next.{stands_empty}
use Rattle.pricing_bound.specs.Standing.{IsStanding, standing_move}
use Rattle.route_bound.specs.ForcedRoute.{boards_from, floors_down, floors_up, forced_stops, halted, is_before, may_still_board, next_open, opens_at}
use Rattle.route_bound.specs.ForcedRoute.{rides_along, route_end, route_start}
use Rattle.route_bound.specs.LowerRoute.{first_stop}
use Rattle.route_bound.specs.Turns.{boards_first}
use Rattle.route_bound.specs.Moves.{IsTimed, boarding, boarding_stays, halt_later, leaving, move_later, move_legs, timed_halt, timed_reached}
use Rattle.route_bound.specs.Completions.{CanEnd}
use Rattle.route_bound.specs.OnRoute.{AreBeyond, AreGoals, IsBeyond, IsOnRoute, IsWithin, beyond_apart, beyond_on, elsewhere, goes_in, leg_forth, on_way}
use Rattle.route_bound.specs.OnRoute.{route_begins, route_moves, route_steps, stops_goals, stops_order, within_below, within_start, within_tests}
use Rattle.route_bound.specs.RouteTimes.{all_more, both_ways_ends, has_stopped, opens_later, opens_least}
use Rattle.route_bound.specs.RouteSteps.{above_from, above_to, goes_same}

-- ---- the end of a route

-- the end of the route is no sooner than any of it
pub end_least : (s : Snapshot) (c : ℕ) (t r p : Progress) (fs : List ℕ) (g : ℕ) → IsAccepted s → IsTimed s c p → AreGoals s t r fs → g < floor_count s.building
    → next_open s c p g ≤ next_open s c (route_end s c p fs) g
end_least s c t r p [] g a timed goals b = omega arith
end_least s c t r p (f ∷ fs) g a timed goals b =
    let inside = goes_in s r f a goals.0.some in
    let stop = halt_later s c p f a timed inside g b in
    let rest = end_least s c t r (halted s c p f) fs g a (timed_halt s c p f inside) goals.1 b in
    omega (arith, stop, rest)

pub opens_most : (s : Snapshot) (c : ℕ) (up : Bool) (t r p : Progress) (fs : List ℕ) (g : ℕ) → IsAccepted s → IsTimed s c p → AreGoals s t r fs
    → g < floor_count s.building → opens_at s c up p fs g ≤ next_open s c (route_end s c p fs) g
opens_most s c up t r p [] g a timed goals b = omega arith
opens_most s c up t r p (f ∷ fs) g a timed goals b =
    let inside = goes_in s r f a goals.0.some in
    let whole = end_least s c t r p (f ∷ fs) g a timed goals b in
    let rest = opens_most s c up t r (halted s c p f) fs g a (timed_halt s c p f inside) goals.1 b in
    cond_both (is_before up p.floor f g) (next_open s c p g) (opens_at s c up (halted s c p f) fs g)
    (λ (n : ℕ). n ≤ next_open s c (route_end s c (halted s c p f) fs) g) (λ e. whole) (λ e. rest)

-- a floor behind the car is reached after the last forced stop
not_before : (up : Bool) (from to g : ℕ) → IsBeyond up g from → is_before up from to g ≡ false
not_before true from to g h = and_left (leb from g) (ltb g to) (false_from_ne_true (leb from g) (λ e. let le = leb-true from g e in omega (arith, h, le)))
not_before false from to g h = and_left (leb g from) (ltb to g) (false_from_ne_true (leb g from) (λ e. let le = leb-true g from e in omega (arith, h, le)))

pub opens_behind : (s : Snapshot) (c : ℕ) (up : Bool) (p : Progress) (fs : List ℕ) (g : ℕ) → AreBeyond up p.floor fs → IsBeyond up g p.floor
    → opens_at s c up p fs g ≡ next_open s c (route_end s c p fs) g
opens_behind s c up p [] g order behind = refl
opens_behind s c up p (f ∷ fs) g order behind =
    ap (λ (b : Bool). cond b (next_open s c p g) (opens_at s c up (halted s c p f) fs g)) (not_before up p.floor f g behind)
    ∙ opens_behind s c up (halted s c p f) fs g order.1 (beyond_on up g p.floor f behind order.0)

-- ---- a list with every stop ahead

-- each floor ahead to which someone goes is in the list
abbrev pub HasAllAhead : Snapshot → (up : Bool) → Progress → List ℕ → Type 0
HasAllAhead s up p fs = (d : ℕ) → IsBeyond up p.floor d → any_goes_to s p d ≡ true → is_among d fs ≡ true

up_has : (from n d : ℕ) (test : ℕ → Bool) → from ≤ d → d < from + n → test d ≡ true → is_among d (floors_up from n test) ≡ true
up_has from zero d test le lt here = absurd (omega (arith, le, lt))
up_has from (suc n) d test le lt here =
    elim (eq-or-lt_of_le le) [
      | inl same ↦ ap (λ (b : Bool). is_among d (cond b (from ∷ floors_up (from + 1) n test) (floors_up (from + 1) n test))) (ap test same ∙ here)
          ∙ or_left (eqb from d) (is_among d (floors_up (from + 1) n test)) (eq-eqb from d same)
      | inr less ↦ (let rest = up_has (from + 1) n d test (omega (arith, less)) (omega (arith, lt)) here in
          cond_both (test from) (from ∷ floors_up (from + 1) n test) (floors_up (from + 1) n test) (λ (fs : List ℕ). is_among d fs ≡ true)
          (λ e. or_right (eqb from d) (is_among d (floors_up (from + 1) n test)) rest) (λ e. rest))
    ]

down_has : (n d : ℕ) (test : ℕ → Bool) → d < n → test d ≡ true → is_among d (floors_down n test) ≡ true
down_has zero d test lt here = absurd (omega (arith, lt))
down_has (suc n) d test lt here =
    let le : d ≤ n = omega (arith, lt) in
    elim (eq-or-lt_of_le le) [
      | inl same ↦ ap (λ (b : Bool). is_among d (cond b (n ∷ floors_down n test) (floors_down n test))) (ap test (sym same) ∙ here)
          ∙ or_left (eqb n d) (is_among d (floors_down n test)) (eq-eqb n d (sym same))
      | inr less ↦ (let rest = down_has n d test less here in
          cond_both (test n) (n ∷ floors_down n test) (floors_down n test) (λ (fs : List ℕ). is_among d fs ≡ true)
          (λ e. or_right (eqb n d) (is_among d (floors_down n test)) rest) (λ e. rest))
    ]

pub stops_all : (s : Snapshot) (up : Bool) (p : Progress) → IsAccepted s → HasAllAhead s up p (forced_stops s up p)
stops_all s true p a d ahead here =
    let inside = goes_in s p d a here in
    up_has (p.floor + 1) (floor_count s.building - (p.floor + 1)) d (any_goes_to s p) (omega (arith, ahead)) (omega (arith, ahead, inside)) here
stops_all s false p a d ahead here = down_has p.floor d (any_goes_to s p) ahead here

all_next : (s : Snapshot) (c : ℕ) (up : Bool) (p : Progress) (f : ℕ) (fs : List ℕ) → IsBeyond up p.floor f → HasAllAhead s up p (f ∷ fs)
    → HasAllAhead s up (halted s c p f) fs
all_next s c up p f fs first all d ahead here =
    let ne = beyond_apart up f d ahead in
    let was = all d (beyond_on up p.floor f d first ahead) (sym (goes_same s c p f d ne) ∙ here) in
    elim (or_cases (eqb f d) (is_among d fs) was) [ inl e ↦ absurd (ne (sym (eqb-true f d e))) | inr e ↦ e ]

-- a floor of the list is its first or lies beyond
among_beyond : (up : Bool) (f : ℕ) (fs : List ℕ) (d : ℕ) → AreBeyond up f fs → is_among d fs ≡ true → IsBeyond up f d
among_beyond up f [] d order h = absurd (false≢true h)
among_beyond up f (g ∷ fs) d order h =
    elim (or_cases (eqb g d) (is_among d fs) h) [
      | inl e ↦ subst (λ (k : ℕ). IsBeyond up f k) (eqb-true g d e) order.0
      | inr e ↦ beyond_on up f g d order.0 (among_beyond up g fs d order.1 e)
    ]

-- to the nearest of the stops ahead no leg leads past one of them
nearest_way : (up : Bool) (r h f : ℕ) → IsBeyond up r h → (f ≡ h) ⊎ IsBeyond up h f → IsOnWay r h f
nearest_way true r h f ahead far = record {
  up = λ lt. elim far [
    | inl e ↦ omega (arith, e)
    | inr b ↦ omega (arith, b)
  ];
  down = λ lt. absurd (omega (arith, lt, ahead));
}
nearest_way false r h f ahead far = record {
  up = λ lt. absurd (omega (arith, lt, ahead));
  down = λ lt. elim far [
    | inl e ↦ omega (arith, e)
    | inr b ↦ omega (arith, b)
  ];
}

first_or_beyond : (up : Bool) (r h : ℕ) (hs : List ℕ) (f : ℕ) → AreBeyond up r (h ∷ hs) → is_among f (h ∷ hs) ≡ true → (f ≡ h) ⊎ IsBeyond up h f
first_or_beyond up r h hs f order listed =
    elim (or_cases (eqb h f) (is_among f hs) listed) [ inl e ↦ inl (sym (eqb-true h f e)) | inr e ↦ inr (among_beyond up h hs f order.1 e) ]

-- ---- the route of the longer one beside that of the shorter one

-- The car at r goes along its own forced stops.
pub record GoesAlong (s : Snapshot) (c : ℕ) (up : Bool) (r : Progress) (hs : List ℕ) : Type 0 where
  pub timed : IsTimed s c r
  pub order : AreBeyond up r.floor hs
  pub goals : AreGoals s r r hs
  pub all : HasAllAhead s up r hs

own_goals : (s : Snapshot) (c : ℕ) (up : Bool) (r : Progress) (h g : ℕ) (hs : List ℕ) → AreBeyond up g hs → ((k : ℕ) → IsBeyond up g k → k ≡ h → ⊥)
    → AreGoals s r r hs → AreGoals s (halted s c r h) (halted s c r h) hs
own_goals s c up r h g [] order apart goals = tt
own_goals s c up r h g (k ∷ hs) order apart goals = (
  record { some = goes_same s c r h k (apart k order.0) ∙ goals.0.some; all = λ u e. e },
  own_goals s c up r h k hs order.1 (λ i beyond. apart i (beyond_on up g k i order.0 beyond)) goals.1,
)

along_next : (s : Snapshot) (c : ℕ) (up : Bool) (r : Progress) (h : ℕ) (hs : List ℕ) → IsAccepted s → GoesAlong s c up r (h ∷ hs)
    → GoesAlong s c up (halted s c r h) hs
along_next s c up r h hs a on = record {
  timed = timed_halt s c r h (goes_in s r h a on.goals.0.some);
  order = on.order.1;
  goals = own_goals s c up r h h hs on.order.1 (beyond_apart up h) on.goals.1;
  all = all_next s c up r h hs on.order.0 on.all;
}

-- what is told of the route of the shorter one: its end, and the moments on the way
pub record IsSooner (s : Snapshot) (c : ℕ) (up : Bool) (q : Progress) (fs : List ℕ) (r : Progress) (hs : List ℕ) (g : ℕ) : Type 0 where
  pub ends : next_open s c (route_end s c q fs) g ≤ next_open s c (route_end s c r hs) g
  pub opens : opens_at s c up q fs g ≤ opens_at s c up r hs g

-- no forced stop of the shorter one is left
sooner_done : (s : Snapshot) (c : ℕ) (up : Bool) (q r : Progress) (hs : List ℕ) (g : ℕ) → IsAccepted s → GoesAlong s c up r hs → IsOnRoute s c up q r []
    → g < floor_count s.building → IsSooner s c up q [] r hs g
sooner_done s c up q r hs g a along on b =
    let low = on.later g b in
    let ends = end_least s c r r r hs g a along.timed along.goals b in
    let opens = opens_least s c up r r r hs g a along.timed along.goals b in
    record { ends = omega (arith, low, ends); opens = omega (arith, low, opens) }

within_wide : (up : Bool) (from to r h g : ℕ) → IsWithin up from to r → (to ≡ h) ⊎ IsBeyond up h to → is_before up r h g ≡ true → IsWithin up from to g
within_wide true from to r h g w far e =
    let parts = and_parts (leb r g) (ltb g h) e in
    let low = leb-true r g parts.0 in
    let high = ltb-true g h parts.1 in
    let from_low = w.0 in
    (omega (arith, low, from_low), elim far [ inl same ↦ omega (arith, high, same) | inr beyond ↦ omega (arith, high, beyond) ])
within_wide false from to r h g w far e =
    let parts = and_parts (leb g r) (ltb h g) e in
    let low = leb-true g r parts.0 in
    let high = ltb-true h g parts.1 in
    let from_low = w.0 in
    (omega (arith, low, from_low), elim far [ inl same ↦ omega (arith, high, same) | inr beyond ↦ omega (arith, high, beyond) ])

sooner : (s : Snapshot) (c : ℕ) (up : Bool) (q : Progress) (fs : List ℕ) (r : Progress) (hs : List ℕ) (g : ℕ) → IsAccepted s → GoesAlong s c up r hs
    → IsOnRoute s c up q r fs → g < floor_count s.building → IsSooner s c up q fs r hs g
sooner s c up q [] r hs g a along on b = sooner_done s c up q r hs g a along on b
sooner s c up q (f ∷ fs) r [] g a along on b =
    absurd (false≢true (along.all f (within_below up q.floor f r.floor on.place) on.goals.0.some))
sooner s c up q (f ∷ fs) r (h ∷ hs) g a along on b =
    let listed = along.all f (within_below up q.floor f r.floor on.place) on.goals.0.some in
    let far = first_or_beyond up r.floor h hs f along.order listed in
    let inside = goes_in s r h a along.goals.0.some in
    let next = along_next s c up r h hs a along in
    let low = on.later g b in
    let later = opens_later s c up q r f fs g a on b in
    let here = λ (e : is_before up r.floor h g ≡ true).
    ap (λ (v : Bool). cond v (next_open s c q g) (opens_at s c up (halted s c q f) fs g))
    (within_tests up q.floor f g (within_wide up q.floor f r.floor h g on.place far e)) in
    elim (route_steps s c up q r f fs h a along.timed (nearest_way up r.floor h f along.order.0 far) inside on) [
      | inl both ↦ (let rest = sooner s c up (halted s c q f) fs (halted s c r h) hs g a next both.1 b in let ends = rest.ends in let opens = rest.opens in
          record {
            ends = ends;
            opens =
                cond_both (is_before up r.floor h g) (next_open s c r g) (opens_at s c up (halted s c r h) hs g) (λ (n : ℕ). opens_at s c up q (f ∷ fs) g ≤ n)
                (λ e. let is = here e in omega (arith, is, low)) (λ e. omega (arith, later, opens));
          })
      | inr stays ↦ (let rest = sooner s c up q (f ∷ fs) (halted s c r h) hs g a next stays b in let ends = rest.ends in let opens = rest.opens in
          record {
            ends = ends;
            opens =
                cond_both (is_before up r.floor h g) (next_open s c r g) (opens_at s c up (halted s c r h) hs g) (λ (n : ℕ). opens_at s c up q (f ∷ fs) g ≤ n)
                (λ e. let is = here e in omega (arith, is, low)) (λ e. opens);
          })
    ]

-- ---- one move

has_begun : (s : Snapshot) (c : ℕ) (x : Course) (m : Move) (y : Course) → IsStanding s c x → move_on s c x m ≡ Some y → y.ended ≡ false
    → (reached s c y).begun ≡ true
has_begun s c x (Leave g) y h leads e = ap (λ (q : Progress). q.begun) (leaving s c x g y leads)
has_begun s c x (Board i) y h leads e = ap (λ (q : Progress). q.begun) (boarding s c x i y h leads).new
has_begun s c x End y h leads e = absurd (both_ways y.ended e (ap (λ (z : Course). z.ended) (ending_leads_to s c x y leads)))

-- with a forced stop ahead the direction stays
same_way : (s : Snapshot) (c : ℕ) (up : Bool) (y : Course) (f : ℕ) → IsStanding s c y → (reached s c y).begun ≡ true → y.ended ≡ false → CanEnd s c y
    → IsBeyond up (reached s c y).floor f → any_goes_to s (reached s c y) f ≡ true → up ≡ any_above s (reached s c y)
same_way s c true y f h begun goes_on ends ahead here = sym (above_from s (reached s c y) f ahead here)
same_way s c false y f h begun goes_on ends ahead here =
    sym (false_from_ne_true (any_above s (reached s c y))
    (λ e. let one = above_to s (reached s c y) e in
    both_ways_ends s c true one.0 f y ends.later ends.last h
    (record { begun = begun; open_end = goes_on; ahead = one.1; behind = ahead; goes_ahead = one.2; goes_back = here }) ends.completes.leads
    ends.completes.ended))

-- a call whose turn has passed at the stop, and which could board on the way again, is behind the car
shut_behind : (s : Snapshot) (c j : ℕ) (up : Bool) (f : ℕ) (fs : List ℕ) (x : Course) (m : Move) (y : Course) → IsStanding s c x
    → has_leg s c (reached s c x) ≡ true → move_on s c x m ≡ Some y → y.ended ≡ false → IsOnRoute s c up (reached s c x) (reached s c x) (f ∷ fs)
    → (call_of s j).origin ≡ (reached s c x).floor → may_still_board x j ≡ false
    → (not (eqb (call_of s j).origin (reached s c y).floor) || may_still_board y j) ≡ true → IsBeyond up (call_of s j).origin (reached s c y).floor
shut_behind s c j up f fs x (Leave g) y h leg leads goes_on on origin shut again =
    let p = reached s c x in
    let stands = stands_empty s c p g (leave_leads_to s c x g y leads).1 in
    let way = on_way s c p g f leg stands on.goals.0.some in
    let ne = elsewhere s c p g (has_stopped s c j x.before x.present shut) stands in
    let forth = leg_forth up p.floor f p.floor g (within_start up p.floor f on.order.0) way ne in
    subst (λ (q : Progress). IsBeyond up (call_of s j).origin q.floor) (sym (leaving s c x g y leads)) (subst (λ (k : ℕ). IsBeyond up k g) (sym origin) forth)
shut_behind s c j up f fs x (Board i) y h leg leads goes_on on origin shut again =
    let at = boarding s c x i y h leads in
    let stays = boarding_stays s c i x y at in
    let test : Option Stop → Bool = λ o. list_all (λ k. ltb k j) (boards_of o) in
    let still : may_still_board y j ≡ false = ap test at.now ∙ all_more (λ k. ltb k j) at.stop.boards i (sym (ap test at.present) ∙ shut) in
    let there = not_from_true (eqb (call_of s j).origin (reached s c y).floor) (eq-eqb (call_of s j).origin (reached s c y).floor (origin ∙ sym stays.floor)) in
    absurd (both_ways (not (eqb (call_of s j).origin (reached s c y).floor) || may_still_board y j)
    (or_from (not (eqb (call_of s j).origin (reached s c y).floor)) (may_still_board y j) there still) again)
shut_behind s c j up f fs x End y h leg leads goes_on on origin shut again =
    absurd (both_ways y.ended goes_on (ap (λ (z : Course). z.ended) (ending_leads_to s c x y leads)))

-- no forced stop of the shorter one is left
grow_done : (s : Snapshot) (c j : ℕ) (up way : Bool) (p : Progress) (fs : List ℕ) (still still' : ℕ → Bool) (route q : Progress) → IsAccepted s
    → j < call_count s → IsTimed s c q → IsOnRoute s c up route q [] → ((g : ℕ) → g < floor_count s.building → opens_at s c up p fs g ≤ next_open s c route g)
    → ((g : ℕ) → next_open s c (route_end s c p fs) g ≤ next_open s c route g)
    → boards_from s c up p fs still j ≤ boards_from s c way q (forced_stops s way q) still' j
grow_done s c j up way p fs still still' route q a lt timed on opens ends =
    let g = (call_of s j).origin in
    let b = (a.calls j lt).origin in
    let hs = forced_stops s way q in
    let goals = stops_goals s way q in
    let one = opens g b in
    let two = ends g in
    let low = on.later g b in
    let first = opens_least s c way q q q hs g a timed goals b in
    let last = end_least s c q q q hs g a timed goals b in
    let under : boards_from s c up p fs still j ≤ next_open s c route g =
    cond_both (rides_along s up p still j) (opens_at s c up p fs g) (next_open s c (route_end s c p fs) g) (λ (n : ℕ). n ≤ next_open s c route g)
    (λ e. one) (λ e. two) in
    cond_both (rides_along s way q still' j) (opens_at s c way q hs g) (next_open s c (route_end s c q hs) g) (λ (n : ℕ). boards_from s c up p fs still j ≤ n)
    (λ e. omega (arith, under, low, first)) (λ e. omega (arith, under, low, last))

-- some are
grow_on : (s : Snapshot) (c j : ℕ) (up : Bool) (x y : Course) (fs : List ℕ) (route : Progress) (f : ℕ) (rest : List ℕ) → IsAccepted s → j < call_count s
    → IsTimed s c (reached s c y) → IsOnRoute s c up route (reached s c y) (f ∷ rest)
    → ((g : ℕ) → g < floor_count s.building → opens_at s c up (reached s c x) fs g ≤ opens_at s c up route (f ∷ rest) g)
    → ((g : ℕ) → next_open s c (route_end s c (reached s c x) fs) g ≤ next_open s c (route_end s c route (f ∷ rest)) g)
    → ((call_of s j).origin ≡ (reached s c x).floor → may_still_board x j ≡ false
    → (not (eqb (call_of s j).origin (reached s c y).floor) || may_still_board y j) ≡ true → IsBeyond up (call_of s j).origin (reached s c y).floor)
    → boards_from s c up (reached s c x) fs (may_still_board x) j ≤ boards_from s c up (reached s c y) (forced_stops s up (reached s c y)) (may_still_board y) j
grow_on s c j up x y fs route f rest a lt timed on opens ends shut =
    let p = reached s c x in
    let q = reached s c y in
    let hs = forced_stops s up q in
    let g = (call_of s j).origin in
    let b = (a.calls j lt).origin in
    let way = same_direction up (is_upward (call_of s j)) in
    let turn = not (eqb g p.floor) || may_still_board x j in
    let turn' = not (eqb g q.floor) || may_still_board y j in
    let along : GoesAlong s c up q hs = record { timed = timed; order = stops_order s up q; goals = stops_goals s up q; all = stops_all s up q a } in
    let less = sooner s c up route (f ∷ rest) q hs g a along on b in
    let first = less.opens in
    let last = less.ends in
    let most = opens_most s c up route q route (f ∷ rest) g a on.timed on.goals b in
    let one = opens g b in
    let two = ends g in
    let passed : (way && turn') ≡ true → (way && turn) ≡ false
    → next_open s c (route_end s c p fs) g ≤ opens_at s c up q hs g =
    λ e none. (let at = turn_passed way turn turn' e none in let over = or_parts (not (eqb g p.floor)) (may_still_board x j) at.0 in
    let beyond = shut (eqb-true g p.floor (not-false (eqb g p.floor) over.0)) over.1 at.1 in
    let is = opens_behind s c up q hs g (stops_order s up q) beyond in omega (arith, two, last, is)) in
    cond_both (way && turn') (opens_at s c up q hs g) (next_open s c (route_end s c q hs) g) (λ (n : ℕ). boards_from s c up p fs (may_still_board x) j ≤ n)
    (λ e. cond_both (way && turn) (opens_at s c up p fs g) (next_open s c (route_end s c p fs) g) (λ (n : ℕ). n ≤ opens_at s c up q hs g)
    (λ k. omega (arith, one, first)) (λ k. passed e k))
    (λ e. cond_both (way && turn) (opens_at s c up p fs g) (next_open s c (route_end s c p fs) g) (λ (n : ℕ). n ≤ next_open s c (route_end s c q hs) g)
    (λ k. omega (arith, one, most, last)) (λ k. omega (arith, two, last)))
  where
    turn_passed : (w t u : Bool) → (w && u) ≡ true → (w && t) ≡ false → (t ≡ false) × (u ≡ true)
    turn_passed true t u e none = (none, e)
    turn_passed false t u e none = absurd (false≢true e)

grow_to : (s : Snapshot) (c j : ℕ) (up : Bool) (x y : Course) (fs : List ℕ) (route : Progress) (ahead : List ℕ) → IsAccepted s → j < call_count s
    → IsStanding s c y → (reached s c y).begun ≡ true → y.ended ≡ false → CanEnd s c y → IsTimed s c (reached s c y)
    → IsOnRoute s c up route (reached s c y) ahead
    → ((g : ℕ) → g < floor_count s.building → opens_at s c up (reached s c x) fs g ≤ opens_at s c up route ahead g)
    → ((g : ℕ) → next_open s c (route_end s c (reached s c x) fs) g ≤ next_open s c (route_end s c route ahead) g)
    → ((call_of s j).origin ≡ (reached s c x).floor → may_still_board x j ≡ false
    → (not (eqb (call_of s j).origin (reached s c y).floor) || may_still_board y j) ≡ true → IsBeyond up (call_of s j).origin (reached s c y).floor)
    → boards_from s c up (reached s c x) fs (may_still_board x) j ≤ boards_first s c (may_still_board y) (reached s c y) j
grow_to s c j up x y fs route [] a lt h begun goes_on can timed on opens ends shut =
    grow_done s c j up (any_above s (reached s c y)) (reached s c x) fs (may_still_board x) (may_still_board y) route (reached s c y) a lt timed on opens ends
grow_to s c j up x y fs route (f ∷ rest) a lt h begun goes_on can timed on opens ends shut =
    let p = reached s c x in
    let q = reached s c y in
    let way = same_way s c up y f h begun goes_on can (within_below up route.floor f q.floor on.place) on.goals.0.some in
    subst (λ (v : Bool). boards_from s c up p fs (may_still_board x) j ≤ boards_from s c v q (forced_stops s v q) (may_still_board y) j) way
    (grow_on s c j up x y fs route f rest a lt timed on opens ends shut)

-- from a car that travels to its next stop
grow_leg : (s : Snapshot) (c j : ℕ) (up : Bool) (x : Course) (m : Move) (y : Course) (fs : List ℕ) → IsAccepted s → j < call_count s → IsStanding s c x
    → has_leg s c (reached s c x) ≡ true → move_on s c x m ≡ Some y → y.ended ≡ false → CanEnd s c y → IsOnRoute s c up (reached s c x) (reached s c x) fs
    → boards_from s c up (reached s c x) fs (may_still_board x) j ≤ boards_first s c (may_still_board y) (reached s c y) j
grow_leg s c j up x m y [] a lt h leg leads goes_on can on =
    let p = reached s c x in
    let q = reached s c y in
    let standing = standing_move s c x m y h leads in
    let here : IsOnRoute s c up p q [] = record { timed = on.timed; later = move_later s c x m y a h leg leads; place = tt; order = tt; goals = tt } in
    grow_done s c j up (any_above s q) p [] (may_still_board x) (may_still_board y) p q a lt
    (timed_reached s c y standing (move_legs s c x m y h leg leads)) here (λ g b. omega arith) (λ g. omega arith)
grow_leg s c j up x m y (f ∷ fs) a lt h leg leads goes_on can on =
    let p = reached s c x in
    let standing = standing_move s c x m y h leads in
    let begun = has_begun s c x m y h leads goes_on in
    let timed = timed_reached s c y standing (move_legs s c x m y h leg leads) in
    let shut = shut_behind s c j up f fs x m y h leg leads goes_on on in
    elim (route_moves s c up p f fs x m y a h leg leads on) [
      | inl next ↦ grow_to s c j up x y (f ∷ fs) (halted s c p f) fs a lt standing begun goes_on can timed next (λ g b. opens_later s c up p p f fs g a on b)
          (λ g. omega arith) shut
      | inr stays ↦ grow_to s c j up x y (f ∷ fs) p (f ∷ fs) a lt standing begun goes_on can timed stays (λ g b. omega arith) (λ g. omega arith) shut
    ]

-- A move makes no call board sooner, where some tour goes on after it.
abbrev pub GrowingLaw : Type 0
GrowingLaw =
    (s : Snapshot) (c j : ℕ) (x : Course) (m : Move) (y : Course) → IsAccepted s → j < call_count s → IsStanding s c x → move_on s c x m ≡ Some y
    → y.ended ≡ false → CanEnd s c y
    → boards_first s c (may_still_board x) (route_start s c (reached s c x)) j ≤ boards_first s c (may_still_board y) (route_start s c (reached s c y)) j

pub boards_grow : GrowingLaw
boards_grow s c j x m y a lt h leads goes_on can =
    let p = reached s c x in
    let q = reached s c y in
    let up = any_above s p in
    let first = halted s c p p.floor in
    elim (cases_Bool (has_leg s c p)) [
      | inl leg ↦ (let low = grow_leg s c j up x m y (forced_stops s up p) a lt h leg leads goes_on can (route_begins s c up p (timed_reached s c x h leg)) in
          let start = ap (λ (b : Bool). cond b p first) leg in
          let next = ap (λ (b : Bool). cond b q (halted s c q q.floor)) (move_legs s c x m y h leg leads) in
          subst (λ (v : Progress). boards_first s c (may_still_board x) (route_start s c p) j ≤ boards_first s c (may_still_board y) v j) (sym next)
          (subst (λ (v : Progress). boards_first s c (may_still_board x) v j ≤ boards_first s c (may_still_board y) q j) (sym start) low))
      | inr none ↦ (let at = first_stop s c x m y h none leads in
          let may : may_still_board x ≡ may_still_board y = λ i k. (at.still k ∙ sym (at.still_next k)) i in
          let start = ap (λ (b : Bool). cond b p first) none in
          let same : boards_first s c (may_still_board x) (route_start s c p) j ≡ boards_first s c (may_still_board y) (route_start s c q) j =
          ap (λ (v : Progress). boards_first s c (may_still_board x) v j) start ∙ ap (λ (t : ℕ → Bool). boards_first s c t first j) may
          ∙ sym (ap (λ (v : Progress). boards_first s c (may_still_board y) (route_start s c v) j) at.there) in omega (arith, same))
    ]

-- What a car can still do before a move it can do after it.
pub ends_before : (s : Snapshot) (c : ℕ) (x : Course) (m : Move) (y : Course) → move_on s c x m ≡ Some y → CanEnd s c y → CanEnd s c x
ends_before s c x m y leads can = record {
  later = m ∷ can.later;
  last = can.last;
  completes = record {
    leads = ap (λ (o : Option Course). moves_on s c o can.later) leads
        ∙ can.completes.leads;
    ended = can.completes.ended;
    empty = can.completes.empty;
  };
}
