-- The bound along the forced route is at most the value of each tour that the partial tour can become.
use Rattle.std.proofs.Common.{◌≡◌, ℕ, ◌+◌, ◌<◌, ◌≤◌, Bool, true, false, cond, not, ◌&&◌, ◌||◌, ltb, List, [], ◌∷◌, map, refl, sym, ap, ◌∙◌, subst, arith}
use Rattle.std.proofs.Common.{Option, Some, None}
use Rattle.std.specs.Prelude.{ℤ, pos, ◌+ℤ◌, ◌-ℤ◌, ◌≤ℤ◌, int_lt}
use Rattle.std.specs.List.{list_all}
use Rattle.std.specs.Option.{is_some}
use Rattle.std.proofs.lemmas.Int.{ints}
use Rattle.std.proofs.lemmas.Bool.{both_ways, cond_both, eqb-true, false≢true, not-false, or_left, or_parts}
use Rattle.elevator_model.specs.declared.CarState.{CarState}
use Rattle.elevator_model.specs.declared.CarState.TheVariants.{Coming, Idle, Moving}
use Rattle.elevator_model.specs.declared.Stop.{Stop}
use Rattle.elevator_model.specs.declared.Move.{Move}
use Rattle.elevator_model.specs.declared.Move.TheVariants.{Board, Leave, End}
use Rattle.call_sets.specs.Counting.{any_below, sum_below, sum_where}
use Rattle.call_sets.proofs.BelowTests.{any_below-false}
use Rattle.call_sets.proofs.Sums.{sum_below-add, sum_below-le, sum_below-up}
use Rattle.elevator_model.specs.Snapshot.{Snapshot, IsAccepted, call_count, floor_of, is_coming, is_idle, may_stop_first, state_of}
use Rattle.elevator_model.specs.Tours.{IsFeasible, Progress, after_stops, has_leg, is_aboard, rider_count, start_of}
use Rattle.elevator_model.specs.Costs.{cost_of, cost_of_rider, is_delivered, settled_cost}
use Rattle.elevator_model.specs.Plans.{is_boarded_in}
use Rattle.elevator_model.specs.Partial.{Course, course_of, course_start, move_on, moves_of, moves_on, progress_after, settled_of}
use Rattle.search_model.specs.Extending.{any_above}
use Rattle.search_model.specs.Nodes.{IsTourWithin}
use Rattle.search_model.specs.Orders.{BeginsWith}
use Rattle.search_model.specs.Prices.{prices_of_tour, scaled}
use Rattle.search_model.specs.Sums.{int_sum_below, int_sum_where}
use Rattle.search_model.proofs.SumLemmas.{int_sum-le, int_sum-minus, int_sum-same, scaled-sum}
use Rattle.tour_rules.proofs.Reached.{ended_at, moves_on-append, moves_reach, risen}
use Rattle.tour_rules.proofs.RiderSums.{is_aboard-call}
use Rattle.tour_rules.proofs.Sound.{IsSound-moves, IsSound-start, leads_on}
use Rattle.partial_tours.specs.Courses.{boards_of, reached}
use Rattle.partial_tours.proofs.Boarded.{boarded_in}
use Rattle.partial_tours.proofs.Follow.{ended_board, leave_leads_to}
use Rattle.partial_tours.proofs.Next.{stands_empty}
use Rattle.pricing_bound.specs.Costs.{low_zero, rider-later, term-most}
use Rattle.pricing_bound.specs.GrowthLemmas.{destination_in}
use Rattle.pricing_bound.specs.LowerLemmas.{nobody_carried}
use Rattle.pricing_bound.specs.Standing.{IsStanding, course_standing, placed_reached, standing_move}
use Rattle.route_bound.specs.ForcedRoute.{RouteLaw, bound_from, boards_from, cost_if_boarded, cost_on_route, forced_stops, halted, least_ride, may_still_board}
use Rattle.route_bound.specs.ForcedRoute.{opens_at, part_if_boarded, route_bound, route_start}
use Rattle.route_bound.specs.Moves.{IsTimed, boarding, is_known, leaving, moves_keep, moves_stand, timed_reached}
use Rattle.route_bound.specs.Completions.{CanEnd, Completes, Rode}
use Rattle.route_bound.specs.RouteTimes.{call_rides, delivers_late, ends_first}

-- ---- each rider

-- what the bound has of a rider, by who is known, carried and boards later, against what the tour makes of it
covers : (known carried boards known' carried' : Bool) (off on joins whole : ℕ) → carried' ≡ false → (carried ≡ true → known ≡ true)
    → (known ≡ true → known' ≡ true) → (boards ≡ true → known' ≡ true) → (known ≡ true → carried ≡ false → off ≤ whole)
    → (known ≡ true → carried ≡ true → on ≤ whole) → (known ≡ false → boards ≡ true → joins ≤ whole)
    → (cond (known && not carried) off 0 + cond carried on 0) + cond (not known && boards) joins 0 ≤ cond (known' && not carried') whole 0
covers known carried boards known' true off on joins whole e a b d f g h = absurd (false≢true (sym e))
covers true carried boards false false off on joins whole e a b d f g h = absurd (false≢true (b refl))
covers true true boards true false off on joins whole e a b d f g h = let le = g refl refl in omega (arith, le)
covers true false boards true false off on joins whole e a b d f g h = let le = f refl refl in omega (arith, le)
covers false true boards known' false off on joins whole e a b d f g h = absurd (false≢true (a refl))
covers false false true false false off on joins whole e a b d f g h = absurd (false≢true (d refl))
covers false false true true false off on joins whole e a b d f g h = let le = h refl refl in omega (arith, le)
covers false false false known' false off on joins whole e a b d f g h = omega arith

-- what is settled of a rider, what one carried costs along the route, and what a call that boards later costs
-- at least
abbrev pub settled_part : Snapshot → ℕ → Progress → ℕ → ℕ
settled_part s c p r = cond (is_delivered s c p r) (cost_of_rider s r (p.boarded_at r) (p.delivered_at r)) 0

abbrev pub carried_part : Snapshot → ℕ → (up : Bool) → Progress → ℕ → ℕ
carried_part s c up p r = cond (p.carried r) (cost_on_route s c up p (forced_stops s up p) r) 0

abbrev pub joining_part : Snapshot → ℕ → (joins : ℕ → ℕ) → (p q : Progress) → ℕ → ℕ
joining_part s c joins p q r = cond (not (is_known s c p r) && q.boarded r) (joins r) 0

-- what a call costs that boards later is at most what it costs at the end
abbrev pub Joins : Snapshot → ℕ → (joins : ℕ → ℕ) → (p q : Progress) → Type 0
Joins s c joins p q =
    (r : ℕ) → r < rider_count s → is_known s c p r ≡ false → q.boarded r ≡ true → joins r ≤ cost_of_rider s r (q.boarded_at r) (q.delivered_at r)

rider_covered : (s : Snapshot) (c : ℕ) (up : Bool) (joins : ℕ → ℕ) (x : Course) (later : List Move) (z : Course) (r : ℕ) → IsAccepted s → IsStanding s c x
    → IsTimed s c (reached s c x) → Completes s c x later z → Joins s c joins (reached s c x) (reached s c z) → r < rider_count s
    → (settled_part s c (reached s c x) r + carried_part s c up (reached s c x) r) + joining_part s c joins (reached s c x)
    (reached s c z) r ≤ settled_part s c (reached s c z) r
rider_covered s c up joins x later z r a h timed goes joining below =
    let p = reached s c x in
    let q = reached s c z in
    let to = destination_in s r a below in
    let kept = (placed_reached s c x h).kept in
    let keeps = λ (e : is_known s c p r ≡ true). moves_keep s c r x later z h e goes.leads in
    covers (is_known s c p r) (p.carried r) (q.boarded r) (is_known s c q r) (q.carried r) (cost_of_rider s r (p.boarded_at r) (p.delivered_at r))
    (cost_on_route s c up p (forced_stops s up p) r) (joins r) (cost_of_rider s r (q.boarded_at r) (q.delivered_at r))
    (goes.empty r below)
    (kept.carried r)
    (λ e. (keeps e).known)
    (λ e. or_left (q.boarded r) (is_aboard s c r) e)
    (λ e off. let same = (keeps e).boarded_at in let told = (keeps e).delivered_at off in
    rider-later s r (p.boarded_at r) (p.delivered_at r) (q.boarded_at r) (q.delivered_at r) (omega (arith, same)) (omega (arith, same, told)))
    (λ e on. let same = (keeps e).boarded_at in let late = delivers_late s c r up x later z a below to h timed e on goes in
    rider-later s r (p.boarded_at r) (opens_at s c up p (forced_stops s up p) _) (q.boarded_at r) (q.delivered_at r) (omega (arith, same))
    (omega (arith, same, late)))
    (joining r below)

pub riders_covered : (s : Snapshot) (c : ℕ) (up : Bool) (joins : ℕ → ℕ) (x : Course) (later : List Move) (z : Course) → IsAccepted s → IsStanding s c x
    → IsTimed s c (reached s c x) → Completes s c x later z → Joins s c joins (reached s c x) (reached s c z)
    → (settled_cost s c (reached s c x) + sum_where (rider_count s) (reached s c x).carried
    (cost_on_route s c up (reached s c x) (forced_stops s up (reached s c x)))) + sum_below (call_count s)
    (joining_part s c joins (reached s c x) (reached s c z)) ≤ settled_cost s c (reached s c z)
riders_covered s c up joins x later z a h timed goes joining =
    let n = rider_count s in
    let p = reached s c x in
    let q = reached s c z in
    let off = settled_part s c p in
    let on = carried_part s c up p in
    let join = joining_part s c joins p q in
    let each = sum_below-le n (λ r. (off r + on r) + join r) (settled_part s c q) (λ r b. rider_covered s c up joins x later z r a h timed goes joining b) in
    let outer = sum_below-add n (λ r. off r + on r) join in
    let inner = sum_below-add n off on in
    let calls = sum_below-up n (call_count s) join (omega arith) in
    omega (arith, each, outer, inner, calls)

abbrev pub least_cost : Snapshot → ℕ → (up : Bool) → Course → ℕ → ℕ
least_cost s c up x r = cost_if_boarded s c r (boards_from s c up (reached s c x) (forced_stops s up (reached s c x)) (may_still_board x) r)

-- a call that boards later rode
pub call_rode : (s : Snapshot) (c : ℕ) (up : Bool) (x : Course) (later : List Move) (z : Course) (r : ℕ) → IsAccepted s → IsStanding s c x
    → IsTimed s c (reached s c x) → Completes s c x later z → (reached s c x).boarded r ≡ false → (reached s c z).boarded r ≡ true
    → Rode s c r (boards_from s c up (reached s c x) (forced_stops s up (reached s c x)) (may_still_board x) r) (reached s c z)
call_rode s c up x later z r a h timed goes old new =
    let ends = (placed_reached s c z (moves_stand s c x later z h goes.leads)).kept in
    call_rides s c r up x later z a (ends.calls r new) h timed old new goes

pub rode_costs : (s : Snapshot) (c r b : ℕ) (q : Progress) → Rode s c r b q → cost_if_boarded s c r b ≤ cost_of_rider s r (q.boarded_at r) (q.delivered_at r)
rode_costs s c r b q rode =
    let one = rode.boarded_at in
    let two = rode.delivered_at in
    rider-later s r b (b + least_ride s c r) (q.boarded_at r) (q.delivered_at r) one (omega (arith, one, two))

least_joins : (s : Snapshot) (c : ℕ) (up : Bool) (x : Course) (later : List Move) (z : Course) → IsAccepted s → IsStanding s c x → IsTimed s c (reached s c x)
    → Completes s c x later z → Joins s c (least_cost s c up x) (reached s c x) (reached s c z)
least_joins s c up x later z a h timed goes r below e k =
    let p = reached s c x in
    rode_costs s c r (boards_from s c up p (forced_stops s up p) (may_still_board x) r) (reached s c z)
    (call_rode s c up x later z r a h timed goes (or_parts (p.boarded r) (is_aboard s c r) e).0 k)

-- ---- each call

-- what the bound has of a call and its price, against what the tour has of them
call_covers : (boarded aboard boards allowed required : Bool) (cost : ℕ) (price : ℤ) → aboard ≡ false → (boarded ≡ true → boards ≡ true)
    → (boards ≡ true → allowed ≡ true) → (required ≡ true → boards ≡ true)
    → (cond (allowed && not boarded) (cond required (scaled cost -ℤ price) (cond (int_lt (scaled cost -ℤ price) (pos 0)) (scaled cost -ℤ price) (pos 0)))
    (pos 0) -ℤ cond boarded price (pos 0)) ≤ℤ (scaled (cond (not (boarded || aboard) && boards) cost 0) -ℤ cond boards price (pos 0))
call_covers boarded true boards allowed required cost price e f g h = absurd (false≢true (sym e))
call_covers true false false allowed required cost price e f g h = absurd (false≢true (f refl))
call_covers true false true true required cost price e f g h = omega (arith, ints)
call_covers true false true false required cost price e f g h = absurd (false≢true (g refl))
call_covers false false true true required cost price e f g h = let most = term-most required (scaled cost -ℤ price) in omega (arith, ints, most)
call_covers false false true false required cost price e f g h = absurd (false≢true (g refl))
call_covers false false false allowed true cost price e f g h = absurd (false≢true (h refl))
call_covers false false false true false cost price e f g h = let none = low_zero (scaled cost -ℤ price) in omega (arith, ints, none)
call_covers false false false false false cost price e f g h = omega (arith, ints)

-- what the bound has of the calls that have not boarded
abbrev pub waiting_part : Snapshot → ℕ → (price : ℕ → ℤ) → (allowed required : ℕ → Bool) → (up : Bool) → Course → ℕ → ℤ
waiting_part s c price allowed required up x j =
    let p = reached s c x in
    cond (allowed j && not (p.boarded j)) (part_if_boarded s c price required j (boards_from s c up p (forced_stops s up p) (may_still_board x) j)) (pos 0)

abbrev pub paid_part : (price : ℕ → ℤ) → (test : ℕ → Bool) → ℕ → ℤ
paid_part price test j = cond (test j) (price j) (pos 0)

-- the calls that board in the tour are those that have boarded at its end
pub record HasBoardedIn (s : Snapshot) (c : ℕ) (allowed required : ℕ → Bool) (x : Course) (q : Progress) : Type 0 where
  pub stays : (j : ℕ) → (reached s c x).boarded j ≡ true → q.boarded j ≡ true
  pub keeps : (j : ℕ) → j < call_count s → q.boarded j ≡ true → allowed j ≡ true
  pub serves : (j : ℕ) → j < call_count s → required j ≡ true → q.boarded j ≡ true

calls_covered : (s : Snapshot) (c : ℕ) (price : ℕ → ℤ) (allowed required : ℕ → Bool) (up : Bool) (x : Course) (q : Progress)
    → HasBoardedIn s c allowed required x q
    → (int_sum_below (call_count s) (waiting_part s c price allowed required up x) -ℤ int_sum_where (call_count s) (reached s c x).boarded price) ≤ℤ
    (scaled (sum_below (call_count s) (joining_part s c (least_cost s c up x) (reached s c x) q)) -ℤ int_sum_where (call_count s) q.boarded price)
calls_covered s c price allowed required up x q h =
    let n = call_count s in
    let p = reached s c x in
    let waits = waiting_part s c price allowed required up x in
    let joins = joining_part s c (least_cost s c up x) p q in
    let each = int_sum-le n (λ j. waits j -ℤ paid_part price p.boarded j) (λ j. scaled (joins j) -ℤ paid_part price q.boarded j)
    (λ j b. call_covers (p.boarded j) (is_aboard s c j) (q.boarded j) (allowed j) (required j) (least_cost s c up x j) (price j) (is_aboard-call s c j b)
    (h.stays j) (h.keeps j b) (h.serves j b)) in
    let old = int_sum-minus n waits (paid_part price p.boarded) in
    let new = int_sum-minus n (λ j. scaled (joins j)) (paid_part price q.boarded) in
    let whole = scaled-sum n joins in
    omega (arith, ints, each, old, new, whole)

-- ---- the tour

pub together : (settled straight joining whole : ℕ) (paid waiting paid' : ℤ) → (settled + straight) + joining ≤ whole
    → (waiting -ℤ paid) ≤ℤ (scaled joining -ℤ paid') → (((scaled settled +ℤ scaled straight) -ℤ paid) +ℤ waiting) ≤ℤ (scaled whole -ℤ paid')
together settled straight joining whole paid waiting paid' h k = omega (arith, ints, h, k)

from_le : (s : Snapshot) (c : ℕ) (price : ℕ → ℤ) (allowed required : ℕ → Bool) (x : Course) (later : List Move) (z : Course) → IsAccepted s → IsStanding s c x
    → IsTimed s c (reached s c x) → Completes s c x later z → HasBoardedIn s c allowed required x (reached s c z)
    → bound_from s c price allowed required (may_still_board x) (reached s c x) ≤ℤ
    (scaled (settled_cost s c (reached s c z)) -ℤ int_sum_where (call_count s) (reached s c z).boarded price)
from_le s c price allowed required x later z a h timed goes boards =
    let p = reached s c x in
    let q = reached s c z in
    let up = any_above s p in
    together (settled_cost s c p) (sum_where (rider_count s) p.carried (cost_on_route s c up p (forced_stops s up p)))
    (sum_below (call_count s) (joining_part s c (least_cost s c up x) (reached s c x) q)) (settled_cost s c q)
    (int_sum_where (call_count s) p.boarded price) (int_sum_below (call_count s) (waiting_part s c price allowed required up x))
    (int_sum_where (call_count s) q.boarded price)
    (riders_covered s c up (least_cost s c up x) x later z a h timed goes (least_joins s c up x later z a h timed goes))
    (calls_covered s c price allowed required up x q boards)

pub boards_in : (s : Snapshot) (c : ℕ) (allowed required : ℕ → Bool) (x : Course) (later : List Move) (z : Course) (tour : List Stop) → IsAccepted s
    → IsStanding s c x → Completes s c x later z → ((j : ℕ) → j < call_count s → (reached s c z).boarded j ≡ is_boarded_in tour j)
    → IsTourWithin s c allowed required tour → HasBoardedIn s c allowed required x (reached s c z)
boards_in s c allowed required x later z tour a h goes same within =
    let p = reached s c x in
    let q = reached s c z in
    record {
      stays = λ j e. (let call = (placed_reached s c x h).kept.calls j e in
          let known = (moves_keep s c j x later z h (or_left (p.boarded j) (is_aboard s c j) e) goes.leads).known in
          sym (or_false_right (q.boarded j) (is_aboard s c j) (is_aboard-call s c j call)) ∙ known);
      keeps = λ j b e. within.keeps j (sym (same j b) ∙ e);
      serves = λ j b e. same j b ∙ within.serves j e;
    }
  where
    or_false_right : (u v : Bool) → v ≡ false → (u || v) ≡ u
    or_false_right true v e = refl
    or_false_right false v e = e

-- ---- where the route begins

-- after its end a tour has no move
nothing_follows : (s : Snapshot) (c : ℕ) (x : Course) (later : List Move) (z : Course) → x.ended ≡ true → moves_on s c (Some x) later ≡ Some z → x ≡ z
nothing_follows s c x [] z e leads = cc
nothing_follows s c x (m ∷ later) z e leads =
    let one = leads_on s c x m later z leads in
    absurd (both_ways (is_some (move_on s c x m)) (ended_board s c x m e) (ap is_some one.first))

no_leg : (begun coming : Bool) → (begun || not coming) ≡ false → (begun ≡ false) × (coming ≡ true)
no_leg true coming h = absurd (false≢true (sym h))
no_leg false true h = (refl, refl)
no_leg false false h = absurd (false≢true (sym h))

comes_to : (s : Snapshot) (c g : ℕ) (state : CarState) → is_coming state ≡ true → may_stop_first s.building c s.moment state g ≡ true → g ≡ floor_of state
comes_to s c g (Idle floor free) coming may = absurd (false≢true coming)
comes_to s c g (Coming floor arrives) coming may = eqb-true g floor may
comes_to s c g (Moving from up left) coming may = absurd (false≢true coming)

coming_moves : (state : CarState) → is_coming state ≡ true → is_idle state ≡ false
coming_moves (Idle floor free) coming = absurd (false≢true coming)
coming_moves (Coming floor arrives) coming = refl
coming_moves (Moving from up left) coming = refl

-- the first stop of a car that comes to a floor is there
pub record FirstStop (s : Snapshot) (c : ℕ) (x next : Course) : Type 0 where
  pub there : reached s c next ≡ halted s c (reached s c x) (reached s c x).floor
  pub still : (j : ℕ) → may_still_board x j ≡ true
  pub still_next : (j : ℕ) → may_still_board next j ≡ true

no_stop : (s : Snapshot) (c j : ℕ) (before : Progress) (present : Option Stop) → (progress_after s c before present).begun ≡ false
    → list_all (λ i. ltb i j) (boards_of present) ≡ true
no_stop s c j before None e = refl
no_stop s c j before (Some stop) e = absurd (false≢true (sym e))

-- a car that comes to a floor makes its first move there
pub first_stop : (s : Snapshot) (c : ℕ) (x : Course) (m : Move) (y : Course) → IsStanding s c x → has_leg s c (reached s c x) ≡ false
    → move_on s c x m ≡ Some y → FirstStop s c x y
first_stop s c x (Leave g) y h leg leads =
    let r = reached s c x in
    let at = leave_leads_to s c x g y leads in
    let parts = no_leg r.begun (is_coming (state_of s c)) leg in
    let first = not-false (may_stop_first s.building c s.moment (state_of s c) g)
    (sym (ap (λ (b : Bool). not b && not (may_stop_first s.building c s.moment (state_of s c) g)) parts.0) ∙ (stands_empty s c r g at.1).first) in
    let floor = comes_to s c g (state_of s c) parts.1 first ∙ sym ((placed_reached s c x h).first parts.0) in
    record {
      there = leaving s c x g y leads ∙ ap (halted s c r) floor;
      still = λ j. no_stop s c j x.before x.present parts.0;
      still_next = λ j. ap (λ (w : Course). may_still_board w j) at.2;
    }
first_stop s c x (Board j) y h leg leads =
    let at = boarding s c x j y h leads in
    let parts = no_leg (reached s c x).begun (is_coming (state_of s c)) leg in
    absurd (both_ways (reached s c x).begun parts.0 (ap (λ (q : Progress). q.begun) at.old))
first_stop s c x End y h leg leads =
    let parts = no_leg (reached s c x).begun (is_coming (state_of s c)) leg in
    absurd (ends_first s c x y leads parts.0 (coming_moves (state_of s c) parts.1))

-- and completes its tour from there
pub record StopsFirst (s : Snapshot) (c : ℕ) (x : Course) (later : List Move) (z : Course) : Type 0 where
  pub next : Course
  pub rest : List Move
  pub standing : IsStanding s c next
  pub there : reached s c next ≡ halted s c (reached s c x) (reached s c x).floor
  pub still : (j : ℕ) → may_still_board x j ≡ true
  pub still_next : (j : ℕ) → may_still_board next j ≡ true
  pub completes : Completes s c next rest z

pub stops_first : (s : Snapshot) (c : ℕ) (x : Course) (later : List Move) (z : Course) → IsStanding s c x → x.ended ≡ false
    → has_leg s c (reached s c x) ≡ false → Completes s c x later z → StopsFirst s c x later z
stops_first s c x [] z h open_end leg goes =
    let leads = goes.leads in
    let same : x ≡ z = cc in
    absurd (both_ways x.ended open_end (ap (λ (w : Course). w.ended) same ∙ goes.ended))
stops_first s c x (m ∷ later) z h open_end leg goes =
    let one = leads_on s c x m later z goes.leads in
    let first = first_stop s c x m one.next h leg one.first in
    record {
      next = one.next;
      rest = later;
      standing = standing_move s c x m one.next h one.first;
      there = first.there;
      still = first.still;
      still_next = first.still_next;
      completes = record { leads = one.later; ended = goes.ended; empty = goes.empty };
    }

-- the bound reads of the calls that may still board only whether they may
pub still_same : (s : Snapshot) (c : ℕ) (price : ℕ → ℤ) (allowed required : ℕ → Bool) (t u : ℕ → Bool) (p : Progress) → ((j : ℕ) → t j ≡ u j)
    → bound_from s c price allowed required t p ≡ bound_from s c price allowed required u p
still_same s c price allowed required t u p h =
    let same : t ≡ u = λ i j. h j i in
    ap (λ (still : ℕ → Bool). bound_from s c price allowed required still p) same

goes_le : (s : Snapshot) (c : ℕ) (price : ℕ → ℤ) (allowed required : ℕ → Bool) (x : Course) (later : List Move) (z : Course) (tour : List Stop) → IsAccepted s
    → IsStanding s c x → x.ended ≡ false → Completes s c x later z → ((j : ℕ) → j < call_count s → (reached s c z).boarded j ≡ is_boarded_in tour j)
    → IsTourWithin s c allowed required tour
    → bound_from s c price allowed required (may_still_board x) (route_start s c (reached s c x)) ≤ℤ
    (scaled (settled_cost s c (reached s c z)) -ℤ int_sum_where (call_count s) (reached s c z).boarded price)
goes_le s c price allowed required x later z tour a h open_end goes same within =
    let q = reached s c z in
    let p = reached s c x in
    let most = scaled (settled_cost s c q) -ℤ int_sum_where (call_count s) q.boarded price in
    cond_both (has_leg s c p) p (halted s c p p.floor) (λ (r : Progress). bound_from s c price allowed required (may_still_board x) r ≤ℤ most)
    (λ leg. from_le s c price allowed required x later z a h (timed_reached s c x h leg) goes
    (boards_in s c allowed required x later z tour a h goes same within))
    (λ leg. let f = stops_first s c x later z h open_end leg goes in
    let y = f.next in
    let timed = timed_reached s c y f.standing (ap (has_leg s c) f.there) in
    let le = from_le s c price allowed required y f.rest z a f.standing timed f.completes
    (boards_in s c allowed required y f.rest z tour a f.standing f.completes same within) in
    let moved = subst (λ (r : Progress). bound_from s c price allowed required (may_still_board y) r ≤ℤ most) f.there le in
    subst (λ (v : ℤ). v ≤ℤ most)
    (still_same s c price allowed required (may_still_board y) (may_still_board x) (halted s c p p.floor) (λ j. f.still_next j ∙ sym (f.still j))) moved)

-- an ended partial tour is the tour
ended_le : (s : Snapshot) (c : ℕ) (price : ℕ → ℤ) (x : Course) (later : List Move) (z : Course) → x.ended ≡ true → moves_on s c (Some x) later ≡ Some z
    → (scaled (settled_of s c x) -ℤ int_sum_where (call_count s) (reached s c x).boarded price) ≤ℤ
    (scaled (settled_cost s c (reached s c z)) -ℤ int_sum_where (call_count s) (reached s c z).boarded price)
ended_le s c price x later z e leads =
    let same = nothing_follows s c x later z e leads in
    let value : Course → ℤ = λ w. scaled (settled_cost s c (reached s c w)) -ℤ int_sum_where (call_count s) (reached s c w).boarded price in
    subst (λ (w : Course). value x ≤ℤ value w) same (no_less (value x))
  where
    no_less : (v : ℤ) → v ≤ℤ v
    no_less v = omega (arith, ints)

-- the tour's last moves lead to its end
pub tour_completes : (s : Snapshot) (c : ℕ) (moves : List Move) (x : Course) (tour : List Stop) → course_of s c moves ≡ Some x
    → (begins : BeginsWith s tour moves) → IsFeasible s c tour → Completes s c x begins.0 (ended_at (map (risen s) tour) (after_stops s c (start_of s c) tour))
tour_completes s c moves x tour leads begins feasible =
    let end : Course = ended_at (map (risen s) tour) (after_stops s c (start_of s c) tour) in
    let whole = moves_reach s c tour feasible in
    let later : moves_on s c (Some x) begins.0 ≡ Some end = sym (ap (λ (o : Option Course). moves_on s c o begins.0) leads)
    ∙ sym (moves_on-append s c (Some (course_start s c)) moves begins.0) ∙ sym (ap (course_of s c) begins.1) ∙ whole in
    let over = (IsSound-moves s c (course_start s c) (moves_of s tour) end (IsSound-start s c) whole).over refl in
    let empty = nobody_carried (not end.before.begun && not (is_idle (state_of s c))) (any_below (rider_count s) end.before.carried) over in
    record { leads = later; ended = refl; empty = λ r lt. any_below-false (rider_count s) end.before.carried r empty lt }

-- so the partial tour can end
pub tour_can_end : (s : Snapshot) (c : ℕ) (moves : List Move) (x : Course) (tour : List Stop) → course_of s c moves ≡ Some x → BeginsWith s tour moves
    → IsFeasible s c tour → CanEnd s c x
tour_can_end s c moves x tour leads begins feasible = record {
  later = begins.0;
  last = ended_at (map (risen s) tour) (after_stops s c (start_of s c) tour);
  completes = tour_completes s c moves x tour leads begins feasible;
}

pub tour_paid : (s : Snapshot) (c : ℕ) (price : ℕ → ℤ) (tour : List Stop)
    → int_sum_where (call_count s) (after_stops s c (start_of s c) tour).boarded price ≡ prices_of_tour s price tour
tour_paid s c price tour =
    int_sum-same (call_count s) (λ j. cond ((after_stops s c (start_of s c) tour).boarded j) (price j) (pos 0))
    (λ j. cond (is_boarded_in tour j) (price j) (pos 0)) (λ j lt. ap (λ (v : Bool). cond v (price j) (pos 0)) (boarded_in s c tour j lt))

pub route_is_lower : RouteLaw
route_is_lower aim moves x tour a b leads begins within =
    let s = aim.snapshot in
    let c = aim.car in
    let end : Course = ended_at (map (risen s) tour) (after_stops s c (start_of s c) tour) in
    let goes = tour_completes s c moves x tour leads begins within.feasible in
    let boarded = λ (j : ℕ) (lt : j < call_count s). boarded_in s c tour j lt in
    let most = scaled (cost_of s c tour) -ℤ int_sum_where (call_count s) end.before.boarded aim.price in
    let le : route_bound s c aim.price aim.allowed aim.required x ≤ℤ most =
    cond_both x.ended (scaled (settled_of s c x) -ℤ int_sum_where (call_count s) (reached s c x).boarded aim.price)
    (bound_from s c aim.price aim.allowed aim.required (may_still_board x) (route_start s c (reached s c x))) (λ (v : ℤ). v ≤ℤ most)
    (λ e. ended_le s c aim.price x begins.0 end e goes.leads)
    (λ e. goes_le s c aim.price aim.allowed aim.required x begins.0 end tour a (course_standing s c moves x a b leads) e goes boarded within) in
    subst (λ (v : ℤ). route_bound s c aim.price aim.allowed aim.required x ≤ℤ (scaled (cost_of s c tour) -ℤ v)) (tour_paid s c aim.price tour) le
