-- One move more makes the completion bound no smaller.
use Rattle.std.proofs.Common.{◌≡◌, ◌==◌, ℕ, ◌+◌, ◌-◌, ◌<◌, ◌≤◌, Bool, true, false, cond, not, ◌&&◌, ◌||◌, eqb, ltb, refl, sym, ap, ◌∙◌, subst, arith, Option}
use Rattle.std.proofs.Common.{Some}
use Rattle.std.specs.Prelude.{ℤ, pos, ◌+ℤ◌, ◌-ℤ◌, ◌≤ℤ◌, int_lt}
use Rattle.std.proofs.lemmas.Int.{ints}
use Rattle.std.proofs.lemmas.Bool.{and_parts, and_right, both_ways, eqb-true, false≢true, false_from_ne_true, not-false, ltb-true, ltb-false, or_from}
use Rattle.elevator_model.specs.declared.Stop.{Stop}
use Rattle.elevator_model.specs.declared.Move.{Move}
use Rattle.elevator_model.specs.declared.Move.TheVariants.{Board, Leave, End}
use Rattle.call_sets.specs.Counting.{is_among, sum_where}
use Rattle.call_sets.proofs.BelowTests.{any_below-false}
use Rattle.call_sets.proofs.Sums.{sum_below-le, sum_below-add}
use Rattle.elevator_model.specs.Building.{floor_count}
use Rattle.elevator_model.specs.Travel.{time_between}
use Rattle.elevator_model.specs.Snapshot.{Snapshot, IsAccepted, call_count, call_of, group_of}
use Rattle.elevator_model.specs.Tours.{Progress, rider_count, destination_of, is_aboard, boards_at, gets_off, stays_on, make_stop, breaks, none_taken}
use Rattle.elevator_model.specs.Tours.{rules_but_useless}
use Rattle.elevator_model.specs.Costs.{cost_of_rider, settled_cost, is_delivered}
use Rattle.elevator_model.specs.Partial.{Course, move_on, may_stand, boards_allowed, progress_after}
use Rattle.search_model.specs.Sums.{int_sum_where}
use Rattle.search_model.specs.Prices.{scaled}
use Rattle.search_model.specs.Bounds.{cost_if_straight, cost_if_alone, waiting_term, bound_after, completion_bound, GrowthLaw}
use Rattle.search_model.proofs.SumLemmas.{int_sum-le, int_sum-same}
use Rattle.tour_rules.specs.Leaving.{IsKept, leaving_cost}
use Rattle.tour_rules.proofs.BoundedTests.{AllClear-from, none-from}
use Rattle.tour_rules.proofs.Measure.{may_board}
use Rattle.tour_rules.proofs.RiderSums.{is_aboard-call, destination_of-call}
use Rattle.tour_rules.proofs.Settled.{settled_more_once}
use Rattle.partial_tours.specs.Courses.{reached, empty_stop, with_call_on}
use Rattle.partial_tours.proofs.Next.{board_more, board_other}
use Rattle.partial_tours.proofs.Follow.{leave_leads_to, board_leads_to, Boarded, ending_leads_to, stands_in}
use Rattle.pricing_bound.specs.Costs.{rider-later, sum_one_off, int_sum_one_off, term-le, term-most}
use Rattle.pricing_bound.specs.Standing.{IsPlaced, IsStanding, placed_reached, course_standing, arrives_after}

-- ---- the car goes to a stop

pub no_boards : (s : Snapshot) (g r : ℕ) → boards_at s (empty_stop g) r ≡ false
no_boards s g r = and_right (ltb r (call_count s)) false refl

-- a rider's destination is a floor of the building
pub destination_in : (s : Snapshot) (r : ℕ) → IsAccepted s → r < rider_count s → destination_of s r < floor_count s.building
destination_in s r a b = by_kind (ltb r (call_count s)) refl
  where
    by_kind : (v : Bool) → ltb r (call_count s) ≡ v → cond v (call_of s r).destination (group_of s (r - call_count s)).destination < floor_count s.building
    by_kind true e = (a.calls r (ltb-true r (call_count s) e)).destination
    by_kind false e =
        let above = ltb-false r (call_count s) e in
        let served = (a.groups (r - call_count s) (omega (arith, above, b))).served in
        ltb-true _ (floor_count s.building) (and_parts _ _ served).0

-- a rider carried gets off or rides on
off_or_on : (k d x : Bool) (now off on : ℕ) → x ≡ false → (d ≡ true → now ≤ off) → (d ≡ false → now ≤ on)
    → cond k now 0 ≤ cond (k && d) off 0 + cond ((k && not d) || x) on 0
off_or_on false d x now off on none here there = omega arith
off_or_on true true x now off on none here there = let le = here refl in omega (arith, le)
off_or_on true false x now off on none here there = let le = there refl in omega (arith, le)

-- what a rider carried costs if the car went straight to the destination from its floor at the moment m
abbrev pub cost_straight_from : Snapshot → Progress → (m r : ℕ) → ℕ
cost_straight_from s p m r = cost_of_rider s r (p.boarded_at r) (m + time_between s.building.travel p.floor (destination_of s r))

carried_on : (s : Snapshot) (c : ℕ) (p : Progress) (m g r : ℕ) → IsAccepted s → IsPlaced s c p → g < floor_count s.building
    → m + time_between s.building.travel p.floor g ≤ (make_stop s c p (empty_stop g)).opened → r < rider_count s
    → cond (p.carried r) (cost_straight_from s p m r) 0 ≤ cond (gets_off s p g r)
    (cost_of_rider s r (p.boarded_at r) (make_stop s c p (empty_stop g)).opened) 0 + cond ((make_stop s c p (empty_stop g)).carried r)
    (cost_if_straight s (make_stop s c p (empty_stop g)) r) 0
carried_on s c p m g r a h to later b =
    let q = make_stop s c p (empty_stop g) in
    let none = no_boards s g r in
    let floors = a.building.travel_floors in
    let from = h.floor in
    let ends = destination_in s r a b in
    let around = a.building.travel.triangle p.floor g (destination_of s r) (omega (arith, floors, from)) (omega (arith, floors, to))
    (omega (arith, floors, ends)) in
    let boarded : q.boarded_at r ≡ p.boarded_at r = ap (λ (x : Bool). cond x q.opened (p.boarded_at r)) none in
    off_or_on (p.carried r) (eqb (destination_of s r) g) (boards_at s (empty_stop g) r) (cost_straight_from s p m r)
    (cost_of_rider s r (p.boarded_at r) q.opened) (cost_if_straight s q r) none
    (λ e. let way = ap (time_between s.building.travel p.floor) (eqb-true (destination_of s r) g e) in
    rider-later s r (p.boarded_at r) (m + time_between s.building.travel p.floor (destination_of s r)) (p.boarded_at r) q.opened (omega arith)
    (omega (arith, way, later)))
    (λ e. rider-later s r (p.boarded_at r) (m + time_between s.building.travel p.floor (destination_of s r)) (q.boarded_at r)
    (q.opened + time_between s.building.travel g (destination_of s r)) (omega (arith, boarded)) (omega (arith, boarded, around, later)))

-- a call that waits on costs no less
waits_on : (a b x r : Bool) (t u : ℤ) → x ≡ false → t ≤ℤ u
    → cond (a && not b) (cond r t (cond (int_lt t (pos 0)) t (pos 0))) (pos 0) ≤ℤ cond (a && not (b || x)) (cond r u (cond (int_lt u (pos 0)) u (pos 0)))
    (pos 0)
waits_on a b true r t u none le = absurd (false≢true (sym none))
waits_on true false false r t u none le = term-le r t u le
waits_on true true false r t u none le = omega (arith, ints)
waits_on false b false r t u none le = omega (arith, ints)

alone-later : (s : Snapshot) (j m m' : ℕ) → m ≤ m' → cost_if_alone s j m ≤ cost_if_alone s j m'
alone-later s j m m' le =
    rider-later s j m (m + time_between s.building.travel (call_of s j).origin (call_of s j).destination) m'
    (m' + time_between s.building.travel (call_of s j).origin (call_of s j).destination) le (omega (arith, le))

pub term-later : (s : Snapshot) (price : ℕ → ℤ) (j m m' : ℕ) → m ≤ m' → (scaled (cost_if_alone s j m) -ℤ price j) ≤ℤ (scaled (cost_if_alone s j m') -ℤ price j)
term-later s price j m m' le = let cost = alone-later s j m m' le in omega (arith, ints, cost)

pub or_none : (b x : Bool) → x ≡ false → (b || x) ≡ b
or_none true x e = refl
or_none false x e = e

gone_together : (settled straight settled' straight' off : ℕ) (paid paid' waiting waiting' : ℤ) → settled' ≡ settled + off → straight ≤ off + straight'
    → paid' ≡ paid → waiting ≤ℤ waiting'
    → (((scaled settled +ℤ scaled straight) -ℤ paid) +ℤ waiting) ≤ℤ (((scaled settled' +ℤ scaled straight') -ℤ paid') +ℤ waiting')
gone_together settled straight settled' straight' off paid paid' waiting waiting' e le same more = omega (arith, ints, e, le, same, more)

-- what a call adds that waits until the moment m
abbrev pub waits_until : Snapshot → (price : ℕ → ℤ) → (required : ℕ → Bool) → (m j : ℕ) → ℤ
waits_until s price required m j =
    cond (required j) (scaled (cost_if_alone s j m) -ℤ price j)
    (cond (int_lt (scaled (cost_if_alone s j m) -ℤ price j) (pos 0)) (scaled (cost_if_alone s j m) -ℤ price j) (pos 0))

-- What is settled, what those carried cost straight from the floor at the moment m, and what calls add that wait until
-- the moment w, without the prices of the calls that boarded.
abbrev pub bound_departing : Snapshot → ℕ → (price : ℕ → ℤ) → (allowed required : ℕ → Bool) → Progress → (m w : ℕ) → ℤ
bound_departing s c price allowed required p m w =
    ((scaled (settled_cost s c p) +ℤ scaled (sum_where (rider_count s) p.carried (cost_straight_from s p m))) -ℤ int_sum_where (call_count s) p.boarded price)
    +ℤ int_sum_where (call_count s) (λ j. allowed j && not (p.boarded j)) (waits_until s price required w)

-- It is at most the bound at a next stop, where the car could be there from the moment m on, and its doors are open no
-- sooner than at the moment w.
pub departs_below : (s : Snapshot) (c : ℕ) (price : ℕ → ℤ) (allowed required : ℕ → Bool) (p : Progress) (m w g : ℕ) → IsAccepted s → IsPlaced s c p
    → may_stand s c p (empty_stop g) ≡ true → m + time_between s.building.travel p.floor g ≤ (make_stop s c p (empty_stop g)).opened
    → w ≤ (make_stop s c p (empty_stop g)).opened
    → bound_departing s c price allowed required p m w ≤ℤ bound_after s c price allowed required (make_stop s c p (empty_stop g))
departs_below s c price allowed required p m w g a h stands later waited =
    let q = make_stop s c p (empty_stop g) in
    let settled = settled_more_once s c p (empty_stop g) h.kept (λ j boards. absurd (both_ways _ (no_boards s g j) boards)) in
    let straight = sum_below-le (rider_count s) (λ r. cond (p.carried r) (cost_straight_from s p m r) 0)
    (λ r. cond (gets_off s p g r) (cost_of_rider s r (p.boarded_at r) q.opened) 0 + cond (q.carried r) (cost_if_straight s q r) 0)
    (λ r b. carried_on s c p m g r a h (stands_in s c p g stands) later b) in
    let parts = sum_below-add (rider_count s) (λ r. cond (gets_off s p g r) (cost_of_rider s r (p.boarded_at r) q.opened) 0)
    (λ r. cond (q.carried r) (cost_if_straight s q r) 0) in
    let paid = int_sum-same (call_count s) (λ j. cond (q.boarded j) (price j) (pos 0)) (λ j. cond (p.boarded j) (price j) (pos 0))
    (λ j b. ap (λ (x : Bool). cond x (price j) (pos 0)) (or_none (p.boarded j) (boards_at s (empty_stop g) j) (no_boards s g j))) in
    let waiting = int_sum-le (call_count s) (λ j. cond (allowed j && not (p.boarded j)) (waits_until s price required w j) (pos 0))
    (λ j. cond (allowed j && not (q.boarded j)) (waiting_term s price required q j) (pos 0))
    (λ j b. waits_on (allowed j) (p.boarded j) (boards_at s (empty_stop g) j) (required j) (scaled (cost_if_alone s j w) -ℤ price j)
    (scaled (cost_if_alone s j q.opened) -ℤ price j) (no_boards s g j) (term-later s price j w q.opened waited)) in
    gone_together (settled_cost s c p) (sum_where (rider_count s) p.carried (cost_straight_from s p m)) (settled_cost s c q)
    (sum_where (rider_count s) q.carried (cost_if_straight s q)) (leaving_cost s p g q.opened) (int_sum_where (call_count s) p.boarded price)
    (int_sum_where (call_count s) q.boarded price) _ _ settled (omega (arith, straight, parts)) paid waiting

grows_leave : (s : Snapshot) (c : ℕ) (price : ℕ → ℤ) (allowed required : ℕ → Bool) (p : Progress) (g : ℕ) → IsAccepted s → IsPlaced s c p
    → may_stand s c p (empty_stop g) ≡ true
    → bound_after s c price allowed required p ≤ℤ bound_after s c price allowed required (make_stop s c p (empty_stop g))
grows_leave s c price allowed required p g a h stands =
    let arrives = arrives_after s c p g a h stands in
    departs_below s c price allowed required p p.opened p.opened g a h stands (omega (arith, arrives)) (omega (arith, arrives))

-- ---- a call boards

-- what is known where a call boards at the present stop
pub record Boards (s : Snapshot) (c : ℕ) (q : Progress) (stop : Stop) (j : ℕ) : Type 0 where
  pub call : j < call_count s
  pub fresh : q.boarded j ≡ false
  pub absent : boards_at s stop j ≡ false
  pub present : boards_at s (with_call_on stop j) j ≡ true
  pub others : (k : ℕ) → (k ≡ j → ⊥) → boards_at s (with_call_on stop j) k ≡ boards_at s stop k
  pub not_aboard : is_aboard s c j ≡ false
  pub not_carried : q.carried j ≡ false
  pub origin : (call_of s j).origin ≡ stop.floor

pub boards_now : (s : Snapshot) (c : ℕ) (x : Course) (j : ℕ) (y : Course) → IsKept s c x.before → (at : Boarded s c x j y) → Boards s c x.before at.stop j
boards_now s c x j y kept at =
    let g = at.stop.floor in
    let bs = at.stop.boards in
    let more = with_call_on at.stop j in
    let may = may_board s c x.before g bs j at.rises at.stands in
    let aboard = is_aboard-call s c j may.call in
    let clear = AllClear-from (breaks s c none_taken x.before more) rules_but_useless (none-from _ at.stands) in
    let here = any_below-false (call_count s) (λ k. boards_at s more k && not ((call_of s k).origin == g)) j clear.1.1.1.1.1.1.1.1.0 may.call in
    let on = board_more s g bs j may.call in
    record {
      call = may.call;
      fresh = may.fresh;
      absent = and_right (ltb j (call_count s)) (is_among j bs) may.above;
      present = on;
      others = λ k ne. board_other s g bs j k ne;
      not_aboard = aboard;
      not_carried = false_from_ne_true (x.before.carried j)
          (λ e. both_ways _ (or_from (x.before.boarded j) (is_aboard s c j) may.fresh aboard) (kept.carried j e));
      origin = eqb-true (call_of s j).origin g
          (not-false ((call_of s j).origin == g) (sym (ap (λ (b : Bool). b && not ((call_of s j).origin == g)) on) ∙ here));
    }

settled_here : (b a k d x x' : Bool) (old new : ℕ) → b ≡ false → a ≡ false → k ≡ false → x ≡ false → x' ≡ true
    → cond (((b || x') || a) && not ((k && not d) || x')) new 0 ≡ cond (((b || x) || a) && not ((k && not d) || x)) old 0 + 0
settled_here false false false d false true old new f n m h p = refl
settled_here b a k d x x' old new f n m h p = cc

carried_here : (k d x x' : Bool) (old new : ℕ) → k ≡ false → x ≡ false → x' ≡ true → cond ((k && not d) || x') new 0 ≡ cond ((k && not d) || x) old 0 + new
carried_here false d false true old new f h p = omega arith
carried_here k d x x' old new f h p = cc

pub paid_here : (b x x' : Bool) (price : ℤ) → b ≡ false → x ≡ false → x' ≡ true → cond (b || x') price (pos 0) ≡ cond (b || x) price (pos 0) +ℤ price
paid_here false false true price f h p = omega (arith, ints)
paid_here b x x' price f h p = cc

waiting_here : (a b x x' : Bool) (term : ℤ) → a ≡ true → b ≡ false → x ≡ false → x' ≡ true
    → cond (a && not (b || x)) term (pos 0) ≡ cond (a && not (b || x')) term (pos 0) +ℤ term
waiting_here true false false true term e f h p = omega (arith, ints)
waiting_here a b x x' term e f h p = cc

-- the call is carried now, and no more waits
boarded_together : (settled straight settled' straight' cost : ℕ) (paid paid' waiting waiting' price term : ℤ) → settled' ≡ settled + 0
    → straight' ≡ straight + cost → paid' ≡ paid +ℤ price → waiting ≡ waiting' +ℤ term
    → (((scaled settled' +ℤ scaled straight') -ℤ paid') +ℤ waiting')
    ≡ (((((scaled settled +ℤ scaled straight) -ℤ paid) +ℤ waiting) -ℤ term) +ℤ (scaled cost -ℤ price))
boarded_together settled straight settled' straight' cost paid paid' waiting waiting' price term e d same less = omega (arith, ints, e, d, same, less)

-- where a call boards nobody gets off
pub board_settles : (s : Snapshot) (c : ℕ) (b : Progress) (stop : Stop) (j : ℕ) → Boards s c b stop j
    → settled_cost s c (make_stop s c b (with_call_on stop j)) ≡ settled_cost s c (make_stop s c b stop) + 0
board_settles s c b stop j h =
    let p = make_stop s c b stop in
    let q = make_stop s c b (with_call_on stop j) in
    let x = boards_at s stop in
    let x' = boards_at s (with_call_on stop j) in
    let in_all : j < rider_count s = let call = h.call in omega (arith, call) in
    sum_one_off (rider_count s) j (λ r. cond (is_delivered s c p r) (cost_of_rider s r (p.boarded_at r) (p.delivered_at r)) 0)
    (λ r. cond (is_delivered s c q r) (cost_of_rider s r (q.boarded_at r) (q.delivered_at r)) 0) 0 in_all
    (settled_here (b.boarded j) (is_aboard s c j) (b.carried j) (destination_of s j == stop.floor) (x j) (x' j)
    (cost_of_rider s j (p.boarded_at j) (p.delivered_at j))
    (cost_of_rider s j (q.boarded_at j) (q.delivered_at j)) h.fresh h.not_aboard h.not_carried h.absent h.present)
    (λ r ne. ap (λ (v : Bool).
    cond (((b.boarded r || v) || is_aboard s c r) && not (stays_on s b stop.floor r || v))
    (cost_of_rider s r (cond v p.opened (b.boarded_at r)) (p.delivered_at r)) 0) (h.others r ne))

-- A board of a call replaces what it adds by what it costs alone without its price.
pub board_adds : (s : Snapshot) (c : ℕ) (price : ℕ → ℤ) (allowed required : ℕ → Bool) (b : Progress) (stop : Stop) (j : ℕ) → allowed j ≡ true
    → Boards s c b stop j → let p = make_stop s c b stop in
    bound_after s c price allowed required (make_stop s c b (with_call_on stop j))
    ≡ ((bound_after s c price allowed required p -ℤ waiting_term s price required p j) +ℤ (scaled (cost_if_alone s j p.opened) -ℤ price j))
board_adds s c price allowed required b stop j may h =
    let p = make_stop s c b stop in
    let q = make_stop s c b (with_call_on stop j) in
    let x = boards_at s stop in
    let x' = boards_at s (with_call_on stop j) in
    let in_all : j < rider_count s = let call = h.call in omega (arith, call) in
    let settled = board_settles s c b stop j h in
    let straight = sum_one_off (rider_count s) j (λ r. cond (p.carried r) (cost_if_straight s p r) 0) (λ r. cond (q.carried r) (cost_if_straight s q r) 0)
    (cost_if_straight s q j) in_all
    (carried_here (b.carried j) (destination_of s j == stop.floor) (x j) (x' j) (cost_if_straight s p j)
    (cost_if_straight s q j) h.not_carried h.absent h.present)
    (λ r ne. ap (λ (v : Bool).
    cond (stays_on s b stop.floor r || v)
    (cost_of_rider s r (cond v p.opened (b.boarded_at r)) (p.opened + time_between s.building.travel stop.floor (destination_of s r))) 0)
    (h.others r ne)) in
    let paid = int_sum_one_off (call_count s) j (λ k. cond (p.boarded k) (price k) (pos 0)) (λ k. cond (q.boarded k) (price k) (pos 0)) (price j) h.call
    (paid_here (b.boarded j) (x j) (x' j) (price j) h.fresh h.absent h.present)
    (λ k ne. ap (λ (v : Bool). cond (b.boarded k || v) (price k) (pos 0)) (h.others k ne)) in
    let waiting = int_sum_one_off (call_count s) j (λ k. cond (allowed k && not (q.boarded k)) (waiting_term s price required q k) (pos 0))
    (λ k. cond (allowed k && not (p.boarded k)) (waiting_term s price required p k) (pos 0)) (waiting_term s price required p j) h.call
    (waiting_here (allowed j) (b.boarded j) (x j) (x' j) (waiting_term s price required p j) may h.fresh h.absent h.present)
    (λ k ne. ap (λ (v : Bool). cond (allowed k && not (b.boarded k || v)) (waiting_term s price required p k) (pos 0)) (sym (h.others k ne))) in
    let boarded : q.boarded_at j ≡ p.opened = ap (λ (v : Bool). cond v p.opened (b.boarded_at j)) h.present in
    let alone : cost_if_straight s q j ≡ cost_if_alone s j p.opened =
    ap (λ (m : ℕ). cost_of_rider s j m (p.opened + time_between s.building.travel stop.floor (destination_of s j))) boarded
    ∙ ap (λ (d : ℕ). cost_of_rider s j p.opened (p.opened + time_between s.building.travel stop.floor d)) (destination_of-call s j h.call)
    ∙ ap (λ (f : ℕ). cost_of_rider s j p.opened (p.opened + time_between s.building.travel f (call_of s j).destination)) (sym h.origin) in
    let all = boarded_together (settled_cost s c p) (sum_where (rider_count s) p.carried (cost_if_straight s p)) (settled_cost s c q)
    (sum_where (rider_count s) q.carried (cost_if_straight s q)) (cost_if_straight s q j) (int_sum_where (call_count s) p.boarded price)
    (int_sum_where (call_count s) q.boarded price) _ _ (price j) (waiting_term s price required p j) settled straight paid waiting in
    all ∙ ap (λ (n : ℕ). (bound_after s c price allowed required p -ℤ waiting_term s price required p j) +ℤ (scaled n -ℤ price j)) alone

grows_board : (s : Snapshot) (c : ℕ) (price : ℕ → ℤ) (allowed required : ℕ → Bool) (b : Progress) (stop : Stop) (j : ℕ) → allowed j ≡ true
    → Boards s c b stop j → bound_after s c price allowed required (make_stop s c b stop) ≤ℤ bound_after s c price allowed required
    (make_stop s c b (with_call_on stop j))
grows_board s c price allowed required b stop j may h =
    let p = make_stop s c b stop in
    no_less (bound_after s c price allowed required p) (bound_after s c price allowed required (make_stop s c b (with_call_on stop j)))
    (waiting_term s price required p j) (scaled (cost_if_alone s j p.opened) -ℤ price j) (board_adds s c price allowed required b stop j may h)
    (term-most (required j) (scaled (cost_if_alone s j p.opened) -ℤ price j))
  where
    no_less : (old new adds term : ℤ) → new ≡ (old -ℤ adds) +ℤ term → adds ≤ℤ term → old ≤ℤ new
    no_less old new adds term e most = omega (arith, ints, e, most)

-- ---- any move

pub grows_on : (s : Snapshot) (c : ℕ) (price : ℕ → ℤ) (allowed required : ℕ → Bool) (x y : Course) (m : Move) → IsAccepted s → IsStanding s c x
    → boards_allowed allowed m ≡ true → move_on s c x m ≡ Some y
    → completion_bound s c price allowed required x ≤ℤ completion_bound s c price allowed required y
grows_on s c price allowed required x y (Leave g) a h may leads =
    let at = leave_leads_to s c x g y leads in
    subst (λ (z : Course). completion_bound s c price allowed required x ≤ℤ completion_bound s c price allowed required z) (sym at.2)
    (grows_leave s c price allowed required (reached s c x) g a (placed_reached s c x h) at.1)
grows_on s c price allowed required x y (Board j) a h may leads =
    let at = board_leads_to s c x j y leads in
    let here = grows_board s c price allowed required x.before at.stop j may (boards_now s c x j y h.before.kept at) in
    let from = subst (λ (o : Option Stop).
    bound_after s c price allowed required (progress_after s c x.before o) ≤ℤ bound_after s c price allowed required
    (make_stop s c x.before (with_call_on at.stop j))) (sym at.present) here in
    subst (λ (z : Course). completion_bound s c price allowed required x ≤ℤ completion_bound s c price allowed required z) (sym at.leads) from
grows_on s c price allowed required x y End a h may leads =
    subst (λ (z : Course). completion_bound s c price allowed required x ≤ℤ completion_bound s c price allowed required z)
    (sym (ending_leads_to s c x y leads)) (no_less (completion_bound s c price allowed required x))
  where
    no_less : (z : ℤ) → z ≤ℤ z
    no_less z = omega (arith, ints)

pub bound_grows : GrowthLaw
bound_grows s c price allowed required moves x y m a b are may leads next =
    grows_on s c price allowed required x y m a (course_standing s c moves x a b leads) may next
