-- How running sums go from move to move.
use Rattle.std.proofs.Common.{◌≡◌, ◌==◌, ℕ, ◌+◌, ◌*◌, ◌^◌, eqb, ◌<◌, ◌≤◌, Bool, true, false, cond, not, ◌&&◌, ◌||◌, ltb, List, [], ◌∷◌, ◌++◌, length, refl, sym}
use Rattle.std.proofs.Common.{ap, ◌∙◌, subst, arith, Option, Some, None}
use Rattle.std.specs.Prelude.{ℤ, pos, neg_ℤ, ◌+ℤ◌, ◌-ℤ◌, ◌≤ℤ◌, int_lt}
use Rattle.std.proofs.lemmas.Int.{ints}
use Rattle.std.proofs.lemmas.Bool.{and_right, or_right, false≢true, eqb-true, eq-eqb, both_ways, lt-ltb}
use Rattle.elevator_model.specs.declared.Stop.{Stop}
use Rattle.elevator_model.specs.declared.Move.{Move}
use Rattle.elevator_model.specs.declared.Move.TheVariants.{Board, Leave, End}
use Rattle.call_sets.specs.Counting.{has}
use Rattle.call_sets.proofs.Sums.{sum_below-same, sum_below-add}
use Rattle.elevator_model.specs.Building.{floor_count}
use Rattle.elevator_model.specs.Travel.{time_between}
use Rattle.elevator_model.specs.Snapshot.{Snapshot, IsAccepted, car_count, call_count, is_coming, spec_of, state_of}
use Rattle.elevator_model.specs.Tours.{Progress, boards_at, destination_of, gets_off, make_stop, rider_count, start_of, after_stops}
use Rattle.elevator_model.specs.Costs.{cost_of_rider, settled_cost, cost_of}
use Rattle.elevator_model.specs.Plans.{is_boarded_in}
use Rattle.elevator_model.specs.Partial.{Course, course_start, course_of, may_stand, moves_on, move_on, progress_after}
use Rattle.price_scale.specs.Scale.{IsPrice, IsPriceSum}
use Rattle.search_model.specs.Sums.{int_sum_below, int_sum_where}
use Rattle.search_model.specs.Orders.{AreAllowed}
use Rattle.search_model.specs.Prices.{scaled, prices_of_tour}
use Rattle.search_model.specs.Bounds.{cost_if_straight, waiting_term, bound_after}
use Rattle.search_model.proofs.SumLemmas.{int_sum-same, int_sum-zero}
use Rattle.partial_tours.specs.Courses.{reached, empty_stop, with_call_on}
use Rattle.partial_tours.specs.PartialTour.{PartialTour, course, with_move}
use Rattle.partial_tours.proofs.Boarded.{boarded_in}
use Rattle.partial_tours.proofs.Next.{stands_empty}
use Rattle.partial_tours.proofs.Follow.{leave_leads_to, board_leads_to, ending_leads_to, last_move, stands_in}
use Rattle.tour_rules.proofs.RiderSums.{is_aboard-call}
use Rattle.tour_rules.specs.Leaving.{IsKept}
use Rattle.tour_rules.proofs.Settled.{settled_start, settled_more_once}
use Rattle.tour_rules.proofs.Sound.{IsSound-moves, IsSound-start, leads_on}
use Rattle.pricing_bound.specs.declared.straight.Sums.{Sums}
use Rattle.pricing_bound.specs.Aims.{Aim, AimsAt, IsBoundSize, IsNextMove, completion_bound_for, value_for}
use Rattle.pricing_bound.specs.Parts.{group_part}
use Rattle.pricing_bound.specs.Rates.{term_at, counts_at, adds_at}
use Rattle.pricing_bound.specs.Running.{AreDeparting, AreSums, AreEven, StandFor, is_counted, is_counted_at, cost_of_rides, standing_at}
use Rattle.pricing_bound.specs.Costs.{int_sum_one_off}
use Rattle.pricing_bound.specs.GrowthLemmas.{Boards, boards_now, board_adds, board_settles, bound_departing, departs_below, grows_on, no_boards, or_none}
use Rattle.pricing_bound.specs.GrowthLemmas.{term-later, paid_here, waits_until}
use Rattle.pricing_bound.specs.LowerLemmas.{allowed_rest}
use Rattle.pricing_bound.proofs.PartLemmas.{rides_apart}
use Rattle.pricing_bound.proofs.Sizes.{bound_size, prices_size}
use Rattle.pricing_bound.specs.Standing.{placed_reached, course_standing, arrives_after}

-- ---- the last move, in the words of the aim

-- The last move of a partial tour that boards allowed calls only is this one, and something stands where the moves
-- before it lead.
pub record IsLastMove (a : Aim) (stands : Course → Type 0) (t : PartialTour) (last : Move) : Type 0 where
  pub moves : List Move
  pub before : Course
  pub moves_are : t.moves ≡ moves ++ last ∷ []
  pub leads : course_of t.snapshot t.car moves ≡ Some before
  pub stands_before : stands before
  pub may : AreAllowed a.allowed t.moves

-- a move that may come next is the last one, once it is made
abbrev pub last_of : (a : Aim) (P : Course → Type 0) (t : PartialTour) (m : Move) → IsNextMove a P t m → IsLastMove a P (with_move t m) m
last_of a P t m h = record { moves = t.moves; before = h.before; moves_are = refl; leads = h.leads; stands_before = h.stands_before; may = h.may }

pub aims_on : (a : Aim) (t : PartialTour) (m : Move) → AimsAt a t → AimsAt a (with_move t m)
aims_on a t m h = record { snapshot = h.snapshot; car = h.car }

pub record IsStep (a : Aim) (t : PartialTour) (moves : List Move) (x : Course) (m : Move) (y : Course) : Type 0 where
  pub front : course_of a.snapshot a.car moves ≡ Some x
  pub whole : course_of a.snapshot a.car t.moves ≡ Some y
  pub leads : move_on a.snapshot a.car x m ≡ Some y

pub aimed_course : (a : Aim) (t : PartialTour) (moves : List Move) → AimsAt a t → course_of a.snapshot a.car moves ≡ course_of t.snapshot t.car moves
aimed_course a t moves h = ap (λ (s : Snapshot). course_of s a.car moves) h.snapshot ∙ ap (λ (c : ℕ). course_of t.snapshot c moves) h.car

pub step_of : (a : Aim) (P : Course → Type 0) (t : PartialTour) (m : Move) (y : Course) → AimsAt a t → (last : IsLastMove a P t m) → course t ≡ Some y
    → IsStep a t last.moves last.before m y
step_of a P t m y h last leads =
    let front = aimed_course a t last.moves h ∙ last.leads in
    let whole = aimed_course a t t.moves h ∙ leads in
    let step = last_move a.snapshot a.car last.moves m y (sym (ap (course_of a.snapshot a.car) last.moves_are) ∙ whole) in
    record {
      front = front;
      whole = whole;
      leads =
          subst (λ (x : Course). move_on a.snapshot a.car x m ≡ Some y) (same step.front last.before (sym step.lawful ∙ front)) step.leads;
    }
  where
    same : (x y : Course) → Some x ≡ Some y → x ≡ y
    same x y e = cc

-- what is said of where the partial tour leads
pub aimed_at : (a : Aim) (t : PartialTour) (P : Snapshot → ℕ → Type 0) → AimsAt a t → P t.snapshot t.car → P a.snapshot a.car
aimed_at a t P h holds = subst (λ (s : Snapshot). P s a.car) (sym h.snapshot) (subst (P t.snapshot) (sym h.car) holds)

pub aimed_from : (a : Aim) (t : PartialTour) (P : Snapshot → ℕ → Type 0) → AimsAt a t → P a.snapshot a.car → P t.snapshot t.car
aimed_from a t P h holds = subst (λ (s : Snapshot). P s t.car) h.snapshot (subst (P a.snapshot) h.car holds)

-- ---- a board

more_is : (h r : Bool) (t more : ℤ) → h ≡ (r || int_lt t (pos 0)) → more ≡ cond h (pos 0) t → more ≡ t -ℤ cond r t (cond (int_lt t (pos 0)) t (pos 0))
more_is true true t more e f = omega (arith, ints, f)
more_is true false t more e f = let is = ap (λ (b : Bool). cond b t (pos 0)) (sym e) in omega (arith, ints, f, is)
more_is false true t more e f = absurd (false≢true e)
more_is false false t more e f = let is = ap (λ (b : Bool). cond b t (pos 0)) (sym e) in omega (arith, ints, f, is)

all_but_counts : (n a b x c : Bool) → n ≡ true → a ≡ true → b ≡ false → x ≡ false → (((n && a) && not (b || x)) && c) ≡ c
all_but_counts true true false false c e f g h = refl
all_but_counts n a b x c e f g h = cc

boarded_now : (b x : Bool) → x ≡ true → (b || x) ≡ true
boarded_now b x e = or_right b x e

gone_now : (n a b x c h : Bool) → x ≡ true → (h && false) ≡ (((n && a) && not (b || x)) && c)
gone_now n a b x c h e = and_right h false refl
    ∙ sym (ap (λ (v : Bool). ((n && a) && not v) && c) (boarded_now b x e) ∙ ap (λ (v : Bool). v && c) (and_right (n && a) false refl))

still_there : (h : Bool) → (h && true) ≡ h
still_there true = refl
still_there false = refl

board_counted : (a : Aim) (c : ℕ) (b : Progress) (stop : Stop) (j k counted fewer : ℕ) → Boards a.snapshot c b stop j
    → has counted k ≡ is_counted a (make_stop a.snapshot c b stop) k → has fewer k ≡ (has counted k && not (k == j))
    → has fewer k ≡ is_counted a (make_stop a.snapshot c b (with_call_on stop j)) k
board_counted a c b stop j k counted fewer h is without = by_place (k == j) refl
  where
    counts : Bool
    counts = counts_at a (make_stop a.snapshot c b stop).opened k

    by_place : (v : Bool) → (k == j) ≡ v → has fewer k ≡ is_counted a (make_stop a.snapshot c b (with_call_on stop j)) k
    by_place true e = without ∙ ap (λ (v : Bool). has counted k && not v) e
        ∙ gone_now (ltb k (call_count a.snapshot)) (a.allowed k) (b.boarded k) (boards_at a.snapshot (with_call_on stop j) k)
        (counts_at a (make_stop a.snapshot c b stop).opened k) (has counted k) (ap (boards_at a.snapshot (with_call_on stop j)) (eqb-true k j e) ∙ h.present)
    by_place false e = without ∙ ap (λ (v : Bool). has counted k && not v) e ∙ still_there (has counted k) ∙ is
        ∙ ap (λ (v : Bool). ((ltb k (call_count a.snapshot) && a.allowed k) && not (b.boarded k || v)) && counts_at a (make_stop a.snapshot c b stop).opened k)
        (sym (h.others k (λ at. both_ways (k == j) e (eq-eqb k j at))))

board_core : (a : Aim) (b : Progress) (stop : Stop) (j : ℕ) (sums new : Sums) (more : ℤ) → a.allowed j ≡ true → Boards a.snapshot a.car b stop j
    → AreSums a sums (make_stop a.snapshot a.car b stop)
    → more ≡ cond (has sums.waiting.counted j) (pos 0) (term_at a (make_stop a.snapshot a.car b stop).opened j) → new.bound ≡ sums.bound +ℤ more
    → new.paid ≡ sums.paid +ℤ a.price j → ((k : ℕ) → has new.waiting.counted k ≡ (has sums.waiting.counted k && not (k == j))) → AreEven a new.waiting
    → new.waiting.moment ≡ sums.waiting.moment
    → IsBoundSize (bound_after a.snapshot a.car a.price a.allowed a.required (make_stop a.snapshot a.car b (with_call_on stop j)))
    → ((test : ℕ → Bool) → IsPriceSum (int_sum_where (call_count a.snapshot) test a.price)) → AreSums a new (make_stop a.snapshot a.car b (with_call_on stop j))
board_core a b stop j sums new more may h old more_at bound paid counted waiting moment small paid_small =
    let s = a.snapshot in
    let c = a.car in
    let p = make_stop s c b stop in
    let q = make_stop s c b (with_call_on stop j) in
    let adds = board_adds s c a.price a.allowed a.required b stop j may h in
    let counts = old.counted j
    ∙ all_but_counts (ltb j (call_count s)) (a.allowed j) (b.boarded j) (boards_at s stop j) (counts_at a p.opened j)
    (lt-ltb j (call_count s) h.call) may h.fresh h.absent in
    let exact = more_is (has sums.waiting.counted j) (a.required j) (term_at a p.opened j) more counts more_at in
    let new_is = together new.bound sums.bound more (bound_after s c a.price a.allowed a.required p) (bound_after s c a.price a.allowed a.required q)
    (waiting_term s a.price a.required p j) (term_at a p.opened j) bound old.bound exact adds in
    let priced = int_sum_one_off (call_count s) j (λ k. cond (p.boarded k) (a.price k) (pos 0)) (λ k. cond (q.boarded k) (a.price k) (pos 0))
    (a.price j) h.call (paid_here (b.boarded j) (boards_at s stop j) (boards_at s (with_call_on stop j) j) (a.price j) h.fresh h.absent h.present)
    (λ k ne. ap (λ (v : Bool). cond (b.boarded k || v) (a.price k) (pos 0)) (h.others k ne)) in
    let paid_is : new.paid ≡ int_sum_where (call_count s) q.boarded a.price = paid ∙ ap (λ (z : ℤ). z +ℤ a.price j) old.paid ∙ sym priced in
    record {
      bound = new_is;
      small = subst IsBoundSize (sym new_is) small;
      paid = paid_is;
      paid_small = subst IsPriceSum (sym paid_is) (paid_small q.boarded);
      counted = λ k. board_counted a c b stop j k sums.waiting.counted new.waiting.counted h (old.counted k) (counted k);
      waiting = waiting;
      opened = moment ∙ old.opened;
    }
  where
    together : (new old more p q w t : ℤ) → new ≡ old +ℤ more → old ≡ p → more ≡ t -ℤ w → q ≡ ((p -ℤ w) +ℤ t) → new ≡ q
    together new old more p q w t e f g h = omega (arith, ints, e, f, g, h)

pub board_sums : (a : Aim) (t : PartialTour) (sums new : Sums) (j : ℕ) (y : Course) (more : ℤ) → AimsAt a t
    → (last : IsLastMove a (StandFor a sums) t (Board j)) → IsAccepted a.snapshot → a.car < car_count a.snapshot → ((k : ℕ) → IsPrice (a.price k))
    → course t ≡ Some y → settled_cost t.snapshot t.car (reached t.snapshot t.car last.before) ≤ 10 ^ 18
    → more ≡ cond (has sums.waiting.counted j) (pos 0) (term_at a sums.waiting.moment j) → new.bound ≡ sums.bound +ℤ more → new.paid ≡ sums.paid +ℤ a.price j
    → ((k : ℕ) → has new.waiting.counted k ≡ (has sums.waiting.counted k && not (k == j))) → AreEven a new.waiting → new.waiting.moment ≡ sums.waiting.moment
    → StandFor a new y
board_sums a t sums new j y more aims last accepted car prices leads settled more_at bound paid counted waiting moment =
    let s = a.snapshot in
    let c = a.car in
    let x = last.before in
    let step = step_of a (StandFor a sums) t (Board j) y aims last leads in
    let standing = course_standing s c last.moves x accepted car step.front in
    let at = board_leads_to s c x j y step.leads in
    let may = (allowed_rest a.allowed last.moves (Board j ∷ []) (subst (AreAllowed a.allowed) last.moves_are last.may)).0 in
    let boards = boards_now s c x j y standing.before.kept at in
    let old = subst (λ (o : Option Stop). AreSums a sums (progress_after s c x.before o)) at.present last.stands_before in
    let settled_before =
    subst (λ (o : Option Stop). settled_cost s c (progress_after s c x.before o) ≤ 10 ^ 18) at.present
    (aimed_at a t (λ s c. settled_cost s c (reached s c x) ≤ 10 ^ 18) aims settled) in
    let none = board_settles s c x.before at.stop j boards in
    let settled_here = subst (λ (z : Course). settled_cost s c (reached s c z) ≤ 10 ^ 18) (sym at.leads) (omega (arith, settled_before, none)) in
    let small = subst (λ (z : Course). IsBoundSize (bound_after s c a.price a.allowed a.required (reached s c z))) at.leads
    (bound_size s c a.price a.allowed a.required t.moves y accepted car prices step.whole settled_here) in
    let more_here = more_at ∙ ap (λ (m : ℕ). cond (has sums.waiting.counted j) (pos 0) (term_at a m j)) old.opened in
    subst (λ (z : Course). AreSums a new (reached s c z)) (sym at.leads)
    (board_core a x.before at.stop j sums new more may boards old more_here bound paid counted waiting moment small
    (λ test. prices_size s test a.price accepted prices))

-- ---- a leave

pub lt_both : (t u : ℤ) → t ≤ℤ u → (int_lt t (pos 0) && int_lt u (pos 0)) ≡ int_lt u (pos 0)
lt_both t u h = by_cases (int_lt t (pos 0)) (int_lt u (pos 0)) refl refl
  where
    by_cases : (v w : Bool) → int_lt t (pos 0) ≡ v → int_lt u (pos 0) ≡ w → (v && w) ≡ w
    by_cases true w e f = refl
    by_cases false false e f = refl
    by_cases false true e f = absurd (grind (arith, ints, e, f, h))

counted_later : (n a b x r : Bool) (t u : ℤ) → x ≡ false → t ≤ℤ u
    → ((((n && a) && not b) && (r || int_lt t (pos 0))) && (r || int_lt u (pos 0))) ≡ (((n && a) && not (b || x)) && (r || int_lt u (pos 0)))
counted_later n a b true r t u e h = absurd (false≢true (sym e))
counted_later true true false false true t u e h = refl
counted_later true true false false false t u e h = lt_both t u h
counted_later true true true false r t u e h = refl
counted_later true false b false r t u e h = refl
counted_later false a b false r t u e h = refl

adds_later : (n a b x r : Bool) (t u : ℤ) → n ≡ true → x ≡ false → t ≤ℤ u
    → cond (((n && a) && not b) && (r || int_lt t (pos 0))) (cond r u (cond (int_lt u (pos 0)) u (pos 0))) (pos 0)
    ≡ cond (a && not (b || x)) (cond r u (cond (int_lt u (pos 0)) u (pos 0))) (pos 0)
adds_later false a b x r t u e f h = absurd (false≢true e)
adds_later n a b true r t u e f h = absurd (false≢true (sym f))
adds_later true false b false r t u e f h = refl
adds_later true true true false r t u e f h = refl
adds_later true true false false true t u e f h = refl
adds_later true true false false false t u e f h = by_cases (int_lt t (pos 0)) (int_lt u (pos 0)) (lt_both t u h)
  where
    by_cases : (v w : Bool) → (v && w) ≡ w → cond v (cond w u (pos 0)) (pos 0) ≡ cond w u (pos 0)
    by_cases true w e = refl
    by_cases false true e = absurd (false≢true e)
    by_cases false false e = refl

-- a rider carried gets off or rides on, and costs the same either way
off_or_on_same : (k d x : Bool) (now off on : ℕ) → x ≡ false → (d ≡ true → now ≡ off) → (d ≡ false → now ≡ on)
    → cond k now 0 ≡ cond (k && d) off 0 + cond ((k && not d) || x) on 0
off_or_on_same false d true now off on none here there = absurd (false≢true (sym none))
off_or_on_same false d false now off on none here there = refl
off_or_on_same true true false now off on none here there = let is = here refl in omega (arith, is)
off_or_on_same true false false now off on none here there = let is = there refl in omega (arith, is)
off_or_on_same true d true now off on none here there = absurd (false≢true (sym none))

rides_over : (s : Snapshot) (c : ℕ) (p : Progress) (g r : ℕ) → IsAccepted s → g < floor_count s.building → let q = make_stop s c p (empty_stop g) in
    cond (p.carried r) (cost_if_straight s (standing_at p g q.opened) r) 0
    ≡ cond (gets_off s p g r) (cost_of_rider s r (p.boarded_at r) q.opened) 0 + cond (q.carried r) (cost_if_straight s q r) 0
rides_over s c p g r a to =
    let q = make_stop s c p (empty_stop g) in
    let none = no_boards s g r in
    let floors = a.building.travel_floors in
    let rest = a.building.travel.at_rest g (omega (arith, floors, to)) in
    let boarded : q.boarded_at r ≡ p.boarded_at r = ap (λ (x : Bool). cond x q.opened (p.boarded_at r)) none in
    off_or_on_same (p.carried r) (eqb (destination_of s r) g) (boards_at s (empty_stop g) r) (cost_if_straight s (standing_at p g q.opened) r)
    (cost_of_rider s r (p.boarded_at r) q.opened) (cost_if_straight s q r) none
    (λ e. let way = ap (time_between s.building.travel g) (eqb-true (destination_of s r) g e) in
    ap (cost_of_rider s r (p.boarded_at r)) (omega (arith, way, rest)))
    (λ e. ap (λ (m : ℕ). cost_of_rider s r m (q.opened + time_between s.building.travel g (destination_of s r))) (sym boarded))

-- What is settled and what those carried cost is the same together, seen before the stop at which some get off.
pub settles_over : (s : Snapshot) (c : ℕ) (p : Progress) (g : ℕ) → IsAccepted s → IsKept s c p → g < floor_count s.building
    → let q = make_stop s c p (empty_stop g) in settled_cost s c q + cost_of_rides s q ≡ settled_cost s c p + cost_of_rides s (standing_at p g q.opened)
settles_over s c p g a kept to =
    let q = make_stop s c p (empty_stop g) in
    let settled = settled_more_once s c p (empty_stop g) kept (λ j boards. absurd (false≢true (sym (no_boards s g j) ∙ boards))) in
    let each = sum_below-same (rider_count s) (λ r. cond (p.carried r) (cost_if_straight s (standing_at p g q.opened) r) 0)
    (λ r. cond (gets_off s p g r) (cost_of_rider s r (p.boarded_at r) q.opened) 0 + cond (q.carried r) (cost_if_straight s q r) 0)
    (λ r b. rides_over s c p g r a to) in
    let parts = sum_below-add (rider_count s) (λ r. cond (gets_off s p g r) (cost_of_rider s r (p.boarded_at r) q.opened) 0)
    (λ r. cond (q.carried r) (cost_if_straight s q r) 0) in
    omega (arith, settled, each, parts)

sums_together : (new : ℤ) (settled carried settled' carried' : ℕ) (paid waiting paid' waiting' : ℤ)
    → new ≡ (((scaled settled +ℤ scaled carried) -ℤ paid) +ℤ waiting) → settled + carried ≡ settled' + carried' → paid ≡ paid' → waiting ≡ waiting'
    → new ≡ (((scaled settled' +ℤ scaled carried') -ℤ paid') +ℤ waiting')
sums_together new settled carried settled' carried' paid waiting paid' waiting' e f h i = omega (arith, ints, e, f, h, i)

leave_core : (a : Aim) (x : Course) (g : ℕ) (sums new : Sums) (settled carried : ℕ) (waiting : ℤ) → let p = reached a.snapshot a.car x in
    sums.waiting.moment ≤ (make_stop a.snapshot a.car p (empty_stop g)).opened → AreDeparting a sums x
    → settled + carried ≡ settled_cost a.snapshot a.car (make_stop a.snapshot a.car p (empty_stop g)) + cost_of_rides a.snapshot
    (make_stop a.snapshot a.car p (empty_stop g))
    → waiting ≡ int_sum_where (call_count a.snapshot) (has sums.waiting.counted) (adds_at a (make_stop a.snapshot a.car p (empty_stop g)).opened)
    → new.bound ≡ (((scaled settled +ℤ scaled carried) -ℤ sums.paid) +ℤ waiting) → new.paid ≡ sums.paid
    → ((k : ℕ) → has new.waiting.counted k ≡ (has sums.waiting.counted k && counts_at a (make_stop a.snapshot a.car p (empty_stop g)).opened k))
    → AreEven a new.waiting → new.waiting.moment ≡ (make_stop a.snapshot a.car p (empty_stop g)).opened
    → IsBoundSize (bound_after a.snapshot a.car a.price a.allowed a.required (make_stop a.snapshot a.car p (empty_stop g)))
    → AreSums a new (make_stop a.snapshot a.car p (empty_stop g))
leave_core a x g sums new settled carried waiting later old both_are waiting_is bound paid counted are opened small =
    let s = a.snapshot in
    let c = a.car in
    let p = reached s c x in
    let q = make_stop s c p (empty_stop g) in
    let m = sums.waiting.moment in
    let terms = λ (k : ℕ). term-later s a.price k m q.opened later in
    let same_paid = int_sum-same (call_count s) (λ j. cond (q.boarded j) (a.price j) (pos 0)) (λ j. cond (p.boarded j) (a.price j) (pos 0))
    (λ j b. ap (λ (x : Bool). cond x (a.price j) (pos 0)) (or_none (p.boarded j) (boards_at s (empty_stop g) j) (no_boards s g j))) in
    let same_waiting = int_sum-same (call_count s) (λ j. cond (has sums.waiting.counted j) (adds_at a q.opened j) (pos 0))
    (λ j. cond (a.allowed j && not (q.boarded j)) (waiting_term s a.price a.required q j) (pos 0))
    (λ j b. ap (λ (v : Bool). cond v (adds_at a q.opened j) (pos 0)) (old.counted j)
    ∙ adds_later (ltb j (call_count s)) (a.allowed j) (p.boarded j) (boards_at s (empty_stop g) j) (a.required j) (term_at a m j) (term_at a q.opened j)
    (lt-ltb j (call_count s) b) (no_boards s g j) (terms j)) in
    let paid_is : new.paid ≡ int_sum_where (call_count s) q.boarded a.price = paid ∙ old.paid ∙ sym same_paid in
    let new_is = sums_together new.bound settled carried (settled_cost s c q) (cost_of_rides s q) sums.paid waiting
    (int_sum_where (call_count s) q.boarded a.price)
    (int_sum_where (call_count s) (λ j. a.allowed j && not (q.boarded j)) (waiting_term s a.price a.required q)) bound both_are (old.paid ∙ sym same_paid)
    (waiting_is ∙ same_waiting) in
    record {
      bound = new_is;
      small = subst IsBoundSize (sym new_is) small;
      paid = paid_is;
      paid_small = subst IsPriceSum (sym paid) old.paid_small;
      counted = λ k. counted k ∙ ap (λ (v : Bool). v && counts_at a q.opened k) (old.counted k)
          ∙ counted_later (ltb k (call_count s)) (a.allowed k) (p.boarded k) (boards_at s (empty_stop g) k) (a.required k) (term_at a m k)
          (term_at a q.opened k) (no_boards s g k) (terms k);
      waiting = are;
      opened = opened;
    }

pub leave_sums : (a : Aim) (t : PartialTour) (sums new : Sums) (g : ℕ) (y : Course) (settled carried opened : ℕ) (waiting : ℤ) → AimsAt a t
    → (last : IsLastMove a (AreDeparting a sums) t (Leave g)) → IsAccepted a.snapshot → a.car < car_count a.snapshot → ((k : ℕ) → IsPrice (a.price k))
    → course t ≡ Some y → settled_cost t.snapshot t.car (reached t.snapshot t.car y) ≤ 10 ^ 18 → opened ≡ (reached t.snapshot t.car y).opened
    → settled ≡ settled_cost t.snapshot t.car (reached t.snapshot t.car last.before)
    → carried ≡ cost_of_rides t.snapshot (standing_at (reached t.snapshot t.car last.before) g opened)
    → waiting ≡ int_sum_where (call_count a.snapshot) (has sums.waiting.counted) (adds_at a opened)
    → new.bound ≡ (((scaled settled +ℤ scaled carried) -ℤ sums.paid) +ℤ waiting) → new.paid ≡ sums.paid
    → ((k : ℕ) → has new.waiting.counted k ≡ (has sums.waiting.counted k && counts_at a opened k)) → AreEven a new.waiting → new.waiting.moment ≡ opened
    → StandFor a new y
leave_sums a t sums new g y settled carried opened waiting aims last accepted car prices leads small opened_is settled_is carried_is waiting_is bound paid
    counted are moment =
    let s = a.snapshot in
    let c = a.car in
    let x = last.before in
    let p = reached s c x in
    let q = make_stop s c p (empty_stop g) in
    let step = step_of a (AreDeparting a sums) t (Leave g) y aims last leads in
    let placed = placed_reached s c x (course_standing s c last.moves x accepted car step.front) in
    let at = leave_leads_to s c x g y step.leads in
    let later = subst (λ (z : Course). sums.waiting.moment ≤ (reached s c z).opened) at.2 (last.stands_before.early g y step.leads) in
    let opened_there : opened ≡ q.opened =
    subst (λ (z : Course). opened ≡ (reached s c z).opened) at.2 (aimed_at a t (λ s c. opened ≡ (reached s c y).opened) aims opened_is) in
    let settled_here = aimed_at a t (λ s c. settled ≡ settled_cost s c (reached s c x)) aims settled_is in
    let carried_here = aimed_at a t (λ s c. carried ≡ cost_of_rides s (standing_at (reached s c x) g opened)) aims carried_is
    ∙ ap (λ (m : ℕ). cost_of_rides s (standing_at p g m)) opened_there in
    let over = settles_over s c p g accepted placed.kept (stands_in s c p g at.1) in
    let size = bound_size s c a.price a.allowed a.required t.moves y accepted car prices step.whole
    (aimed_at a t (λ s c. settled_cost s c (reached s c y) ≤ 10 ^ 18) aims small) in
    subst (λ (z : Course). AreSums a new (reached s c z)) (sym at.2)
    (leave_core a x g sums new settled carried waiting later last.stands_before (omega (arith, settled_here, carried_here, over))
    (waiting_is ∙ ap (λ (m : ℕ). int_sum_where (call_count s) (has sums.waiting.counted) (adds_at a m)) opened_there) bound paid
    (λ k. counted k ∙ ap (λ (m : ℕ). has sums.waiting.counted k && counts_at a m k) opened_there) are (moment ∙ opened_there)
    (subst (λ (z : Course). IsBoundSize (bound_after s c a.price a.allowed a.required (reached s c z))) at.2 size))

-- the doors open no sooner than at the moment for which calls were counted
pub leaves_later : (a : Aim) (t : PartialTour) (sums : Sums) (g : ℕ) (y : Course) → AimsAt a t → IsLastMove a (AreDeparting a sums) t (Leave g)
    → course t ≡ Some y → sums.waiting.moment ≤ (reached t.snapshot t.car y).opened
leaves_later a t sums g y aims last leads =
    let step = step_of a (AreDeparting a sums) t (Leave g) y aims last leads in
    aimed_from a t (λ s c. sums.waiting.moment ≤ (reached s c y).opened) aims (last.stands_before.early g y step.leads)

-- ---- a departure

-- What stands departs.
stands_departs : (a : Aim) (moves : List Move) (x : Course) (sums : Sums) → IsAccepted a.snapshot → a.car < car_count a.snapshot
    → course_of a.snapshot a.car moves ≡ Some x → StandFor a sums x → AreDeparting a sums x
stands_departs a moves x sums accepted car leads h =
    let s = a.snapshot in
    let c = a.car in
    let standing = course_standing s c moves x accepted car leads in
    record {
      least = λ g y next.
          subst (λ (z : ℤ). z ≤ℤ completion_bound_for a y) (sym h.bound) (grows_on s c a.price a.allowed a.required x y (Leave g) accepted standing refl next);
      small = h.small;
      paid = h.paid;
      paid_small = h.paid_small;
      counted = λ j. h.counted j ∙ ap (λ (m : ℕ). is_counted_at a (reached s c x) m j) (sym h.opened);
      waiting = h.waiting;
      early = λ g y next.
          let at = leave_leads_to s c x g y next in
          let arrives = arrives_after s c (reached s c x) g accepted (placed_reached s c x standing) at.1 in
          let opened = h.opened in
          subst (λ (z : Course). sums.waiting.moment ≤ (reached s c z).opened) (sym at.2) (omega (arith, arrives, opened));
    }

pub stands_departs_there : (a : Aim) (t : PartialTour) (sums : Sums) (x : Course) → AimsAt a t → IsAccepted a.snapshot → a.car < car_count a.snapshot
    → course t ≡ Some x → StandFor a sums x → AreDeparting a sums x
stands_departs_there a t sums x aims accepted car leads h = stands_departs a t.moves x sums accepted car (aimed_course a t t.moves aims ∙ leads) h

-- the doors at a next stop after the first one
begun_opens : (s : Snapshot) (c : ℕ) (p : Progress) (g : ℕ) → p.begun ≡ true
    → (make_stop s c p (empty_stop g)).opened ≡ p.leaves + time_between s.building.travel p.floor g + (spec_of s c).opening
begun_opens s c p g begun =
    ap (λ (b : Bool). cond (b || not (is_coming (state_of s c))) (p.leaves + time_between s.building.travel p.floor g) p.leaves + (spec_of s c).opening) begun

-- which is at another floor
goes_elsewhere : (s : Snapshot) (c : ℕ) (p : Progress) (g : ℕ) → p.begun ≡ true → may_stand s c p (empty_stop g) ≡ true → g ≡ p.floor → ⊥
goes_elsewhere s c p g begun stands same =
    both_ways (p.begun && (g == p.floor)) (stands_empty s c p g stands).elsewhere (ap (λ (b : Bool). b && (g == p.floor)) begun ∙ eq-eqb g p.floor same)

-- what calls add that wait until the moment w, of those that were counted before
waits_still : (a : Aim) (p : Progress) (calls m w : ℕ) → m ≤ w → ((j : ℕ) → has calls j ≡ is_counted_at a p m j)
    → int_sum_where (call_count a.snapshot) (has calls) (adds_at a w)
    ≡ int_sum_where (call_count a.snapshot) (λ j. a.allowed j && not (p.boarded j)) (waits_until a.snapshot a.price a.required w)
waits_still a p calls m w later counted =
    let s = a.snapshot in
    int_sum-same (call_count s) (λ j. cond (has calls j) (adds_at a w j) (pos 0))
    (λ j. cond (a.allowed j && not (p.boarded j)) (waits_until s a.price a.required w j) (pos 0))
    (λ j b. ap (λ (v : Bool). cond v (adds_at a w j) (pos 0)) (counted j)
    ∙ adds_later (ltb j (call_count s)) (a.allowed j) (p.boarded j) false (a.required j) (term_at a m j) (term_at a w j) (lt-ltb j (call_count s) b) refl
    (term-later s a.price j m w later)
    ∙ ap (λ (v : Bool). cond (a.allowed j && not v) (waits_until s a.price a.required w j) (pos 0)) (or_none (p.boarded j) false refl))

counted_still : (a : Aim) (p : Progress) (m w j : ℕ) → m ≤ w → (is_counted_at a p m j && counts_at a w j) ≡ is_counted_at a p w j
counted_still a p m w j later =
    let s = a.snapshot in
    counted_later (ltb j (call_count s)) (a.allowed j) (p.boarded j) false (a.required j) (term_at a m j) (term_at a w j) refl
    (term-later s a.price j m w later)
    ∙ ap (λ (v : Bool). ((ltb j (call_count s) && a.allowed j) && not v) && counts_at a w j) (or_none (p.boarded j) false refl)

-- the car departs no sooner than at the moment for which calls were counted
pub departs_later : (a : Aim) (t : PartialTour) (sums : Sums) (x : Course) → AimsAt a t → IsAccepted a.snapshot → a.car < car_count a.snapshot
    → course t ≡ Some x → StandFor a sums x → sums.waiting.moment ≤ (reached t.snapshot t.car x).leaves
departs_later a t sums x aims accepted car leads h =
    let opened = h.opened in
    let timely = (placed_reached a.snapshot a.car x (course_standing a.snapshot a.car t.moves x accepted car (aimed_course a t t.moves aims ∙ leads))).timely in
    aimed_from a t (λ s c. sums.waiting.moment ≤ (reached s c x).leaves) aims (omega (arith, opened, timely))

pub departing_size : (new paid waiting : ℤ) (settled carried : ℕ) → new ≡ (((scaled settled +ℤ scaled carried) -ℤ paid) +ℤ waiting) → settled ≤ 10 ^ 18
    → carried ≤ 10 ^ 18 → IsPriceSum paid → neg_ℤ (pos (256 * 10 ^ 24)) ≤ℤ waiting → waiting ≤ℤ pos (256 * 10 ^ 24) → IsBoundSize new
departing_size new paid waiting settled carried is small light paid_small low high =
    let paid_low = paid_small.0 in
    let paid_high = paid_small.1 in
    (omega (arith, ints, is, small, light, paid_low, paid_high, low, high), omega (arith, ints, is, small, light, paid_low, paid_high, low, high))

-- The sums of a car that departs with its doors open at the moment `opened`, if the way took no time, and counts calls at
-- the moment w, at which it could be at no other floor before.
pub departing_sums : (a : Aim) (t : PartialTour) (x : Course) (sums new : Sums) (settled carried opened w : ℕ) (waiting : ℤ) → AimsAt a t
    → IsAccepted a.snapshot → a.car < car_count a.snapshot → course t ≡ Some x → StandFor a sums x → (reached t.snapshot t.car x).begun ≡ true
    → opened ≡ (reached t.snapshot t.car x).leaves + (spec_of a.snapshot a.car).opening
    → ((g : ℕ) → g < floor_count a.snapshot.building → (g ≡ (reached a.snapshot a.car x).floor → ⊥)
    → w ≤ opened + time_between a.snapshot.building.travel (reached a.snapshot a.car x).floor g) → opened ≤ w
    → settled ≡ settled_cost t.snapshot t.car (reached t.snapshot t.car x)
    → carried ≡ cost_of_rides t.snapshot (standing_at (reached t.snapshot t.car x) (reached t.snapshot t.car x).floor opened)
    → waiting ≡ int_sum_where (call_count a.snapshot) (has sums.waiting.counted) (adds_at a w)
    → new.bound ≡ (((scaled settled +ℤ scaled carried) -ℤ sums.paid) +ℤ waiting) → IsBoundSize new.bound → new.paid ≡ sums.paid
    → ((k : ℕ) → has new.waiting.counted k ≡ (has sums.waiting.counted k && counts_at a w k)) → AreEven a new.waiting → new.waiting.moment ≡ w
    → AreDeparting a new x
departing_sums a t x sums new settled carried opened w waiting aims accepted car leads h begun_there opened_there near late settled_is carried_is waiting_is
    bound small paid counted are moment =
    let s = a.snapshot in
    let c = a.car in
    let p = reached s c x in
    let placed = placed_reached s c x (course_standing s c t.moves x accepted car (aimed_course a t t.moves aims ∙ leads)) in
    let begun = aimed_at a t (λ s c. (reached s c x).begun ≡ true) aims begun_there in
    let opens = aimed_at a t (λ s' c'. opened ≡ (reached s' c' x).leaves + (spec_of s c).opening) aims opened_there in
    let settled_here = aimed_at a t (λ s c. settled ≡ settled_cost s c (reached s c x)) aims settled_is in
    let carried_here = aimed_at a t (λ s c. carried ≡ cost_of_rides s (standing_at (reached s c x) (reached s c x).floor opened)) aims carried_is in
    let was = h.opened in
    let timely = placed.timely in
    let later : sums.waiting.moment ≤ w = omega (arith, was, timely, opens, late) in
    let old = λ (j : ℕ). h.counted j ∙ ap (λ (m : ℕ). is_counted_at a p m j) (sym h.opened) in
    let still = waits_still a p sums.waiting.counted sums.waiting.moment w later old in
    let bound_is : new.bound ≡ bound_departing s c a.price a.allowed a.required p opened w =
    sums_together new.bound settled carried (settled_cost s c p) (cost_of_rides s (standing_at p p.floor opened)) sums.paid waiting
    (int_sum_where (call_count s) p.boarded a.price)
    (int_sum_where (call_count s) (λ j. a.allowed j && not (p.boarded j)) (waits_until s a.price a.required w)) bound
    (omega (arith, settled_here, carried_here)) h.paid (waiting_is ∙ still) in
    record {
      least = λ g y next.
          let at = leave_leads_to s c x g y next in
          let doors = begun_opens s c p g begun in
          let apart = near g (stands_in s c p g at.1) (goes_elsewhere s c p g begun at.1) in
          let below = departs_below s c a.price a.allowed a.required p opened w g accepted placed at.1 (omega (arith, doors, opens))
          (omega (arith, doors, opens, apart)) in
          subst (λ (z : Course). new.bound ≤ℤ completion_bound_for a z) (sym at.2)
          (subst (λ (v : ℤ). v ≤ℤ bound_after s c a.price a.allowed a.required (make_stop s c p (empty_stop g))) (sym bound_is) below);
      small = small;
      paid = paid ∙ h.paid;
      paid_small = subst IsPriceSum (sym paid) h.paid_small;
      counted = λ j. counted j ∙ ap (λ (v : Bool). v && counts_at a w j) (old j) ∙ counted_still a p sums.waiting.moment w j later
          ∙ ap (λ (m : ℕ). is_counted_at a p m j) (sym moment);
      waiting = are;
      early = λ g y next.
          let at = leave_leads_to s c x g y next in
          let doors = begun_opens s c p g begun in
          let apart = near g (stands_in s c p g at.1) (goes_elsewhere s c p g begun at.1) in
          subst (λ (z : Course). new.waiting.moment ≤ (reached s c z).opened) (sym at.2) (omega (arith, doors, opens, apart, moment));
    }

-- ---- the end

pub end_sums : (a : Aim) (t : PartialTour) (sums : Sums) (y : Course) → AimsAt a t → IsLastMove a (StandFor a sums) t End → course t ≡ Some y
    → StandFor a sums y
end_sums a t sums y aims last leads =
    let step = step_of a (StandFor a sums) t End y aims last leads in
    subst (λ (z : Course). AreSums a sums (reached a.snapshot a.car z)) (sym (ending_leads_to a.snapshot a.car last.before y step.leads)) last.stands_before

-- ---- the start

fresh_waits : (n a : Bool) (z : ℤ) → n ≡ true → cond (a && n) z (pos 0) ≡ cond (a && true) z (pos 0)
fresh_waits n a z e = ap (λ (v : Bool). cond (a && v) z (pos 0)) e

fresh_counted : (n a c : Bool) → ((a && n) && c) ≡ (((n && a) && true) && c)
fresh_counted true true c = refl
fresh_counted true false c = refl
fresh_counted false true c = refl
fresh_counted false false c = refl

none_ride : (n : ℕ) (carried : ℕ → Bool) (cost : ℕ → ℤ) → ((j : ℕ) → j < n → carried j ≡ false)
    → int_sum_below n (λ j. cond (carried j) (cost j) (pos 0)) ≡ pos 0
none_ride n carried cost none =
    int_sum-same n (λ j. cond (carried j) (cost j) (pos 0)) (λ _. pos 0) (λ j lt. ap (λ (v : Bool). cond v (cost j) (pos 0)) (none j lt)) ∙ int_sum-zero n

start_core : (a : Aim) (sums : Sums) (calls : ℕ) (groups waiting : ℤ)
    → groups ≡ int_sum_below (length a.snapshot.aboard) (group_part a.snapshot (start_of a.snapshot a.car))
    → waiting ≡ int_sum_where (call_count a.snapshot) (has calls) (adds_at a (start_of a.snapshot a.car).opened)
    → ((k : ℕ) → has calls k ≡ (a.allowed k && ltb k (call_count a.snapshot))) → sums.bound ≡ groups +ℤ waiting → sums.paid ≡ pos 0
    → ((k : ℕ) → has sums.waiting.counted k ≡ (has calls k && counts_at a (start_of a.snapshot a.car).opened k)) → AreEven a sums.waiting
    → sums.waiting.moment ≡ (start_of a.snapshot a.car).opened
    → IsBoundSize (bound_after a.snapshot a.car a.price a.allowed a.required (start_of a.snapshot a.car)) → AreSums a sums (start_of a.snapshot a.car)
start_core a sums calls groups waiting groups_are waiting_is calls_are bound paid counted are opened small =
    let s = a.snapshot in
    let p = start_of s a.car in
    let apart = rides_apart s p in
    let no_calls = none_ride (call_count s) p.carried (λ j. scaled (cost_if_straight s p j)) (λ j lt. is_aboard-call s a.car j lt) in
    let settled = settled_start s a.car in
    let none_paid = int_sum-zero (call_count s) in
    let waits = int_sum-same (call_count s) (λ j. cond (has calls j) (adds_at a p.opened j) (pos 0))
    (λ j. cond (a.allowed j && true) (waiting_term s a.price a.required p j) (pos 0))
    (λ j lt. ap (λ (v : Bool). cond v (adds_at a p.opened j) (pos 0)) (calls_are j)
    ∙ fresh_waits (ltb j (call_count s)) (a.allowed j) (adds_at a p.opened j) (lt-ltb j (call_count s) lt)) in
    let bound_is = together sums.bound groups waiting (settled_cost s a.car p) (cost_of_rides s p) _ _ _ _ bound settled apart no_calls groups_are none_paid
    (waiting_is ∙ waits) in
    record {
      bound = bound_is;
      small = subst IsBoundSize (sym bound_is) small;
      paid = paid ∙ sym none_paid;
      paid_small = subst IsPriceSum (sym paid) (omega (arith, ints), omega (arith, ints));
      counted = λ k. counted k ∙ ap (λ (v : Bool). v && counts_at a p.opened k) (calls_are k)
          ∙ fresh_counted (ltb k (call_count s)) (a.allowed k) (counts_at a p.opened k);
      waiting = are;
      opened = opened;
    }
  where
    together : (new groups waiting : ℤ) (settled rides : ℕ) (call_rides group_rides paid waits : ℤ) → new ≡ groups +ℤ waiting → settled ≡ 0
        → scaled rides ≡ call_rides +ℤ group_rides → call_rides ≡ pos 0 → groups ≡ group_rides → paid ≡ pos 0 → waiting ≡ waits
        → new ≡ (((scaled settled +ℤ scaled rides) -ℤ paid) +ℤ waits)
    together new groups waiting settled rides call_rides group_rides paid waits e f g h i j k = omega (arith, ints, e, f, g, h, i, j, k)

pub start_sums : (a : Aim) (t : PartialTour) (sums : Sums) (x : Course) (calls : ℕ) (groups waiting : ℤ) → AimsAt a t → t.moves ≡ [] → IsAccepted a.snapshot
    → a.car < car_count a.snapshot → ((k : ℕ) → IsPrice (a.price k)) → course t ≡ Some x
    → groups ≡ int_sum_below (length t.snapshot.aboard) (group_part t.snapshot (reached t.snapshot t.car x))
    → waiting ≡ int_sum_where (call_count a.snapshot) (has calls) (adds_at a (reached t.snapshot t.car x).opened)
    → ((k : ℕ) → has calls k ≡ (a.allowed k && ltb k (call_count a.snapshot))) → sums.bound ≡ groups +ℤ waiting → sums.paid ≡ pos 0
    → ((k : ℕ) → has sums.waiting.counted k ≡ (has calls k && counts_at a (reached t.snapshot t.car x).opened k)) → AreEven a sums.waiting
    → sums.waiting.moment ≡ (reached t.snapshot t.car x).opened → StandFor a sums x
start_sums a t sums x calls groups waiting aims empty accepted car prices leads groups_are waiting_is calls_are bound paid counted are opened =
    let s = a.snapshot in
    let c = a.car in
    let first : x ≡ course_start s c = same x (course_start s c) (sym (aimed_course a t t.moves aims ∙ leads) ∙ ap (course_of s c) empty) in
    let settled = settled_start s c in
    let size = bound_size s c a.price a.allowed a.required [] (course_start s c) accepted car prices refl (omega (arith, settled)) in
    let groups_here = subst (λ (z : Course). groups ≡ int_sum_below (length s.aboard) (group_part s (reached s c z))) first
    (aimed_at a t (λ s c. groups ≡ int_sum_below (length s.aboard) (group_part s (reached s c x))) aims groups_are) in
    let waiting_here = subst (λ (z : Course). waiting ≡ int_sum_where (call_count s) (has calls) (adds_at a (reached s c z).opened)) first
    (aimed_at a t (λ s c. waiting ≡ int_sum_where (call_count a.snapshot) (has calls) (adds_at a (reached s c x).opened)) aims waiting_is) in
    let counted_here = subst (λ (z : Course). (k : ℕ) → has sums.waiting.counted k ≡ (has calls k && counts_at a (reached s c z).opened k)) first
    (aimed_at a t (λ s c. (k : ℕ) → has sums.waiting.counted k ≡ (has calls k && counts_at a (reached s c x).opened k)) aims counted) in
    let opened_here = subst (λ (z : Course). sums.waiting.moment ≡ (reached s c z).opened) first
    (aimed_at a t (λ s c. sums.waiting.moment ≡ (reached s c x).opened) aims opened) in
    subst (λ (z : Course). AreSums a sums (reached s c z)) (sym first)
    (start_core a sums calls groups waiting groups_here waiting_here calls_are bound paid counted_here are opened_here size)
  where
    same : (x y : Course) → Some x ≡ Some y → x ≡ y
    same x y e = cc

-- ---- the value of the tour

-- after the end no stop is present
clear_move : (s : Snapshot) (c : ℕ) (x : Course) (m : Move) (y : Course) → move_on s c x m ≡ Some y → y.ended ≡ true → y.present ≡ None
clear_move s c x (Leave g) y leads e = absurd (false≢true (sym (ap (λ (z : Course). z.ended) (leave_leads_to s c x g y leads).2) ∙ e))
clear_move s c x (Board j) y leads e = absurd (false≢true (sym (ap (λ (z : Course). z.ended) (board_leads_to s c x j y leads).leads) ∙ e))
clear_move s c x End y leads e = ap (λ (z : Course). z.present) (ending_leads_to s c x y leads)

clear_moves : (s : Snapshot) (c : ℕ) (x : Course) (ms : List Move) (y : Course) → (x.ended ≡ true → x.present ≡ None) → moves_on s c (Some x) ms ≡ Some y
    → y.ended ≡ true → y.present ≡ None
clear_moves s c x [] y clear leads = let same : x ≡ y = cc in subst (λ (z : Course). z.ended ≡ true → z.present ≡ None) same clear
clear_moves s c x (m ∷ ms) y clear leads =
    let step = leads_on s c x m ms y leads in
    clear_moves s c step.next ms y (clear_move s c x m step.next step.first) step.later

pub tour_worth : (a : Aim) (t : PartialTour) (sums : Sums) (x : Course) (settled : ℕ) (worth : ℤ) → AimsAt a t → course t ≡ Some x → x.ended ≡ true
    → StandFor a sums x → settled ≡ settled_cost t.snapshot t.car (reached t.snapshot t.car x) → worth ≡ scaled settled -ℤ sums.paid
    → worth ≡ value_for a x.left
tour_worth a t sums x settled worth aims leads ended stand settled_is is =
    let s = a.snapshot in
    let c = a.car in
    let here = aimed_course a t t.moves aims ∙ leads in
    let clear = clear_moves s c (course_start s c) t.moves x (λ e. refl) here ended in
    let sound = IsSound-moves s c (course_start s c) t.moves x (IsSound-start s c) here in
    let q = after_stops s c (start_of s c) x.left in
    let at : reached s c x ≡ q = ap (progress_after s c x.before) clear ∙ sound.before in
    let cost = aimed_at a t (λ s c. settled ≡ settled_cost s c (reached s c x)) aims settled_is ∙ ap (settled_cost s c) at in
    let paid = stand.paid ∙ ap (λ (p : Progress). int_sum_where (call_count s) p.boarded a.price) at
    ∙ int_sum-same (call_count s) (λ j. cond (q.boarded j) (a.price j) (pos 0)) (λ j. cond (is_boarded_in x.left j) (a.price j) (pos 0))
    (λ j lt. ap (λ (v : Bool). cond v (a.price j) (pos 0)) (boarded_in s c x.left j lt)) in
    together worth settled (cost_of s c x.left) sums.paid (prices_of_tour s a.price x.left) is cost paid
  where
    together : (worth : ℤ) (settled cost : ℕ) (paid prices : ℤ) → worth ≡ scaled settled -ℤ paid → settled ≡ cost → paid ≡ prices
        → worth ≡ scaled cost -ℤ prices
    together worth settled cost paid prices e f g = omega (arith, ints, e, f, g)
