-- With what the turns add the bound is at most the value of each tour that the partial tour can become.
use Rattle.std.proofs.Common.{◌≡◌, ℕ, zero, suc, ◌+◌, ◌-◌, ◌*◌, ◌<◌, ◌≤◌, ◌⊎◌, Bool, true, false, cond, not, ◌&&◌, ◌||◌, eqb, List, [], ◌∷◌, map, refl, sym, ap}
use Rattle.std.proofs.Common.{◌∙◌, subst, inl, inr, arith}
use Rattle.std.specs.Prelude.{ℤ, pos, negsuc, ◌+ℤ◌, ◌-ℤ◌, ◌≤ℤ◌, int_lt}
use Rattle.std.proofs.lemmas.Int.{ints}
use Rattle.std.proofs.lemmas.Bool.{both_ways, cases_Bool, cond_both, eq-eqb, eqb-false, false_from_ne_true, false≢true, or_left, or_parts, or_right}
use Rattle.std.proofs.Math.Nat.{mul-le-mul_left}
use Rattle.elevator_model.specs.declared.Stop.{Stop}
use Rattle.pricing_bound.specs.Aims.{Aim}
use Rattle.elevator_model.specs.declared.Move.{Move}
use Rattle.call_sets.specs.Counting.{is_among, sum_below, sum_where}
use Rattle.elevator_model.specs.Snapshot.{Snapshot, IsAccepted, call_count, call_of, serves}
use Rattle.elevator_model.specs.Tours.{Progress, after_stops, has_leg, is_aboard, rider_count, start_of}
use Rattle.elevator_model.specs.Costs.{cost_of, cost_of_rider, cost_of_wait, settled_cost}
use Rattle.elevator_model.specs.Plans.{is_boarded_in}
use Rattle.elevator_model.specs.Partial.{Course, settled_of}
use Rattle.search_model.specs.Extending.{any_above}
use Rattle.search_model.specs.Nodes.{IsTourWithin}
use Rattle.search_model.specs.Prices.{prices_of_tour, scaled}
use Rattle.search_model.specs.Sums.{int_sum_below, int_sum_where}
use Rattle.search_model.proofs.SumLemmas.{int_sum-add, int_sum-le, int_sum-minus, scaled-sum}
use Rattle.tour_rules.proofs.Reached.{ended_at, risen}
use Rattle.tour_rules.proofs.RiderSums.{is_aboard-call}
use Rattle.tour_rules.proofs.Settled.{cost_of_rider-call}
use Rattle.partial_tours.specs.Courses.{reached}
use Rattle.partial_tours.proofs.Boarded.{boarded_in}
use Rattle.pricing_bound.specs.Costs.{low as low_term, low_zero, term-most}
use Rattle.pricing_bound.specs.Standing.{IsStanding, course_standing}
use Rattle.route_bound.specs.ForcedRoute.{bound_from, cost_if_boarded, cost_on_route, forced_stops, halted, least_ride, may_still_board, route_bound}
use Rattle.route_bound.specs.ForcedRoute.{route_start}
use Rattle.route_bound.specs.Moves.{IsTimed, timed_reached}
use Rattle.route_bound.specs.Completions.{Completes, Rode}
use Rattle.route_bound.specs.LowerRoute.{HasBoardedIn, Joins, boards_in, call_rode, joining_part, least_cost, paid_part, riders_covered, rode_costs, still_same}
use Rattle.route_bound.specs.LowerRoute.{stops_first, tour_completes, tour_paid, waiting_part}
use Rattle.route_bound.specs.OnRoute.{route_begins}
use Rattle.route_bound.specs.Turns.{AreInTurn, AreTurns, EachTurn, IsStopTime, IsTurn, Turn, TurnsLaw, boards_first, floors_of_route, sum_of_turns}
use Rattle.route_bound.specs.TurnSums.{each_less, each_listed, is_listed, sum_over_le}
use Rattle.route_bound.specs.Slack.{later_first, serves_there}
use Rattle.route_bound.specs.TurnTimes.{AreInside, AreLeft, IsWaiting, low_first}
use Rattle.route_bound.specs.TurnsTaken.{each_with, turns_within}

-- ---- what a call adds that takes its turn or loses it

-- a signed number as a count, where it is not below 0
abbrev pub positive : ℤ → ℕ
positive (pos n) = n
positive (negsuc n) = 0

positive_least : (n : ℕ) (v : ℤ) → pos n ≤ℤ v → n ≤ positive v
positive_least n (pos m) h = omega (arith, ints, h)
positive_least n (negsuc m) h = absurd (omega (arith, ints, h))

positive_most : (n : ℕ) (v : ℤ) → pos n ≤ℤ v → pos (positive v) ≤ℤ v
positive_most n (pos m) h = omega (arith, ints)
positive_most n (negsuc m) h = absurd (omega (arith, ints, h))

abbrev final_cost : Snapshot → Progress → ℕ → ℕ
final_cost s q r = cost_of_rider s r (q.boarded_at r) (q.delivered_at r)

-- in thousandths: for how long it waited, or what the bound had of it
abbrev pub extra_of : Snapshot → ℕ → (price : ℕ → ℤ) → (up : Bool) → Course → (q : Progress) → List Turn → ℕ → ℕ
extra_of s c price up x q turns j =
    cond (is_listed j turns)
    (cond (q.boarded j) (1000 * final_cost s q j - 1000 * least_cost s c up x j) (positive (price j -ℤ scaled (least_cost s c up x j)))) 0

-- a wait that is longer by this many stops
waits_longer : (s : Snapshot) (j k step m d m' d' : ℕ) → j < call_count s → (call_of s j).released ≤ m → m + k * step ≤ m' → d - m ≤ d' - m'
    → cost_of_rider s j m d + (call_of s j).persons * (s.building.wait_weight * (k * step)) ≤ cost_of_rider s j m' d'
waits_longer s j k step m d m' d' lt come later longer =
    let b = s.building in
    let call = call_of s j in
    let old = cost_of_rider-call s j m d lt in
    let new = cost_of_rider-call s j m' d' lt in
    let wait : (m - call.released) + k * step ≤ m' - call.released = omega (arith, come, later) in
    let waits = mul-le-mul_left b.wait_weight wait in
    let less : (m - call.released) - b.patience ≤ (m' - call.released) - b.patience = omega (arith, wait) in
    let past = mul-le-mul_left b.patience_weight less in
    let rides = mul-le-mul_left b.travel_weight longer in
    let one : cost_of_wait b (m - call.released) + b.travel_weight * (d - m) + b.wait_weight * (k * step) ≤ cost_of_wait b
    (m' - call.released) + b.travel_weight * (d' - m') = omega (arith, waits, past, rides) in
    let all = mul-le-mul_left call.persons one in
    omega (arith, old, new, all)

waits_cost : (s : Snapshot) (c j k step unit m : ℕ) (q : Progress) → j < call_count s → (call_of s j).released ≤ m
    → unit ≤ 1000 * ((call_of s j).persons * (s.building.wait_weight * step)) → m + k * step ≤ q.boarded_at j → Rode s c j m q
    → k * unit ≤ 1000 * final_cost s q j - 1000 * cost_if_boarded s c j m
waits_cost s c j k step unit m q lt come cost later rode =
    let two = rode.delivered_at in
    let longer = waits_longer s j k step m (m + least_ride s c j) (q.boarded_at j) (q.delivered_at j) lt come later (omega (arith, two)) in
    let units = mul-le-mul_left k cost in
    omega (arith, longer, units)

-- ---- each call

-- as `call_covers`, with what the call adds
call_adds : (boarded aboard boards allowed required : Bool) (cost whole extra : ℕ) (price : ℤ) → aboard ≡ false → (boarded ≡ true → boards ≡ true)
    → (boards ≡ true → allowed ≡ true) → (required ≡ true → boards ≡ true) → (boarded ≡ true → extra ≡ 0)
    → (boarded ≡ false → boards ≡ true → 1000 * cost + extra ≤ 1000 * whole)
    → (boarded ≡ false → boards ≡ false → (extra ≡ 0) ⊎ ((allowed ≡ true) × (pos extra ≤ℤ (price -ℤ scaled cost))))
    → ((cond (allowed && not boarded) (cond required (scaled cost -ℤ price) (cond (int_lt (scaled cost -ℤ price) (pos 0)) (scaled cost -ℤ price) (pos 0)))
    (pos 0) -ℤ cond boarded price (pos 0)) +ℤ pos extra) ≤ℤ (scaled (cond (not (boarded || aboard) && boards) whole 0) -ℤ cond boards price (pos 0))
call_adds boarded true boards allowed required cost whole extra price e f g h k l m = absurd (false≢true (sym e))
call_adds true false false allowed required cost whole extra price e f g h k l m = absurd (false≢true (f refl))
call_adds true false true true required cost whole extra price e f g h k l m = let none = k refl in omega (arith, ints, none)
call_adds true false true false required cost whole extra price e f g h k l m = absurd (false≢true (g refl))
call_adds false false true true required cost whole extra price e f g h k l m =
    let most = term-most required (scaled cost -ℤ price) in
    let more = l refl refl in
    omega (arith, ints, most, more)
call_adds false false true false required cost whole extra price e f g h k l m = absurd (false≢true (g refl))
call_adds false false false allowed true cost whole extra price e f g h k l m = absurd (false≢true (h refl))
call_adds false false false true false cost whole extra price e f g h k l m = loses (m refl refl)
  where
    loses : (extra ≡ 0) ⊎ ((true ≡ true) × (pos extra ≤ℤ (price -ℤ scaled cost)))
        → ((cond (int_lt (scaled cost -ℤ price) (pos 0)) (scaled cost -ℤ price) (pos 0) -ℤ pos 0) +ℤ pos extra) ≤ℤ (scaled 0 -ℤ pos 0)
    loses (inl none) = let low = low_zero (scaled cost -ℤ price) in omega (arith, ints, none, low)
    loses (inr lost) = let low = low_term (scaled cost -ℤ price) in let most = lost.1 in omega (arith, ints, most, low)
call_adds false false false false false cost whole extra price e f g h k l m = none_lost (m refl refl)
  where
    none_lost : (extra ≡ 0) ⊎ ((false ≡ true) × (pos extra ≤ℤ (price -ℤ scaled cost))) → ((pos 0 -ℤ pos 0) +ℤ pos extra) ≤ℤ (scaled 0 -ℤ pos 0)
    none_lost (inl none) = omega (arith, ints, none)
    none_lost (inr lost) = absurd (false≢true lost.0)

pos_sum : (n : ℕ) (f : ℕ → ℕ) → int_sum_below n (λ k. pos (f k)) ≡ pos (sum_below n f)
pos_sum zero f = refl
pos_sum (suc n) f =
    let rest = pos_sum n f in
    omega (arith, ints, rest)

-- what is asked of what the calls add
pub record AreExtras (s : Snapshot) (c : ℕ) (price : ℕ → ℤ) (allowed : ℕ → Bool) (up : Bool) (x : Course) (q : Progress) (extra : ℕ → ℕ) : Type 0 where
  pub rode : (j : ℕ) → j < call_count s → (reached s c x).boarded j ≡ true → extra j ≡ 0
  pub boards : (j : ℕ) → j < call_count s → (reached s c x).boarded j ≡ false → q.boarded j ≡ true
      → 1000 * least_cost s c up x j + extra j ≤ 1000 * final_cost s q j
  pub lost : (j : ℕ) → j < call_count s → (reached s c x).boarded j ≡ false → q.boarded j ≡ false → (extra j ≡ 0)
      ⊎ ((allowed j ≡ true) × (pos (extra j) ≤ℤ (price j -ℤ scaled (least_cost s c up x j))))

calls_add : (s : Snapshot) (c : ℕ) (price : ℕ → ℤ) (allowed required : ℕ → Bool) (up : Bool) (x : Course) (q : Progress) (extra : ℕ → ℕ)
    → HasBoardedIn s c allowed required x q → AreExtras s c price allowed up x q extra
    → ((int_sum_below (call_count s) (waiting_part s c price allowed required up x) +ℤ pos (sum_below (call_count s) extra)) -ℤ int_sum_where (call_count s)
    (reached s c x).boarded price) ≤ℤ
    (scaled (sum_below (call_count s) (joining_part s c (final_cost s q) (reached s c x) q)) -ℤ int_sum_where (call_count s) q.boarded price)
calls_add s c price allowed required up x q extra h adds =
    let n = call_count s in
    let p = reached s c x in
    let waits = waiting_part s c price allowed required up x in
    let joins = joining_part s c (final_cost s q) p q in
    let paid = paid_part price p.boarded in
    let each = int_sum-le n (λ j. (waits j -ℤ paid j) +ℤ pos (extra j)) (λ j. scaled (joins j) -ℤ paid_part price q.boarded j)
    (λ j b. call_adds (p.boarded j) (is_aboard s c j) (q.boarded j) (allowed j) (required j) (least_cost s c up x j) (final_cost s q j) (extra j) (price j)
    (is_aboard-call s c j b) (h.stays j) (h.keeps j b) (h.serves j b) (adds.rode j b) (adds.boards j b) (adds.lost j b)) in
    let both = int_sum-add n (λ j. waits j -ℤ paid j) (λ j. pos (extra j)) in
    let old = int_sum-minus n waits paid in
    let new = int_sum-minus n (λ j. scaled (joins j)) (paid_part price q.boarded) in
    let whole = scaled-sum n joins in
    let more = pos_sum n extra in
    omega (arith, ints, each, both, old, new, whole, more)

-- ---- the turns of a partial tour

-- of a call: what the bound has of it
pub record IsTurnOf (a : Aim) (x : Course) (least j : ℕ) : Type 0 where
  pub allowed : a.allowed j ≡ true
  pub gain : a.required j ≡ false
      → (pos least +ℤ scaled (cost_if_boarded a.snapshot a.car j (boards_first a.snapshot a.car (may_still_board x) (reached a.snapshot a.car x) j))) ≤ℤ
      a.price j

-- what is known of the car and its tour
pub record HasTurns (a : Aim) (x : Course) (later : List Move) (z : Course) (step unit : ℕ) (turns : List Turn) : Type 0 where
  pub accepted : IsAccepted a.snapshot
  pub standing : IsStanding a.snapshot a.car x
  pub timed : IsTimed a.snapshot a.car (reached a.snapshot a.car x)
  pub served : serves a.snapshot.building a.car (reached a.snapshot a.car x).floor ≡ true
  pub goes : Completes a.snapshot a.car x later z
  pub boards : HasBoardedIn a.snapshot a.car a.allowed a.required x (reached a.snapshot a.car z)
  pub time : IsStopTime a.snapshot a.car step
  pub each : EachTurn (IsTurn floors_of_route a (may_still_board x) (reached a.snapshot a.car x) step unit) turns
  pub order : AreInTurn a.snapshot turns

abbrev extra_for : Aim → Course → Course → List Turn → ℕ → ℕ
extra_for a x z turns =
    extra_of a.snapshot a.car a.price (any_above a.snapshot (reached a.snapshot a.car x)) x (reached a.snapshot a.car z) turns

own_listed : (turns : List Turn) → EachTurn (λ turn. is_listed turn.call turns ≡ true) turns
own_listed [] = tt
own_listed (turn ∷ turns) = (
  or_left (eqb turn.call turn.call) (is_listed turn.call turns) (eq-eqb turn.call turn.call refl),
  each_less (λ next. is_listed next.call turns ≡ true) (λ next. is_listed next.call (turn ∷ turns) ≡ true) turns
      (λ next e. or_right (eqb turn.call next.call) (is_listed next.call turns) e) (own_listed turns),
)

inside_more : (g : ℕ) (floors fs : List ℕ) → AreInside floors fs → AreInside (g ∷ floors) fs
inside_more g floors [] h = tt
inside_more g floors (f ∷ fs) h = (or_right (eqb g f) (is_among f floors) h.0, inside_more g floors fs h.1)

inside_own : (fs : List ℕ) → AreInside fs fs
inside_own [] = tt
inside_own (f ∷ fs) = (or_left (eqb f f) (is_among f fs) (eq-eqb f f refl), inside_more f fs fs (inside_own fs))

-- a call waits at the start
first_waits : (a : Aim) (x : Course) (later : List Move) (z : Course) (step unit : ℕ) (turns : List Turn) (turn : Turn) → HasTurns a x later z step unit turns
    → IsTurn floors_of_route a (may_still_board x) (reached a.snapshot a.car x) step unit turn → is_listed turn.call turns ≡ true
    → IsWaiting a.snapshot a.car (any_above a.snapshot (reached a.snapshot a.car x)) step unit (floors_of_route a.snapshot (reached a.snapshot a.car x))
    (boards_first a.snapshot a.car (may_still_board x) (reached a.snapshot a.car x)) (extra_for a x z turns) (reached a.snapshot a.car z)
    (reached a.snapshot a.car x) (forced_stops a.snapshot (any_above a.snapshot (reached a.snapshot a.car x)) (reached a.snapshot a.car x))
    (reached a.snapshot a.car x) turn
first_waits a x later z step unit turns turn has is listed =
    let s = a.snapshot in
    let c = a.car in
    let p = reached s c x in
    let q = reached s c z in
    let up = any_above s p in
    let fs = forced_stops s up p in
    let j = turn.call in
    let wait = 1000 * final_cost s q j - 1000 * least_cost s c up x j in
    let loss = positive (a.price j -ℤ scaled (least_cost s c up x j)) in
    let apart = or_parts (eqb p.floor (call_of s j).origin) (is_among (call_of s j).origin fs) is.away in
    let count = ap (λ (b : Bool). cond b (cond (q.boarded j) wait loss) 0) listed in
    record {
      call = is.call;
      away = is.away;
      waits = is.waits;
      low = low_first s c up p fs (may_still_board x) j (λ e. eqb-false p.floor (call_of s j).origin apart.0 (sym e));
      paid = λ k boarded late.
          (let rode = call_rode s c up x later z j has.accepted has.standing has.timed has.goes is.waits boarded in
          let cost = waits_cost s c j k step unit (boards_first s c (may_still_board x) p j) q is.call is.come is.cost late rode in
          let told = count ∙ ap (λ (b : Bool). cond b wait loss) boarded in omega (arith, cost, told));
      lost = λ missed. (let free = false_from_ne_true (a.required j) (λ e. both_ways (q.boarded j) missed (has.boards.serves j is.call e)) in
          let gain = is.gain free in let least = positive_least turn.gain (a.price j -ℤ scaled (least_cost s c up x j)) (omega (arith, ints, gain)) in
          let told = count ∙ ap (λ (b : Bool). cond b wait loss) missed in omega (arith, least, told));
    }

first_left : (a : Aim) (x : Course) (later : List Move) (z : Course) (step unit : ℕ) (turns : List Turn) → HasTurns a x later z step unit turns
    → AreLeft a.snapshot a.car (any_above a.snapshot (reached a.snapshot a.car x)) step unit (floors_of_route a.snapshot (reached a.snapshot a.car x))
    (boards_first a.snapshot a.car (may_still_board x) (reached a.snapshot a.car x)) (extra_for a x z turns) (reached a.snapshot a.car z) 0 turns x
first_left a x later z step unit turns has =
    let s = a.snapshot in
    let c = a.car in
    let p = reached s c x in
    let up = any_above s p in
    let fs = forced_stops s up p in
    let floors = floors_of_route s p in
    record {
      route = p;
      ahead = fs;
      on = route_begins s c up p has.timed;
      inside = inside_more p.floor fs fs (inside_own fs);
      here = 0;
      far = 0;
      later = later_first s c step p has.served;
      kind = inl (record { floor = or_left (eqb p.floor p.floor) (is_among p.floor fs) (eq-eqb p.floor p.floor refl); enough = omega arith });
      each = each_with (IsTurn floors_of_route a (may_still_board x) p step unit) (λ turn. is_listed turn.call turns ≡ true)
          (IsWaiting s c up step unit floors (boards_first s c (may_still_board x) p) (extra_for a x z turns) (reached s c z) p fs p) turns
          (λ turn is listed. first_waits a x later z step unit turns turn has is listed) has.each (own_listed turns);
      leg = has.timed.leg;
    }

-- what the turns add is at most what the calls add
turns_most : (a : Aim) (x : Course) (later : List Move) (z : Course) (step unit : ℕ) (turns : List Turn) → HasTurns a x later z step unit turns
    → sum_of_turns unit 0 turns ≤ sum_below (call_count a.snapshot) (extra_for a x z turns)
turns_most a x later z step unit turns has =
    let s = a.snapshot in
    let c = a.car in
    let p = reached s c x in
    let extra = extra_for a x z turns in
    let most = turns_within s c (any_above s p) step unit (floors_of_route s p)
    (boards_first s c (may_still_board x) p) extra 0 turns x later z has.accepted has.time has.standing has.order has.goes
    (first_left a x later z step unit turns has) in
    let none : 0 * unit ≡ 0 = omega arith in
    let same = ap (λ (d : ℕ). sum_of_turns unit d turns) none in
    let all = sum_over_le s (call_count s) extra turns
    (each_less (IsTurn floors_of_route a (may_still_board x) p step unit) (λ turn. turn.call < call_count s) turns (λ turn is. is.call) has.each)
    has.order in
    omega (arith, most, same, all)

listed_extra : (listed boarded : Bool) (wait loss : ℕ) → listed ≡ false → cond listed (cond boarded wait loss) 0 ≡ 0
listed_extra false boarded wait loss e = refl
listed_extra true boarded wait loss e = absurd (false≢true (sym e))

are_extras : (a : Aim) (x : Course) (later : List Move) (z : Course) (step unit : ℕ) (turns : List Turn) → HasTurns a x later z step unit turns
    → AreExtras a.snapshot a.car a.price a.allowed (any_above a.snapshot (reached a.snapshot a.car x)) x (reached a.snapshot a.car z) (extra_for a x z turns)
are_extras a x later z step unit turns has =
    let s = a.snapshot in
    let c = a.car in
    let p = reached s c x in
    let q = reached s c z in
    let up = any_above s p in
    let wait = λ (j : ℕ). 1000 * final_cost s q j - 1000 * least_cost s c up x j in
    let loss = λ (j : ℕ). positive (a.price j -ℤ scaled (least_cost s c up x j)) in
    let turn_of = λ (j : ℕ) (listed : is_listed j turns ≡ true).
    each_listed (IsTurn floors_of_route a (may_still_board x) p step unit) j turns has.each listed in
    record {
      rode = λ j b on. listed_extra (is_listed j turns) (q.boarded j) (wait j) (loss j)
          (false_from_ne_true (is_listed j turns)
          (λ listed. let one = turn_of j listed in both_ways (p.boarded j) (subst (λ (i : ℕ). p.boarded i ≡ false) one.call one.holds.waits) on));
      boards = λ j b old new.
          (let rode = call_rode s c up x later z j has.accepted has.standing has.timed has.goes old new in
          let cost = rode_costs s c j (boards_first s c (may_still_board x) p j) q rode in
          let told = ap (λ (v : Bool). cond (is_listed j turns) (cond v (wait j) (loss j)) 0) new in
          cond_both (is_listed j turns) (wait j) 0
          (λ (n : ℕ). extra_for a x z turns j ≡ n → 1000 * least_cost s c up x j + extra_for a x z turns j ≤ 1000 * final_cost s q j)
          (λ e is. omega (arith, cost, is)) (λ e is. omega (arith, cost, is)) told);
      lost = λ j b old missed. elim (cases_Bool (is_listed j turns)) [
        | inl listed ↦ (let one = turn_of j listed in
            let is = subst (λ (i : ℕ). IsTurnOf a x one.turn.gain i) one.call (record { allowed = one.holds.allowed; gain = one.holds.gain }) in
            let free = false_from_ne_true (a.required j) (λ e. both_ways (q.boarded j) missed (has.boards.serves j b e)) in let gain = is.gain free in
            let most = positive_most one.turn.gain (a.price j -ℤ scaled (least_cost s c up x j)) (omega (arith, ints, gain)) in
            let told = ap (λ (v : Bool). cond v (cond (q.boarded j) (wait j) (loss j)) 0) listed ∙ ap (λ (v : Bool). cond v (wait j) (loss j)) missed in
            inr (is.allowed, subst (λ (n : ℕ). pos n ≤ℤ (a.price j -ℤ scaled (least_cost s c up x j))) (sym told) most))
        | inr other ↦ inl (listed_extra (is_listed j turns) (q.boarded j) (wait j) (loss j) other)
      ];
    }

-- ---- the tour

final_joins : (s : Snapshot) (c : ℕ) (p q : Progress) → Joins s c (final_cost s q) p q
final_joins s c p q r below e k = omega arith

-- the bound with the turns, where the car travels on
turns_from : (a : Aim) (x : Course) (later : List Move) (z : Course) (step unit : ℕ) (turns : List Turn) → HasTurns a x later z step unit turns
    → (bound_from a.snapshot a.car a.price a.allowed a.required (may_still_board x) (reached a.snapshot a.car x) +ℤ pos (sum_of_turns unit 0 turns)) ≤ℤ
    (scaled (settled_cost a.snapshot a.car (reached a.snapshot a.car z)) -ℤ int_sum_where (call_count a.snapshot) (reached a.snapshot a.car z).boarded a.price)
turns_from a x later z step unit turns has =
    let s = a.snapshot in
    let c = a.car in
    let p = reached s c x in
    let q = reached s c z in
    let up = any_above s p in
    let most = turns_most a x later z step unit turns has in
    let calls = calls_add s c a.price a.allowed a.required up x q (extra_for a x z turns) has.boards (are_extras a x later z step unit turns has) in
    let riders = riders_covered s c up (final_cost s q) x later z has.accepted has.standing has.timed has.goes (final_joins s c p q) in
    with_turns (settled_cost s c p) (sum_where (rider_count s) p.carried (cost_on_route s c up p (forced_stops s up p)))
    (sum_below (call_count s) (joining_part s c (final_cost s q) p q)) (settled_cost s c q) (sum_of_turns unit 0 turns)
    (sum_below (call_count s) (extra_for a x z turns)) (int_sum_where (call_count s) p.boarded a.price)
    (int_sum_below (call_count s) (waiting_part s c a.price a.allowed a.required up x)) (int_sum_where (call_count s) q.boarded a.price) riders calls most
  where
    with_turns : (settled straight joining whole turns extra : ℕ) (paid waiting paid' : ℤ) → (settled + straight) + joining ≤ whole
        → ((waiting +ℤ pos extra) -ℤ paid) ≤ℤ (scaled joining -ℤ paid') → turns ≤ extra
        → ((((scaled settled +ℤ scaled straight) -ℤ paid) +ℤ waiting) +ℤ pos turns) ≤ℤ (scaled whole -ℤ paid')
    with_turns settled straight joining whole turns extra paid waiting paid' h k m = omega (arith, ints, h, k, m)

turns_at : (a : Aim) (x : Course) (later : List Move) (z : Course) (step unit : ℕ) (turns : List Turn) (t : ℕ → Bool) (r : Progress)
    → ((j : ℕ) → t j ≡ may_still_board x j) → r ≡ reached a.snapshot a.car x → EachTurn (IsTurn floors_of_route a t r step unit) turns
    → EachTurn (IsTurn floors_of_route a (may_still_board x) (reached a.snapshot a.car x) step unit) turns
turns_at a x later z step unit turns t r h there each =
    let same : t ≡ may_still_board x = λ i j. h j i in
    subst (λ (p : Progress). EachTurn (IsTurn floors_of_route a (may_still_board x) p step unit) turns) there
    (subst (λ (still : ℕ → Bool). EachTurn (IsTurn floors_of_route a still r step unit) turns) same each)

turns_go : (a : Aim) (x : Course) (later : List Move) (z : Course) (tour : List Stop) (step unit : ℕ) (turns : List Turn) → IsAccepted a.snapshot
    → IsStanding a.snapshot a.car x → serves a.snapshot.building a.car (reached a.snapshot a.car x).floor ≡ true → x.ended ≡ false
    → AreTurns floors_of_route a x step unit turns → Completes a.snapshot a.car x later z
    → ((j : ℕ) → j < call_count a.snapshot → (reached a.snapshot a.car z).boarded j ≡ is_boarded_in tour j)
    → IsTourWithin a.snapshot a.car a.allowed a.required tour
    → (bound_from a.snapshot a.car a.price a.allowed a.required (may_still_board x) (route_start a.snapshot a.car (reached a.snapshot a.car x)) +ℤ pos
    (sum_of_turns unit 0 turns)) ≤ℤ
    (scaled (settled_cost a.snapshot a.car (reached a.snapshot a.car z)) -ℤ int_sum_where (call_count a.snapshot) (reached a.snapshot a.car z).boarded a.price)
turns_go a x later z tour step unit turns accepted h served open_end are goes same within =
    let s = a.snapshot in
    let c = a.car in
    let p = reached s c x in
    let q = reached s c z in
    let most = scaled (settled_cost s c q) -ℤ int_sum_where (call_count s) q.boarded a.price in
    let added = pos (sum_of_turns unit 0 turns) in
    cond_both (has_leg s c p) p (halted s c p p.floor)
    (λ (r : Progress). EachTurn (IsTurn floors_of_route a (may_still_board x) r step unit) turns
    → (bound_from s c a.price a.allowed a.required (may_still_board x) r +ℤ added) ≤ℤ most)
    (λ leg each. turns_from a x later z step unit turns
    (record {
      accepted = accepted;
      standing = h;
      timed = timed_reached s c x h leg;
      served = served;
      goes = goes;
      boards =
          boards_in s c a.allowed a.required x later z tour accepted h goes same within;
      time = are.time;
      each = each;
      order = are.order;
    }))
    (λ leg each. let f = stops_first s c x later z h open_end leg goes in
    let y = f.next in
    let timed = timed_reached s c y f.standing (ap (has_leg s c) f.there) in
    let still = λ (j : ℕ). f.still j ∙ sym (f.still_next j) in
    let moved = turns_at a y f.rest z step unit turns (may_still_board x) (halted s c p p.floor) still (sym f.there) each in
    let le = turns_from a y f.rest z step unit turns
    (record {
      accepted = accepted;
      standing = f.standing;
      timed = timed;
      served = ap (λ (r : Progress). serves s.building c r.floor) f.there
          ∙ served;
      goes = f.completes;
      boards = boards_in s c a.allowed a.required y f.rest z tour accepted f.standing f.completes same within;
      time =
          are.time;
      each = moved;
      order = are.order;
    }) in
    let there = subst (λ (r : Progress). (bound_from s c a.price a.allowed a.required (may_still_board y) r +ℤ added) ≤ℤ most) f.there le in
    subst (λ (v : ℤ). (v +ℤ added) ≤ℤ most)
    (still_same s c a.price a.allowed a.required (may_still_board y) (may_still_board x) (halted s c p p.floor) (λ j. f.still_next j ∙ sym (f.still j)))
    there)
    are.each

pub turns_are_lower : TurnsLaw floors_of_route
turns_are_lower aim moves x tour step unit turns a b leads open_end are begins within =
    let s = aim.snapshot in
    let c = aim.car in
    let end : Course = ended_at (map (risen s) tour) (after_stops s c (start_of s c) tour) in
    let goes = tour_completes s c moves x tour leads begins within.feasible in
    let boarded = λ (j : ℕ) (lt : j < call_count s). boarded_in s c tour j lt in
    let paid : int_sum_where (call_count s) end.before.boarded aim.price ≡ prices_of_tour s aim.price tour = tour_paid s c aim.price tour in
    let standing = course_standing s c moves x a b leads in
    let le = turns_go aim x begins.0 end tour step unit turns a standing (serves_there s c moves x a b leads) open_end are goes boarded within in
    let bound = ap (λ (e : Bool).
    cond e (scaled (settled_of s c x) -ℤ int_sum_where (call_count s) (reached s c x).boarded aim.price)
    (bound_from s c aim.price aim.allowed aim.required (may_still_board x) (route_start s c (reached s c x)))) open_end in
    subst (λ (v : ℤ). (route_bound s c aim.price aim.allowed aim.required x +ℤ pos (sum_of_turns unit 0 turns)) ≤ℤ (scaled (cost_of s c tour) -ℤ v)) paid
    (subst (λ (v : ℤ). (v +ℤ pos (sum_of_turns unit 0 turns)) ≤ℤ (scaled (cost_of s c tour) -ℤ int_sum_where (call_count s) end.before.boarded aim.price))
    (sym bound) le)
