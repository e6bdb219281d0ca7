-- The completion bound is at most the value of each tour that the partial tour can become.
use Rattle.std.proofs.Common.{◌≡◌, ℕ, ◌<◌, Bool, true, false, cond, not, ◌&&◌, List, [], ◌∷◌, ◌++◌, map, refl, sym, ap, ◌∙◌, subst, arith, Option, Some, None}
use Rattle.std.specs.Prelude.{ℤ, pos, ◌+ℤ◌, ◌-ℤ◌, ◌≤ℤ◌, int_lt}
use Rattle.std.specs.List.{filter, flat_map, range_with_len}
use Rattle.std.proofs.lemmas.Int.{ints}
use Rattle.std.proofs.lemmas.Bool.{cond_both, or_left, or_right}
use Rattle.elevator_model.specs.declared.Rule.TheVariants.{FirstStop, Delivery}
use Rattle.elevator_model.specs.declared.Stop.{Stop}
use Rattle.elevator_model.specs.declared.Move.{Move}
use Rattle.elevator_model.specs.declared.Move.TheVariants.{Board, End}
use Rattle.call_sets.specs.Counting.{any_below, is_among, sum_where}
use Rattle.call_sets.proofs.BelowTests.{any_below-false}
use Rattle.call_sets.proofs.Sums.{sum_where-none}
use Rattle.elevator_model.specs.Snapshot.{Snapshot, IsAccepted, car_count, call_count, state_of, is_idle}
use Rattle.elevator_model.specs.Tours.{rider_count, start_of, after_stops}
use Rattle.elevator_model.specs.Costs.{cost_of}
use Rattle.elevator_model.specs.Plans.{is_boarded_in}
use Rattle.elevator_model.specs.Partial.{Course, course_start, course_of, moves_on, moves_of, moves_of_stop}
use Rattle.search_model.specs.Sums.{int_sum_where}
use Rattle.search_model.specs.Orders.{AreAllowed}
use Rattle.search_model.specs.Prices.{scaled, prices_of_tour, value_of}
use Rattle.search_model.specs.Bounds.{cost_if_straight, cost_if_alone, waiting_term, bound_after, completion_bound, LowerLaw}
use Rattle.search_model.proofs.SumLemmas.{int_sum-le, int_sum-same, int_sum-zero}
use Rattle.tour_rules.proofs.Reached.{ended_at, moves_on-append, moves_reach, risen}
use Rattle.tour_rules.proofs.Sound.{IsSound-moves, IsSound-start, leads_on}
use Rattle.partial_tours.proofs.Boarded.{boarded_in}
use Rattle.pricing_bound.specs.Aims.{Aim, completion_bound_for, value_for}
use Rattle.pricing_bound.specs.Costs.{low_zero}
use Rattle.pricing_bound.specs.Standing.{IsStanding, course_standing, standing_move}
use Rattle.pricing_bound.specs.GrowthLemmas.{grows_on}
use Rattle.pricing_bound.specs.Undercutting.{UndercutsNone}

-- ---- the moves of a tour board its calls

pub allowed_both : (allowed : ℕ → Bool) (ms ns : List Move) → AreAllowed allowed ms → AreAllowed allowed ns → AreAllowed allowed (ms ++ ns)
allowed_both allowed [] ns h k = k
allowed_both allowed (m ∷ ms) ns h k = (h.0, allowed_both allowed ms ns h.1 k)

pub allowed_rest : (allowed : ℕ → Bool) (ms ns : List Move) → AreAllowed allowed (ms ++ ns) → AreAllowed allowed ns
allowed_rest allowed [] ns h = h
allowed_rest allowed (m ∷ ms) ns h = allowed_rest allowed ms ns h.1

allowed_boards : (allowed test : ℕ → Bool) (js : List ℕ) → ((j : ℕ) → test j ≡ true → allowed j ≡ true) → AreAllowed allowed (map Board (filter test js))
allowed_boards allowed test [] h = tt
allowed_boards allowed test (j ∷ js) h =
    let rest = allowed_boards allowed test js h in
    cond_both (test j) (j ∷ filter test js) (filter test js) (λ (ks : List ℕ). AreAllowed allowed (map Board ks)) (λ e. (h j e, rest)) (λ e. rest)

allowed_stops : (s : Snapshot) (allowed : ℕ → Bool) (tour : List Stop) → ((j : ℕ) → is_boarded_in tour j ≡ true → allowed j ≡ true)
    → AreAllowed allowed (flat_map (moves_of_stop s) tour)
allowed_stops s allowed [] h = tt
allowed_stops s allowed (stop ∷ tour) h =
    allowed_both allowed (moves_of_stop s stop) (flat_map (moves_of_stop s) tour) (
      refl,
      allowed_boards allowed (λ j. is_among j stop.boards) (range_with_len 0 (call_count s))
          (λ j e. h j (or_left (is_among j stop.boards) (is_boarded_in tour j) e)),
    )
    (allowed_stops s allowed tour (λ j e. h j (or_right (is_among j stop.boards) (is_boarded_in tour j) e)))

-- ---- move after move to the end

climbs : (s : Snapshot) (c : ℕ) (price : ℕ → ℤ) (allowed required : ℕ → Bool) (x : Course) (later : List Move) (z : Course) → IsAccepted s → IsStanding s c x
    → AreAllowed allowed later → moves_on s c (Some x) later ≡ Some z
    → completion_bound s c price allowed required x ≤ℤ completion_bound s c price allowed required z
climbs s c price allowed required x [] z a h are leads =
    let same : x ≡ z = cc in
    subst (λ (y : Course). completion_bound s c price allowed required x ≤ℤ completion_bound s c price allowed required y) same
    (no_less (completion_bound s c price allowed required x))
  where
    no_less : (t : ℤ) → t ≤ℤ t
    no_less t = omega (arith, ints)
climbs s c price allowed required x (m ∷ later) z a h are leads =
    let step = leads_on s c x m later z leads in
    let here = grows_on s c price allowed required x step.next m a h are.0 step.first in
    let rest = climbs s c price allowed required step.next later z a (standing_move s c x m step.next h step.first) are.1 step.later in
    through (completion_bound s c price allowed required x) (completion_bound s c price allowed required step.next)
    (completion_bound s c price allowed required z) here rest
  where
    through : (t u v : ℤ) → t ≤ℤ u → u ≤ℤ v → t ≤ℤ v
    through t u v h k = omega (arith, ints, h, k)

-- No longer partial tour whose further boards are of allowed calls has a smaller bound.
pub longer_grows : (s : Snapshot) (c : ℕ) (price : ℕ → ℤ) (allowed required : ℕ → Bool) (moves : List Move) (x : Course) (later : List Move) (y : Course)
    → IsAccepted s → c < car_count s → course_of s c moves ≡ Some x → AreAllowed allowed later → course_of s c (moves ++ later) ≡ Some y
    → completion_bound s c price allowed required x ≤ℤ completion_bound s c price allowed required y
longer_grows s c price allowed required moves x later y a b leads are longer =
    climbs s c price allowed required x later y a (course_standing s c moves x a b leads) are
    (sym (ap (λ (o : Option Course). moves_on s c o later) leads) ∙ sym (moves_on-append s c (Some (course_start s c)) moves later) ∙ longer)

-- ---- at the end

pub nobody_carried : (first carried : Bool) → cond first (Some FirstStop) (cond carried (Some Delivery) None) ≡ None → carried ≡ false
nobody_carried true carried h = absurd (cc)
nobody_carried false true h = absurd (cc)
nobody_carried false false h = refl

-- what a call adds that did not board, where all required ones did
adds_nothing : (allowed boarded required : Bool) (t : ℤ) → (required ≡ true → boarded ≡ true)
    → cond (allowed && not boarded) (cond required t (cond (int_lt t (pos 0)) t (pos 0))) (pos 0) ≤ℤ pos 0
adds_nothing false boarded required t h = omega (arith, ints)
adds_nothing true true required t h = omega (arith, ints)
adds_nothing true false false t h = low_zero t
adds_nothing true false true t h = absurd (let e = h refl in cc)

at_the_end : (cost straight : ℕ) (paid prices waiting : ℤ) → straight ≡ 0 → paid ≡ prices → waiting ≤ℤ pos 0
    → (((scaled cost +ℤ scaled straight) -ℤ paid) +ℤ waiting) ≤ℤ (scaled cost -ℤ prices)
at_the_end cost straight paid prices waiting e same none = omega (arith, ints, e, same, none)

ended-le : (s : Snapshot) (c : ℕ) (price : ℕ → ℤ) (allowed required : ℕ → Bool) (tour : List Stop)
    → any_below (rider_count s) (after_stops s c (start_of s c) tour).carried ≡ false → ((j : ℕ) → required j ≡ true → is_boarded_in tour j ≡ true)
    → bound_after s c price allowed required (after_stops s c (start_of s c) tour) ≤ℤ value_of s c price tour
ended-le s c price allowed required tour empty serves =
    let p = after_stops s c (start_of s c) tour in
    let straight = sum_where-none (rider_count s) p.carried (cost_if_straight s p) (λ r b. any_below-false (rider_count s) p.carried r empty b) in
    let paid = int_sum-same (call_count s) (λ j. cond (p.boarded j) (price j) (pos 0)) (λ j. cond (is_boarded_in tour j) (price j) (pos 0))
    (λ j b. ap (λ (x : Bool). cond x (price j) (pos 0)) (boarded_in s c tour j b)) in
    let each = int_sum-le (call_count s) (λ j. cond (allowed j && not (p.boarded j)) (waiting_term s price required p j) (pos 0)) (λ _. pos 0)
    (λ j b. adds_nothing (allowed j) (p.boarded j) (required j) (scaled (cost_if_alone s j p.opened) -ℤ price j)
    (λ e. boarded_in s c tour j b ∙ serves j e)) in
    let none = int_sum-zero (call_count s) in
    at_the_end (cost_of s c tour) (sum_where (rider_count s) p.carried (cost_if_straight s p)) (int_sum_where (call_count s) p.boarded price)
    (prices_of_tour s price tour) (int_sum_where (call_count s) (λ j. allowed j && not (p.boarded j)) (waiting_term s price required p)) straight paid
    (rw none at each)

pub bound_is_lower : LowerLaw
bound_is_lower s c price allowed required moves x tour a b leads begins within =
    let end : Course = ended_at (map (risen s) tour) (after_stops s c (start_of s c) tour) in
    let whole = moves_reach s c tour within.feasible in
    let later : moves_on s c (Some x) begins.0 ≡ Some end = sym (ap (λ (o : Option Course). moves_on s c o begins.0) leads)
    ∙ sym (moves_on-append s c (Some (course_start s c)) moves begins.0) ∙ sym (ap (course_of s c) begins.1) ∙ whole in
    let all = allowed_both allowed (flat_map (moves_of_stop s) tour) (End ∷ []) (allowed_stops s allowed tour within.keeps) (refl, tt) in
    let rest = allowed_rest allowed moves begins.0 (subst (AreAllowed allowed) begins.1 all) in
    let up = climbs s c price allowed required x begins.0 end a (course_standing s c moves x a b leads) rest later in
    let over = (IsSound-moves s c (course_start s c) (moves_of s tour) end (IsSound-start s c) whole).over refl in
    let empty = nobody_carried (not end.before.begun && not (is_idle (state_of s c))) (any_below (rider_count s) end.before.carried) over in
    let value = ended-le s c price allowed required tour empty within.serves in
    through (completion_bound s c price allowed required x) (completion_bound s c price allowed required end) (value_of s c price tour) up value
  where
    through : (t u v : ℤ) → t ≤ℤ u → u ≤ℤ v → t ≤ℤ v
    through t u v h k = omega (arith, ints, h, k)

-- the same in the words of an aim
pub bound_undercuts : (a : Aim) (value : ℤ) (x : Course) → value ≡ completion_bound_for a x → UndercutsNone a value x
bound_undercuts a value x is = λ moves ok car leads tour begins within.
    subst (λ (z : ℤ). z ≤ℤ value_for a tour) (sym is) (bound_is_lower a.snapshot a.car a.price a.allowed a.required moves x tour ok car leads begins within)
