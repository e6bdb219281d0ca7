-- How many stops a tour without a broken rule can have.
use Rattle.std.proofs.Common.{get_or, drop, ◌==◌, ◌≡◌, ℕ, ◌+◌, ◌-◌, ◌<◌, ◌≤◌, Bool, true, false, cond, not, ◌&&◌, ◌||◌, ltb, leb, List, ◌∷◌, length, refl, sym}
use Rattle.std.proofs.Common.{ap, ◌∙◌, arith, Some, None, count_by}
use Rattle.std.proofs.lemmas.Bool.{and_parts, and_left, false≢true, ltb-true, lt-ltb, le-leb, lt-leb, not-false, not_from_false}
use Rattle.std.proofs.lemmas.List.{drop_more}
use Rattle.elevator_model.specs.declared.Stop.{Stop}
use Rattle.call_sets.specs.Counting.{is_among, has}
use Rattle.elevator_model.specs.Building.{floor_count}
use Rattle.elevator_model.specs.Snapshot.{Snapshot, call_count, car_count, group_of, state_of, is_idle, IsAccepted, serves}
use Rattle.elevator_model.specs.Tours.{Progress, breaks, broken_at, rules_of_stop, none_taken, make_stop, broken_or, first_broken_from, boards_at, rider_count}
use Rattle.elevator_model.specs.Tours.{is_aboard, start_of}
use Rattle.call_sets.proofs.Listed.{HasListed, listed-below}
use Rattle.tour_rules.specs.Places.{HasBoards}
use Rattle.tour_rules.specs.Measure.{groups_of, stops_left, spare}
use Rattle.call_sets.proofs.BelowTests.{any_below-false}
use Rattle.call_sets.proofs.Sums.{sum_below-le, sum_below-split, sum_below-same, sum_below-zero}
use Rattle.tour_rules.proofs.BoundedTests.{AllClear-from, is_none-at, same_function}
use Rattle.call_sets.proofs.Counts.{count-same, count-le, count-joined}
use Rattle.tour_rules.proofs.Measure.{boards_count, boards_same, carried_split, after_carried, useful}
use Rattle.tour_rules.proofs.Riders.{zero_has}

-- no call is in the empty set
pub none_is_empty : has 0 ≡ none_taken
none_is_empty = same_function (has 0) none_taken zero_has

-- a stop that breaks no rule is at a floor of the building
pub fine_floor : (s : Snapshot) (c : ℕ) (taken : ℕ → Bool) (p : Progress) (st : Stop) → broken_at s c taken p st ≡ None → st.floor < floor_count s.building
fine_floor s c taken p st ok =
    let clear = AllClear-from (breaks s c taken p st) rules_of_stop ok in
    ltb-true st.floor (floor_count s.building)
    (and_parts (ltb st.floor (floor_count s.building)) _ (not-false (serves s.building c st.floor) clear.1.1.1.1.1.1.1.0)).0

fresh_board : (b p t d : Bool) → (b && ((p || t) || d)) ≡ false → b ≡ true → p ≡ false
fresh_board true false t d h e = refl
fresh_board true true t d h e = absurd (false≢true (sym h))
fresh_board false p t d h e = absurd (false≢true e)

no_more : (p b : Bool) → not (p || b) ≡ true → not p ≡ true
no_more false b h = refl
no_more true b h = absurd (false≢true h)

apart_boards : (p b : Bool) → (not (p || b) && b) ≡ false
apart_boards true b = refl
apart_boards false true = refl
apart_boards false false = refl

pub stop_falls : (s : Snapshot) (c : ℕ) (p : Progress) (st : Stop) → broken_at s c none_taken p st ≡ None
    → stops_left s (make_stop s c p st) + 1 ≤ stops_left s p
stop_falls s c p st ok =
    let clear = AllClear-from (breaks s c none_taken p st) rules_of_stop ok in
    let needed = useful s c p st (is_none-at (broken_at s c none_taken p st) ok) in
    let fresh = λ (j : ℕ) (h : boards_at s st j ≡ true).
    not_from_false (p.boarded j)
    (fresh_board (boards_at s st j) (p.boarded j) false (leb 2 (count_by (λ x. x == j) st.boards))
    (any_below-false (call_count s)
    (λ k. boards_at s st k && ((p.boarded k || false) || leb 2 (count_by (λ x. x == k) st.boards))) j clear.1.1.1.1.1.1.1.1.0
    (ltb-true j (call_count s) (and_parts (ltb j (call_count s)) (is_among j st.boards) h).0)) h) in
    let u = count-joined (call_count s) (λ j. not (p.boarded j)) (λ j. not (p.boarded j || boards_at s st j)) (boards_at s st)
    (λ j h. no_more (p.boarded j) (boards_at s st j) h) fresh (λ j. apart_boards (p.boarded j) (boards_at s st j)) in
    let split = carried_split s p st.floor in
    let after = after_carried s c p st in
    let on = boards_count s st in
    let same = count-same (call_count s) (boards_at s st) (λ j. is_among j st.boards) (boards_same s st) in
    let first = spare_begun (is_idle (state_of s c)) p.begun st in
    omega (arith, needed, u, split, after, on, same, first)
  where
    spare_begun : (idle begun : Bool) (st : Stop) → spare idle begun (Some st) ≤ cond begun 0 1
    spare_begun true true st = omega arith
    spare_begun true false st = omega arith
    spare_begun false true st = omega arith
    spare_begun false false st = omega arith

one_of : (b : Bool) (n : ℕ) → 1 ≤ n → cond {A = ℕ} b 1 0 ≤ cond b n 0
one_of true n h = h
one_of false n h = omega arith

group_count : (s : Snapshot) (c k : ℕ) → is_aboard s c (call_count s + k) ≡ (ltb (call_count s + k) (rider_count s) && ((group_of s k).car == c))
group_count s c k =
    let n = call_count s in
    let e : n + k - n ≡ k = omega arith in
    ap (λ (b : Bool). (b && ltb (n + k) (rider_count s)) && ((group_of s (n + k - n)).car == c)) (le-leb n (n + k) (omega arith))
    ∙ ap (λ (i : ℕ). ltb (n + k) (rider_count s) && ((group_of s i).car == c)) e

-- the groups aboard a car are at most its persons
pub groups_few : (s : Snapshot) (c : ℕ) → IsAccepted s → c < car_count s → groups_of s c ≤ 64
groups_few s c ok lt =
    let n = call_count s in
    let m = length s.aboard in
    let split = sum_below-split n m (λ r. cond {A = ℕ} (is_aboard s c r) 1 0) in
    let front = sum_below-same n (λ r. cond {A = ℕ} (is_aboard s c r) 1 0) (λ r. 0)
    (λ r b. ap {B = ℕ} (λ (x : Bool). cond x 1 0)
    (and_left (leb n r && ltb r (rider_count s)) _ (and_left (leb n r) (ltb r (rider_count s)) (lt-leb n r b)))) in
    let none = sum_below-zero n in
    let back = sum_below-le m (λ k. cond {A = ℕ} (is_aboard s c (n + k)) 1 0) (λ k. cond ((group_of s k).car == c) (group_of s k).persons 0)
    (λ k b. let same = ap {B = ℕ} (λ (x : Bool). cond x 1 0)
    (group_count s c k ∙ ap (λ (x : Bool). x && ((group_of s k).car == c)) (lt-ltb (n + k) (rider_count s) (omega arith))) in
    let one = one_of ((group_of s k).car == c) (group_of s k).persons (ok.groups k b).persons_low in omega (arith, same, one)) in
    let within = (ok.placed c lt).capacity in
    let most = (ok.building.cars c lt).capacity_high in
    omega (arith, split, front, none, back, within, most)

pub most_calls_few : (s : Snapshot) → IsAccepted s → call_count s ≤ 128
most_calls_few s ok = let h = ok.calls_high in let m = at_most_128 (s.building.version == 1) in omega (arith, h, m)
  where
    at_most_128 : (b : Bool) → cond {A = ℕ} b 64 128 ≤ 128
    at_most_128 true = omega arith
    at_most_128 false = omega arith

-- the set of a stop's list has the calls that board
pub listed_boards : (s : Snapshot) (set : ℕ) (stop : Stop) (xs : List ℕ) → IsAccepted s → xs ≡ stop.boards → HasListed set xs → HasBoards s set stop
listed_boards s set stop xs ok same listed j lt =
    listed-below xs set listed j (let few = most_calls_few s ok in omega (arith, few, lt)) ∙ ap (is_among j) same

pub stops_few : (s : Snapshot) (c : ℕ) → IsAccepted s → c < car_count s → stops_left s (start_of s c) ≤ 321
stops_few s c ok lt =
    let groups = groups_few s c ok lt in
    let calls = most_calls_few s ok in
    let all = count-le (call_count s) (λ j. true) in
    omega (arith, groups, calls, all)

-- one stop more is judged
pub judge_step : (s : Snapshot) (c : ℕ) (taken : ℕ → Bool) (p : Progress) (k : ℕ) (stops : List Stop) (i : ℕ) (st : Stop) → i < length stops
    → st ≡ get_or stops i st
    → first_broken_from s c taken p k (drop i stops)
    ≡ broken_or (broken_at s c taken p st) k (first_broken_from s c taken (make_stop s c p st) (k + 1) (drop (i + 1) stops))
judge_step s c taken p k stops i st lt is =
    ap (first_broken_from s c taken p k) (drop_more stops i st lt) ∙ ap (λ (x : Stop). first_broken_from s c taken p k (x ∷ drop (i + 1) stops)) (sym is)
