-- A feasible plan of a case has a text, which is short.
use Rattle.std.proofs.Common.{◌≡◌, inl, inr, ℕ, zero, suc, ◌+◌, ◌*◌, ◌^◌, ◌<◌, ◌≤◌, ◌&&◌, ◌||◌, Bool, true, false, cond, eqb, ltb, leb, List, [], ◌∷◌, ◌++◌}
use Rattle.std.proofs.Common.{map, filter, length, get_or, refl, sym, ap, ◌∙◌, subst, arith, length-append, lit<, None}
use Rattle.std.specs.Prelude.{All, codes, decimal}
use Rattle.std.specs.List.{flat_map, range_with_len, AllByRecursion}
use Rattle.std.proofs.lemmas.Bool.{cases_Bool, cases_lt, eqb-true, false≢true, and_parts, ltb-true, lt-ltb, le-leb}
use Rattle.std.proofs.lemmas.Fmt.{length-decimal-le}
use Rattle.std.proofs.lemmas.Grind.{flat_map-append}
use Rattle.std.proofs.lemmas.List.{get_or_default, length-map}
use Rattle.call_sets.specs.Counting.{is_among, sum_below}
use Rattle.call_sets.proofs.BelowTests.{any_below-false}
use Rattle.elevator_model.specs.declared.Call.{Call}
use Rattle.elevator_model.specs.declared.CarState.{CarState}
use Rattle.elevator_model.specs.declared.CarState.TheVariants.{Idle, Coming, Moving}
use Rattle.elevator_model.specs.declared.Move.TheVariants.{Board, End}
use Rattle.elevator_model.specs.declared.Stop.{Stop}
use Rattle.elevator_model.specs.Building.{floor_count}
use Rattle.elevator_model.specs.Snapshot.{Snapshot, IsAccepted, IsTimely, call_count, car_count, spec_of, call_of, no_call, state_of, moment_of, floor_of}
use Rattle.elevator_model.specs.Tours.{Progress, IsFeasible, start_of, make_stop, after_stops, boards_at, breaks, broken_at, rules_of_stop, none_taken}
use Rattle.elevator_model.specs.Costs.{cost_of}
use Rattle.elevator_model.specs.Plans.{tour_of, IsFeasiblePlan, plan_cost_of}
use Rattle.elevator_model.specs.Partial.{rising_boards, moves_of, moves_of_stop}
use Rattle.lift_text.specs.Reading.{line_limit}
use Rattle.text_sections.specs.Canonical.{joined, line_text, lines_text}
use Rattle.tour_rules.specs.Leaving.{IsKept, AreEarly}
use Rattle.tour_rules.proofs.Sound.{AllFine}
use Rattle.tour_rules.proofs.Stops.{fine_floor, groups_few}
use Rattle.tour_rules.proofs.BoundedTests.{AllClear-from}
use Rattle.tour_rules.proofs.Rising.{count-cons, count-none}
use Rattle.tour_rules.proofs.Reached.{moves_reach, ended_at, risen}
use Rattle.tour_rules.proofs.Measure.{lawful_short}
use Rattle.tour_rules.proofs.Moments.{latest, latest_falls, latest_start}
use Rattle.tour_rules.proofs.Settled.{IsKept-start, IsKept-stop}
use Rattle.tour_rules.proofs.Bounds.{AreEarly-start, AreEarly-stop}
use Rattle.tour_cost.specs.Served.{calls_served}
use Rattle.tour_cost.proofs.Short.{AllFine-feasible, calls-le}
use Rattle.tour_cost.proofs.Served.{tour_cost-each, cars-le, plan-small}
use Rattle.search_model.specs.declared.Stated.{Stated}
use Rattle.answer_text.specs.Plans.{AreCalls, BoardsCalls, by_index}
use Rattle.answer_text.specs.Texts.{stop_words, stop_lines, tour_words, tour_lines, answer_lines, answer_text}
use Rattle.answer_text.proofs.FitsLemmas.{feasible_fits}
use Rattle.check_text.specs.Laws.{HasLowIds, StatedTextLaw}
use Rattle.check_text.proofs.IdLemmas.{ids_low}
use Rattle.check_text.proofs.ReorderLemmas.{times_in, only, sorted_from, among_times, among_low}

-- ---- boards, each once

AreOnce : List ℕ → Type 0
AreOnce xs = (j : ℕ) → times_in j xs ≤ 1

only_once : (j : ℕ) (xs : List ℕ) → times_in j xs ≤ 1 → only j xs ≡ cond (is_among j xs) (j ∷ []) []
only_once j [] few = refl
only_once j (x ∷ xs) few = elim (cases_Bool (eqb x j)) [
  | inl is ↦
      let one = ap {B = ℕ} (λ (same : Bool). cond same 1 0) is in
      let none : times_in j xs ≡ 0 = omega (arith, count-cons j x xs, one, few) in
      let absent : is_among j xs ≡ false = among_times j xs ∙ ap (ltb 0) none in
      let later = only_once j xs (omega (arith, none)) ∙ ap (λ (there : Bool). cond there (j ∷ []) []) absent in
      ap (λ (same : Bool). cond same (x ∷ only j xs) (only j xs)) is
      ∙ ap (λ (rest : List ℕ). x ∷ rest) later
      ∙ ap (λ (i : ℕ). i ∷ []) (eqb-true x j is)
      ∙ sym (ap (λ (same : Bool). cond (same || is_among j xs) (j ∷ []) []) is)
  | inr not_is ↦
      let zero_times = ap {B = ℕ} (λ (same : Bool). cond same 1 0) not_is in
      let fewer : times_in j xs ≤ 1 = omega (arith, count-cons j x xs, zero_times, few) in
      ap (λ (same : Bool). cond same (x ∷ only j xs) (only j xs)) not_is
      ∙ only_once j xs fewer
      ∙ sym (ap (λ (same : Bool). cond (same || is_among j xs) (j ∷ []) []) not_is)
]

one_or_none : (there : Bool) (j : ℕ) (rest : List ℕ) → cond there (j ∷ []) [] ++ rest ≡ cond there (j ∷ rest) rest
one_or_none true j rest = refl
one_or_none false j rest = refl

sorted_once : (xs : List ℕ) (a m : ℕ) → AreOnce xs → sorted_from xs a m ≡ filter (λ j. is_among j xs) (range_with_len a m)
unfolding AreOnce
sorted_once xs a zero once = refl
sorted_once xs a (suc m) once =
    ap (λ (first : List ℕ). first ++ sorted_from xs (a + 1) m) (only_once a xs (once a))
    ∙ ap (λ (rest : List ℕ). cond (is_among a xs) (a ∷ []) [] ++ rest) (sorted_once xs (a + 1) m once)
    ∙ one_or_none (is_among a xs) a (filter (λ j. is_among j xs) (range_with_len (a + 1) m))

length-chosen : (test : ℕ → Bool) (a m : ℕ) → length (filter test (range_with_len a m)) ≤ m
length-chosen test a zero = omega arith
length-chosen test a (suc m) = either (test a) (filter test (range_with_len (a + 1) m)) (length-chosen test (a + 1) m)
  where
    either : (is : Bool) (rest : List ℕ) → length rest ≤ m → length (cond is (a ∷ rest) rest) ≤ suc m
    either true rest few = omega arith
    either false rest few = omega arith

-- ---- what holds of each stop of a feasible tour

record IsFineStop (s : Snapshot) (stop : Stop) : Type 0 where
  floor : stop.floor < floor_count s.building
  once : AreOnce stop.boards

not_twice : (there fresh taken twice : Bool) → (there && ((fresh || taken) || twice)) ≡ false → there ≡ true → twice ≡ false
not_twice true false false twice e is = e
not_twice true true taken twice e is = absurd (false≢true (sym e))
not_twice true false true twice e is = absurd (false≢true (sym e))
not_twice false fresh taken twice e is = absurd (false≢true is)

module _ (s : Snapshot) (c : ℕ) where
  boards_once : (p : Progress) (stop : Stop) → AreCalls s stop.boards → broken_at s c none_taken p stop ≡ None → AreOnce stop.boards
  unfolding AreOnce
  boards_once p stop calls fine j = elim (cases_Bool (is_among j stop.boards)) [
    | inr absent ↦ let none = count-none j stop.boards absent in omega (arith, none)
    | inl among ↦
        let low = among_low (call_count s) stop.boards j calls among in
        let clear = AllClear-from (breaks s c none_taken p stop) rules_of_stop fine in
        let here = any_below-false (call_count s)
        (λ k. boards_at s stop k && ((p.boarded k || none_taken k) || leb 2 (times_in k stop.boards))) j clear.1.1.1.1.1.1.1.1.0 low in
        let boards : boards_at s stop j ≡ true = ap (λ (is : Bool). is && is_among j stop.boards) (lt-ltb j (call_count s) low) ∙ among in
        let few = not_twice (boards_at s stop j) (p.boarded j) (none_taken j) (leb 2 (times_in j stop.boards)) here boards in
        at_most_one (times_in j stop.boards) few
  ]
    where
      at_most_one : (n : ℕ) → leb 2 n ≡ false → n ≤ 1
      at_most_one n few = elim (cases_lt 1 n) [ inl more ↦ absurd (false≢true (sym few ∙ le-leb 2 n (omega arith))) | inr less ↦ less ]

  fine_stops : (p : Progress) (tour : List Stop) → BoardsCalls s tour → AllFine s c p tour → AllByRecursion (IsFineStop s) tour
  fine_stops p [] calls fine = tt
  fine_stops p (stop ∷ tour) calls fine = (
    record { floor = fine_floor s c none_taken p stop fine.0; once = boards_once p stop (calls 0 stop (omega arith)) fine.0 },
    fine_stops (make_stop s c p stop) tour (λ k d below. calls (suc k) d (omega arith)) fine.1,
  )

  -- ---- moments and costs

  kept_after : (p : Progress) (tour : List Stop) → IsKept s c p → IsKept s c (after_stops s c p tour)
  kept_after p [] kept = kept
  kept_after p (stop ∷ tour) kept = kept_after (make_stop s c p stop) tour (IsKept-stop s c p stop kept)

  module _ (accepted : IsAccepted s) (car : c < car_count s) where
    early_after : (p : Progress) (tour : List Stop) → p.floor < floor_count s.building → latest s p ≤ 8000000000 → AllFine s c p tour → AreEarly s p
        → AreEarly s (after_stops s c p tour)
    early_after p [] from most fine early = early
    early_after p (stop ∷ tour) from most fine early =
        let next = make_stop s c p stop in
        let falls = latest_falls s c p stop accepted car from fine.0 in
        let later : latest s next ≤ 8000000000 = omega (arith, falls, most) in
        let opened : next.opened ≤ 100000000000 = omega (arith, later) in
        early_after next tour (fine_floor s c none_taken p stop fine.0) later fine.1 (AreEarly-stop s c p stop early opened)

    start_floor : floor_of (state_of s c) < floor_count s.building
    start_floor = ltb-true (floor_of (state_of s c)) (floor_count s.building)
        (and_parts (ltb (floor_of (state_of s c)) (floor_count s.building)) _ (accepted.placed c car).served).0

    start_moment : (state : CarState) → IsTimely s c state → moment_of state ≤ 1100000000
    start_moment (Idle floor free) timely = omega (arith, timely.1, accepted.moment)
    start_moment (Coming floor arrives) timely = omega (arith, timely.1, accepted.moment)
    start_moment (Moving from up left) timely = omega (arith, timely.0, accepted.moment)

    pub tour_cost-le : (tour : List Stop) → IsFeasible s c tour → cost_of s c tour ≤ 2400000000000000 * calls_served s tour + 6400000000000000
    tour_cost-le tour feasible =
        let most = latest_start s c accepted car (start_moment (state_of s c) (accepted.placed c car).timely) in
        let early = early_after (start_of s c) tour start_floor most (AllFine-feasible s c (start_of s c) 1 tour feasible) (AreEarly-start s c accepted) in
        tour_cost-each s c tour (cost_of s c tour) accepted car (kept_after (start_of s c) tour (IsKept-start s c)) early refl

sums-le : (n : ℕ) (f g : ℕ → ℕ) → ((c : ℕ) → c < n → f c ≤ 2400000000000000 * g c + 6400000000000000)
    → sum_below n f ≤ 2400000000000000 * sum_below n g + 6400000000000000 * n
sums-le zero f g each = omega arith
sums-le (suc n) f g each =
    let later = sums-le n f g (λ c below. each c (omega arith)) in
    let last = each n (omega arith) in
    omega (arith, later, last)

cost-le : (s : Snapshot) (plan : List (List Stop)) → IsAccepted s → IsFeasiblePlan s plan → plan_cost_of s plan < 1000000000000000000
cost-le s plan accepted feasible =
    plan-small s plan (plan_cost_of s plan) (car_count s) accepted feasible refl
    (sums-le (car_count s) (λ c. cost_of s c (tour_of plan c)) (λ c. calls_served s (tour_of plan c))
    (λ c below. tour_cost-le s c accepted below (tour_of plan c) (feasible.tours c below)))

-- ---- how long the lines are

past : {X : Type 0} (xs : List X) (k : ℕ) (d : X) → length xs ≤ k → get_or xs k d ≡ d
past [] k d out = refl
past (x ∷ xs) zero d out = absurd (omega arith)
past (x ∷ xs) (suc k) d out = past xs k d (omega arith)

number-le : (n : ℕ) → n < 2 ^ 32 → length (decimal n) ≤ 10
number-le n low = length-decimal-le 10 n (lit< tt) (omega (arith, low)) (omega (arith, low))

wide-le : (n : ℕ) → n ≤ 1000000000000000000 → length (decimal n) ≤ 20
wide-le n low = length-decimal-le 20 n (lit< tt) (omega (arith, low)) (omega (arith, low))

module _ (s : Snapshot) (ids : HasLowIds s) where
  call_id-le : (j : ℕ) → length (decimal (call_of s j).id) ≤ 10
  call_id-le j = elim (cases_lt j (call_count s)) [
    | inl below ↦ number-le (call_of s j).id (ids.calls j below)
    | inr above ↦ number-le (call_of s j).id (let none = ap (λ (call : Call). call.id) (past s.calls j no_call above) in omega (arith, none))
  ]

  boards-le : (js : List ℕ) → length (flat_map (λ (later : List ℕ). 32 ∷ later) (map (λ j. decimal (call_of s j).id) js)) ≤ 11 * length js
  boards-le [] = omega arith
  boards-le (j ∷ js) =
      let one = call_id-le j in
      let rest = flat_map (λ (later : List ℕ). 32 ∷ later) (map (λ i. decimal (call_of s i).id) js) in
      let both = length-append (decimal (call_of s j).id) rest in
      let later = boards-le js in
      omega (arith, one, both, later)

  stop-le : (stop : Stop) → stop.floor < 2 ^ 32 → length (joined (stop_words s stop)) ≤ 15 + 11 * length (by_index s stop.boards)
  stop-le stop low =
      let floor = number-le stop.floor low in
      let rest = flat_map (λ (later : List ℕ). 32 ∷ later) (map (λ j. decimal (call_of s j).id) (by_index s stop.boards)) in
      let both = length-append (decimal stop.floor) rest in
      let boards = boards-le (by_index s stop.boards) in
      omega (arith, floor, both, boards)

  line-le : (stop : Stop) → stop.floor < 2 ^ 32 → length (line_text (stop_words s stop)) ≤ 16 + 11 * length (by_index s stop.boards)
  line-le stop low =
      let size = stop-le stop low in
      let both = length-append (joined (stop_words s stop)) (10 ∷ []) in
      omega (arith, size, both)

  module _ (floors : floor_count s.building ≤ 64) where
    boards_risen : (stop : Stop) → IsFineStop s stop → by_index s stop.boards ≡ rising_boards s stop.boards
    boards_risen stop fine = sorted_once stop.boards 0 (call_count s) fine.once

    tour-le : (tour : List Stop) → AllByRecursion (IsFineStop s) tour → length (lines_text (stop_lines s tour)) ≤ 16 * length (flat_map (moves_of_stop s) tour)
    tour-le [] fine = omega arith
    tour-le (stop ∷ tour) fine =
        let low : stop.floor < 2 ^ 32 = omega (arith, fine.0.floor, floors) in
        let line = line-le stop low in
        let same = ap length (boards_risen stop fine.0) in
        let moves = length-map (rising_boards s stop.boards) Board in
        let lines = length-append (line_text (stop_words s stop)) (lines_text (stop_lines s tour)) in
        let steps = length-append (moves_of_stop s stop) (flat_map (moves_of_stop s) tour) in
        let later = tour-le tour fine.1 in
        omega (arith, line, same, moves, lines, steps, later)

    stop_short : call_count s ≤ 128 → (stop : Stop) → IsFineStop s stop → (stop.floor < 2 ^ 32) × (length (joined (stop_words s stop)) ≤ line_limit)
    stop_short few stop fine =
        let low : stop.floor < 2 ^ 32 = omega (arith, fine.floor, floors) in
        let size = stop-le stop low in
        let same = ap length (boards_risen stop fine) in
        let chosen = length-chosen (λ j. is_among j stop.boards) 0 (call_count s) in
        (low, omega (arith, size, same, chosen, few))

-- ---- the whole

all_of : {X : Type 0} (P Q : X → Type 0) (xs : List X) → ((x : X) → P x → Q x) → AllByRecursion P xs → All Q xs
all_of P Q [] holds all k d below = absurd (omega arith)
all_of P Q (x ∷ xs) holds all zero d below = holds x all.0
all_of P Q (x ∷ xs) holds all (suc k) d below = all_of P Q xs holds all.1 k d (omega arith)

module _ (s : Snapshot) (plan : List (List Stop)) (accepted : IsAccepted s) (ids : HasLowIds s) (feasible : IsFeasiblePlan s plan) where
  floors_few : floor_count s.building ≤ 64
  floors_few = accepted.building.floors_high

  fine_tour : (c : ℕ) → c < car_count s → AllByRecursion (IsFineStop s) (tour_of plan c)
  fine_tour c below =
      fine_stops s c (start_of s c) (tour_of plan c) ((feasible_fits s plan feasible).boards c [] (omega (arith, below, feasible.cars)))
      (AllFine-feasible s c (start_of s c) 1 (tour_of plan c) (feasible.tours c below))

  -- what holds of each stop of a tour of a car holds of each stop of the plan
  every_stop : (Q : Stop → Type 0) → ((stop : Stop) → IsFineStop s stop → Q stop) → All (All Q) plan
  every_stop Q holds c d below =
      subst (All Q) (get_or_default plan c [] d below) (all_of (IsFineStop s) Q (tour_of plan c) holds (fine_tour c (omega (arith, below, feasible.cars))))

  moves-le : (c : ℕ) → c < car_count s → length (flat_map (moves_of_stop s) (tour_of plan c)) ≤ 449
  moves-le c below =
      let tour = tour_of plan c in
      let moves = lawful_short s c (moves_of s tour) (ended_at (map (risen s) tour) (after_stops s c (start_of s c) tour))
      (moves_reach s c tour (feasible.tours c below)) in
      let both = length-append (flat_map (moves_of_stop s) tour) (End ∷ []) in
      let calls = calls-le s accepted in
      let groups = groups_few s c accepted below in
      omega (arith, moves, both, calls, groups)

  car-le : (c : ℕ) → c < car_count s → length (lines_text (tour_lines s plan c)) ≤ 7200
  car-le c below =
      let tour = tour_of plan c in
      let head = number-le (spec_of s c).id (ids.cars c below) in
      let words = length-append (codes "tour") ((32 ∷ decimal (spec_of s c).id) ++ []) in
      let number = length-append (32 ∷ decimal (spec_of s c).id) [] in
      let line = length-append (joined (tour_words s c)) (10 ∷ []) in
      let both = length-append (line_text (tour_words s c)) (lines_text (stop_lines s tour)) in
      let stops = tour-le s ids floors_few tour (fine_tour c below) in
      let moves = moves-le c below in
      omega (arith, head, words, number, line, both, stops, moves)

  cars_text-le : (a m : ℕ) → a + m ≤ car_count s → length (lines_text (flat_map (tour_lines s plan) (range_with_len a m))) ≤ 7210 * m
  cars_text-le a zero within = omega arith
  cars_text-le a (suc m) within =
      let own = tour_lines s plan a in
      let later = flat_map (tour_lines s plan) (range_with_len (a + 1) m) in
      let split = ap length (flat_map-append line_text own later) in
      let both = length-append (lines_text own) (lines_text later) in
      let first = car-le a (omega (arith, within)) in
      let rest = cars_text-le (a + 1) m (omega (arith, within)) in
      omega (arith, split, both, first, rest)

  named-le : (name : List ℕ) (n : ℕ) → length name ≤ 6 → n ≤ 1000000000000000000 → length (line_text (name ∷ decimal n ∷ [])) ≤ 28
  named-le name n few low =
      let digits = wide-le n low in
      let words = length-append name ((32 ∷ decimal n) ++ []) in
      let number = length-append (32 ∷ decimal n) [] in
      let line = length-append (joined (name ∷ decimal n ∷ [])) (10 ∷ []) in
      omega (arith, few, digits, words, number, line)

  text-le : (stated : Stated) → stated.plan ≡ plan → stated.cost ≤ 1000000000000000000 → stated.bound ≤ 1000000000000000000
      → length (answer_text s stated) ≤ 200000
  unfolding answer_text answer_lines
  text-le stated same cost_low bound_low =
      let own = stated.plan in
      let tours = flat_map (tour_lines s own) (range_with_len 0 (car_count s)) in
      let head = named-le (codes "answer") 1 (omega arith) (omega arith) in
      let cost = named-le (codes "cost") stated.cost (omega arith) cost_low in
      let bound = named-le (codes "bound") stated.bound (omega arith) bound_low in
      let first = length-append (line_text (codes "answer" ∷ decimal 1 ∷ []))
      (lines_text ((codes "cost" ∷ decimal stated.cost ∷ []) ∷ (codes "bound" ∷ decimal stated.bound ∷ []) ∷ (tours ++ (codes "end" ∷ []) ∷ []))) in
      let second = length-append (line_text (codes "cost" ∷ decimal stated.cost ∷ []))
      (lines_text ((codes "bound" ∷ decimal stated.bound ∷ []) ∷ (tours ++ (codes "end" ∷ []) ∷ []))) in
      let third = length-append (line_text (codes "bound" ∷ decimal stated.bound ∷ [])) (lines_text (tours ++ (codes "end" ∷ []) ∷ [])) in
      let split = ap length (flat_map-append line_text tours ((codes "end" ∷ []) ∷ [])) in
      let both = length-append (lines_text tours) (lines_text ((codes "end" ∷ []) ∷ [])) in
      let body : length (lines_text tours) ≤ 7210 * car_count s =
      subst (λ (p : List (List Stop)). length (lines_text (flat_map (tour_lines s p) (range_with_len 0 (car_count s)))) ≤ 7210 * car_count s) (sym same)
      (cars_text-le 0 (car_count s) (omega arith)) in
      let cars = cars-le s accepted in
      omega (arith, head, cost, bound, first, second, third, split, both, body, cars)

pub stated_text : StatedTextLaw
stated_text input s stated text feasible cost_is below =
    let case = text.1 in
    let accepted = case.snapshot.2.accepted in
    let ids = ids_low _ _ s case in
    let small = cost-le s stated.plan accepted feasible in
    let cost_low : stated.cost ≤ 1000000000000000000 = omega (arith, small, cost_is) in
    let bound_low : stated.bound ≤ 1000000000000000000 = omega (arith, cost_low, below) in
    let calls = calls-le s accepted in
    let fine = λ (stop : Stop) (is : IsFineStop s stop). stop_short s ids accepted.building.floors_high calls stop is in (
      record {
        within = record {
          fits = feasible_fits s stated.plan feasible;
          floors = every_stop s stated.plan accepted ids feasible (λ (stop : Stop). stop.floor < 2 ^ 32) (λ stop is. (fine stop is).0);
          cost = cost_low;
          bound = bound_low;
        };
        car_ids = ids.cars;
        call_ids = ids.calls;
        short = every_stop s stated.plan accepted ids feasible (λ (stop : Stop). length (joined (stop_words s stop)) ≤ line_limit)
            (λ stop is. (fine stop is).1);
      },
      text-le s stated.plan accepted ids feasible stated refl cost_low bound_low,
    )
