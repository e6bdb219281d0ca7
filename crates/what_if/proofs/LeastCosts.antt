-- Where there is a feasible plan, some feasible plan costs least. A car has finitely many partial tours (`partial_tours`), so there
-- are finitely many plans whose calls board by rising index at each stop, and each feasible plan costs what such a one costs.
use Rattle.std.proofs.Common.{◌≡◌, ℕ, zero, suc, ◌+◌, ◌<◌, ◌≤◌, Bool, true, cond, ◌&&◌, ◌||◌, ◌⊎◌, List, [], ◌∷◌, ◌++◌, length, map, refl, sym, ap, ◌∙◌, subst}
use Rattle.std.proofs.Common.{inl, inr, arith, Option, Some, None}
use Rattle.std.specs.List.{flat_map}
use Rattle.std.proofs.lemmas.Bool.{cases_eq, cases_lt, lt-ltb}
use Rattle.std.proofs.lemmas.List.{get_or-map, length-map}
use Rattle.elevator_model.specs.declared.Stop.{Stop}
use Rattle.elevator_model.specs.declared.Move.{Move}
use Rattle.elevator_model.specs.declared.Move.TheVariants.{Board, Leave, End}
use Rattle.elevator_model.specs.declared.BadPlan.{BadPlan}
use Rattle.call_sets.specs.Counting.{is_among, sum_below}
use Rattle.call_sets.proofs.Sums.{sum_below-same}
use Rattle.elevator_model.specs.Snapshot.{Snapshot, call_count, car_count}
use Rattle.elevator_model.specs.Tours.{Progress, IsFeasible, start_of, after_stops, make_stop, stop_at}
use Rattle.elevator_model.specs.Costs.{cost_of, settled_cost}
use Rattle.elevator_model.specs.Plans.{IsFeasiblePlan, plan_cost_of, tour_of, is_boarded_in, times_served, first_bad}
use Rattle.elevator_model.specs.Partial.{Course, course_of, moves_of, rising_boards}
use Rattle.search_model.specs.Orders.{AreAllowed, IsAmongLists, any_course, partial_tours}
use Rattle.tour_rules.proofs.Rising.{rising_same}
use Rattle.tour_rules.proofs.Reached.{ended_at, moves_reach, risen}
use Rattle.tour_rules.proofs.Sound.{ended_feasible}
use Rattle.tour_cost.proofs.Judged.{clear_where_feasible, feasible_where_clear}
use Rattle.kept_tours.proofs.Found.{tested_all}
use Rattle.what_if.specs.WhatIf.{IsLeastCost}

-- ---- boards by rising index

abbrev risen_tour : Snapshot → List Stop → List Stop
risen_tour s tour = map (risen s) tour

abbrev risen_plan : Snapshot → List (List Stop) → List (List Stop)
risen_plan s plan = map (risen_tour s) plan

risen-after : (s : Snapshot) (c : ℕ) (p : Progress) (tour : List Stop) → after_stops s c p (risen_tour s tour) ≡ after_stops s c p tour
risen-after s c p [] = refl
risen-after s c p (stop ∷ tour) =
    risen-after s c (make_stop s c p (risen s stop)) tour
    ∙ ap (λ (q : Progress). after_stops s c q tour) (ap (stop_at s c p stop.floor) (rising_same s stop.floor stop.boards))

risen-boards : (s : Snapshot) (j : ℕ) → j < call_count s → (tour : List Stop) → is_boarded_in (risen_tour s tour) j ≡ is_boarded_in tour j
risen-boards s j below [] = refl
risen-boards s j below (stop ∷ tour) =
    let is_call = lt-ltb j (call_count s) below in
    let rising = is_among j (rising_boards s stop.boards) in
    let here : rising ≡ is_among j stop.boards = sym (ap (λ (b : Bool). b && rising) is_call)
    ∙ ap (λ (t : ℕ → Bool). t j) (rising_same s stop.floor stop.boards) ∙ ap (λ (b : Bool). b && is_among j stop.boards) is_call in
    ap (λ (b : Bool). b || is_boarded_in (risen_tour s tour) j) here
    ∙ ap (λ (b : Bool). is_among j stop.boards || b) (risen-boards s j below tour)

risen-at : (s : Snapshot) (plan : List (List Stop)) (c : ℕ) → c < length plan → tour_of (risen_plan s plan) c ≡ risen_tour s (tour_of plan c)
risen-at s plan c lt = get_or-map (risen_tour s) plan c [] [] lt

risen-served : (s : Snapshot) (plan : List (List Stop)) (j : ℕ) → j < call_count s → times_served (risen_plan s plan) j ≡ times_served plan j
risen-served s plan j below =
    ap (λ (n : ℕ). sum_below n (λ c. cond {A = ℕ} (is_boarded_in (tour_of (risen_plan s plan) c) j) 1 0)) (length-map plan (risen_tour s))
    ∙ sum_below-same (length plan) (λ c. cond {A = ℕ} (is_boarded_in (tour_of (risen_plan s plan) c) j) 1 0)
    (λ c. cond {A = ℕ} (is_boarded_in (tour_of plan c) j) 1 0)
    (λ c lt. ap (λ (b : Bool). cond {A = ℕ} b 1 0)
    (ap (λ (tour : List Stop). is_boarded_in tour j) (risen-at s plan c lt) ∙ risen-boards s j below (tour_of plan c)))

module _ (s : Snapshot) (plan : List (List Stop)) (feasible : IsFeasiblePlan s plan) where
  at : (c : ℕ) → c < car_count s → tour_of (risen_plan s plan) c ≡ risen_tour s (tour_of plan c)
  at c lt = let cars = feasible.cars in risen-at s plan c (omega (arith, cars, lt))

  risen-feasible : IsFeasiblePlan s (risen_plan s plan)
  risen-feasible = record {
    cars = length-map plan (risen_tour s) ∙ feasible.cars;
    tours = λ c lt.
        (let tour = tour_of plan c in
        subst (IsFeasible s c) (sym (at c lt))
        (ended_feasible s c (moves_of s tour) (ended_at (risen_tour s tour) (after_stops s c (start_of s c) tour))
        (moves_reach s c tour (feasible.tours c lt)) refl));
    serves_once = λ j below. risen-served s plan j below ∙ feasible.serves_once j below;
  }

  risen-costs : plan_cost_of s (risen_plan s plan) ≡ plan_cost_of s plan
  risen-costs =
      sum_below-same (car_count s) (λ c. cost_of s c (tour_of (risen_plan s plan) c)) (λ c. cost_of s c (tour_of plan c))
      (λ c lt. ap (cost_of s c) (at c lt) ∙ ap (settled_cost s c) (risen-after s c (start_of s c) (tour_of plan c)))

-- ---- lists of all

abbrev IsIn : {X : Type 0} → X → List X → Type 0
IsIn x [] = ⊥
IsIn x (y ∷ ys) = (y ≡ x) ⊎ IsIn x ys

in-front : {X : Type 0} (x : X) (xs ys : List X) → IsIn x xs → IsIn x (xs ++ ys)
in-front x [] ys h = absurd h
in-front x (y ∷ xs) ys (inl e) = inl e
in-front x (y ∷ xs) ys (inr h) = inr (in-front x xs ys h)

in-back : {X : Type 0} (x : X) (xs ys : List X) → IsIn x ys → IsIn x (xs ++ ys)
in-back x [] ys h = h
in-back x (y ∷ xs) ys h = inr (in-back x xs ys h)

in-map : {X Y : Type 0} (f : X → Y) (x : X) (xs : List X) → IsIn x xs → IsIn (f x) (map f xs)
in-map f x [] h = absurd h
in-map f x (y ∷ xs) (inl e) = inl (ap f e)
in-map f x (y ∷ xs) (inr h) = inr (in-map f x xs h)

in-flat_map : {X Y : Type 0} (f : X → List Y) (x : X) (y : Y) (xs : List X) → IsIn x xs → IsIn y (f x) → IsIn y (flat_map f xs)
in-flat_map f x y [] h there = absurd h
in-flat_map f x y (z ∷ xs) (inl e) there = in-front y (f z) (flat_map f xs) (subst (λ w. IsIn y (f w)) (sym e) there)
in-flat_map f x y (z ∷ xs) (inr h) there = in-back y (f z) (flat_map f xs) (in-flat_map f x y xs h there)

in-lists : (w : List Move) (lists : List (List Move)) → IsAmongLists w lists → IsIn w lists
in-lists w [] h = h
in-lists w (v ∷ lists) (inl e) = inl e
in-lists w (v ∷ lists) (inr h) = inr (in-lists w lists h)

abbrev every_call : ℕ → Bool
every_call _ = true

all-allowed : (moves : List Move) → AreAllowed every_call moves
all-allowed [] = tt
all-allowed (Board j ∷ moves) = (refl, all-allowed moves)
all-allowed (Leave g ∷ moves) = (refl, all-allowed moves)
all-allowed (End ∷ moves) = (refl, all-allowed moves)

-- the stops that a partial tour has left
abbrev left_of : Option Course → List Stop
left_of None = []
left_of (Some x) = x.left

-- of all partial tours of the car
abbrev tours_of_car : Snapshot → ℕ → List (List Stop)
tours_of_car s c = map (λ (moves : List Move). left_of (course_of s c moves)) (partial_tours s c every_call)

tour-listed : (s : Snapshot) (c : ℕ) (tour : List Stop) → IsFeasible s c tour → IsIn (risen_tour s tour) (tours_of_car s c)
tour-listed s c tour feasible =
    let moves = moves_of s tour in
    let leads = moves_reach s c tour feasible in
    let all = tested_all s c every_call any_course (λ ms x y m may ok led moved passes. refl) in
    let among = in-lists moves (partial_tours s c every_call) (all.all moves (_, leads, refl, all-allowed moves)) in
    subst (λ (t : List Stop). IsIn t (tours_of_car s c)) (ap left_of leads)
    (in-map (λ (ms : List Move). left_of (course_of s c ms)) moves (partial_tours s c every_call) among)

-- all choices of one of its tours for each of n cars from c on
abbrev choices : (tours : ℕ → List (List Stop)) → (n c : ℕ) → List (List (List Stop))
choices tours zero c = [] ∷ []
choices tours (suc n) c = flat_map (λ (tour : List Stop). map (λ (rest : List (List Stop)). tour ∷ rest) (choices tours n (c + 1))) (tours c)

choice-listed : (tours : ℕ → List (List Stop)) (n c : ℕ) (plan : List (List Stop)) → length plan ≡ n
    → ((i : ℕ) → i < n → IsIn (tour_of plan i) (tours (c + i))) → IsIn plan (choices tours n c)
choice-listed tours zero c [] count each = inl refl
choice-listed tours zero c (tour ∷ plan) count each = absurd (omega (arith, count))
choice-listed tours (suc n) c [] count each = absurd (omega (arith, count))
choice-listed tours (suc n) c (tour ∷ plan) count each =
    let first : c + 0 ≡ c = omega arith in
    let here : IsIn tour (tours c) = subst (λ (k : ℕ). IsIn tour (tours k)) first (each 0 (omega arith)) in
    let later = choice-listed tours n (c + 1) plan (omega (arith, count))
    (λ i lt. let next : c + suc i ≡ c + 1 + i = omega arith in
    subst (λ (k : ℕ). IsIn (tour_of plan i) (tours k)) next (each (suc i) (omega (arith, lt)))) in
    in-flat_map (λ (t : List Stop). map (λ (rest : List (List Stop)). t ∷ rest) (choices tours n (c + 1))) tour (tour ∷ plan) (tours c) here
    (in-map (λ (rest : List (List Stop)). tour ∷ rest) plan (choices tours n (c + 1)) later)

plan-listed : (s : Snapshot) (plan : List (List Stop)) → IsFeasiblePlan s plan → IsIn (risen_plan s plan) (choices (tours_of_car s) (car_count s) 0)
plan-listed s plan feasible =
    choice-listed (tours_of_car s) (car_count s) 0 (risen_plan s plan) (length-map plan (risen_tour s) ∙ feasible.cars)
    (λ c lt. let same : c ≡ 0 + c = omega arith in
    subst (λ (k : ℕ). IsIn (tour_of (risen_plan s plan) c) (tours_of_car s k)) same
    (subst (λ (t : List Stop). IsIn t (tours_of_car s c)) (sym (at s plan feasible c lt)) (tour-listed s c (tour_of plan c) (feasible.tours c lt))))

-- ---- the least

feasible-or-not : (s : Snapshot) (plan : List (List Stop)) → IsFeasiblePlan s plan ⊎ (IsFeasiblePlan s plan → ⊥)
feasible-or-not s plan =
    elim (cases_eq (length plan) (car_count s)) [
      | inl cars ↦ by_fault cars (first_bad s plan) refl
      | inr other ↦ inr (λ feasible. other feasible.cars)
    ]
  where
    by_fault : length plan ≡ car_count s → (fault : Option BadPlan) → first_bad s plan ≡ fault → IsFeasiblePlan s plan ⊎ (IsFeasiblePlan s plan → ⊥)
    by_fault cars None e = inl (feasible_where_clear s plan cars e)
    by_fault cars (Some bad) e = inr (λ feasible. let clash : Some bad ≡ None = sym e ∙ clear_where_feasible s plan feasible in absurd cc)

-- a feasible plan that costs no more than any in the list
record HasLeast (s : Snapshot) (plans : List (List (List Stop))) : Type 0 where
  plan : List (List Stop)
  feasible : IsFeasiblePlan s plan
  least : (other : List (List Stop)) → IsFeasiblePlan s other → IsIn other plans → plan_cost_of s plan ≤ plan_cost_of s other

least-of : (s : Snapshot) (known : List (List Stop)) → IsFeasiblePlan s known → (plans : List (List (List Stop))) → HasLeast s plans
least-of s known is [] = record { plan = known; feasible = is; least = λ other fine among. absurd among }
least-of s known is (plan ∷ plans) = with_first (feasible-or-not s plan) (least-of s known is plans)
  where
    with_first : IsFeasiblePlan s plan ⊎ (IsFeasiblePlan s plan → ⊥) → HasLeast s plans → HasLeast s (plan ∷ plans)
    with_first (inr never) later = record {
      plan = later.plan;
      feasible = later.feasible;
      least = λ other fine among.
          elim among [ inl e ↦ absurd (never (subst (IsFeasiblePlan s) (sym e) fine)) | inr there ↦ later.least other fine there ];
    }
    with_first (inl first) later =
        elim (cases_lt (plan_cost_of s plan) (plan_cost_of s later.plan)) [
          | inl less ↦ record {
            plan = plan;
            feasible = first;
            least = λ other fine among.
                elim among [
                  | inl e ↦ subst (λ (p : List (List Stop)). plan_cost_of s plan ≤ plan_cost_of s p) e (omega arith)
                  | inr there ↦ (let le = later.least other fine there in omega (arith, less, le))
                ];
          }
          | inr more ↦ record {
            plan = later.plan;
            feasible = later.feasible;
            least = λ other fine among.
                elim among [
                  | inl e ↦ subst (λ (p : List (List Stop)). plan_cost_of s later.plan ≤ plan_cost_of s p) e (omega (arith, more))
                  | inr there ↦ later.least other fine there
                ];
          }
        ]

pub least-exists : (s : Snapshot) (known : List (List Stop)) → IsFeasiblePlan s known → (cost : ℕ) × IsLeastCost s cost
least-exists s known is =
    let found = least-of s known is (choices (tours_of_car s) (car_count s) 0) in (
      plan_cost_of s found.plan,
      record {
        plan = found.plan;
        optimal = record {
          feasible = found.feasible;
          least = λ other fine.
              (let le = found.least (risen_plan s other) (risen-feasible s other fine) (plan-listed s other fine) in
              let same = risen-costs s other fine in
              omega (arith, le, same));
        };
        costs = refl;
      },
    )
