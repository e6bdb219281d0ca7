-- Picks of candidates against pair plans.
use Rattle.std.proofs.Common.{◌≡◌, ℕ, zero, suc, ◌+◌, ◌*◌, ◌^◌, ◌<◌, ◌≤◌, ◌==◌, Bool, true, List, [], ◌∷◌, ◌++◌, length, map, get_or, refl, sym, ap, ◌∙◌, subst}
use Rattle.std.proofs.Common.{inl, inr, arith, Option, Some, None, IfSome}
use Rattle.std.specs.List.{All}
use Rattle.std.proofs.lemmas.Bool.{cases_lt}
use Rattle.std.proofs.lemmas.List.{get_or_default, get_or_push, get_or_append_left, map-append, length-map}
use Rattle.call_sets.specs.Counting.{sum_below}
use Rattle.call_sets.proofs.Sums.{sum_below-split, sum_below-same, sum_below-zero}
use Rattle.elevator_model.specs.declared.Stop.{Stop}
use Rattle.elevator_model.specs.Snapshot.{Snapshot, car_count, call_count}
use Rattle.elevator_model.specs.Plans.{is_boarded_in}
use Rattle.search_model.proofs.FeasibleLemmas.{boarded-below}
use Rattle.car_search.specs.declared.selections.Selection.{Selection}
use Rattle.car_search.specs.Counts.{no_times}
use Rattle.car_search.specs.Choosing.{AreOf, ArePicked, Completes, IsSmall, cost_of as cost_of_all, times_in, pick_count, picks, IsSelection, NoneBeats}
use Rattle.car_search.specs.Choosing.{to_beat}
use Rattle.car_search.proofs.ChoosingLemmas.{costs_small, picked_of}
use Rattle.car_search.proofs.NumberLemmas.{last_or_before}
use Rattle.half_plans.specs.declared.Pair.{Pair}
use Rattle.half_plans.specs.PairPlans.{list_of, tour_at, AreTourLists, boards_of_pair, cost_of_pair, times_boarded, IsPairPlan, pair_plan_cost, pair_count}
use Rattle.half_plans.specs.PairPlans.{pairing_count, IsCheapestPairing}
use Rattle.half_plans.specs.Choosing.{PairCandidate, CarPairs, no_candidate, candidate_at, times_of}
use Rattle.half_plans.specs.Choices.{AreCandidates, AreChoices, candidates_of, pairs_of, IsPlanPick, cost_of_picked}
use Rattle.half_plans.proofs.PairLemmas.{not_boarded, first_feasible, second_feasible}

-- ---- sums over the cars, from the first on

abbrev summed : (PairCandidate → ℕ) → List PairCandidate → ℕ
summed f [] = 0
summed f (x ∷ xs) = f x + summed f xs

cost_summed : (xs : List PairCandidate) → cost_of_all xs ≡ summed (λ (x : PairCandidate). x.cost) xs
cost_summed [] = refl
cost_summed (x ∷ xs) = ap (λ (n : ℕ). x.cost + n) (cost_summed xs)

times_summed : (xs : List PairCandidate) (j : ℕ) → times_in times_of xs j ≡ summed (λ (x : PairCandidate). times_of x.calls j) xs
times_summed [] j = refl
times_summed (x ∷ xs) j = ap (λ (n : ℕ). times_of x.calls j + n) (times_summed xs j)

sum_from : (f : PairCandidate → ℕ) (c : ℕ) (choices : List CarPairs) (pick : ℕ → ℕ) (xs : List PairCandidate) → ArePicked pick c choices xs
    → summed f xs ≡ sum_below (length choices) (λ i. f (candidate_at (candidates_of choices i) (pick (c + i))))
sum_from f c [] pick [] at = refl
sum_from f c [] pick (y ∷ xs) at = absurd at
sum_from f c (x ∷ choices) pick [] at = absurd at
sum_from f c (x ∷ choices) pick (y ∷ xs) at =
    let g : ℕ → ℕ = λ i. f (candidate_at (candidates_of (x ∷ choices) i) (pick (c + i))) in
    let e : length (x ∷ choices) ≡ 1 + length choices = omega arith in
    let first : c + 0 ≡ c = omega arith in
    let here = ap (λ (k : ℕ). f (candidate_at x.candidates.items (pick k))) first in
    let is = ap f (sym (get_or_default x.candidates.items (pick c) no_candidate y at.0.within ∙ at.0.is)) in
    let split = ap (λ (n : ℕ). sum_below n g) e ∙ sum_below-split 1 (length choices) g in
    let later = sum_below-same (length choices) (λ i. g (1 + i)) (λ i. f (candidate_at (candidates_of choices i) (pick (c + 1 + i))))
    (λ i lt. let up : 1 + i ≡ suc i = omega arith in let on : c + (1 + i) ≡ c + 1 + i = omega arith in
    ap (λ (k : ℕ). f (candidate_at (candidates_of (x ∷ choices) k) (pick (c + (1 + i))))) up
    ∙ ap (λ (k : ℕ). f (candidate_at (candidates_of choices i) (pick k))) on) in
    let rest = sum_from f (c + 1) choices pick xs at.1 in
    let whole : sum_below (length (x ∷ choices)) g ≡ 0 + f (candidate_at x.candidates.items (pick (c + 0))) + sum_below (length choices) (λ i. g (1 + i)) =
    split in
    omega (arith, whole, here, is, later, rest)

within_at : (c : ℕ) (choices : List CarPairs) (pick : ℕ → ℕ) (xs : List PairCandidate) → ArePicked pick c choices xs → (i : ℕ) → i < length choices
    → pick (c + i) < length (candidates_of choices i)
within_at c [] pick xs at i lt = absurd (omega (arith, lt))
within_at c (x ∷ choices) pick [] at i lt = absurd at
within_at c (x ∷ choices) pick (y ∷ xs) at zero lt = (let e : c ≡ c + 0 = omega arith in subst (λ (k : ℕ). pick k < length x.candidates.items) e at.0.within)
within_at c (x ∷ choices) pick (y ∷ xs) at (suc i) lt =
    (let e : c + 1 + i ≡ c + suc i = omega arith in
    subst (λ (k : ℕ). pick k < length (candidates_of choices i)) e (within_at (c + 1) choices pick xs at.1 i (omega (arith, lt))))

-- the candidates at the picks
abbrev chosen : (pick : ℕ → ℕ) → ℕ → List CarPairs → List PairCandidate
chosen pick c [] = []
chosen pick c (x ∷ choices) = candidate_at x.candidates.items (pick c) ∷ chosen pick (c + 1) choices

chosen_picked : (c : ℕ) (choices : List CarPairs) (pick : ℕ → ℕ) → ((i : ℕ) → i < length choices → pick (c + i) < length (candidates_of choices i))
    → ArePicked pick c choices (chosen pick c choices)
chosen_picked c [] pick each = tt
chosen_picked c (x ∷ choices) pick each =
    let first : c + 0 ≡ c = omega arith in
    let within = subst (λ (k : ℕ). pick k < length x.candidates.items) first (each 0 (omega arith)) in (
      record { within = within; is = get_or_default x.candidates.items (pick c) (candidate_at x.candidates.items (pick c)) no_candidate within },
      chosen_picked (c + 1) choices pick
          (λ i lt. let on : c + suc i ≡ c + 1 + i = omega arith in
          subst (λ (k : ℕ). pick k < length (candidates_of choices i)) on (each (suc i) (omega (arith, lt)))),
    )

-- ---- from picks to a pair plan and back

record HasPick (s : Snapshot) (choices : List CarPairs) (pairs : ℕ → Pair) (c : ℕ) : Type 0 where
  place : ℕ
  within : c < car_count s → place < length (candidates_of choices c)
  pair : c < car_count s → (candidate_at (candidates_of choices c) place).item ≡ pairs c

module _ (s : Snapshot) (lists : List (List (List Stop))) (choices : List CarPairs) (are : AreChoices s lists choices) (all : ℕ → Bool) where
  module _ (pick : ℕ → ℕ) (xs : List PairCandidate) (at : ArePicked pick 0 choices xs) where
    by_cars : (f : PairCandidate → ℕ) → summed f xs ≡ sum_below (car_count s) (λ c. f (candidate_at (candidates_of choices c) (pick c)))
    by_cars f =
        sum_from f 0 choices pick xs at ∙ ap (λ (n : ℕ). sum_below n (λ i. f (candidate_at (candidates_of choices i) (pick (0 + i))))) are.cars
        ∙ sum_below-same (car_count s) (λ i. f (candidate_at (candidates_of choices i) (pick (0 + i))))
        (λ c. f (candidate_at (candidates_of choices c) (pick c)))
        (λ i lt. let e : 0 + i ≡ i = omega arith in ap (λ (k : ℕ). f (candidate_at (candidates_of choices i) (pick k))) e)

    picks_within : (c : ℕ) → c < length choices → pick c < length (candidates_of choices c)
    picks_within c lt =
        let e : 0 + c ≡ c = omega arith in
        subst (λ (k : ℕ). pick k < length (candidates_of choices c)) e (within_at 0 choices pick xs at c lt)

    within_cars : (c : ℕ) → c < car_count s → pick c < length (candidates_of choices c)
    within_cars c lt = (let cars = are.cars in picks_within c (omega (arith, lt, cars)))

    times_are : (j : ℕ) → times_in times_of xs j ≡ times_boarded s lists (pairs_of choices pick) j
    times_are j =
        times_summed xs j ∙ by_cars (λ (x : PairCandidate). times_of x.calls j)
        ∙ sum_below-same (car_count s) (λ c. times_of (candidate_at (candidates_of choices c) (pick c)).calls j)
        (λ c. boards_of_pair (list_of lists c) (pairs_of choices pick c) j) (λ c lt. ((are.each c lt).each (pick c) (within_cars c lt)).times j)

    cost_is : cost_of_all xs ≡ pair_plan_cost s lists (pairs_of choices pick)
    cost_is =
        cost_summed xs ∙ by_cars (λ (x : PairCandidate). x.cost)
        ∙ sum_below-same (car_count s) (λ c. (candidate_at (candidates_of choices c) (pick c)).cost)
        (λ c. cost_of_pair s c (list_of lists c) (pairs_of choices pick c)) (λ c lt. ((are.each c lt).each (pick c) (within_cars c lt)).cost)

  module _ (every : (j : ℕ) → j < call_count s → all j ≡ true) where
    plan_of_picks : (pick : ℕ → ℕ) (xs : List PairCandidate) → ArePicked pick 0 choices xs → Completes times_of 2 all no_times xs
        → IsPairPlan s lists (pairs_of choices pick)
    plan_of_picks pick xs at done = record {
      places = λ c lt. ((are.each c lt).each (pick c) (within_cars pick xs at c lt)).places;
      twice = λ j lt. (let two = done.full j (every j lt) in let same = times_are pick xs at j in omega (arith, two, same));
    }

    pub picked-plan : (beat : ℕ) (o : Option Selection) → IfSome o (IsSelection times_of 2 all no_times 0 choices beat) → IfSome o (IsPlanPick s lists choices)
    picked-plan beat None h = tt
    picked-plan beat (Some x) found = record {
      within = picks_within (picks x) found.picked found.places;
      plan = plan_of_picks (picks x) found.picked found.places found.completes;
      cost = found.cost ∙ cost_is (picks x) found.picked found.places;
    }

  module _ (few : (j : ℕ) → all j ≡ true → j < call_count s) (tour_lists : AreTourLists s lists) (pairs : ℕ → Pair) (plan : IsPairPlan s lists pairs) where
    found : (c : ℕ) → HasPick s choices pairs c
    found c =
        elim (cases_lt c (car_count s)) [
          | inl lt ↦ (let at = (are.each c lt).all (pairs c) (plan.places c lt) in record { place = at.0; within = λ _. at.1; pair = λ _. at.2 })
          | inr past ↦ record { place = 0; within = λ lt. absurd (omega (arith, lt, past)); pair = λ lt. absurd (omega (arith, lt, past)) }
        ]

    abbrev pick : ℕ → ℕ
    pick c = (found c).place

    pick_within : (c : ℕ) → c < car_count s → pick c < length (candidates_of choices c)
    pick_within c lt = (found c).within lt

    same_times : (j : ℕ) → times_boarded s lists (pairs_of choices pick) j ≡ times_boarded s lists pairs j
    same_times j =
        sum_below-same (car_count s) (λ c. boards_of_pair (list_of lists c) (pairs_of choices pick c) j) (λ c. boards_of_pair (list_of lists c) (pairs c) j)
        (λ c lt. ap (λ (p : Pair). boards_of_pair (list_of lists c) p j) ((found c).pair lt))

    same_cost : pair_plan_cost s lists (pairs_of choices pick) ≡ pair_plan_cost s lists pairs
    same_cost =
        sum_below-same (car_count s) (λ c. cost_of_pair s c (list_of lists c) (pairs_of choices pick c)) (λ c. cost_of_pair s c (list_of lists c) (pairs c))
        (λ c lt. ap (cost_of_pair s c (list_of lists c)) ((found c).pair lt))

    none_past : (j : ℕ) → call_count s ≤ j → times_boarded s lists pairs j ≡ 0
    none_past j past =
        sum_below-same (car_count s) (λ c. boards_of_pair (list_of lists c) (pairs c) j) (λ c. 0)
        (λ c lt. (let first = not_boarded (is_boarded_in (tour_at (list_of lists c) (pairs c).first) j)
        (λ boards. let below = boarded-below s c (tour_at (list_of lists c) (pairs c).first) j
        (first_feasible s lists pairs tour_lists plan c lt) boards in omega (arith, below, past)) in
        let second = not_boarded (is_boarded_in (tour_at (list_of lists c) (pairs c).second) j)
        (λ boards. let below = boarded-below s c (tour_at (list_of lists c) (pairs c).second) j
        (second_feasible s lists pairs tour_lists plan c lt) boards in omega (arith, below, past)) in omega (arith, first, second)))
        ∙ sum_below-zero (car_count s)

    at_most_two : (j : ℕ) → times_boarded s lists pairs j ≤ 2
    at_most_two j =
        elim (cases_lt j (call_count s)) [
          | inl lt ↦ (let two = plan.twice j lt in omega (arith, two))
          | inr past ↦ (let zero_past = none_past j past in omega (arith, zero_past))
        ]

    at : ArePicked pick 0 choices (chosen pick 0 choices)
    at =
        chosen_picked 0 choices pick
        (λ i lt. let cars = are.cars in let e : i ≡ 0 + i = omega arith in
        subst (λ (k : ℕ). pick k < length (candidates_of choices i)) e (pick_within i (omega (arith, lt, cars))))

    completes : Completes times_of 2 all no_times (chosen pick 0 choices)
    completes = record {
      room = λ j. (let most = at_most_two j in let same = times_are pick (chosen pick 0 choices) at j in let as_planned = same_times j in
          omega (arith, most, same, as_planned));
      full = λ j h. (let two = plan.twice j (few j h) in let same = times_are pick (chosen pick 0 choices) at j in let as_planned = same_times j in
          omega (arith, two, same, as_planned));
    }

    of : AreOf choices (chosen pick 0 choices)
    of = picked_of pick 0 choices (chosen pick 0 choices) at

    least-plan : (beat : ℕ) → NoneBeats times_of 2 all no_times choices beat → beat ≤ pair_plan_cost s lists pairs
    least-plan beat beats =
        let low = beats (chosen pick 0 choices) of completes in
        let same = cost_is pick (chosen pick 0 choices) at ∙ same_cost in
        omega (arith, low, same)

    no-plan : All (λ (x : CarPairs). All IsSmall x.candidates.items) choices → length choices ≤ 16
        → NoneBeats times_of 2 all no_times choices 18446744073709551615 → ⊥
    no-plan small cars beats =
        let low = beats (chosen pick 0 choices) of completes in
        let high = costs_small choices (chosen pick 0 choices) small of in
        omega (arith, low, high, cars)

  pub cheapest-picked : ((j : ℕ) → all j ≡ true → j < call_count s) → AreTourLists s lists → All (λ (x : CarPairs). All IsSmall x.candidates.items) choices
      → length choices ≤ 16 → (o : Option Selection) → NoneBeats times_of 2 all no_times choices (to_beat 18446744073709551615 o)
      → IsCheapestPairing s lists o (cost_of_picked o)
  cheapest-picked few tour_lists small cars None beats = λ pairs plan. no-plan few tour_lists pairs plan small cars beats
  cheapest-picked few tour_lists small cars (Some x) beats = λ pairs plan. least-plan few tour_lists pairs plan x.cost beats

-- ---- how many partial pairings there are

counts_same : (lists : List (List (List Stop))) (choices : List CarPairs) → length choices ≡ length lists
    → ((i : ℕ) → i < length choices → length (candidates_of choices i) ≡ pair_count (length (list_of lists i))) → pick_count choices ≡ pairing_count lists
counts_same [] [] long each = refl
counts_same [] (x ∷ choices) long each = absurd (omega (arith, long))
counts_same (tours ∷ lists) [] long each = absurd (omega (arith, long))
counts_same (tours ∷ lists) (x ∷ choices) long each =
    let first = each 0 (omega arith) in
    let rest = counts_same lists choices (omega (arith, long)) (λ i lt. each (suc i) (omega (arith, lt))) in
    ap (λ (n : ℕ). 1 + n * pick_count choices) first ∙ ap (λ (n : ℕ). 1 + pair_count (length tours) * n) rest

pub spent-many : (s : Snapshot) (lists : List (List (List Stop))) (choices : List CarPairs) (limit : ℕ) → AreTourLists s lists → AreChoices s lists choices
    → limit ≤ pick_count choices → limit ≤ pairing_count lists
spent-many s lists choices limit tour_lists are tries =
    let cars = are.cars in
    let same = counts_same lists choices (are.cars ∙ sym tour_lists.cars) (λ i lt. (are.each i (omega (arith, lt, cars))).counted) in
    omega (arith, tries, same)

-- ---- the choices of one car more

pub choices-pushed : (s : Snapshot) (lists : List (List (List Stop))) (choices : List CarPairs) (x : CarPairs) (n : ℕ) → length choices ≡ n
    → ((c : ℕ) → c < n → AreCandidates s c (list_of lists c) (candidates_of choices c)) → AreCandidates s n (list_of lists n) x.candidates.items → (c : ℕ)
    → c < n + 1 → AreCandidates s c (list_of lists c) (candidates_of (choices ++ x ∷ []) c)
choices-pushed s lists choices x n long each last c lt =
    let f : CarPairs → List PairCandidate = λ (y : CarPairs). y.candidates.items in
    let mapped : map f (choices ++ x ∷ []) ≡ map f choices ++ f x ∷ [] = map-append f choices (x ∷ []) in
    let long_map : length (map f choices) ≡ n = length-map choices f ∙ long in
    let at : ℕ → List PairCandidate = λ k. get_or (map f (choices ++ x ∷ [])) k [] in
    last_or_before c n lt
    (λ e. subst (λ (k : ℕ). AreCandidates s k (list_of lists k) (candidates_of (choices ++ x ∷ []) k)) (sym e)
    (subst (AreCandidates s n (list_of lists n))
    (sym (ap (λ (l : List (List PairCandidate)). get_or l n []) mapped ∙ get_or_push (map f choices) (f x) [] n long_map)) last))
    (λ less. subst (AreCandidates s c (list_of lists c))
    (sym (ap (λ (l : List (List PairCandidate)). get_or l c []) mapped
    ∙ get_or_append_left (map f choices) (f x ∷ []) [] c (omega (arith, less, long_map)))) (each c less))
