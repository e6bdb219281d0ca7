-- The cheapest tours of the cars from one on.
use Rattle.std.proofs.Common.{◌≡◌, ℕ, suc, ◌+◌, ◌<◌, ◌≤◌, Bool, true, false, cond, leb, ◌||◌, List, [], ◌∷◌, length, length-append, ◌++◌, get_or, refl, sym, ap}
use Rattle.std.proofs.Common.{◌∙◌, subst, inl, inr, arith, Option, Some, None}
use Rattle.std.proofs.Math.Nat.{eq-or-lt_of_le}
use Rattle.std.proofs.lemmas.List.{get_or_push, get_or_append_left}
use Rattle.std.proofs.lemmas.Bool.{cases_Bool, leb-true, leb-false}
use Rattle.elevator_model.specs.declared.Stop.{Stop}
use Rattle.call_sets.specs.Counting.{has}
use Rattle.elevator_model.specs.Snapshot.{Snapshot, car_count, call_count}
use Rattle.elevator_model.specs.Tours.{Progress, IsFeasible, start_of, none_taken}
use Rattle.elevator_model.specs.Costs.{cost_of}
use Rattle.elevator_model.specs.Plans.{IsOptimal, is_boarded_in, plan_cost_of}
use Rattle.elevator_model.specs.Partial.{moves_of}
use Rattle.tour_rules.proofs.BoundedTests.{same_function}
use Rattle.tour_rules.proofs.Taken.{tour_apart}
use Rattle.tour_cost.specs.Completing.{Completes, with_calls_of, rest_cost}
use Rattle.tour_cost.proofs.Completing.{plan_where_complete, complete_where_plan, plan_costs}
use Rattle.partial_tours.specs.Listed.{tour_at, AreAllTours}
use Rattle.plain_solver.specs.declared.choices.Sums.{Sums}
use Rattle.plain_solver.specs.declared.choices.Choices.{Choices}
use Rattle.plain_solver.specs.Rests.{AreChoices, AreChoicesFrom, IsSmallCost, sums_at, Chosen, IsLeast, IsCheapest, IsLeastOf, IsCheapestOf, begun_with}
use Rattle.plain_solver.specs.Rests.{better_of}
use Rattle.partial_tours.proofs.Boarded.{boarded_in}
use Rattle.partial_tours.proofs.Listed.{same_end, same_cost}

-- ---- one more tour of the list

last_or_before : (k n : ℕ) → k < n + 1 → {P : Type 0} → (k ≡ n → P) → (k < n → P) → P
last_or_before k n lt here before =
    let le : k ≤ n = omega (arith, lt) in
    elim (eq-or-lt_of_le le) [ inl e ↦ here e | inr less ↦ before less ]

-- nothing completes what is taken with this tour first
pub skipped : (s : Snapshot) (taken : ℕ → Bool) (c : ℕ) (tours : List (List Stop)) (n : ℕ) (best : Option Chosen) → IsCheapestOf s taken c tours n best
    → ((rest : List (List Stop)) → Completes s taken c (tour_at tours n ∷ rest) → ⊥) → IsCheapestOf s taken c tours (n + 1) best
skipped s taken c tours n None none out = λ k rest lt done.
    last_or_before k n lt (λ e. out rest (subst (λ (i : ℕ). Completes s taken c (tour_at tours i ∷ rest)) e done)) (λ less. none k rest less done)
skipped s taken c tours n (Some best) least out = record {
  completes = least.completes;
  cost = least.cost;
  least = λ k rest lt done.
      last_or_before k n lt (λ e. absurd (out rest (subst (λ (i : ℕ). Completes s taken c (tour_at tours i ∷ rest)) e done)))
      (λ less. least.least k rest less done);
}

-- a tour with the cheapest rest
newest : (s : Snapshot) (taken : ℕ → Bool) (c : ℕ) (tours : List (List Stop)) (n : ℕ) (tour : List Stop) (cost : ℕ) (rest : Chosen) → tour ≡ tour_at tours n
    → IsFeasible s c tour → ((j : ℕ) → is_boarded_in tour j ≡ true → taken j ≡ false) → cost ≡ cost_of s c tour
    → IsLeast s (with_calls_of taken tour) (c + 1) rest
    → ((k : ℕ) (other : List (List Stop)) → k < n → Completes s taken c (tour_at tours k ∷ other) → cost + rest.cost ≤ rest_cost s c (tour_at tours k ∷ other))
    → IsLeastOf s taken c tours (n + 1) (begun_with tour cost rest)
newest s taken c tours n tour cost rest is feasible free costs least before = record {
  completes = (feasible, free, least.completes);
  cost = (let whole = least.cost in omega (arith, costs, whole));
  least = λ k other lt done.
      last_or_before k n lt (λ e.
      here other (subst (λ (t : List Stop). Completes s taken c (t ∷ other)) (ap (tour_at tours) e ∙ sym is) done)
      (ap (λ (t : List Stop). rest_cost s c (t ∷ other)) (ap (tour_at tours) e ∙ sym is))) (λ less. before k other less done);
}
  where
    here : (other : List (List Stop)) {total : ℕ} → Completes s taken c (tour ∷ other) → total ≡ rest_cost s c (tour ∷ other) → cost + rest.cost ≤ total
    here other done same = let low = least.least other done.2 in omega (arith, low, costs, same)

pub taken_up : (s : Snapshot) (taken : ℕ → Bool) (c : ℕ) (tours : List (List Stop)) (n : ℕ) (tour : List Stop) (cost : ℕ) (best rest : Option Chosen)
    → tour ≡ tour_at tours n → IsFeasible s c tour → ((j : ℕ) → is_boarded_in tour j ≡ true → taken j ≡ false) → cost ≡ cost_of s c tour
    → IsCheapestOf s taken c tours n best → IsCheapest s (with_calls_of taken tour) (c + 1) rest
    → IsCheapestOf s taken c tours (n + 1) (better_of best tour cost rest)
taken_up s taken c tours n tour cost best None is feasible free costs so_far none =
    skipped s taken c tours n best so_far (λ other done. none other (subst (λ (t : List Stop). Completes s taken c (t ∷ other)) (sym is) done).2)
taken_up s taken c tours n tour cost None (Some rest) is feasible free costs none least =
    newest s taken c tours n tour cost rest is feasible free costs least (λ k other lt done. absurd (none k other lt done))
taken_up s taken c tours n tour cost (Some best) (Some rest) is feasible free costs so_far least =
    elim (cases_Bool (leb best.cost (cost + rest.cost))) [
      | inl e ↦ subst (IsCheapestOf s taken c tours (n + 1)) (sym (ap (λ (b : Bool). cond b (Some best) (Some (begun_with tour cost rest))) e))
          (older (leb-true best.cost (cost + rest.cost) e))
      | inr e ↦ subst (IsCheapestOf s taken c tours (n + 1)) (sym (ap (λ (b : Bool). cond b (Some best) (Some (begun_with tour cost rest))) e))
          (newest s taken c tours n tour cost rest is feasible free costs least
          (λ k other lt done. let low = so_far.least k other lt done in let more = leb-false best.cost (cost + rest.cost) e in omega (arith, low, more)))
    ]
  where
    older : best.cost ≤ cost + rest.cost → IsLeastOf s taken c tours (n + 1) best
    older le = record {
      completes = so_far.completes;
      cost = so_far.cost;
      least = λ k other lt done.
          last_or_before k n lt (λ e. let same = ap (λ (t : List Stop). rest_cost s c (t ∷ other)) (ap (tour_at tours) e ∙ sym is) in
          let low = least.least other (subst (λ (t : List Stop). Completes s taken c (t ∷ other)) (ap (tour_at tours) e ∙ sym is) done).2 in
          omega (arith, same, low, le, costs)) (λ less. so_far.least k other less done);
    }

-- ---- the whole list

-- feasible tours with the same moves board the same calls
boards_alike : (s : Snapshot) (c : ℕ) (t u : List Stop) → IsFeasible s c t → IsFeasible s c u → moves_of s t ≡ moves_of s u → (j : ℕ)
    → is_boarded_in t j ≡ is_boarded_in u j
boards_alike s c t u first second same j =
    elim (cases_Bool (is_boarded_in t j)) [
      | inl e ↦ (let below = (tour_apart s c none_taken (start_of s c) 1 t first j e).0 in inside below)
      | inr e ↦ elim (cases_Bool (is_boarded_in u j)) [
        | inl f ↦ (let below = (tour_apart s c none_taken (start_of s c) 1 u second j f).0 in inside below)
        | inr f ↦ e ∙ sym f
      ]
    ]
  where
    inside : j < call_count s → is_boarded_in t j ≡ is_boarded_in u j
    inside below = sym (boarded_in s c t j below) ∙ ap (λ (p : Progress). p.boarded j) (same_end s c t u first second same) ∙ boarded_in s c u j below

swapped : (s : Snapshot) (taken : ℕ → Bool) (c : ℕ) (t u : List Stop) (rest : List (List Stop)) → IsFeasible s c t → IsFeasible s c u
    → moves_of s t ≡ moves_of s u → Completes s taken c (u ∷ rest) → Completes s taken c (t ∷ rest)
swapped s taken c t u rest first second same done =
    let alike = boards_alike s c t u first second same in
    let sets = same_function (with_calls_of taken u) (with_calls_of taken t) (λ j. ap (λ (b : Bool). taken j || b) (sym (alike j))) in
    (first, (λ j h. done.1 j (sym (alike j) ∙ h)), subst (λ (k : ℕ → Bool). Completes s k (c + 1) rest) sets done.2)

pub all_tried : (s : Snapshot) (taken : ℕ → Bool) (c : ℕ) (tours : List (List Stop)) (best : Option Chosen) → c < car_count s → AreAllTours s c tours
    → IsCheapestOf s taken c tours (length tours) best → IsCheapest s taken c best
all_tried s taken c tours None lt all none = λ rest. no_rest rest
  where
    no_rest : (rest : List (List Stop)) → Completes s taken c rest → ⊥
    no_rest [] done = let end = done.0 in omega (arith, end, lt)
    no_rest (u ∷ rest) done =
        let found = all.complete u done.0 in
        none found.0 rest found.1 (swapped s taken c (tour_at tours found.0) u rest (all.feasible found.0 found.1) done.0 found.2 done)
all_tried s taken c tours (Some best) lt all least = record {
  completes = least.completes;
  cost = least.cost;
  least = λ rest done. low rest done;
}
  where
    low : (rest : List (List Stop)) → Completes s taken c rest → best.cost ≤ rest_cost s c rest
    low [] done = absurd (let end = done.0 in omega (arith, end, lt))
    low (u ∷ rest) done =
        let found = all.complete u done.0 in
        let t = tour_at tours found.0 in
        let bound = least.least found.0 rest found.1 (swapped s taken c t u rest (all.feasible found.0 found.1) done.0 found.2 done) in
        let same = same_cost s c t u (all.feasible found.0 found.1) done.0 found.2 in
        omega (arith, bound, same)

pub none_tried : (s : Snapshot) (taken : ℕ → Bool) (c : ℕ) (tours : List (List Stop)) → IsCheapestOf s taken c tours 0 None
none_tried s taken c tours k rest lt done = omega (arith, lt)

-- after the last car
pub all_served : (s : Snapshot) (taken : ℕ → Bool) (c : ℕ) → c ≡ car_count s → ((j : ℕ) → j < call_count s → taken j ≡ true)
    → IsCheapest s taken c (Some (record { tours = []; cost = 0 }))
all_served s taken c end all = record { completes = (end, all); cost = refl; least = λ rest done. omega arith }

pub not_served : (s : Snapshot) (taken : ℕ → Bool) (c : ℕ) → c ≡ car_count s → (((j : ℕ) → j < call_count s → taken j ≡ true) → ⊥) → IsCheapest s taken c None
not_served s taken c end some = λ rest. none rest
  where
    none : (rest : List (List Stop)) → Completes s taken c rest → ⊥
    none [] done = some done.1
    none (u ∷ rest) done = past (c + 1) (with_calls_of taken u) rest done.2 (omega (arith, end))
      where
        past : (k : ℕ) (held : ℕ → Bool) (later : List (List Stop)) → Completes s held k later → car_count s < k → ⊥
        past k held [] fin lt = let e = fin.0 in omega (arith, e, lt)
        past k held (v ∷ later) fin lt = past (k + 1) (with_calls_of held v) later fin.2 (omega (arith, lt))

-- ---- plans

pub optimal_where_least : (s : Snapshot) (x : Chosen) → IsLeast s none_taken 0 x → IsOptimal s x.tours
optimal_where_least s x least =
    let plan = plan_where_complete s x.tours least.completes in
    record {
      feasible = plan;
      least = λ other feasible.
          (let low = least.least other (complete_where_plan s other feasible) in let mine = plan_costs s x.tours plan.cars in
          let theirs = plan_costs s other feasible.cars in let cost = least.cost in omega (arith, low, mine, theirs, cost));
    }

pub cost_where_least : (s : Snapshot) (x : Chosen) → IsLeast s none_taken 0 x → x.cost ≡ plan_cost_of s x.tours
cost_where_least s x least = least.cost ∙ sym (plan_costs s x.tours (plan_where_complete s x.tours least.completes).cars)

-- ---- the choices of a car

pub choice_free : (s : Snapshot) (c : ℕ) (tours : List (List Stop)) (sums : List Sums) (k : ℕ) (taken : ℕ → Bool) → AreChoices s c tours sums
    → k < length tours → ((j : ℕ) → j < 128 → has (sums_at sums k).calls j ≡ true → taken j ≡ false) → (j : ℕ) → is_boarded_in (tour_at tours k) j ≡ true
    → taken j ≡ false
choice_free s c tours sums k taken are lt apart j h =
    let below = (tour_apart s c none_taken (start_of s c) 1 (tour_at tours k) (are.all.feasible k lt) j h).0 in
    let few = are.few in
    apart j (omega (arith, below, few)) (are.calls k j lt ∙ h)

pub choice_apart : (s : Snapshot) (c : ℕ) (tours : List (List Stop)) (sums : List Sums) (k : ℕ) (taken : ℕ → Bool) → AreChoices s c tours sums
    → k < length tours → ((j : ℕ) → is_boarded_in (tour_at tours k) j ≡ true → taken j ≡ false) → (j : ℕ) → j < 128 → has (sums_at sums k).calls j ≡ true
    → taken j ≡ false
choice_apart s c tours sums k taken are lt free j below h = free j (sym (are.calls k j lt) ∙ h)

pub choice_with : (s : Snapshot) (c : ℕ) (tours : List (List Stop)) (sums : List Sums) (k taken with_next : ℕ) → AreChoices s c tours sums → k < length tours
    → ((j : ℕ) → has with_next j ≡ (has taken j || has (sums_at sums k).calls j)) → has with_next ≡ with_calls_of (has taken) (tour_at tours k)
choice_with s c tours sums k taken with_next are lt joined =
    same_function (has with_next) (with_calls_of (has taken) (tour_at tours k)) (λ j. joined j ∙ ap (λ (b : Bool). has taken j || b) (are.calls k j lt))

pub better_small : (n : ℕ) (best : Option Chosen) (tour : List Stop) (cost : ℕ) (rest : Option Chosen) → IsSmallCost (n + 1) best → cost ≤ 1000000000000000000
    → IsSmallCost n rest → IsSmallCost (n + 1) (better_of best tour cost rest)
better_small n best tour cost None small low less = small
better_small n None tour cost (Some rest) small low less = omega (arith, low, less)
better_small n (Some best) tour cost (Some rest) small low less =
    elim (cases_Bool (leb best.cost (cost + rest.cost))) [
      | inl e ↦ subst (IsSmallCost (n + 1)) (sym (ap (λ (b : Bool). cond b (Some best) (Some (begun_with tour cost rest))) e)) small
      | inr e ↦ subst (IsSmallCost (n + 1)) (sym (ap (λ (b : Bool). cond b (Some best) (Some (begun_with tour cost rest))) e)) (omega (arith, low, less))
    ]

pub choices_from : (s : Snapshot) (c : ℕ) (choices : List Choices) → c + length choices ≡ car_count s
    → ((i : ℕ) (d : Choices) → i < length choices → AreChoices s (c + i) (get_or choices i d).tours.items (get_or choices i d).sums.items)
    → AreChoicesFrom s c choices
choices_from s c [] end each = omega (arith, end)
choices_from s c (x ∷ choices) end each =
    let first : c + 0 ≡ c = omega arith in (
      omega (arith, end),
      subst (λ (k : ℕ). AreChoices s k x.tours.items x.sums.items) first (each 0 x (omega arith)),
      choices_from s (c + 1) choices (omega (arith, end))
          (λ i d lt. let on : c + suc i ≡ c + 1 + i = omega arith in
          subst (λ (k : ℕ). AreChoices s k (get_or choices i d).tours.items (get_or choices i d).sums.items) on (each (suc i) d (omega (arith, lt)))),
    )

pub choices_pushed : (s : Snapshot) (choices : List Choices) (x : Choices) (n : ℕ) → length choices ≡ n
    → ((c : ℕ) (d : Choices) → c < n → AreChoices s c (get_or choices c d).tours.items (get_or choices c d).sums.items)
    → AreChoices s n x.tours.items x.sums.items → (length (choices ++ x ∷ []) ≡ n + 1)
    × ((c : ℕ) (d : Choices) → c < n + 1 → AreChoices s c (get_or (choices ++ x ∷ []) c d).tours.items (get_or (choices ++ x ∷ []) c d).sums.items)
choices_pushed s choices x n long each last =
    let whole = length-append choices (x ∷ []) in (
      omega (arith, whole, long),
      λ c d lt. last_or_before c n lt
          (λ e. subst (λ (k : ℕ). AreChoices s k (get_or (choices ++ x ∷ []) k d).tours.items (get_or (choices ++ x ∷ []) k d).sums.items) (sym e)
          (subst (λ (y : Choices). AreChoices s n y.tours.items y.sums.items) (sym (get_or_push choices x d n long)) last))
          (λ less. subst (λ (y : Choices). AreChoices s c y.tours.items y.sums.items)
          (sym (get_or_append_left choices (x ∷ []) d c (omega (arith, less, long))))
          (each c d less)),
    )
