-- Picks of candidates against plans of pool tours.
use Rattle.std.proofs.Common.{◌≡◌, ℕ, zero, suc, ◌+◌, ◌*◌, ◌^◌, ◌<◌, ◌≤◌, ◌||◌, Bool, true, false, true≢false, List, [], ◌∷◌, ◌++◌, ltb, length, get_or, refl}
use Rattle.std.proofs.Common.{sym, ap, ◌∙◌, subst, arith, Option, Some, None, IfSome, ℤ}
use Rattle.std.specs.List.{All, Contains}
use Rattle.std.proofs.lemmas.Bool.{lt-ltb, ltb-true}
use Rattle.std.proofs.Math.Nat.{mul-le-mul_right, pow-succ'}
use Rattle.std.proofs.lemmas.List.{get_or_default, get_or_push, get_or_append_left, get_or-map as get_or-map_in, length-map}
use Rattle.call_sets.specs.Counting.{has}
use Rattle.elevator_model.specs.declared.Stop.{Stop}
use Rattle.elevator_model.specs.Snapshot.{Snapshot, car_count, call_count}
use Rattle.elevator_model.specs.Tours.{IsFeasible, none_taken}
use Rattle.elevator_model.specs.Costs.{cost_of}
use Rattle.elevator_model.specs.Plans.{is_boarded_in, tour_of, plan_cost_of}
use Rattle.tour_cost.specs.Completing.{Completes as ToursComplete, with_calls_of, rest_cost}
use Rattle.tour_cost.proofs.Completing.{plan_where_complete, complete_where_plan, plan_costs}
use Rattle.restricted_master.specs.declared.columns.Column.{Column}
use Rattle.car_search.specs.declared.selections.Selection.{Selection}
use Rattle.car_search.specs.Counts.{one_if, times_in_set, no_times}
use Rattle.car_search.specs.Choosing.{AreOf, IsSmall, ArePicked, Completes, cost_of as cost_of_all, times_in, pick_count, picks, to_beat, IsSelection}
use Rattle.car_search.specs.Choosing.{NoneBeats}
use Rattle.car_search.proofs.CountLemmas.{one-true}
use Rattle.car_search.proofs.ChoosingLemmas.{completes_alike, costs_small, joins, parts}
use Rattle.car_search.proofs.NumberLemmas.{last_or_before}
use Rattle.restricted_master.specs.Choosing.{PlacedColumn, CarColumns, no_candidate, candidate_at}
use Rattle.restricted_master.specs.Choices.{tour_at, IsCandidate, AreCandidates, AreChoices, CanPick, IsPicked, IsPlanPick, IsCheapestPick, IsLeastBelow}
use Rattle.restricted_master.specs.Priced.{candidate_of}
use Rattle.restricted_master.specs.Pools.{TourPool, tours_of_car, IsPool, AreColumns, IsMadeOf, selection_count}
use Rattle.restricted_master.specs.Columns.{IsColumn, columns_of, tours_of}
use Rattle.restricted_master.proofs.PoolLemmas.{pool_of, tours-columns}

-- ---- of the cars from one on

AllFrom : (ℕ → CarColumns → Type 0) → ℕ → List CarColumns → Type 0
AllFrom P c [] = Unit {0}
AllFrom P c (x ∷ choices) = P c x × AllFrom P (c + 1) choices

all_from : (P : ℕ → CarColumns → Type 0) (c : ℕ) (choices : List CarColumns) → ((i : ℕ) (d : CarColumns) → i < length choices → P (c + i) (get_or choices i d))
    → AllFrom P c choices
unfolding AllFrom
all_from P c [] each = tt
all_from P c (x ∷ choices) each =
    let first : c + 0 ≡ c = omega arith in (
      subst (λ (k : ℕ). P k x) first (each 0 x (omega arith)),
      all_from P (c + 1) choices
          (λ i d lt. let on : c + suc i ≡ c + 1 + i = omega arith in subst (λ (k : ℕ). P k (get_or choices i d)) on (each (suc i) d (omega (arith, lt)))),
    )

-- the tours of this many cars from one on
tours_from : (ℕ → List Stop) → ℕ → List CarColumns → List (List Stop)
tours_from tour c [] = []
tours_from tour c (x ∷ choices) = tour c ∷ tours_from tour (c + 1) choices

tours_from-is : (tour : ℕ → List Stop) (c : ℕ) (choices : List CarColumns) (plan : List (List Stop)) → length plan ≡ length choices
    → ((i : ℕ) → i < length plan → tour (c + i) ≡ get_or plan i []) → tours_from tour c choices ≡ plan
unfolding tours_from
tours_from-is tour c [] [] long each = refl
tours_from-is tour c [] (t ∷ plan) long each = absurd (omega (arith, long))
tours_from-is tour c (x ∷ choices) [] long each = absurd (omega (arith, long))
tours_from-is tour c (x ∷ choices) (t ∷ plan) long each =
    let first : c + 0 ≡ c = omega arith in
    let here : tour c ≡ t = ap tour (sym first) ∙ each 0 (omega arith) in
    let rest = tours_from-is tour (c + 1) choices plan (omega (arith, long))
    (λ i lt. let on : c + 1 + i ≡ c + suc i = omega arith in ap tour on ∙ each (suc i) (omega (arith, lt))) in
    ap (λ (u : List Stop). u ∷ tours_from tour (c + 1) choices) here ∙ ap (λ (l : List (List Stop)). t ∷ l) rest

-- ---- from picks to a plan

abbrev Picks : Snapshot → (ℕ → List (List Stop)) → (ℕ → ℕ) → (ℕ → List Stop) → ℕ → CarColumns → Type 0
Picks s tours pick tour c x = AreCandidates s c (tours c) x.candidates.items × (tour c ≡ tour_at (tours c) (candidate_at x.candidates.items (pick c)).item)

-- how often a call is taken with one candidate more
pub one_sum : (a b h : Bool) → h ≡ b → (b ≡ true → a ≡ false) → one_if (a || b) ≡ one_if a + one_if h
one_sum true true h same apart = absurd (true≢false (apart refl))
one_sum true false true same apart = absurd (true≢false same)
one_sum true false false same apart = refl
one_sum false true true same apart = refl
one_sum false true false same apart = absurd (true≢false (sym same))
one_sum false false true same apart = absurd (true≢false same)
one_sum false false false same apart = refl

at_most_one : (a : Bool) → one_if a ≤ 1
at_most_one true = omega arith
at_most_one false = omega arith

pub one_free : (a h : Bool) (more : ℕ) → one_if a + (one_if h + more) ≤ 1 → h ≡ true → a ≡ false
one_free false h more few e = refl
one_free true true more few e = absurd (omega (arith, few))
one_free true false more few e = absurd (true≢false (sym e))

abbrev Counted : (all taken : ℕ → Bool) → List PlacedColumn → Type 0
Counted all taken xs = Completes times_in_set 1 all (λ j. one_if (taken j)) xs

counted_on : (all taken : ℕ → Bool) (t : List Stop) (k : PlacedColumn) (xs : List PlacedColumn) → ((j : ℕ) → has k.calls j ≡ is_boarded_in t j)
    → ((j : ℕ) → is_boarded_in t j ≡ true → taken j ≡ false) → Counted all taken (k ∷ xs) → Counted all (with_calls_of taken t) xs
counted_on all taken t k xs boards apart done =
    completes_alike times_in_set 1 all (λ j. one_if (taken j) + one_if (has k.calls j)) (λ j. one_if (with_calls_of taken t j)) xs
    (λ j. sym (one_sum (taken j) (is_boarded_in t j) (has k.calls j) (boards j) (apart j))) (parts times_in_set 1 all (λ j. one_if (taken j)) k xs done)

counted_back : (all taken : ℕ → Bool) (t : List Stop) (k : PlacedColumn) (xs : List PlacedColumn) → ((j : ℕ) → has k.calls j ≡ is_boarded_in t j)
    → ((j : ℕ) → is_boarded_in t j ≡ true → taken j ≡ false) → Counted all (with_calls_of taken t) xs → Counted all taken (k ∷ xs)
counted_back all taken t k xs boards apart done =
    joins times_in_set 1 all (λ j. one_if (taken j)) k xs
    (completes_alike times_in_set 1 all (λ j. one_if (with_calls_of taken t j)) (λ j. one_if (taken j) + one_if (has k.calls j)) xs
    (λ j. one_sum (taken j) (is_boarded_in t j) (has k.calls j) (boards j) (apart j)) done)

module _ (s : Snapshot) (all : ℕ → Bool) (tours : ℕ → List (List Stop)) (every : (j : ℕ) → j < call_count s → all j ≡ true) (pick : ℕ → ℕ)
    (tour : ℕ → List Stop) where
  tours_complete : (taken : ℕ → Bool) (c : ℕ) (choices : List CarColumns) (xs : List PlacedColumn) → c + length choices ≡ car_count s
      → AllFrom (Picks s tours pick tour) c choices → ArePicked pick c choices xs → Counted all taken xs → ToursComplete s taken c (tours_from tour c choices)
      × (rest_cost s c (tours_from tour c choices) ≡ cost_of_all xs)
  unfolding AllFrom tours_from
  tours_complete taken c [] [] end each at done =
      ((omega (arith, end), λ j lt. one-true (taken j) (let full = done.full j (every j lt) in omega (arith, full))), refl)
  tours_complete taken c [] (k ∷ xs) end each at done = absurd at
  tours_complete taken c (x ∷ choices) [] end each at done = absurd at
  tours_complete taken c (x ∷ choices) (k ∷ xs) end each at done =
      let here : candidate_at x.candidates.items (pick c) ≡ k = get_or_default x.candidates.items (pick c) no_candidate k at.0.within ∙ at.0.is in
      let one = subst (IsCandidate s c (tours c)) here (each.0.0.each (pick c) at.0.within) in
      let is : tour c ≡ tour_at (tours c) k.item = each.0.1 ∙ ap (λ (y : PlacedColumn). tour_at (tours c) y.item) here in
      let boards : (j : ℕ) → has k.calls j ≡ is_boarded_in (tour c) j = λ j. one.calls j ∙ sym (ap (λ (t : List Stop). is_boarded_in t j) is) in
      let apart : (j : ℕ) → is_boarded_in (tour c) j ≡ true
      → taken j ≡ false = λ j h. one_free (taken j) (has k.calls j) (times_in times_in_set xs j) (done.room j) (boards j ∙ h) in
      let rest = tours_complete (with_calls_of taken (tour c)) (c + 1) choices xs (omega (arith, end)) each.1 at.1
      (counted_on all taken (tour c) k xs boards apart done) in
      let cost : cost_of s c (tour c) ≡ k.cost = ap (cost_of s c) is ∙ sym one.cost in
      let later = rest.1 in
      ((subst (IsFeasible s c) (sym is) one.feasible, apart, rest.0), omega (arith, cost, later))

pub is_every : (s : Snapshot) (all : ℕ → Bool) → Type 0
is_every s all = (j : ℕ) → j < call_count s → all j ≡ true

-- ---- from a plan to picks

AllIn : (ℕ → List (List Stop)) → ℕ → List (List Stop) → Type 0
AllIn tours c [] = Unit {0}
AllIn tours c (t ∷ plan) = Contains (tours c) t × AllIn tours (c + 1) plan

all_in : (tours : ℕ → List (List Stop)) (c : ℕ) (plan : List (List Stop)) → ((i : ℕ) → i < length plan → Contains (tours (c + i)) (get_or plan i []))
    → AllIn tours c plan
unfolding AllIn
all_in tours c [] each = tt
all_in tours c (t ∷ plan) each =
    let first : c + 0 ≡ c = omega arith in (
      subst (λ (k : ℕ). Contains (tours k) t) first (each 0 (omega arith)),
      all_in tours (c + 1) plan
          (λ i lt. let on : c + suc i ≡ c + 1 + i = omega arith in
          subst (λ (k : ℕ). Contains (tours k) (get_or plan i [])) on (each (suc i) (omega (arith, lt)))),
    )

record HasPicks (s : Snapshot) (all taken : ℕ → Bool) (c : ℕ) (choices : List CarColumns) (plan : List (List Stop)) : Type 0 where
  picked : List PlacedColumn
  of : AreOf choices picked
  completes : Counted all taken picked
  cost : cost_of_all picked ≡ rest_cost s c plan

module _ (s : Snapshot) (all : ℕ → Bool) (tours : ℕ → List (List Stop)) (few : (j : ℕ) → all j ≡ true → j < call_count s) where
  picks_of : (taken : ℕ → Bool) (c : ℕ) (choices : List CarColumns) (plan : List (List Stop)) → length plan ≡ length choices
      → AllFrom (λ (d : ℕ) (x : CarColumns). AreCandidates s d (tours d) x.candidates.items) c choices → AllIn tours c plan → ToursComplete s taken c plan
      → HasPicks s all taken c choices plan
  unfolding AllFrom AllIn
  picks_of taken c [] [] long each ins done = record {
    picked = [];
    of = tt;
    completes = record {
      room = λ j. (let most = at_most_one (taken j) in omega (arith, most));
      full = λ j h. (let one = ap one_if (done.1 j (few j h)) in omega (arith, one));
    };
    cost = refl;
  }
  picks_of taken c [] (t ∷ plan) long each ins done = absurd (omega (arith, long))
  picks_of taken c (x ∷ choices) [] long each ins done = absurd (omega (arith, long))
  picks_of taken c (x ∷ choices) (t ∷ plan) long each ins done =
      let items = x.candidates.items in
      let k = ins.0.0 in
      let at : tour_at (tours c) k ≡ t = get_or_default (tours c) k [] t ins.0.1 ∙ ins.0.2 in
      let found = each.0.all k ins.0.1 in
      let i = found.0 in
      let y = candidate_at items i in
      let one = each.0.each i found.1 in
      let is : tour_at (tours c) y.item ≡ t = ap (tour_at (tours c)) found.2 ∙ at in
      let boards : (j : ℕ) → has y.calls j ≡ is_boarded_in t j = λ j. one.calls j ∙ ap (λ (u : List Stop). is_boarded_in u j) is in
      let rest = picks_of (with_calls_of taken t) (c + 1) choices plan (omega (arith, long)) each.1 ins.1 done.2 in
      let first : cost_of s c t ≡ y.cost = ap (cost_of s c) (sym is) ∙ sym one.cost in
      let cost = rest.cost in
      record {
        picked = y ∷ rest.picked;
        of = ((i, found.1, get_or_default items i y no_candidate found.1), rest.of);
        completes = counted_back all taken t y rest.picked boards done.1 rest.completes;
        cost = omega (arith, first, cost);
      }

-- ---- of all cars

candidates_from : (pool : TourPool) (choices : List CarColumns) → AreChoices pool choices
    → AllFrom (λ (c : ℕ) (x : CarColumns). AreCandidates pool.snapshot c (tours_of_car pool c) x.candidates.items) 0 choices
candidates_from pool choices are =
    all_from (λ (c : ℕ) (x : CarColumns). AreCandidates pool.snapshot c (tours_of_car pool c) x.candidates.items) 0 choices
    (λ i d lt. let e : i ≡ 0 + i = omega arith in let cars = are.cars in
    subst (λ (k : ℕ). AreCandidates pool.snapshot k (tours_of_car pool k) (get_or choices i d).candidates.items) e (are.each i d (omega (arith, lt, cars))))

picked-within : (c : ℕ) (choices : List CarColumns) (pick : ℕ → ℕ) (xs : List PlacedColumn) → ArePicked pick c choices xs → (i : ℕ) (d : CarColumns)
    → i < length choices → pick (c + i) < length (get_or choices i d).candidates.items
picked-within c [] pick xs at i d lt = absurd (omega (arith, lt))
picked-within c (x ∷ choices) pick [] at i d lt = absurd at
picked-within c (x ∷ choices) pick (k ∷ xs) at zero d lt =
    (let e : c ≡ c + 0 = omega arith in subst (λ (n : ℕ). pick n < length x.candidates.items) e at.0.within)
picked-within c (x ∷ choices) pick (k ∷ xs) at (suc i) d lt =
    (let e : c + 1 + i ≡ c + suc i = omega arith in
    subst (λ (n : ℕ). pick n < length (get_or choices i d).candidates.items) e (picked-within (c + 1) choices pick xs at.1 i d (omega (arith, lt))))

pub picks-can : (pool : TourPool) (choices : List CarColumns) (pick : ℕ → ℕ) (xs : List PlacedColumn) → AreChoices pool choices → ArePicked pick 0 choices xs
    → CanPick pool choices pick
picks-can pool choices pick xs are at = record {
  within = λ c d lt. within c d lt;
  place = λ c d lt. (let cars = are.cars in ((are.each c d (omega (arith, lt, cars))).each (pick c) (within c d lt)).within);
}
  where
    within : (c : ℕ) (d : CarColumns) → c < length choices → pick c < length (get_or choices c d).candidates.items
    within c d lt = (let e : 0 + c ≡ c = omega arith in
        subst (λ (k : ℕ). pick k < length (get_or choices c d).candidates.items) e (picked-within 0 choices pick xs at c d lt))

pub record IsPlanOfPicks (pool : TourPool) (xs : List PlacedColumn) (plan : List (List Stop)) : Type 0 where
  pub made : IsMadeOf pool plan
  pub cost : plan_cost_of pool.snapshot plan ≡ cost_of_all xs

pub plan-made : (pool : TourPool) (choices : List CarColumns) (all : ℕ → Bool) (pick : ℕ → ℕ) (xs : List PlacedColumn) (plan : List (List Stop))
    → AreChoices pool choices → ((j : ℕ) → j < call_count pool.snapshot → all j ≡ true) → ArePicked pick 0 choices xs
    → Completes times_in_set 1 all no_times xs → IsPicked pool choices pick plan → IsPlanOfPicks pool xs plan
plan-made pool choices all pick xs plan are every at done picked =
    let s = pool.snapshot in
    let cars = are.cars in
    let long = picked.cars in
    let each = all_from (Picks s (tours_of_car pool) pick (tour_of plan)) 0 choices
    (λ i d lt. let e : i ≡ 0 + i = omega arith in (
      subst (λ (k : ℕ). AreCandidates s k (tours_of_car pool k) (get_or choices i d).candidates.items) e (are.each i d (omega (arith, lt, cars))),
      subst (λ (k : ℕ). tour_of plan k ≡ tour_at (tours_of_car pool k) (candidate_at (get_or choices i d).candidates.items (pick k)).item) e
          (picked.tours i d lt),
    )) in
    let is = tours_from-is (tour_of plan) 0 choices plan long (λ i lt. let e : 0 + i ≡ i = omega arith in ap (tour_of plan) e) in
    let whole = tours_complete s all (tours_of_car pool) every pick (tour_of plan) none_taken 0 choices xs (omega (arith, cars)) each at
    (completes_alike times_in_set 1 all no_times (λ j. one_if (none_taken j)) xs (λ j. refl) done) in
    let feasible = plan_where_complete s plan (subst (ToursComplete s none_taken 0) is whole.0) in
    record {
      made = record {
        feasible = feasible;
        pooled = λ c lt. pooled c lt;
      };
      cost = plan_costs s plan (long ∙ cars) ∙ ap (rest_cost s 0) (sym is) ∙ whole.1;
    }
  where
    can : CanPick pool choices pick
    can = picks-can pool choices pick xs are at

    some : (xs : List CarColumns) → 0 < length xs → CarColumns
    some [] lt = absurd (omega (arith, lt))
    some (x ∷ xs) lt = x

    pooled : (c : ℕ) → c < car_count pool.snapshot → Contains (tours_of_car pool c) (tour_of plan c)
    pooled c lt =
        let cars = are.cars in
        let less : c < length choices = omega (arith, lt, cars) in
        let d = some choices (omega (arith, less)) in
        let place = can.place c d less in
        let k = (candidate_at (get_or choices c d).candidates.items (pick c)).item in
        (k, place, get_or_default (tours_of_car pool c) k (tour_of plan c) [] place ∙ sym (picked.tours c d less))

pub picks_of_plan : (pool : TourPool) (choices : List CarColumns) (all : ℕ → Bool) → AreChoices pool choices
    → ((j : ℕ) → all j ≡ true → j < call_count pool.snapshot) → (plan : List (List Stop)) → IsMadeOf pool plan → (xs : List PlacedColumn) × AreOf choices xs
    × Completes times_in_set 1 all no_times xs × (cost_of_all xs ≡ plan_cost_of pool.snapshot plan)
picks_of_plan pool choices all are few plan made =
    let s = pool.snapshot in
    let cars = are.cars in
    let long = made.feasible.cars in
    let ins = all_in (tours_of_car pool) 0 plan
    (λ i lt. let e : i ≡ 0 + i = omega arith in
    subst (λ (k : ℕ). Contains (tours_of_car pool k) (get_or plan i [])) e (made.pooled i (omega (arith, lt, long)))) in
    let found = picks_of s all (tours_of_car pool) few none_taken 0 choices plan (omega (arith, cars, long)) (candidates_from pool choices are) ins
    (complete_where_plan s plan made.feasible) in (
      found.picked,
      found.of,
      completes_alike times_in_set 1 all (λ j. one_if (none_taken j)) no_times found.picked (λ j. refl) found.completes,
      found.cost
          ∙ sym (plan_costs s plan long),
    )

-- ---- how many partial selections there are

counts_same : (cars : List (List (List Stop))) (choices : List CarColumns) → length choices ≡ length cars
    → ((i : ℕ) (d : CarColumns) → i < length choices → length (get_or choices i d).candidates.items ≡ length (get_or cars i []))
    → pick_count choices ≡ selection_count cars
counts_same [] [] long each = refl
counts_same [] (x ∷ choices) long each = absurd (omega (arith, long))
counts_same (tours ∷ cars) [] long each = absurd (omega (arith, long))
counts_same (tours ∷ cars) (x ∷ choices) long each =
    let first = each 0 x (omega arith) in
    let rest = counts_same cars choices (omega (arith, long)) (λ i d lt. each (suc i) d (omega (arith, lt))) in
    ap (λ (n : ℕ). 1 + n * pick_count choices) first ∙ ap (λ (n : ℕ). 1 + length tours * n) rest

pub selections-same : (pool : TourPool) (choices : List CarColumns) → length pool.tours ≡ car_count pool.snapshot → AreChoices pool choices
    → pick_count choices ≡ selection_count pool.tours
selections-same pool choices cars are =
    counts_same pool.tours choices (are.cars ∙ sym cars) (λ i d lt. let same = are.cars in (are.each i d (omega (arith, lt, same))).counted)

pub selections-few : (cars : List (List (List Stop))) → ((i : ℕ) → length (get_or cars i []) ≤ 32) → (selection_count cars + length cars ≤ 34 ^ length cars)
    × (1 ≤ selection_count cars)
selections-few [] few = (omega arith, omega arith)
selections-few (tours ∷ cars) few =
    let rest = selections-few cars (λ i. few (suc i)) in
    let low = rest.0 in
    let one = rest.1 in
    let first = few 0 in
    let most : length tours * selection_count cars ≤ 32 * selection_count cars = mul-le-mul_right (selection_count cars) first in
    let power : 34 ^ suc (length cars) ≡ 34 * 34 ^ length cars = pow-succ' 34 (length cars) in
    (omega (arith, most, low, one, power), omega arith)

-- ---- the candidates of a car

no_column : Column
no_column = record { tour = []; cost = 0; calls = 0 }

pub candidates-are : (prices : List ℤ) (least : ℤ) (s : Snapshot) (columns : List (List Column)) (c : ℕ) (cols : List Column) (xs : List PlacedColumn)
    → AreColumns s columns → c < car_count s → cols ≡ columns_of columns c → length xs ≡ length cols
    → ((i : ℕ) (d : Column) → i < length cols → candidate_at xs i ≡ candidate_of prices least i (get_or cols i d))
    → AreCandidates s c (tours_of_car (pool_of s columns) c) xs
candidates-are prices least s columns c cols xs are lt is long each = record {
  counted = long ∙ same_length;
  each = λ i less. one i (omega (arith, less, long));
  all = λ k less. (let below : k < length cols = omega (arith, less, same_length) in
      (k, omega (arith, below, long), ap (λ (x : PlacedColumn). x.item) (each k no_column below)));
}
  where
    tours : List (List Stop)
    tours = tours_of_car (pool_of s columns) c

    same : tours_of_car (pool_of s columns) c ≡ tours_of cols
    same = tours-columns columns c ∙ ap tours_of (sym is)

    same_length : length cols ≡ length (tours_of_car (pool_of s columns) c)
    same_length = sym (ap length same ∙ length-map cols (λ (x : Column). x.tour))

    one : (i : ℕ) → i < length cols → IsCandidate s c (tours_of_car (pool_of s columns) c) (candidate_at xs i)
    one i less =
        let y = get_or cols i no_column in
        let column : IsColumn s c y = subst (All (IsColumn s c)) (sym is) (are.each c lt) i no_column less in
        let at : tour_at (tours_of_car (pool_of s columns) c) i ≡ y.tour = ap (λ (l : List (List Stop)). tour_at l i) same
        ∙ get_or-map_in (λ (x : Column). x.tour) cols i no_column [] less in
        subst (IsCandidate s c (tours_of_car (pool_of s columns) c)) (sym (each i no_column less)) (record {
          within = omega (arith, less, same_length);
          feasible = subst (IsFeasible s c) (sym at) column.feasible;
          cost = column.cost ∙ ap (cost_of s c) (sym at);
          small = column.small;
          calls = λ j. column.calls j ∙ ap (λ (t : List Stop). is_boarded_in t j) (sym at);
        })

pub choices-pushed : (pool : TourPool) (choices : List CarColumns) (x : CarColumns) (n : ℕ) → length choices ≡ n
    → ((c : ℕ) (d : CarColumns) → c < n → AreCandidates pool.snapshot c (tours_of_car pool c) (get_or choices c d).candidates.items)
    → AreCandidates pool.snapshot n (tours_of_car pool n) x.candidates.items → (c : ℕ) (d : CarColumns) → c < n + 1
    → AreCandidates pool.snapshot c (tours_of_car pool c) (get_or (choices ++ x ∷ []) c d).candidates.items
choices-pushed pool choices x n long each last c d lt =
    let P : ℕ → CarColumns → Type 0 = λ k y. AreCandidates pool.snapshot k (tours_of_car pool k) y.candidates.items in
    last_or_before c n lt (λ e. subst (λ (k : ℕ). P k (get_or (choices ++ x ∷ []) k d)) (sym e) (subst (P n) (sym (get_or_push choices x d n long)) last))
    (λ less. subst (P c) (sym (get_or_append_left choices (x ∷ []) d c (omega (arith, less, long)))) (each c d less))

-- ---- what a selection tells

module _ (pool : TourPool) (choices : List CarColumns) (all : ℕ) (are : AreChoices pool choices)
    (is : (k : ℕ) → has all k ≡ ltb k (call_count pool.snapshot)) where
  every : (j : ℕ) → j < call_count pool.snapshot → has all j ≡ true
  every j lt = is j ∙ lt-ltb j (call_count pool.snapshot) lt

  few_calls : (j : ℕ) → has all j ≡ true → j < call_count pool.snapshot
  few_calls j h = ltb-true j (call_count pool.snapshot) (sym (is j) ∙ h)

  least-made : (cost : ℕ) → NoneBeats times_in_set 1 (has all) no_times choices cost → (other : List (List Stop)) → IsMadeOf pool other
      → cost ≤ plan_cost_of pool.snapshot other
  least-made cost none other made =
      let found = picks_of_plan pool choices (has all) are few_calls other made in
      let low = none found.0 found.1 found.2 in
      let same = found.3 in
      omega (arith, low, same)

  none-made : All (λ (x : CarColumns). All IsSmall x.candidates.items) choices → length choices ≤ 16
      → NoneBeats times_in_set 1 (has all) no_times choices 18446744073709551615 → (other : List (List Stop)) → IsMadeOf pool other → ⊥
  none-made small few none other made =
      let found = picks_of_plan pool choices (has all) are few_calls other made in
      let low = none found.0 found.1 found.2 in
      let high = costs_small choices found.0 small found.1 in
      omega (arith, low, high, few)

  pub picked-plan : (beat : ℕ) (o : Option Selection) → IfSome o (IsSelection times_in_set 1 (has all) no_times 0 choices beat)
      → IfSome o (IsPlanPick pool choices)
  picked-plan beat None h = tt
  picked-plan beat (Some x) found = record {
    can = picks-can pool choices (picks x) found.picked are found.places;
    made = λ plan picked. (plan-made pool choices (has all) (picks x) found.picked plan are every found.places found.completes picked).made;
    cost = λ plan picked. found.cost ∙ sym (plan-made pool choices (has all) (picks x) found.picked plan are every found.places found.completes picked).cost;
  }

  pub least-below : (beat : ℕ) (o : Option Selection) → NoneBeats times_in_set 1 (has all) no_times choices (to_beat beat o) → IsLeastBelow pool beat o
  least-below beat None beats = least-made beat beats
  least-below beat (Some x) beats = least-made x.cost beats

  pub cheapest-pick : All (λ (x : CarColumns). All IsSmall x.candidates.items) choices → length choices ≤ 16 → (o : Option Selection)
      → NoneBeats times_in_set 1 (has all) no_times choices (to_beat 18446744073709551615 o) → IsCheapestPick pool o
  cheapest-pick small few None beats = none-made small few beats
  cheapest-pick small few (Some x) beats = least-made x.cost beats

pub picked-below : (choices : List CarColumns) (all beat : ℕ) (o : Option Selection) → IfSome o (IsSelection times_in_set 1 (has all) no_times 0 choices beat)
    → IfSome o (λ x. x.cost < beat)
picked-below choices all beat None h = tt
picked-below choices all beat (Some x) found = found.less

pub spent-many : (pool : TourPool) (choices : List CarColumns) (limit : ℕ) → IsPool pool → AreChoices pool choices → limit ≤ pick_count choices
    → limit ≤ selection_count pool.tours
spent-many pool choices limit holds are tries =
    let same = selections-same pool choices holds.cars are in
    omega (arith, tries, same)

pub ample-unspent : (pool : TourPool) (choices : List CarColumns) (limit : ℕ) (spent : Bool) → IsPool pool → AreChoices pool choices
    → (spent ≡ true → limit ≤ pick_count choices) → 34 ^ car_count pool.snapshot ≤ limit → spent ≡ false
ample-unspent pool choices limit false holds are tries ample = refl
ample-unspent pool choices limit true holds are tries ample =
    let many = spent-many pool choices limit holds are (tries refl) in
    let few = (selections-few pool.tours holds.few).0 in
    let cars = holds.cars in
    let some = holds.accepted.building.cars_low in
    let power = ap (λ (n : ℕ). 34 ^ n) cars in
    absurd (omega (arith, many, ample, few, cars, some, power))
