-- A pool with the tours of a plan.
use Rattle.std.proofs.Common.{◌≡◌, ℕ, ◌+◌, ◌<◌, ◌≤◌, List, [], ◌∷◌, length, sym, ap, ◌∙◌, subst, inl, inr, arith}
use Rattle.std.proofs.lemmas.Bool.{cases_eq, cases_lt}
use Rattle.std.proofs.lemmas.List.{length-set, get_or-set_same, get_or-set_other}
use Rattle.elevator_model.specs.declared.Stop.{Stop}
use Rattle.elevator_model.specs.Plans.{tour_of}
use Rattle.elevator_model.specs.Snapshot.{Snapshot, car_count}
use Rattle.restricted_master.specs.Columns.{with_tour}
use Rattle.restricted_master.specs.Pools.{TourPool, tours_of_car, with_tour_of_car, IsEmptyPool}
use Rattle.root_turns.specs.Pools.{HoldsPlan}
use Rattle.root_turns.proofs.PoolLists.{with_tour-few}

-- the cars before k have the tour of the plan, and the others none
pub record IsFilledTo (s : Snapshot) (plan : List (List Stop)) (pool : TourPool) (k : ℕ) : Type 0 where
  pub snapshot : pool.snapshot ≡ s
  pub cars : length pool.tours ≡ car_count s
  pub tours : (c : ℕ) → c < k → tours_of_car pool c ≡ tour_of plan c ∷ []
  pub none : (c : ℕ) → k ≤ c → tours_of_car pool c ≡ []

pub filled_none : (s : Snapshot) (plan : List (List Stop)) (pool : TourPool) → IsEmptyPool s pool → IsFilledTo s plan pool 0
filled_none s plan pool empty = record {
  snapshot = empty.snapshot;
  cars = empty.cars;
  tours = λ c lt. absurd (omega (arith, lt));
  none = λ c le. empty.tours c;
}

pub filled_more : (s : Snapshot) (plan : List (List Stop)) (pool : TourPool) (k : ℕ) (tour : List Stop) → k < car_count s → tour ≡ tour_of plan k
    → IsFilledTo s plan pool k → IsFilledTo s plan (with_tour_of_car pool k tour) (k + 1)
filled_more s plan pool k tour lt tour_is is = record {
  snapshot = is.snapshot;
  cars = length-set pool.tours k (with_tour (tours_of_car pool k) tour) ∙ is.cars;
  tours = λ c below. elim (cases_eq c k) [ inl same ↦ at c same | inr other ↦ kept c other ∙ is.tours c (before c below other) ];
  none = λ c le. kept c (λ same. omega (arith, same, le)) ∙ is.none c (omega (arith, le));
}
  where
    kept : (c : ℕ) → (c ≡ k → ⊥) → tours_of_car (with_tour_of_car pool k tour) c ≡ tours_of_car pool c
    kept c other = get_or-set_other pool.tours k c (with_tour (tours_of_car pool k) tour) [] other

    alone : with_tour (tours_of_car pool k) tour ≡ tour_of plan k ∷ []
    alone =
        ap (λ (ts : List (List Stop)). with_tour ts tour) (is.none k (omega arith)) ∙ with_tour-few [] tour (omega arith)
        ∙ ap (λ (t : List Stop). t ∷ []) tour_is

    at : (c : ℕ) → c ≡ k → tours_of_car (with_tour_of_car pool k tour) c ≡ tour_of plan c ∷ []
    at c same = subst (λ (i : ℕ). tours_of_car (with_tour_of_car pool k tour) i ≡ tour_of plan i ∷ []) (sym same)
        (get_or-set_same pool.tours k (with_tour (tours_of_car pool k) tour) [] (let cars = is.cars in omega (arith, cars, lt)) ∙ alone)

    before : (c : ℕ) → c < k + 1 → (c ≡ k → ⊥) → c < k
    before c below other = elim (cases_lt c k) [ inl less ↦ less | inr past ↦ absurd (other (omega (arith, past, below))) ]

pub filled_all : (s : Snapshot) (plan : List (List Stop)) (pool : TourPool) (k : ℕ) → k ≡ car_count s → IsFilledTo s plan pool k → HoldsPlan s plan pool
filled_all s plan pool k all is = record {
  snapshot = is.snapshot;
  cars = is.cars;
  tours = λ c lt. is.tours c (omega (arith, lt, all));
  none = λ c le. is.none c (omega (arith, le, all));
}

pub holds-few : (s : Snapshot) (plan : List (List Stop)) (pool : TourPool) → HoldsPlan s plan pool → (c : ℕ) → length (tours_of_car pool c) ≤ 1
holds-few s plan pool is c = elim (cases_lt c (car_count s)) [
  | inl lt ↦ (let one = ap length (is.tours c lt) in omega (arith, one))
  | inr past ↦ (let none = ap length (is.none c past) in omega (arith, none))
]
