-- What holds of every pool.
use Rattle.std.proofs.Common.{◌≡◌, ℕ, zero, suc, ◌<◌, ◌≤◌, List, [], ◌∷◌, ◌++◌, length, get_or, set, map, ◌==◌, false, true≢false, refl, sym, ap, ◌∙◌, subst}
use Rattle.std.proofs.Common.{inl, inr, arith, length-set}
use Rattle.std.specs.List.{All, AllPairs}
use Rattle.std.proofs.Math.ListN.{get_or-map}
use Rattle.std.proofs.lemmas.Bool.{cases_Bool, eq-eqb, eqb-true}
use Rattle.std.proofs.lemmas.List.{get_or-set_same, get_or-set_other, length-map, map-set, get_or-map as get_or-map_in}
use Rattle.elevator_model.specs.declared.Stop.{Stop}
use Rattle.elevator_model.specs.Snapshot.{Snapshot, IsAccepted, car_count}
use Rattle.elevator_model.specs.Tours.{IsFeasible}
use Rattle.restricted_master.specs.declared.columns.Column.{Column}
use Rattle.restricted_master.specs.Columns.{same_tour, tours_of, with_tour, with_column, columns_of, IsColumn, AreDistinct}
use Rattle.restricted_master.specs.Pools.{TourPool, tours_of_car, with_tour_of_car, IsPool, IsEmptyPool, AreColumns}
use Rattle.restricted_master.proofs.ColumnLemmas.{tours-with_column, columns-with_column, distinct-with_column}

abbrev pub pool_of : Snapshot → List (List Column) → TourPool
pool_of s columns = record { snapshot = s; tours = map tours_of columns }

pub tours-columns : (columns : List (List Column)) (c : ℕ) → get_or (map tours_of columns) c [] ≡ tours_of (columns_of columns c)
tours-columns columns c = get_or-map tours_of columns c []

-- ---- no tours

pub empty_push : (columns : List (List Column)) → ((c : ℕ) → columns_of columns c ≡ []) → (c : ℕ) → columns_of (columns ++ [] ∷ []) c ≡ []
empty_push [] none zero = refl
empty_push [] none (suc c) = refl
empty_push (x ∷ columns) none zero = none 0
empty_push (x ∷ columns) none (suc c) = empty_push columns (λ d. none (suc d)) c

pub columns-empty : (s : Snapshot) (columns : List (List Column)) → length columns ≡ car_count s → ((c : ℕ) → columns_of columns c ≡ []) → AreColumns s columns
columns-empty s columns cars none = record {
  cars = cars;
  each = λ c lt. subst (All (IsColumn s c)) (sym (none c)) (λ k d less. absurd (omega (arith, less)));
  few = λ c. (let e = ap length (none c) in omega (arith, e));
  distinct = λ c. subst AreDistinct (sym (none c)) (λ i j d up less. absurd (omega (arith, less)));
}

pub pool-empty : (s : Snapshot) (columns : List (List Column)) → length columns ≡ car_count s → ((c : ℕ) → columns_of columns c ≡ [])
    → IsEmptyPool s (pool_of s columns)
pool-empty s columns cars none = record {
  snapshot = refl;
  cars = length-map columns tours_of ∙ cars;
  tours = λ c. tours-columns columns c ∙ ap tours_of (none c);
}

-- ---- one tour more

place_or_other : (d c : ℕ) {P : Type 0} → (d ≡ c → P) → ((d ≡ c → ⊥) → P) → P
place_or_other d c here other =
    elim (cases_Bool (d == c)) [ inl e ↦ here (eqb-true d c e) | inr e ↦ other (λ same. true≢false (sym (eq-eqb d c same) ∙ e)) ]

module _ (s : Snapshot) (columns : List (List Column)) (c : ℕ) (new : List Column) (x : Column) (are : AreColumns s columns) (lt : c < car_count s)
    (one : IsColumn s c x) (is : new ≡ with_column (columns_of columns c) x) where
  here : columns_of (set columns c new) c ≡ new
  here = (let cars = are.cars in get_or-set_same columns c new [] (omega (arith, cars, lt)))

  elsewhere : (d : ℕ) → (d ≡ c → ⊥) → columns_of (set columns c new) d ≡ columns_of columns d
  elsewhere d other = get_or-set_other columns c d new [] other

  pub columns-put : length new ≤ 32 → AreColumns s (set columns c new)
  columns-put few = record {
    cars = length-set columns c new ∙ are.cars;
    each = λ d less. place_or_other d c
        (λ e. subst (λ (k : ℕ). All (IsColumn s k) (columns_of (set columns c new) k)) (sym e)
        (subst (All (IsColumn s c)) (sym here) (subst (All (IsColumn s c)) (sym is) (columns-with_column s c (columns_of columns c) x (are.each c lt) one))))
        (λ other. subst (All (IsColumn s d)) (sym (elsewhere d other)) (are.each d less));
    few = λ d. place_or_other d c (λ e. (let same = ap length (ap (columns_of (set columns c new)) e ∙ here) in omega (arith, same, few)))
        (λ other. (let same = ap length (elsewhere d other) in let old = are.few d in omega (arith, same, old)));
    distinct = λ d. place_or_other d c
        (λ e. subst AreDistinct (sym (ap (columns_of (set columns c new)) e ∙ here ∙ is)) (distinct-with_column (columns_of columns c) x (are.distinct c)))
        (λ other. subst AreDistinct (sym (elsewhere d other)) (are.distinct d));
  }

  pub pool-put : pool_of s (set columns c new) ≡ with_tour_of_car (pool_of s columns) c x.tour
  pool-put =
      let tours : tours_of new ≡ with_tour (tours_of_car (pool_of s columns) c) x.tour = ap tours_of is ∙ tours-with_column (columns_of columns c) x
      ∙ ap (λ (l : List (List Stop)). with_tour l x.tour) (sym (tours-columns columns c)) in
      ap (λ (l : List (List (List Stop))). record { snapshot = s; tours = l }) (map-set tours_of columns c new ∙ ap (set (map tours_of columns) c) tours)

-- ---- every pool

all-map : {X Y : Type 0} (f : X → Y) (P : Y → Type 0) (xs : List X) → ((k : ℕ) (d : X) → k < length xs → P (f (get_or xs k d))) → All P (map f xs)
all-map f P [] h k d lt = absurd (omega (arith, lt))
all-map f P (x ∷ xs) h zero d lt = h 0 x (omega arith)
all-map f P (x ∷ xs) h (suc k) d lt = all-map f P xs (λ i e less. h (suc i) e (omega (arith, less))) k d (omega (arith, lt))

pairs-map : {X Y : Type 0} (f : X → Y) (R : Y → Y → Type 0) (xs : List X) → AllPairs (λ (x y : X). R (f x) (f y)) xs → AllPairs R (map f xs)
pairs-map f R [] h = λ i j d up lt. absurd (omega (arith, lt))
pairs-map f R (x ∷ xs) h = λ i j d up lt.
    let long = length-map (x ∷ xs) f in
    let less : j < length (x ∷ xs) = omega (arith, lt, long) in
    subst (R (get_or (map f (x ∷ xs)) i d)) (sym (get_or-map_in f (x ∷ xs) j x d less))
    (subst (λ y. R y (f (get_or (x ∷ xs) j x))) (sym (get_or-map_in f (x ∷ xs) i x d (omega (arith, up, less)))) (h i j x up less))

pub pool-is : (s : Snapshot) (columns : List (List Column)) → IsAccepted s → AreColumns s columns → IsPool (pool_of s columns)
pool-is s columns accepted are = record {
  accepted = accepted;
  cars = length-map columns tours_of ∙ are.cars;
  feasible = λ c lt. subst (All (IsFeasible s c)) (sym (tours-columns columns c))
      (all-map (λ (x : Column). x.tour) (IsFeasible s c) (columns_of columns c) (λ k d less. (are.each c lt k d less).feasible));
  few = λ c. (let same = ap length (tours-columns columns c) ∙ length-map (columns_of columns c) (λ (x : Column). x.tour) in let few = are.few c in
      omega (arith, same, few));
  distinct = λ c. subst (AllPairs (λ (t u : List Stop). same_tour t u ≡ false)) (sym (tours-columns columns c))
      (pairs-map (λ (x : Column). x.tour) (λ (t u : List Stop). same_tour t u ≡ false) (columns_of columns c) (are.distinct c));
}
