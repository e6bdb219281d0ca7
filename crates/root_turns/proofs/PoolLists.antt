-- The tours of a turn in the pool.
use Rattle.std.proofs.Common.{◌≡◌, ℕ, zero, suc, ◌+◌, ◌-◌, ◌<◌, ◌≤◌, ◌==◌, Bool, true, false, not, cond, List, [], ◌∷◌, ◌++◌, length, get_or, set, drop, filter}
use Rattle.std.proofs.Common.{refl, sym, ap, ◌∙◌, subst, inl, inr, arith}
use Rattle.std.specs.Prelude.{◌⊎◌, Option, Some, None, IfSome}
use Rattle.std.specs.List.{Contains}
use Rattle.std.specs.Cmp.Lexicographic.{pointwise}
use Rattle.std.proofs.lemmas.Bool.{cases_lt, and_parts, both_ways, eqb-true, eq-eqb}
use Rattle.std.proofs.lemmas.List.{length-append, length-set, get_or-set_same, get_or-set_other, get_or_past}
use Rattle.std.proofs.lemmas.List.Elements.{Contains-append_left, Contains-push, Contains-push_cases}
use Rattle.elevator_model.specs.declared.Stop.{Stop}
use Rattle.elevator_model.specs.Equal.{same_stop}
use Rattle.search_model.specs.declared.TurnOf.{TurnOf}
use Rattle.search_model.specs.Solving.{no_turn}
use Rattle.restricted_master.specs.Columns.{newest, same_tour, with_tour}
use Rattle.restricted_master.specs.Pools.{TourPool, tours_of_car}
use Rattle.root_turns.specs.Pools.{with_given, with_turn}

pointwise-same : {X : Type 0} (E : X → X → Bool) → ((x y : X) → E x y ≡ true → x ≡ y) → (xs ys : List X) → pointwise E xs ys ≡ true → xs ≡ ys
pointwise-same E f [] [] e = refl
pointwise-same E f [] (y ∷ ys) e = absurd (both_ways false refl e)
pointwise-same E f (x ∷ xs) [] e = absurd (both_ways false refl e)
pointwise-same E f (x ∷ xs) (y ∷ ys) e =
    let both = and_parts (E x y) (pointwise E xs ys) e in
    ap (λ (z : _). z ∷ xs) (f x y both.0) ∙ ap (λ (zs : List _). y ∷ zs) (pointwise-same E f xs ys both.1)

stop-same : (s t : Stop) → same_stop s t ≡ true → s ≡ t
stop-same s t e =
    let both = and_parts (s.floor == t.floor) (pointwise ◌==◌ s.boards t.boards) e in
    let floor = eqb-true s.floor t.floor both.0 in
    let boards = pointwise-same ◌==◌ (λ x y h. eqb-true x y h) s.boards t.boards both.1 in
    λ i. record { floor = floor i; boards = boards i }

pub tour-same : (t u : List Stop) → same_tour t u ≡ true → t ≡ u
tour-same t u e = pointwise-same same_stop stop-same t u e

-- ---- a tour more of a car

contains-here : {X : Type 0} (x : X) (xs : List X) → Contains (x ∷ xs) x
contains-here x xs = (0, omega arith, refl)

contains-later : {X : Type 0} (x u : X) (xs : List X) → Contains xs u → Contains (x ∷ xs) u
contains-later x u xs h = let lt = h.1 in (suc h.0, omega (arith, lt), h.2)

contains-cases : {X : Type 0} (x u : X) (xs : List X) → Contains (x ∷ xs) u → (x ≡ u) ⊎ Contains xs u
contains-cases x u xs h = by_place h.0 h.1 h.2
  where
    by_place : (i : ℕ) → i < suc (length xs) → get_or (x ∷ xs) i u ≡ u → (x ≡ u) ⊎ Contains xs u
    by_place zero lt e = inl e
    by_place (suc i) lt e = inr (i, omega (arith, lt), e)

abbrev others : List Stop → List (List Stop) → List (List Stop)
others tour tours = filter (λ (other : List Stop). not (same_tour other tour)) tours

-- what is there stays, unless it is the tour itself
others-has : (tour : List Stop) (tours : List (List Stop)) (u : List Stop) → Contains tours u → (u ≡ tour) ⊎ Contains (others tour tours) u
others-has tour [] u h = absurd (let lt = h.1 in omega (arith, lt))
others-has tour (t ∷ tours) u h = by_test (same_tour t tour) refl (contains-cases t u tours h) (λ later. others-has tour tours u later)
  where
    by_test : (b : Bool) → same_tour t tour ≡ b → (t ≡ u) ⊎ Contains tours u → (Contains tours u → (u ≡ tour) ⊎ Contains (others tour tours) u) → (u ≡ tour)
        ⊎ Contains (cond (not b) (t ∷ others tour tours) (others tour tours)) u
    by_test true e (inl at) rest = inl (sym at ∙ tour-same t tour e)
    by_test true e (inr later) rest = rest later
    by_test false e (inl at) rest = inr (subst (Contains (t ∷ others tour tours)) at (contains-here t (others tour tours)))
    by_test false e (inr later) rest = elim (rest later) [ inl is ↦ inl is | inr kept ↦ inr (contains-later t u (others tour tours) kept) ]

-- and nothing comes in
others-only : (tour : List Stop) (tours : List (List Stop)) (u : List Stop) → Contains (others tour tours) u → Contains tours u
others-only tour [] u h = h
others-only tour (t ∷ tours) u h = by_test (not (same_tour t tour)) (λ later. others-only tour tours u later) h
  where
    by_test : (b : Bool) → (Contains (others tour tours) u → Contains tours u) → Contains (cond b (t ∷ others tour tours) (others tour tours)) u
        → Contains (t ∷ tours) u
    by_test true rest h = elim (contains-cases t u (others tour tours) h) [
      | inl at ↦ subst (Contains (t ∷ tours)) at (contains-here t tours)
      | inr later ↦ contains-later t u tours (rest later)
    ]
    by_test false rest h = contains-later t u tours (rest h)

others-length : (tour : List Stop) (tours : List (List Stop)) → length (others tour tours) ≤ length tours
others-length tour [] = omega arith
others-length tour (t ∷ tours) = by_test (not (same_tour t tour)) (others-length tour tours)
  where
    by_test : (b : Bool) → length (others tour tours) ≤ length tours → length (cond b (t ∷ others tour tours) (others tour tours)) ≤ suc (length tours)
    by_test true rest = omega (arith, rest)
    by_test false rest = omega (arith, rest)

newest-all : {X : Type 0} (n : ℕ) (xs : List X) → length xs ≤ n → newest n xs ≡ xs
newest-all n xs le = let none : length xs - n ≡ 0 = omega (arith, le) in ap (λ (k : ℕ). drop k xs) none

pub with_tour-few : (tours : List (List Stop)) (tour : List Stop) → length tours < 32 → with_tour tours tour ≡ others tour tours ++ tour ∷ []
with_tour-few tours tour few =
    newest-all 32 (others tour tours ++ tour ∷ [])
    (let le = others-length tour tours in let long = length-append (others tour tours) (tour ∷ []) in omega (arith, few, le, long))

pub with_tour-has : (tours : List (List Stop)) (tour : List Stop) → length tours < 32 → Contains (with_tour tours tour) tour
with_tour-has tours tour few =
    subst (λ (ts : List (List Stop)). Contains ts tour) (sym (with_tour-few tours tour few)) (Contains-push (others tour tours) tour)

pub with_tour-keeps : (tours : List (List Stop)) (tour u : List Stop) → length tours < 32 → Contains tours u → Contains (with_tour tours tour) u
with_tour-keeps tours tour u few h =
    subst (λ (ts : List (List Stop)). Contains ts u) (sym (with_tour-few tours tour few)) (elim (others-has tour tours u h) [
      | inl is ↦ subst (Contains (others tour tours ++ tour ∷ [])) (sym is) (Contains-push (others tour tours) tour)
      | inr kept ↦ Contains-append_left (others tour tours) (tour ∷ []) u kept
    ])

pub with_tour-length : (tours : List (List Stop)) (tour : List Stop) → length tours < 32 → length (with_tour tours tour) ≤ length tours + 1
with_tour-length tours tour few =
    let is = ap length (with_tour-few tours tour few) in
    let le = others-length tour tours in
    let long = length-append (others tour tours) (tour ∷ []) in
    omega (arith, is, le, long)

pub with_tour-only : (tours : List (List Stop)) (tour u : List Stop) → length tours < 32 → Contains (with_tour tours tour) u → Contains tours u ⊎ (tour ≡ u)
with_tour-only tours tour u few h =
    elim (Contains-push_cases (others tour tours) tour u (subst (λ (ts : List (List Stop)). Contains ts u) (with_tour-few tours tour few) h)) [
      | inl kept ↦ inl (others-only tour tours u kept)
      | inr is ↦ inr is
    ]

-- ---- the tours of a turn

abbrev given_to : List (List Stop) → Option (List Stop) → List (List Stop)
given_to tours None = tours
given_to tours (Some tour) = with_tour tours tour

given-at : (pool : TourPool) (i c : ℕ) (given : Option (List Stop)) → i < length pool.tours
    → tours_of_car (with_given pool i given) c ≡ cond (c == i) (given_to (tours_of_car pool c) given) (tours_of_car pool c)
given-at pool i c None lt = by_test (c == i)
  where
    by_test : (b : Bool) → tours_of_car pool c ≡ cond b (tours_of_car pool c) (tours_of_car pool c)
    by_test true = refl
    by_test false = refl
given-at pool i c (Some tour) lt = by_test (c == i) refl
  where
    by_test : (b : Bool) → (c == i) ≡ b
        → get_or (set pool.tours i (with_tour (tours_of_car pool i) tour)) c [] ≡ cond b (with_tour (tours_of_car pool c) tour) (tours_of_car pool c)
    by_test true e =
        let at = eqb-true c i e in
        subst (λ (k : ℕ). get_or (set pool.tours i (with_tour (tours_of_car pool i) tour)) k [] ≡ with_tour (tours_of_car pool k) tour) (sym at)
        (get_or-set_same pool.tours i (with_tour (tours_of_car pool i) tour) [] lt)
    by_test false e = get_or-set_other pool.tours i c (with_tour (tours_of_car pool i) tour) [] (λ at. both_ways (c == i) e (eq-eqb c i at))

given-cars : (pool : TourPool) (i : ℕ) (given : Option (List Stop)) → length (with_given pool i given).tours ≡ length pool.tours
given-cars pool i None = refl
given-cars pool i (Some tour) = length-set pool.tours i (with_tour (tours_of_car pool i) tour)

pub turn-cars : (pool : TourPool) (i : ℕ) (cars : List TurnOf) → length (with_turn pool i cars).tours ≡ length pool.tours
turn-cars pool i [] = refl
turn-cars pool i (t ∷ cars) = turn-cars (with_given pool i t.tour) (i + 1) cars ∙ given-cars pool i t.tour

given-snapshot : (pool : TourPool) (i : ℕ) (given : Option (List Stop)) → (with_given pool i given).snapshot ≡ pool.snapshot
given-snapshot pool i None = refl
given-snapshot pool i (Some tour) = refl

pub turn-snapshot : (pool : TourPool) (i : ℕ) (cars : List TurnOf) → (with_turn pool i cars).snapshot ≡ pool.snapshot
turn-snapshot pool i [] = refl
turn-snapshot pool i (t ∷ cars) = turn-snapshot (with_given pool i t.tour) (i + 1) cars ∙ given-snapshot pool i t.tour

neq : (i j : ℕ) → (i ≡ j → ⊥) → (i == j) ≡ false
neq i j ne = neq_by (i == j) refl
  where
    neq_by : (b : Bool) → (i == j) ≡ b → (i == j) ≡ false
    neq_by true e = absurd (ne (eqb-true i j e))
    neq_by false e = e

-- a car before the first one keeps its tours
turn-before : (pool : TourPool) (i c : ℕ) (cars : List TurnOf) → i + length cars ≤ length pool.tours → c < i
    → tours_of_car (with_turn pool i cars) c ≡ tours_of_car pool c
turn-before pool i c [] le lt = refl
turn-before pool i c (t ∷ cars) le lt =
    let same = given-cars pool i t.tour in
    turn-before (with_given pool i t.tour) (i + 1) c cars (omega (arith, le, same)) (omega (arith, lt)) ∙ given-at pool i c t.tour (omega (arith, le))
    ∙ ap (λ (b : Bool). cond b (given_to (tours_of_car pool c) t.tour) (tours_of_car pool c)) (neq c i (λ e. omega (arith, e, lt)))

-- each other one has the tour that its pricing gave
turn-at : (pool : TourPool) (i k c : ℕ) (cars : List TurnOf) → i + length cars ≤ length pool.tours → i + k ≡ c → k < length cars
    → tours_of_car (with_turn pool i cars) c ≡ given_to (tours_of_car pool c) (get_or cars k no_turn).tour
turn-at pool i k c [] le e lt = absurd (omega (arith, lt))
turn-at pool i zero c (t ∷ cars) le e lt =
    let same = given-cars pool i t.tour in
    turn-before (with_given pool i t.tour) (i + 1) c cars (omega (arith, le, same)) (omega (arith, e)) ∙ given-at pool i c t.tour (omega (arith, le))
    ∙ ap (λ (b : Bool). cond b (given_to (tours_of_car pool c) t.tour) (tours_of_car pool c)) (eq-eqb c i (omega (arith, e)))
turn-at pool i (suc k) c (t ∷ cars) le e lt =
    let same = given-cars pool i t.tour in
    turn-at (with_given pool i t.tour) (i + 1) k c cars (omega (arith, le, same)) (omega (arith, e)) (omega (arith, lt))
    ∙ ap (λ (ts : List (List Stop)). given_to ts (get_or cars k no_turn).tour)
    (given-at pool i c t.tour (omega (arith, le))
    ∙ ap (λ (b : Bool). cond b (given_to (tours_of_car pool c) t.tour) (tours_of_car pool c)) (neq c i (λ at. omega (arith, e, at))))

turn-past : (pool : TourPool) (i c : ℕ) (cars : List TurnOf) → i + length cars ≤ length pool.tours → i + length cars ≤ c
    → tours_of_car (with_turn pool i cars) c ≡ tours_of_car pool c
turn-past pool i c [] le past = refl
turn-past pool i c (t ∷ cars) le past =
    let same = given-cars pool i t.tour in
    turn-past (with_given pool i t.tour) (i + 1) c cars (omega (arith, le, same)) (omega (arith, past)) ∙ given-at pool i c t.tour (omega (arith, le))
    ∙ ap (λ (b : Bool). cond b (given_to (tours_of_car pool c) t.tour) (tours_of_car pool c)) (neq c i (λ e. omega (arith, e, past)))

-- what a turn makes of a car's tours
pub record IsTurnOfCar (old new : List (List Stop)) (given : Option (List Stop)) : Type 0 where
  pub has : IfSome given (Contains new)
  pub keeps : (u : List Stop) → Contains old u → Contains new u
  pub only : (u : List Stop) → Contains new u → Contains old u ⊎ (given ≡ Some u)
  pub few : length new ≤ length old + 1

pub given_car : (old : List (List Stop)) (given : Option (List Stop)) → length old < 32 → IsTurnOfCar old (given_to old given) given
given_car old None few = record { has = tt; keeps = λ u h. h; only = λ u h. inl h; few = omega arith }
given_car old (Some tour) few = record {
  has = with_tour-has old tour few;
  keeps = λ u h. with_tour-keeps old tour u few h;
  only = λ u h. elim (with_tour-only old tour u few h) [ inl was ↦ inl was | inr is ↦ inr (ap Some is) ];
  few = with_tour-length old tour few;
}

pub turn_of_pool : (pool : TourPool) (cars : List TurnOf) → length cars ≡ length pool.tours → ((c : ℕ) → length (tours_of_car pool c) < 32) → (c : ℕ)
    → IsTurnOfCar (tours_of_car pool c) (tours_of_car (with_turn pool 0 cars) c) (get_or cars c no_turn).tour
turn_of_pool pool cars count few c =
    elim (cases_lt c (length cars)) [
      | inl lt ↦ subst (λ (ts : List (List Stop)). IsTurnOfCar (tours_of_car pool c) ts (get_or cars c no_turn).tour)
          (sym (turn-at pool 0 c c cars (omega (arith, count)) (omega arith) lt)) (given_car (tours_of_car pool c) (get_or cars c no_turn).tour (few c))
      | inr past ↦ subst (λ (g : Option (List Stop)). IsTurnOfCar (tours_of_car pool c) (tours_of_car (with_turn pool 0 cars) c) g)
          (ap (λ (t : TurnOf). t.tour) (sym (get_or_past cars c no_turn past)))
          (subst (λ (ts : List (List Stop)). IsTurnOfCar (tours_of_car pool c) ts None)
          (sym (turn-past pool 0 c cars (omega (arith, count)) (omega (arith, past)))) (given_car (tours_of_car pool c) None (few c)))
    ]
