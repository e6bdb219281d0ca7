-- The tours that are kept of a plan and of turns.
use Rattle.std.proofs.Common.{◌≡◌, ℕ, zero, suc, ◌<◌, List, [], ◌∷◌, ◌++◌, length, get_or, refl, sym, ◌∙◌, subst, inl, inr, arith}
use Rattle.std.specs.Prelude.{ℤ, ◌⊎◌, Any, Option, Some, IfSome}
use Rattle.std.specs.List.{Contains}
use Rattle.std.proofs.lemmas.List.{length-append, get_or_append_left}
use Rattle.std.proofs.lemmas.List.Elements.{All-nil, All-push, All-weaker}
use Rattle.std.proofs.lemmas.List.Quantifiers.{Any-push}
use Rattle.elevator_model.specs.declared.Stop.{Stop}
use Rattle.elevator_model.specs.Snapshot.{Snapshot, car_count}
use Rattle.elevator_model.specs.Plans.{tour_of}
use Rattle.search_model.specs.declared.Turn.{Turn}
use Rattle.search_model.specs.declared.TurnOf.{TurnOf}
use Rattle.search_model.specs.Solving.{IsTourOfTurns, no_turn, turn_of_car}
use Rattle.restricted_master.specs.Pools.{TourPool, tours_of_car}
use Rattle.root_turns.specs.Dues.{turn_with}
use Rattle.root_turns.specs.Pools.{HoldsPlan, with_turn}
use Rattle.root_turns.proofs.PoolLists.{IsTurnOfCar, turn-cars, turn_of_pool}
use Rattle.root_prices.specs.ListedTours.{AreListed, HoldTours}

-- some element of the first of two lists
pub any-left : {X : Type 0} (P : X → Type 0) (xs ys : List X) → Any P xs → Any P (xs ++ ys)
any-left P xs ys h =
    let long = length-append xs ys in
    let lt = h.2 in
    (h.0, h.1, omega (arith, long, lt), get_or_append_left xs ys h.1 h.0 h.2 ∙ h.3, h.4)

contains_one : {X : Type 0} (x y : X) → Contains (x ∷ []) y → y ≡ x
contains_one x y h = by_place h.0 h.1 h.2
  where
    by_place : (i : ℕ) → i < 1 → get_or (x ∷ []) i y ≡ y → y ≡ x
    by_place zero lt e = sym e
    by_place (suc i) lt e = absurd (omega (arith, lt))

-- ---- before the first turn

pub hold_none : (s : Snapshot) (plan : List (List Stop)) (pool : TourPool) → HoldsPlan s plan pool → HoldTours s plan [] pool.tours
hold_none s plan pool is = record {
  cars = is.cars;
  of_plan = λ c lt. subst (λ (ts : List (List Stop)). Contains ts (tour_of plan c)) (sym (is.tours c lt)) (0, omega arith, refl);
  of_turns = All-nil (AreListed s pool.tours);
  only = λ c tour lt h. inl (contains_one (tour_of plan c) tour (subst (λ (ts : List (List Stop)). Contains ts tour) (is.tours c lt) h));
}

-- ---- one turn more

module _ (s : Snapshot) (plan : List (List Stop)) (turns : List Turn) (pool : TourPool) (prices : List ℤ) (cars : List TurnOf)
    (count : length cars ≡ length pool.tours) (few : (c : ℕ) → length (tours_of_car pool c) < 32) (is : HoldTours s plan turns pool.tours) where
  abbrev new : TourPool
  new = with_turn pool 0 cars

  abbrev turn : Turn
  turn = turn_with prices cars

  of_car : (c : ℕ) → IsTurnOfCar (tours_of_car pool c) (tours_of_car new c) (get_or cars c no_turn).tour
  of_car c = turn_of_pool pool cars count few c

  still : (t : Turn) → AreListed s pool.tours t → AreListed s new.tours t
  still t h c tour lt e = (of_car c).keeps tour (h c tour lt e)

  now : AreListed s new.tours turn
  now c tour lt e = subst (λ (g : Option (List Stop)). IfSome g (Contains (tours_of_car new c))) e (of_car c).has

  none_else : (c : ℕ) (tour : List Stop) → c < car_count s → Contains (tours_of_car new c) tour → (tour ≡ tour_of plan c)
      ⊎ IsTourOfTurns (turns ++ turn ∷ []) c tour
  none_else c tour lt h = elim ((of_car c).only tour h) [
    | inl was ↦ before was
    | inr given ↦ inr (Any-push (λ (t : Turn). (turn_of_car t c).tour ≡ Some tour) turns turn given)
  ]
    where
      before : Contains (tours_of_car pool c) tour → (tour ≡ tour_of plan c) ⊎ IsTourOfTurns (turns ++ turn ∷ []) c tour
      before was = elim (is.only c tour lt was) [
        | inl own ↦ inl own
        | inr old ↦ inr (any-left (λ (t : Turn). (turn_of_car t c).tour ≡ Some tour) turns (turn ∷ []) old)
      ]

  pub hold_more : HoldTours s plan (turns ++ turn ∷ []) new.tours
  hold_more = record {
    cars = turn-cars pool 0 cars ∙ is.cars;
    of_plan = λ c lt. (of_car c).keeps (tour_of plan c) (is.of_plan c lt);
    of_turns = All-push (AreListed s new.tours) turns turn (All-weaker (AreListed s pool.tours) (AreListed s new.tours) still turns is.of_turns) now;
    only = none_else;
  }
