-- Worked cases of mixtures and pair plans: two calls up and two calls down, and two cars, of which the first
-- takes one person.
use Rattle.std.specs.Prelude.{◌≡◌, ℕ, zero, suc, ◌==◌, List, [], ◌∷◌, map}
use Rattle.elevator_model.specs.declared.Stop.{Stop}
use Rattle.elevator_model.specs.Worked.{up_and_down, two_down_one_up, stop}
use Rattle.elevator_model.specs.Tours.{IsFeasible}
use Rattle.elevator_model.specs.Plans.{is_boarded_in}
use Rattle.half_plans.specs.declared.Share.{Share}
use Rattle.half_plans.specs.declared.Pair.{Pair}
use Rattle.half_plans.specs.Mixtures.{weight_where, mixture_cost}
use Rattle.half_plans.specs.PairPlans.{boards_of_pair, times_boarded, pair_plan_cost, share_of, shares_of, pair_count, pairing_count}

-- one call up and then one down, and one down and then one up
abbrev pub up_down : (up down : ℕ) → List Stop
up_down up down = stop 0 (up ∷ []) ∷ stop 2 (down ∷ []) ∷ stop 0 [] ∷ []

abbrev pub down_up : (down up : ℕ) → List Stop
down_up down up = stop 2 (down ∷ []) ∷ stop 0 (up ∷ []) ∷ stop 2 [] ∷ []

abbrev pub both_up : List Stop
both_up = stop 0 (0 ∷ 1 ∷ []) ∷ stop 2 [] ∷ []

abbrev pub both_down : List Stop
both_down = stop 2 (2 ∷ 3 ∷ []) ∷ stop 0 [] ∷ []

abbrev pub worked_lists : List (List (List Stop))
worked_lists =
    (up_down 0 2 ∷ up_down 1 3 ∷ down_up 2 0 ∷ []) ∷ (both_up ∷ both_down ∷ up_down 1 3 ∷ two_down_one_up ∷ []) ∷ []

abbrev pub pair_of : (first second : ℕ) → Pair
pair_of first second = record { first = first; second = second }

abbrev pub of_two : (one other : Pair) → ℕ → Pair
of_two one other zero = one
of_two one other (suc c) = other

-- how often each of the four calls boards
abbrev pub Boards : (ℕ → Pair) → List ℕ → Type 0
Boards pairs times = map (times_boarded up_and_down worked_lists pairs) (0 ∷ 1 ∷ 2 ∷ 3 ∷ []) ≡ times

pub record ArePairPlans : Type 0 where
  -- four tours, each once
  pub apart : Boards (of_two (pair_of 0 1) (pair_of 0 1)) (2 ∷ 2 ∷ 2 ∷ 2 ∷ [])
  pub apart_cost : pair_plan_cost up_and_down worked_lists (of_two (pair_of 0 1) (pair_of 0 1)) ≡ 112000
  pub apart_shares : map (λ (x : Share). x.weight) (shares_of up_and_down worked_lists (of_two (pair_of 0 1) (pair_of 0 1))) ≡ 1 ∷ 1 ∷ 1 ∷ 1 ∷ []
  -- two tours of the first car, and one of the second twice
  pub doubled : Boards (of_two (pair_of 0 2) (pair_of 2 2)) (2 ∷ 2 ∷ 2 ∷ 2 ∷ [])
  pub doubled_cost : pair_plan_cost up_and_down worked_lists (of_two (pair_of 0 2) (pair_of 2 2)) ≡ 140000
  pub doubled_shares : shares_of up_and_down worked_lists (of_two (pair_of 0 2) (pair_of 2 2)) ≡ share_of 0 1 (up_down 0 2) ∷ share_of 0 1 (down_up 2 0)
      ∷ share_of 1 2 (up_down 1 3) ∷ []
  pub first_feasible : IsFeasible up_and_down 0 (down_up 2 0)
  pub second_feasible : IsFeasible up_and_down 1 (up_down 1 3)
  -- the first call boards three times, and the second once
  pub too_often : Boards (of_two (pair_of 0 0) (pair_of 0 1)) (3 ∷ 1 ∷ 3 ∷ 1 ∷ [])
  -- the first call boards once
  pub too_seldom : Boards (of_two (pair_of 0 1) (pair_of 1 2)) (1 ∷ 2 ∷ 2 ∷ 3 ∷ [])
  pub in_a_pair : map (boards_of_pair (both_up ∷ up_down 1 3 ∷ []) (pair_of 0 1)) (0 ∷ 1 ∷ 3 ∷ []) ≡ 1 ∷ 2 ∷ 1 ∷ []
  pub pairs_of_four : pair_count 4 ≡ 10
  pub pairs_of_most : pair_count 32 ≡ 528
  pub pairings : pairing_count worked_lists ≡ 67
  pub pairings_of_none : pairing_count ([] ∷ worked_lists) ≡ 1

-- thirds: a tour of each car weighs 1, and another one 2
abbrev pub thirds : List Share
thirds = share_of 0 1 (up_down 0 2) ∷ share_of 0 2 (up_down 1 3) ∷ share_of 1 2 (up_down 0 2) ∷ share_of 1 1 (up_down 1 3) ∷ []

pub record AreThirds : Type 0 where
  pub cars : map (λ (c : ℕ). weight_where (λ (x : Share). x.car == c) thirds) (0 ∷ 1 ∷ 2 ∷ []) ≡ 3 ∷ 3 ∷ 0 ∷ []
  pub calls : map (λ (j : ℕ). weight_where (λ (x : Share). is_boarded_in x.tour j) thirds) (0 ∷ 1 ∷ 2 ∷ 3 ∷ 4 ∷ []) ≡ 3 ∷ 3 ∷ 3 ∷ 3 ∷ 0 ∷ []
  pub cost : mixture_cost up_and_down thirds ≡ 192000
