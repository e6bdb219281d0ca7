-- Worked cases of a search: two calls up and two calls down, and cars for one and two persons.
use Rattle.std.specs.Prelude.{◌≡◌, ◌*◌, ◌^◌, ℤ, pos, negsuc, neg_ℤ, List, [], ◌∷◌, true, Option, Some}
use Rattle.elevator_model.specs.declared.Stop.{Stop}
use Rattle.elevator_model.specs.Worked.{up_and_down, two_down_one_up, rising_group, pinned, stop}
use Rattle.search_model.specs.declared.Leaf.{Leaf}
use Rattle.search_model.specs.declared.Twig.TheVariants.{Split, Leaf as Tip}
use Rattle.search_model.specs.declared.TurnOf.{TurnOf}
use Rattle.search_model.specs.declared.Turn.{Turn}
use Rattle.search_model.specs.declared.Reason.TheVariants.{Sum, Under}
use Rattle.search_model.specs.declared.Verdict.TheVariants.{Yes, No}
use Rattle.search_model.specs.Sums.{rounded_up}
use Rattle.search_model.specs.Verdicts.{verdict_of}
use Rattle.price_scale.specs.Scale.{cut}
use Rattle.search_model.specs.Solving.{least_lone_cost, floor_of_bound, start_prices, prices_after, sum_of_turn, least_bound, bound_of_leaf}
use Rattle.search_model.specs.Uneven.{uneven_pair}
use Rattle.search_model.specs.WorkedVerdicts.{one_leaf, price_of, worth_of, leaf_of}

pub record AreFloors : Type 0 where
  pub first : least_lone_cost up_and_down 0 ≡ 6000
  pub prices : start_prices up_and_down ≡ pos 6000000 ∷ pos 6000000 ∷ pos 6000000 ∷ pos 6000000 ∷ []
  pub sum : floor_of_bound up_and_down ≡ 24000
  -- the group aboard rides 8000 ms, the call 4000 ms
  pub aboard : floor_of_bound rising_group ≡ 12000
  -- the second car is the only possible one
  pub pin : floor_of_bound pinned ≡ 4000
  pub uneven_first : least_lone_cost uneven_pair 0 ≡ 35768
  pub uneven_second : least_lone_cost uneven_pair 1 ≡ 17734
  pub uneven_third : least_lone_cost uneven_pair 2 ≡ 22550
  pub uneven_sum : floor_of_bound uneven_pair ≡ 150902

abbrev pub priced : ℤ → Option (List Stop) → TurnOf
priced worth tour = record { priced = record { worth = worth; visits = 1; spent = true }; tour = tour }

abbrev pub turn_at : ℤ → (first second : TurnOf) → Turn
turn_at price first second = record { prices = price ∷ price ∷ price ∷ price ∷ []; cars = first ∷ second ∷ [] }

abbrev pub first_turn : Turn
first_turn = turn_at (pos 6000000) (priced (pos 0) (Some [])) (priced (pos 0) (Some []))

abbrev pub one_up : List Stop
one_up = stop 0 (0 ∷ []) ∷ stop 2 [] ∷ []

abbrev pub second_turn : Turn
second_turn = turn_at (pos 12000000) (priced (negsuc 2499999) (Some one_up)) (priced (pos 0) (Some []))

-- a turn in which both cars take the first call
abbrev pub both_take : Turn
both_take = turn_at (pos 12000000) (priced (negsuc 2499999) (Some one_up)) (priced (pos 0) (Some one_up))

pub record AreTurns : Type 0 where
  pub first_sum : sum_of_turn first_turn ≡ pos 24000000
  pub second_prices : prices_after up_and_down (start_prices up_and_down) 1 first_turn ≡ second_turn.prices
  pub second_sum : rounded_up (sum_of_turn second_turn) ≡ pos 45500
  -- the step is halved, and the call that a tour boards keeps its price
  pub third_prices : prices_after up_and_down (start_prices up_and_down) 2 second_turn ≡ pos 12000000 ∷ pos 15000000 ∷ pos 15000000 ∷ pos 15000000 ∷ []
  pub falls : prices_after up_and_down (start_prices up_and_down) 4 both_take ≡ pos 10500000 ∷ pos 13500000 ∷ pos 13500000 ∷ pos 13500000 ∷ []
  pub cut_above : cut (pos (10 ^ 24 * 3)) ≡ pos (10 ^ 24)
  pub cut_below : cut (neg_ℤ (pos (10 ^ 24 * 3))) ≡ neg_ℤ (pos (10 ^ 24))
  pub uncut : cut (negsuc 5) ≡ negsuc 5

-- a leaf at the root with the price for each call and the worths of the two cars
abbrev pub root_leaf : (price first second : ℤ) → Leaf
root_leaf price first second =
    one_leaf (price_of 0 price ∷ price_of 1 price ∷ price_of 2 price ∷ price_of 3 price ∷ []) (worth_of 0 first 100000 ∷ worth_of 1 second 100000 ∷ [])

abbrev pub shared : List (List Stop)
shared = one_up ∷ two_down_one_up ∷ []

-- the worths of both turns are the least values of the cars' tours
pub record AreRootWorths : Type 0 where
  pub first : verdict_of up_and_down shared 61000 24000 (Tip (root_leaf (pos 6000000) (pos 0) (pos 0)) ∷ []) ≡ Yes
  pub not_more : verdict_of up_and_down shared 61000 24000 (Tip (root_leaf (pos 6000000) (pos 1) (pos 0)) ∷ []) ≡ No (Under 1 0 (pos 1) (pos 0) [])
  pub second : verdict_of up_and_down shared 61000 45500 (Tip (root_leaf (pos 12000000) (negsuc 2499999) (pos 0)) ∷ []) ≡ Yes
  pub no_greater_bound : verdict_of up_and_down shared 61000 45501 (Tip (root_leaf (pos 12000000) (negsuc 2499999) (pos 0)) ∷ [])
      ≡ No (Sum 1 (pos 45500001) (pos 45500000))
  pub no_greater_worth : verdict_of up_and_down shared 61000 45500 (Tip (root_leaf (pos 12000000) (negsuc 2499998) (pos 0)) ∷ [])
      ≡ No (Under 1 0 (negsuc 2499998) (negsuc 2499999) one_up)

pub record AreTreeBounds : Type 0 where
  pub leaf : bound_of_leaf (leaf_of (pos 7499001) 5) ≡ pos 7500
  pub least : least_bound 61000 (Split 0 1 ∷ Tip (leaf_of (pos 7499001) 5) ∷ Tip (leaf_of (pos 7498001) 5) ∷ []) ≡ pos 7499
  pub cost : least_bound 7000 (Split 0 1 ∷ Tip (leaf_of (pos 7499001) 5) ∷ Tip (leaf_of (pos 7498001) 5) ∷ []) ≡ pos 7000
