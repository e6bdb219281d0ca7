-- Worked cases of nodes, splits and trees: two calls up and two calls down, and two cars.
use Rattle.std.specs.Prelude.{◌≡◌, ℕ, pos, List, [], ◌∷◌, map, true, false}
use Rattle.elevator_model.specs.Worked.{up_and_down, two_down_one_up, pinned, stop}
use Rattle.elevator_model.specs.declared.Stop.{Stop}
use Rattle.search_model.specs.declared.Twig.{Twig}
use Rattle.search_model.specs.declared.Twig.TheVariants.{Split, Leaf as Tip}
use Rattle.search_model.specs.Nodes.{Node, root_of, is_part, allows, requires_of, is_plan_in, first_of_split, second_of_split}
use Rattle.search_model.specs.Prices.{price_at}
use Rattle.search_model.specs.Certificates.{Placed, placed_twigs, is_whole, leaves_with, are_each_once}

abbrev pub up_first : List (List Stop)
up_first = (stop 0 (0 ∷ []) ∷ stop 2 [] ∷ []) ∷ two_down_one_up ∷ []

abbrev pub split_root : (part : ℕ) → Node
split_root part = first_of_split (root_of up_and_down) 0 part

pub record AreSplits : Type 0 where
  pub root : root_of up_and_down ≡ 3 ∷ 3 ∷ 3 ∷ 3 ∷ []
  pub pin : root_of pinned ≡ 2 ∷ []
  pub empty : is_part 3 0 ≡ false
  pub whole : is_part 3 3 ≡ false
  pub outside : is_part 3 4 ≡ false
  pub partly_outside : is_part 3 5 ≡ false
  pub first_car : is_part 3 1 ≡ true
  pub last_car : is_part 65535 32768 ≡ true
  pub part : split_root 1 ≡ 1 ∷ 3 ∷ 3 ∷ 3 ∷ []
  pub rest : second_of_split (root_of up_and_down) 0 1 ≡ 2 ∷ 3 ∷ 3 ∷ 3 ∷ []
  pub allowed : allows (split_root 1) 1 0 ≡ false
  pub still_allowed : allows (split_root 1) 1 3 ≡ true
  pub no_call : allows (split_root 1) 0 4 ≡ false
  pub required : requires_of (split_root 1) 0 0 ≡ true
  pub not_required : requires_of (split_root 1) 0 1 ≡ false
  pub of_the_other : requires_of (split_root 1) 1 0 ≡ false
  pub required_later : requires_of (3 ∷ 1 ∷ []) 0 1 ≡ true
  -- the plan gives the first call to the first car
  pub in_root : is_plan_in (root_of up_and_down) up_first ≡ true
  pub in_part : is_plan_in (split_root 1) up_first ≡ true
  pub not_in_rest : is_plan_in (split_root 2) up_first ≡ false

abbrev pub bare : Twig
bare = Tip (record { prices = []; worths = [] })

-- the first call to the first car, or else the second call to the second car, or else both to the others
abbrev pub two_splits : List Twig
two_splits = Split 0 1 ∷ bare ∷ Split 1 2 ∷ bare ∷ bare ∷ []

pub record AreTrees : Type 0 where
  pub nodes : map (λ (p : Placed). p.place.node) (placed_twigs up_and_down two_splits) ≡ (3 ∷ 3 ∷ 3 ∷ 3 ∷ []) ∷ (1 ∷ 3 ∷ 3 ∷ 3 ∷ []) ∷ (2 ∷ 3 ∷ 3 ∷ 3 ∷ [])
      ∷ (2 ∷ 2 ∷ 3 ∷ 3 ∷ []) ∷ (2 ∷ 1 ∷ 3 ∷ 3 ∷ []) ∷ []
  pub above : map (λ (p : Placed). p.place.above) (placed_twigs up_and_down two_splits) ≡ (3 ∷ 3 ∷ 3 ∷ 3 ∷ []) ∷ (3 ∷ 3 ∷ 3 ∷ 3 ∷ []) ∷ (3 ∷ 3 ∷ 3 ∷ 3 ∷ [])
      ∷ (2 ∷ 3 ∷ 3 ∷ 3 ∷ []) ∷ (2 ∷ 3 ∷ 3 ∷ 3 ∷ []) ∷ []
  pub whole : is_whole up_and_down two_splits ≡ true
  pub one_leaf : is_whole up_and_down (bare ∷ []) ≡ true
  pub nothing : is_whole up_and_down [] ≡ false
  pub cut_off : is_whole up_and_down (Split 0 1 ∷ bare ∷ []) ≡ false
  pub too_long : is_whole up_and_down (bare ∷ bare ∷ []) ≡ false
  pub one_of_them : leaves_with up_first (placed_twigs up_and_down two_splits) ≡ 1
  pub each_once : are_each_once 3 (2 ∷ 0 ∷ 1 ∷ []) ≡ true
  pub lacking : are_each_once 3 (2 ∷ 0 ∷ []) ≡ false
  pub repeated : are_each_once 3 (2 ∷ 0 ∷ 1 ∷ 0 ∷ []) ≡ false
  pub no_such : are_each_once 3 (2 ∷ 0 ∷ 1 ∷ 3 ∷ []) ≡ false
  pub second_price : price_at (pos 5 ∷ pos 7 ∷ []) 1 ≡ pos 7
  pub no_price : price_at (pos 5 ∷ pos 7 ∷ []) 2 ≡ pos 0
