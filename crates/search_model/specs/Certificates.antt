-- Certificates: trees that prove that no feasible plan costs less than a bound.
use Rattle.std.specs.List.{list_all}
use Rattle.std.specs.Prelude.{◌≡◌, ℕ, ◌<◌, ◌==◌, ◌&&◌, not, ℤ, pos, ◌+ℤ◌, ◌-ℤ◌, ◌*ℤ◌, ◌≤ℤ◌, List, [], ◌∷◌, map, count_by, nat_lt, sum_by, All, Bool, true}
use Rattle.std.specs.Prelude.{false, IsTrue, if◌then◌else◌}
use Rattle.elevator_model.specs.declared.Stop.{Stop}
use Rattle.call_sets.specs.Counting.{any_below}
use Rattle.elevator_model.specs.Snapshot.{Snapshot, call_count, car_count}
use Rattle.elevator_model.specs.Plans.{IsFeasiblePlan, plan_cost_of}
use Rattle.search_model.specs.declared.PriceOf.{PriceOf}
use Rattle.search_model.specs.declared.WorthOf.{WorthOf}
use Rattle.search_model.specs.declared.Leaf.{Leaf}
use Rattle.search_model.specs.declared.Twig.{Twig}
use Rattle.search_model.specs.declared.Twig.TheVariants.{Split, Leaf as Tip}
use Rattle.search_model.specs.Sums.{int_sum_by}
use Rattle.search_model.specs.Nodes.{Node, root_of, set_of, is_plan_in, is_part, first_of_split, second_of_split}
use Rattle.search_model.specs.Prices.{IsWorth}

-- ---- leaves

-- the list has each number below n once, and no other number
abbrev pub are_each_once : ℕ → List ℕ → Bool
are_each_once n keys = list_all (λ k. nat_lt k n) keys && not (any_below n (λ k. not (count_by (λ x. x == k) keys == 1)))

-- the leaf has one price for each call and one worth for each car
abbrev pub has_whole_lists : Snapshot → Leaf → Bool
has_whole_lists s leaf =
    are_each_once (call_count s) (map (λ (p : PriceOf). p.call) leaf.prices) && are_each_once (car_count s) (map (λ (w : WorthOf). w.car) leaf.worths)

-- what the leaf states of a call and of a car
abbrev pub price_in : Leaf → ℕ → ℤ
price_in leaf j = int_sum_by (λ (p : PriceOf). if p.call == j then p.price else pos 0) leaf.prices

abbrev pub worth_in : Leaf → ℕ → ℤ
worth_in leaf c = int_sum_by (λ (w : WorthOf). if w.car == c then w.worth else pos 0) leaf.worths

abbrev pub claim_in : Leaf → ℕ → ℕ
claim_in leaf c = sum_by (λ (w : WorthOf). if w.car == c then w.claim else 0) leaf.worths

-- the prices and worths of a leaf, added up
abbrev pub sum_of_leaf : Leaf → ℤ
sum_of_leaf leaf = int_sum_by (λ (p : PriceOf). p.price) leaf.prices +ℤ int_sum_by (λ (w : WorthOf). w.worth) leaf.worths

-- the least sum that, rounded up to cost units, is at least the bound
abbrev pub sum_needed : ℕ → ℤ
sum_needed bound = (pos 1000 *ℤ (pos bound -ℤ pos 1)) +ℤ pos 1

-- ---- trees in preorder

-- where a node stands in the tree: its sets, and those of the split just above it; the root is its own
pub record TreePlace : Type 0 where
  pub node : Node
  pub above : Node

pub record Placed : Type 0 where
  pub place : TreePlace
  pub twig : Twig

-- the places that are still to be filled, the next one first, after a twig at the place
abbrev pub places_after : TreePlace → Twig → List TreePlace → List TreePlace
places_after place (Split j part) places =
    record { node = first_of_split place.node j part; above = place.node } ∷ record { node = second_of_split place.node j part; above = place.node } ∷ places
places_after place (Tip leaf) places = places

-- the twigs at the places that they fill
abbrev pub placed_from : List TreePlace → List Twig → List Placed
placed_from places [] = []
placed_from [] (twig ∷ twigs) = []
placed_from (place ∷ places) (twig ∷ twigs) = record { place = place; twig = twig } ∷ placed_from (places_after place twig places) twigs

-- the twigs fill all places, and no twig is left
abbrev pub is_filled : List TreePlace → List Twig → Bool
is_filled [] [] = true
is_filled (place ∷ places) [] = false
is_filled [] (twig ∷ twigs) = false
is_filled (place ∷ places) (twig ∷ twigs) = is_filled (places_after place twig places) twigs

abbrev pub root_place : Snapshot → TreePlace
root_place s = record { node = root_of s; above = root_of s }

-- The twigs of a tree with their places.
abbrev pub placed_twigs : Snapshot → List Twig → List Placed
placed_twigs s tree = placed_from (root_place s ∷ []) tree

-- the twigs are one whole tree
abbrev pub is_whole : Snapshot → List Twig → Bool
is_whole s tree = is_filled (root_place s ∷ []) tree

-- ---- what a certificate proves

pub record IsSoundLeaf (s : Snapshot) (bound : ℕ) (node : Node) (leaf : Leaf) : Type 0 where
  pub whole : IsTrue (has_whole_lists s leaf)
  pub enough : sum_needed bound ≤ℤ sum_of_leaf leaf
  pub worths : (c : ℕ) → c < car_count s → IsWorth s node c (price_in leaf) (worth_in leaf c)

abbrev pub IsSound : Snapshot → (bound : ℕ) → TreePlace → Twig → Type 0
IsSound s bound place (Split j part) = IsTrue (is_part (set_of place.node j) part)
IsSound s bound place (Tip leaf) = IsSoundLeaf s bound place.node leaf

-- A tree proves that a plan is feasible, has this cost, and that no feasible plan costs less than the
-- bound.
pub record Proves (s : Snapshot) (plan : List (List Stop)) (cost bound : ℕ) (tree : List Twig) : Type 0 where
  pub feasible : IsFeasiblePlan s plan
  pub costs : plan_cost_of s plan ≡ cost
  pub whole : IsTrue (is_whole s tree)
  pub sound : All (λ (p : Placed). IsSound s bound p.place p.twig) (placed_twigs s tree)

-- a leaf in whose node the plan is
abbrev pub is_leaf_with : List (List Stop) → TreePlace → Twig → Bool
is_leaf_with plan place (Split j part) = false
is_leaf_with plan place (Tip leaf) = is_plan_in place.node plan

-- in how many of the leaves' nodes the plan is: in a certificate that proves, in exactly one
abbrev pub leaves_with : List (List Stop) → List Placed → ℕ
leaves_with plan placed = count_by (λ (p : Placed). is_leaf_with plan p.place p.twig) placed
