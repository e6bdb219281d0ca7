-- The leaves of a tree at their nodes, and the claims that are found for them. No public clause cites this module.
use Rattle.std.specs.Prelude.{◌≡◌, ℕ, ◌+◌, ◌-◌, ◌<◌, ◌≤◌, List, [], ◌∷◌, ◌++◌, length, map, sum_by, slice_get, slice_index_or, Bool, true, false, IsTrue, All}
use Rattle.std.specs.Prelude.{Option, Some, None, if◌then◌else◌}
use Rattle.call_sets.specs.Counting.{sum_below}
use Rattle.elevator_model.specs.Snapshot.{Snapshot, car_count}
use Rattle.search_model.specs.declared.WorthOf.{WorthOf}
use Rattle.search_model.specs.declared.Leaf.{Leaf}
use Rattle.search_model.specs.declared.Twig.{Twig}
use Rattle.search_model.specs.declared.Twig.TheVariants.{Split, Leaf as Tip}
use Rattle.search_model.specs.Nodes.{Node, IsNodeOf, set_of, is_part, first_of_split, second_of_split}
use Rattle.search_model.specs.Prices.{IsWorth}
use Rattle.search_model.specs.Certificates.{IsSound, Placed, has_whole_lists, is_whole, placed_twigs, price_in, worth_in}
use Rattle.cert_claims.specs.Due.{HasCars, claim_due}
use Rattle.cert_claims.specs.declared.tasks.Task.{Task}
use Rattle.cert_claims.specs.declared.leaves.Claims.{Claims}
use Rattle.cert_claims.specs.declared.counting.ClaimsSoFar.{ClaimsSoFar}

-- ---- leaves

pub record LeafAt : Type 0 where
  pub node : Node
  pub leaf : Leaf

abbrev pub leaf_of : Node → Leaf → LeafAt
leaf_of node leaf = record { node = node; leaf = leaf }

-- the nodes that are still to be filled, the next one first, after a twig at the node
abbrev pub nodes_after : Node → Twig → List Node → List Node
nodes_after node (Split j part) nodes = if is_part (set_of node j) part then first_of_split node j part ∷ second_of_split node j part ∷ nodes else nodes
nodes_after node (Tip leaf) nodes = nodes

abbrev pub leaves_here : Node → Twig → List LeafAt → List LeafAt
leaves_here node (Split j part) leaves = leaves
leaves_here node (Tip leaf) leaves = leaf_of node leaf ∷ leaves

-- the leaves among the twigs at the nodes that they fill
abbrev pub leaves_from : List Node → List Twig → List LeafAt
leaves_from nodes [] = []
leaves_from [] (twig ∷ twigs) = []
leaves_from (node ∷ nodes) (twig ∷ twigs) = leaves_here node twig (leaves_from (nodes_after node twig nodes) twigs)

abbrev pub leaf_at : Task → LeafAt
leaf_at task = leaf_of task.node task.leaf.now

-- each worth of the leaf is one in the node
abbrev pub HasWorths : Snapshot → Node → Leaf → Type 0
HasWorths s node leaf = (c : ℕ) → c < car_count s → IsWorth s node c (price_in leaf) (worth_in leaf c)

-- a whole leaf of worths at a node of the snapshot's search
pub record IsProvedLeaf (s : Snapshot) (at : LeafAt) : Type 0 where
  pub node : IsNodeOf s at.node
  pub whole : IsTrue (has_whole_lists s at.leaf)
  pub worths : HasWorths s at.node at.leaf

-- a whole tree that proves some bound, of which each part is a set of cars
pub record IsProvedTree (s : Snapshot) (tree : List Twig) : Type 0 where
  pub bound : ℕ
  pub whole : IsTrue (is_whole s tree)
  pub sound : All (λ (p : Placed). IsSound s bound p.place p.twig) (placed_twigs s tree)
  pub cars : All HasCars tree

-- ---- claims

-- how much more than 1 each of the first n cars is due, added up
abbrev pub extra_of_cars : Snapshot → LeafAt → (n : ℕ) → ℕ
extra_of_cars s at n = sum_below n (λ c. claim_due s at.node at.leaf c - 1)

abbrev pub extra_of : Snapshot → LeafAt → ℕ
extra_of s at = extra_of_cars s at (car_count s)

-- The claim of a car, where it goes no further beyond 1 than is spare.
abbrev pub IsClaimWithin : Snapshot → (spare : ℕ) → LeafAt → ℕ → Option ℕ → Type 0
IsClaimWithin s spare at c None = spare + 1 < claim_due s at.node at.leaf c
IsClaimWithin s spare at c (Some claim) = (claim ≡ claim_due s at.node at.leaf c) × (claim ≤ spare + 1)

-- by car, the claims are those that are due
abbrev pub AreDue : Snapshot → LeafAt → (claims : List ℕ) → Type 0
AreDue s at claims = (c : ℕ) → c < car_count s → slice_index_or claims c 0 ≡ claim_due s at.node at.leaf c

-- what was found of a leaf
pub record AreClaims (s : Snapshot) (at : LeafAt) (claims : Claims) : Type 0 where
  pub due : AreDue s at claims.by_car
  pub extra : claims.extra ≡ extra_of s at

-- The claims of a leaf, where they go no further beyond 1 than is spare.
abbrev pub AreClaimsWithin : Snapshot → (spare : ℕ) → LeafAt → Option Claims → Type 0
AreClaimsWithin s spare at None = spare < extra_of s at
AreClaimsWithin s spare at (Some claims) = AreClaims s at claims × (claims.extra ≤ spare)

-- so for each leaf
abbrev pub AreAllDue : Snapshot → List LeafAt → List Claims → Type 0
AreAllDue s [] [] = Unit {0}
AreAllDue s [] (claims ∷ all) = ⊥
AreAllDue s (at ∷ leaves) [] = ⊥
AreAllDue s (at ∷ leaves) (claims ∷ all) = AreDue s at claims.by_car × AreAllDue s leaves all

abbrev pub extra_of_all : Snapshot → List LeafAt → ℕ
extra_of_all s leaves = sum_by (extra_of s) leaves

-- The claims of all leaves, where they go no further beyond 1 than is spare.
abbrev pub AreAllWithin : Snapshot → (spare : ℕ) → List LeafAt → Option (List Claims) → Type 0
AreAllWithin s spare leaves None = spare < extra_of_all s leaves
AreAllWithin s spare leaves (Some all) = AreAllDue s leaves all × (extra_of_all s leaves ≤ spare)

-- the answers of the jobs of these leaves
abbrev pub AreAnswers : Snapshot → (spare : ℕ) → List LeafAt → List (Option Claims) → Type 0
AreAnswers s spare leaves answers = (length answers ≡ length leaves)
    × ((k : ℕ) (at : LeafAt) (answer : Option Claims) → slice_get leaves k ≡ Some at → slice_get answers k ≡ Some answer → AreClaimsWithin s spare at answer)

-- the claims of these leaves were taken into a tally
pub record HasTakenAll (s : Snapshot) (leaves : List LeafAt) (old new : ClaimsSoFar) : Type 0 where
  pub all : List Claims
  pub claims : new.claims.items ≡ old.claims.items ++ all
  pub due : AreAllDue s leaves all
  pub spare : extra_of_all s leaves + new.spare ≡ old.spare

-- or they go further beyond 1 than was spare
abbrev pub HasTaken : Snapshot → List LeafAt → (old new : ClaimsSoFar) → (fits : Bool) → Type 0
HasTaken s leaves old new true = HasTakenAll s leaves old new
HasTaken s leaves old new false = old.spare < extra_of_all s leaves

abbrev pub IsProvedTask : Snapshot → Task → Type 0
IsProvedTask s task = IsProvedLeaf s (leaf_at task)

-- ---- claims written into a tree

abbrev pub with_claim : (claims : List ℕ) → WorthOf → WorthOf
with_claim claims w = record { car = w.car; worth = w.worth; claim = slice_index_or claims w.car 0 }

abbrev pub with_claims : (claims : List ℕ) → Leaf → Leaf
with_claims claims leaf = record { prices = leaf.prices; worths = map (with_claim claims) leaf.worths }

-- the twig with the first of these claims where it is a leaf, and the claims after that
abbrev pub claimed_here : Twig → List Claims → Twig
claimed_here (Split j part) all = Split j part
claimed_here (Tip leaf) [] = Tip leaf
claimed_here (Tip leaf) (claims ∷ all) = Tip (with_claims claims.by_car leaf)

abbrev pub claims_after : Twig → List Claims → List Claims
claims_after (Split j part) all = all
claims_after (Tip leaf) [] = []
claims_after (Tip leaf) (claims ∷ all) = all

-- the tree with these claims, leaf by leaf
abbrev pub claimed : List Twig → List Claims → List Twig
claimed [] all = []
claimed (twig ∷ twigs) all = claimed_here twig all ∷ claimed twigs (claims_after twig all)
