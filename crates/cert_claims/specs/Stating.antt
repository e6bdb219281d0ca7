-- What a pass over the tree of a search answers.
use Rattle.std.specs.Prelude.{◌≡◌, ◌↔◌, ◌⊎◌, ℕ, ◌<◌, ◌≤◌, List, [], ◌∷◌, length, map, take, slice_get, Some, All, true, false}
use Rattle.elevator_model.specs.Snapshot.{Snapshot, car_count}
use Rattle.search_model.specs.declared.Leaf.{Leaf}
use Rattle.search_model.specs.declared.Stated.{Stated}
use Rattle.search_model.specs.declared.Twig.{Twig}
use Rattle.search_model.specs.declared.Twig.TheVariants.{Split, Leaf as Tip}
use Rattle.search_model.specs.declared.WorthOf.{WorthOf}
use Rattle.search_model.specs.Nodes.{root_of}
use Rattle.search_model.specs.Certificates.{Placed, IsSoundLeaf, Proves, claim_in, placed_twigs}
use Rattle.search_model.specs.Verdicts.{kept_at}
use Rattle.cert_claims.specs.Due.{StatesDue, claims_of_tree, due_of_tree, most_of_tree}
use Rattle.cert_claims.specs.Lowering.{GoesBeyond, lesser_bounds, lowered_tree}
use Rattle.cert_claims.specs.declared.stating.Claimed.{Claimed}
use Rattle.cert_claims.specs.declared.stating.LastResort.{LastResort}

-- the twig with all its claims 0
abbrev pub without_claim : WorthOf → WorthOf
without_claim w = record { car = w.car; worth = w.worth; claim = 0 }

abbrev pub without_claims : Twig → Twig
without_claims (Split j part) = Split j part
without_claims (Tip leaf) = Tip (record { prices = leaf.prices; worths = map without_claim leaf.worths })

-- the trees are the same but for their claims
abbrev pub DifferInClaims : (tree other : List Twig) → Type 0
DifferInClaims tree other = map without_claims tree ≡ map without_claims other

-- A leaf that proves this bound at the root and is checked by one visit for each car at most.
pub record IsLastResort (s : Snapshot) (bound : ℕ) (leaf : Leaf) : Type 0 where
  pub sound : IsSoundLeaf s bound (root_of s) leaf
  pub claims : (c : ℕ) → c < car_count s → claim_in leaf c ≡ 1
  pub few : (c : ℕ) → c < car_count s → length (kept_at s (root_of s) leaf c) ≤ 1

-- Where the claims of the search's tree go past the limit: its tree with worths lowered to the first of the lesser bounds
-- at which they do not.
pub record IsLowered (s : Snapshot) (bound : ℕ) (tree : List Twig) (resort : LastResort) (limit lesser : ℕ) (certificate : List Twig) : Type 0 where
  pub place : ℕ
  pub bound_is : slice_get (lesser_bounds bound resort.bound) place ≡ Some lesser
  pub before : All (GoesBeyond s limit tree) (take place (lesser_bounds bound resort.bound))
  pub tree_is : DifferInClaims certificate (lowered_tree lesser tree)

-- The last resort, where they do at each of these bounds.
pub record IsResort (s : Snapshot) (bound : ℕ) (tree : List Twig) (resort : LastResort) (limit lesser : ℕ) (certificate : List Twig) : Type 0 where
  pub bound_is : lesser ≡ resort.bound
  pub before : All (GoesBeyond s limit tree) (lesser_bounds bound resort.bound)
  pub tree_is : certificate ≡ Tip resort.leaf ∷ []

-- What is stated where the claims of the search's tree go past the limit.
abbrev pub IsLesser : Snapshot → (bound : ℕ) → List Twig → LastResort → (limit lesser : ℕ) → (certificate : List Twig) → Type 0
IsLesser s bound tree resort limit lesser certificate = IsLowered s bound tree resort limit lesser certificate
    ⊎ IsResort s bound tree resort limit lesser certificate

-- The tree of a search with the claims that are due; or, where these sum past the limit, another one with the lesser
-- bound that it proves.
pub record IsClaimed (s : Snapshot) (stated : Stated) (tree : List Twig) (resort : LastResort) (limit : ℕ) (claimed : Claimed) : Type 0 where
  pub proves : Proves s stated.plan stated.cost claimed.bound claimed.tree.twigs
  pub low : claimed.bound ≤ stated.bound
  pub due : All (λ (p : Placed). StatesDue s p.place p.twig) (placed_twigs s claimed.tree.twigs)
  pub few : claims_of_tree claimed.tree.twigs ≤ most_of_tree limit claimed.tree.twigs
  pub cut : (claimed.cut ≡ true) ↔ (most_of_tree limit tree < due_of_tree s tree)
  pub whole : claimed.cut ≡ false → (claimed.bound ≡ stated.bound) × DifferInClaims claimed.tree.twigs tree
  pub lesser : claimed.cut ≡ true → IsLesser s stated.bound tree resort limit claimed.bound claimed.tree.twigs
