-- Leaves that can be lowered to a bound. No public clause cites this module.
use Rattle.std.specs.Prelude.{◌≡◌, ℕ, ◌≤◌, ◌≤ℤ◌, List, length, All, Option, None, Some, true}
use Rattle.elevator_model.specs.Snapshot.{Snapshot}
use Rattle.search_model.specs.declared.Leaf.{Leaf}
use Rattle.search_model.specs.declared.Twig.{Twig}
use Rattle.search_model.specs.declared.Twig.TheVariants.{Split, Leaf as Tip}
use Rattle.search_model.specs.Certificates.{IsSound, Placed, is_whole, placed_twigs, sum_needed, sum_of_leaf}
use Rattle.cert_claims.specs.Due.{HasCars, StatesDue, claims_of_tree, most_of_tree}
use Rattle.cert_claims.specs.Lowering.{GoesBeyond, IsSizedLeaf, IsSizedTwig, lowered_tree}
use Rattle.cert_claims.specs.Stating.{DifferInClaims, IsLesser}
use Rattle.cert_claims.specs.declared.stating.Claimed.{Claimed}
use Rattle.cert_claims.specs.declared.stating.LastResort.{LastResort}

-- few prices and worths, of sizes that can be added up, which prove the bound
pub record IsWideLeaf (bound : ℕ) (leaf : Leaf) : Type 0 where
  pub prices : length leaf.prices ≤ 128
  pub worths : length leaf.worths ≤ 16
  pub sizes : IsSizedLeaf leaf
  pub enough : sum_needed bound ≤ℤ sum_of_leaf leaf

abbrev pub CanBeLowered : (bound : ℕ) → Twig → Type 0
CanBeLowered bound (Split j part) = Unit {0}
CanBeLowered bound (Tip leaf) = IsWideLeaf bound leaf

-- a whole tree that proves this bound, with sizes that can be added up
pub record IsSizedTree (s : Snapshot) (bound : ℕ) (tree : List Twig) : Type 0 where
  pub whole : is_whole s tree ≡ true
  pub sound : All (λ (p : Placed). IsSound s bound p.place p.twig) (placed_twigs s tree)
  pub cars : All HasCars tree
  pub sizes : All IsSizedTwig tree

-- ---- answers

-- A whole tree that proves this bound, each claim of which is the one that is due; they sum to no more than the limit
-- allows.
pub record IsCertificate (s : Snapshot) (bound limit : ℕ) (tree : List Twig) : Type 0 where
  pub whole : is_whole s tree ≡ true
  pub sound : All (λ (p : Placed). IsSound s bound p.place p.twig) (placed_twigs s tree)
  pub due : All (λ (p : Placed). StatesDue s p.place p.twig) (placed_twigs s tree)
  pub few : claims_of_tree tree ≤ most_of_tree limit tree

-- the tree with worths lowered to a bound, with its claims
pub record IsLoweredTo (s : Snapshot) (bound limit : ℕ) (tree : List Twig) (claimed : Claimed) : Type 0 where
  pub certificate : IsCertificate s bound limit claimed.tree.twigs
  pub tree_is : DifferInClaims claimed.tree.twigs (lowered_tree bound tree)
  pub bound_is : claimed.bound ≡ bound
  pub cut : claimed.cut ≡ true

-- where its claims go no further than the limit allows
abbrev pub IsTried : Snapshot → (bound limit : ℕ) → List Twig → Option Claimed → Type 0
IsTried s bound limit tree None = GoesBeyond s limit tree bound
IsTried s bound limit tree (Some claimed) = IsLoweredTo s bound limit tree claimed

-- what is answered where the claims of the search's tree go past the limit
pub record IsCut (s : Snapshot) (bound : ℕ) (tree : List Twig) (resort : LastResort) (limit : ℕ) (claimed : Claimed) : Type 0 where
  pub certificate : IsCertificate s claimed.bound limit claimed.tree.twigs
  pub low : claimed.bound ≤ bound
  pub cut : claimed.cut ≡ true
  pub lesser : IsLesser s bound tree resort limit claimed.bound claimed.tree.twigs
