-- The certificate of what a search answers.
use Rattle.std.specs.Prelude.{◌≡◌, ℕ, ◌<◌, ◌≤◌, List, length, All}
use Rattle.elevator_model.specs.declared.Stop.{Stop}
use Rattle.elevator_model.specs.Snapshot.{Snapshot}
use Rattle.search_model.specs.declared.Leaf.{Leaf}
use Rattle.search_model.specs.declared.Stated.{Stated}
use Rattle.search_model.specs.declared.StopReason.{StopReason}
use Rattle.search_model.specs.declared.Turn.{Turn}
use Rattle.search_model.specs.declared.Twig.{Twig}
use Rattle.search_model.specs.Certificates.{Placed, Proves, placed_twigs}
use Rattle.search_model.specs.Solving.{IsSolveAnswer, floor_of_bound}
use Rattle.snapshot_solver.specs.Starts.{IsStartLeaf}
use Rattle.cert_claims.specs.declared.stating.LastResort.{LastResort}
use Rattle.cert_claims.specs.Due.{StatesDue, claims_of_tree, due_of_tree, most_of_tree}
use Rattle.cert_claims.specs.Stating.{DifferInClaims, IsLesser}

-- the leaf with which a search starts, which proves the floor of the snapshot
abbrev pub resort_of : Snapshot → Leaf → LastResort
resort_of s leaf = record { leaf = leaf; bound = floor_of_bound s }

-- What is printed where the claims that are due in the search's tree go past the limit: its tree with worths lowered to the
-- first of the lesser bounds at which they do not, or the leaf with which a search starts where they do at each of them.
pub record IsCutTo (s : Snapshot) (limit : ℕ) (found : ℕ) (tree : List Twig) (bound : ℕ) (certificate : List Twig) : Type 0 where
  pub leaf : Leaf
  pub start : IsStartLeaf s leaf
  pub lesser : IsLesser s found tree (resort_of s leaf) limit bound certificate

-- The certificate of what a search answers: it proves the bound that is printed, each of its claims is the one that is
-- due, and they sum to no more than the limit allows. The search's own bound and tree, but for the claims, are printed
-- exactly where the claims that are due there sum to no more than that.
pub record IsCertified (s : Snapshot) (limit : ℕ) (stated : Stated) (tree : List Twig) (bound : ℕ) (certificate : List Twig) : Type 0 where
  pub proves : Proves s stated.plan stated.cost bound certificate
  pub low : bound ≤ stated.bound
  -- no certificate proves less than the leaf with which a search starts, nor is longer than the search's tree
  pub least : floor_of_bound s ≤ bound
  pub short : length certificate ≤ length tree
  pub due : All (λ (p : Placed). StatesDue s p.place p.twig) (placed_twigs s certificate)
  pub few : claims_of_tree certificate ≤ most_of_tree limit certificate
  pub whole : due_of_tree s tree ≤ most_of_tree limit tree → (bound ≡ stated.bound) × DifferInClaims certificate tree
  pub cut : most_of_tree limit tree < due_of_tree s tree → IsCutTo s limit stated.bound tree bound certificate

-- The limit of claims is enough for whatever a search of the snapshot answers within these limits: the claims that are due
-- in its tree sum to no more.
abbrev pub AreClaimsEnough : (rounds most_tours limit : ℕ) → Snapshot → Type 0
AreClaimsEnough rounds most_tours limit s =
    (plan : List (List Stop)) (cost bound : ℕ) (tree : List Twig) (turns : List Turn) (why : StopReason)
    → IsSolveAnswer s rounds most_tours plan cost bound tree turns why → due_of_tree s tree ≤ most_of_tree limit tree
