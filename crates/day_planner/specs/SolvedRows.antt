-- What a search within limits answers at an accepted row.
use Rattle.std.specs.Prelude.{◌≡◌, ℕ, ◌≤◌, ◌++◌, List, [], Option, Some, None, IfSome}
use Rattle.elevator_model.specs.Snapshot.{Snapshot, IsAccepted}
use Rattle.elevator_model.specs.declared.Stop.{Stop}
use Rattle.search_model.specs.declared.Stated.{Stated}
use Rattle.search_model.specs.declared.Twig.{Twig}
use Rattle.search_model.specs.declared.Turn.{Turn}
use Rattle.search_model.specs.declared.StopReason.{StopReason}
use Rattle.search_model.specs.declared.StopReason.TheVariants.{Solved}
use Rattle.search_model.specs.Solving.{IsSolveAnswer}
use Rattle.search_model.specs.Verdicts.{rounds_enough, tours_enough}
use Rattle.answer_text.specs.Texts.{answer_text}
use Rattle.cert_text.specs.Texts.{cert_text}
use Rattle.certified_search.specs.Certified.{AreClaimsEnough, IsCertified}
use Rattle.day_simulator.specs.Planning.{IsRightPlan}

-- the limits are enough for a search of the snapshot, and the limit of claims is, where certificates are written
pub record AreEnoughFor (rounds most_tours : ℕ) (claims : Option ℕ) (s : Snapshot) : Type 0 where
  pub rounds_are : rounds_enough s ≤ rounds
  pub most_tours_are : tours_enough s ≤ most_tours
  pub claims_are : IfSome claims (λ limit. AreClaimsEnough rounds most_tours limit s)

-- A plan that a search found with a tree, written as an answer with the certificate that proves the bound that is stated;
-- that is the bound that was found where the claims of the tree allow it.
pub record IsCertifiedRow (s : Snapshot) (limit : ℕ) (found : Stated) (tree : List Twig) (stated : Stated) (proof : List ℕ) : Type 0 where
  pub certificate : List Twig
  pub certified : IsCertified s limit found tree stated.bound certificate
  pub is_text : proof ≡ answer_text s stated ++ cert_text s certificate

-- what is written of what a search found: nothing, with the bound that was found; or its answer and certificate
abbrev pub IsWritten : (claims : Option ℕ) → Snapshot → (found : Stated) → List Twig → (stated : Stated) → (proof : List ℕ) → Type 0
IsWritten None s found tree stated proof = (stated.bound ≡ found.bound) × (proof ≡ [])
IsWritten (Some limit) s found tree stated proof = IsCertifiedRow s limit found tree stated proof

-- A right plan of an accepted snapshot, its cost and a bound as a search answers them within these limits, written in full
-- where the claims of certificates have a limit. Where the limits are enough for the snapshot, none was reached.
pub record IsSolvedPlan (rounds most_tours : ℕ) (claims : Option ℕ) (s : Snapshot) (stated : Stated) (proof : List ℕ) : Type 0 where
  pub accepted : IsAccepted s
  pub right_plan : IsRightPlan s stated
  -- the bound that the search found
  pub bound : ℕ
  pub tree : List Twig
  pub turns : List Turn
  pub why : StopReason
  pub answer : IsSolveAnswer s rounds most_tours stated.plan stated.cost bound tree turns why
  pub enough : rounds_enough s ≤ rounds → tours_enough s ≤ most_tours → why ≡ Solved
  pub written : IsWritten claims s (record { plan = stated.plan; cost = stated.cost; bound = bound }) tree stated proof

-- What a search within these limits answers at an accepted row, whatever plan held before.
abbrev pub IsSolvedRow : (rounds most_tours : ℕ) (claims : Option ℕ) → Snapshot → (held : List (List Stop)) → Stated → (proof : List ℕ) → Type 0
IsSolvedRow rounds most_tours claims s held stated proof = IsSolvedPlan rounds most_tours claims s stated proof
