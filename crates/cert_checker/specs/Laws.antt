-- What a verdict says.
use Rattle.std.specs.Prelude.{◌≡◌, ◌↔◌, ℕ, ◌<◌, ◌≤◌, List, length, All, IsTrue}
use Rattle.elevator_model.specs.declared.Stop.{Stop}
use Rattle.elevator_model.specs.Snapshot.{Snapshot, IsAccepted, car_count}
use Rattle.elevator_model.specs.Plans.{IsBound, IsFeasiblePlan, plan_cost_of}
use Rattle.search_model.specs.declared.Twig.{Twig}
use Rattle.search_model.specs.declared.Twig.TheVariants.{Split, Leaf as Tip}
use Rattle.search_model.specs.declared.Verdict.TheVariants.{Yes}
use Rattle.search_model.specs.Certificates.{Proves, claim_in, is_whole}
use Rattle.search_model.specs.Verdicts.{tours_enough, verdict_of}

-- the claims of a leaf are sufficient for any search
abbrev pub HasEnough : Snapshot → Twig → Type 0
HasEnough s (Split j part) = Unit {0}
HasEnough s (Tip leaf) = (c : ℕ) → c < car_count s → tours_enough s ≤ claim_in leaf c

-- With sufficient claims the verdict is yes exactly where the tree proves the plan, its cost and the bound.
abbrev pub SufficientLaw : Type 0
SufficientLaw = (s : Snapshot) (plan : List (List Stop)) (cost bound : ℕ) (tree : List Twig) → IsAccepted s → length plan ≡ car_count s
    → IsTrue (is_whole s tree) → All (HasEnough s) tree → (verdict_of s plan cost bound tree ≡ Yes) ↔ Proves s plan cost bound tree

-- What a yes says without any tree: the plan is feasible and has the cost, and no feasible plan costs less than the
-- bound.
pub record IsProved (s : Snapshot) (plan : List (List Stop)) (cost bound : ℕ) : Type 0 where
  pub feasible : IsFeasiblePlan s plan
  pub costs : plan_cost_of s plan ≡ cost
  pub least : IsBound s bound

abbrev pub YesLaw : Type 0
YesLaw = (s : Snapshot) (plan : List (List Stop)) (cost bound : ℕ) (tree : List Twig) → IsAccepted s → length plan ≡ car_count s → IsTrue (is_whole s tree)
    → verdict_of s plan cost bound tree ≡ Yes → IsProved s plan cost bound
