-- Plans that are right for a snapshot, as a planner states them.
use Rattle.std.specs.Prelude.{◌≡◌, ℕ, List}
use Rattle.elevator_model.specs.Snapshot.{Snapshot}
use Rattle.elevator_model.specs.declared.Stop.{Stop}
use Rattle.elevator_model.specs.Plans.{IsFeasiblePlan, IsBound, plan_cost_of}
use Rattle.search_model.specs.declared.Stated.{Stated}

-- The plan is feasible and has this cost, and no feasible plan costs less than the bound.
pub record IsRightPlan (s : Snapshot) (stated : Stated) : Type 0 where
  pub feasible : IsFeasiblePlan s stated.plan
  pub cost : stated.cost ≡ plan_cost_of s stated.plan
  pub bound : IsBound s stated.bound

-- Whatever else it means, what is right for a snapshot, whatever plan held before, is a right plan of it.
abbrev pub PlannerLaw : (Snapshot → (held : List (List Stop)) → Stated → List ℕ → Type 0) → Type 0
PlannerLaw right = (s : Snapshot) (held : List (List Stop)) (stated : Stated) (proof : List ℕ) → right s held stated proof → IsRightPlan s stated
