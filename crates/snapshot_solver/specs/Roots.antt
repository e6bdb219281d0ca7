-- What turns at the root of a snapshot tell.
use Rattle.std.specs.Prelude.{◌≡◌, ℕ, List}
use Rattle.elevator_model.specs.declared.Stop.{Stop}
use Rattle.elevator_model.specs.Snapshot.{Snapshot}
use Rattle.elevator_model.specs.Plans.{IsFeasiblePlan}
use Rattle.search_model.specs.Solving.{start_prices}
use Rattle.search_tree.specs.Sheets.{PriceSheet}
use Rattle.root_prices.specs.declared.answers.RootAnswer.{RootAnswer}
use Rattle.root_prices.specs.RootAnswers.{IsRootAnswer}
use Rattle.snapshot_solver.specs.Starts.{start_worths}

-- Turns from the prices and worths with which a search starts, and from some feasible plan.
pub record IsRootSolution (s : Snapshot) (rounds most_tours : ℕ) (a : RootAnswer) : Type 0 where
  pub plan : List (List Stop)
  pub feasible : IsFeasiblePlan s plan
  pub first : PriceSheet
  pub prices : first.prices ≡ start_prices s
  pub worths : first.worths ≡ start_worths s
  pub answer : IsRootAnswer s plan first rounds most_tours a
