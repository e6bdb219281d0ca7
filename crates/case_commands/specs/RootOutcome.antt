-- What the command `root` leaves: what was read and written, and why it ended.
use Rattle.std.specs.Prelude.{◌≡◌, ℕ, List}
use Rattle.elevator_model.specs.Snapshot.{Snapshot}
use Rattle.root_prices.specs.declared.answers.RootAnswer.{RootAnswer}
use Rattle.root_prices.specs.declared.reasons.RootReason.{RootReason}
use Rattle.root_prices.specs.declared.reasons.RootReason.TheVariants.{Best, Gap, Moves, Pairs}
use Rattle.root_prices.specs.RootAnswers.{IsGreatestAtRoot}
use Rattle.half_plans.specs.Mixtures.{IsMixture}
use Rattle.snapshot_solver.specs.Roots.{IsRootSolution}
use Rattle.command_ends.specs.Ends.{Streams}
use Rattle.command_ends.specs.WholeTexts.{case_form}
use Rattle.command_ends.specs.Runs.{Runs}
use Rattle.command_ends.specs.declared.status.Status.{Status}
use Rattle.command_ends.specs.declared.status.Status.TheVariants.{Done, Stopped}
use Rattle.case_commands.specs.RootTexts.{root_text}

-- ---- what is told

-- Done exactly where the two meet
abbrev pub status_of : RootReason → Status
status_of Best = Done
status_of Gap = Stopped
status_of (Moves car count) = Stopped
status_of (Pairs count) = Stopped

-- The text tells what this many turns at the root answer, within this limit. With Done, the mixture that is written shows
-- that no prices and worths at the root have a greater bound.
pub record IsRootTold (s : Snapshot) (rounds most_tours : ℕ) (status : Status) (text : List ℕ) : Type 0 where
  pub answer : RootAnswer
  pub solution : IsRootSolution s rounds most_tours answer
  pub status_is : status ≡ status_of answer.why
  pub is_text : text ≡ root_text s answer
  pub mixture : IsMixture s answer.shares 2 answer.cost
  pub greatest : status ≡ Done → IsGreatestAtRoot s answer.bound

-- ---- how the command ends

-- It is told of a case what prices at the root can prove, and any other input is refused.
abbrev pub RunsRoot : (rounds most_tours : ℕ) → (old new : Streams) → Status → Type 0
RunsRoot rounds most_tours old new status = Runs case_form (λ s. IsRootTold s rounds most_tours) old new status
