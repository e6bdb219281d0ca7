-- What the command `make` leaves: what was written, and why it ended.
use Rattle.std.specs.Prelude.{◌≡◌, ℕ, ◌<◌, ◌≤◌, ◌⊎◌, ◌↔◌, List, [], ◌∷◌, ◌++◌, codes}
use Rattle.elevator_model.specs.declared.Stop.{Stop}
use Rattle.elevator_model.specs.Snapshot.{Snapshot, IsAccepted}
use Rattle.elevator_model.specs.Plans.{IsBound, IsOptimal}
use Rattle.lift_text.specs.Text.{line}
use Rattle.case_text.specs.CaseTexts.{IsCaseText, case_text}
use Rattle.search_model.specs.declared.Twig.{Twig}
use Rattle.search_model.specs.declared.Turn.{Turn}
use Rattle.search_model.specs.declared.StopReason.{StopReason}
use Rattle.search_model.specs.declared.StopReason.TheVariants.{Solved, Rounds, Moves, Told}
use Rattle.search_model.specs.Solving.{IsSolveAnswer}
use Rattle.search_model.specs.Verdicts.{rounds_enough, tours_enough}
use Rattle.search_model.specs.Cases.{IsCase}
use Rattle.lift_words.specs.declared.request.CaseSizes.{CaseSizes}
use Rattle.lift_words.specs.declared.request.RunOptions.{RunOptions}
use Rattle.byte_streams.specs.Streams.{Rose}
use Rattle.command_ends.specs.declared.status.Status.{Status}
use Rattle.command_ends.specs.declared.status.Status.TheVariants.{Done, Words, Stopped, Refused, Input, Read, Write, Memory}
use Rattle.command_ends.specs.Ends.{DueTexts, Ends, Streams}

-- ---- without `--run`

-- the generated case with this number and these sizes
abbrev pub IsCaseOf : CaseSizes → Snapshot → Type 0
IsCaseOf sizes s = IsCase sizes.number sizes.floors sizes.cars sizes.calls s

-- the text of that case; it is read as that snapshot again
pub record IsMadeCase (sizes : CaseSizes) (text : List ℕ) : Type 0 where
  pub snapshot : Snapshot
  pub case : IsCaseOf sizes snapshot
  pub accepted : IsAccepted snapshot
  pub is_text : text ≡ case_text snapshot
  pub again : IsCaseText text snapshot

-- the texts of `make`
abbrev pub MakeDue : CaseSizes → DueTexts
MakeDue sizes Done text = IsMadeCase sizes text
MakeDue sizes Words text = ⊥
MakeDue sizes Stopped text = ⊥
MakeDue sizes Refused text = ⊥
MakeDue sizes Input text = ⊥
MakeDue sizes Read text = ⊥
MakeDue sizes Write text = ⊥
MakeDue sizes Memory text = ⊥

-- ---- with `--run`

-- the status of a search whose answer is not written
abbrev pub status_of : StopReason → Status
status_of Solved = Done
status_of (Rounds done) = Stopped
status_of (Moves car count) = Stopped
status_of Told = Stopped

-- the six lines of a case that was solved
abbrev pub run_text : CaseSizes → (cost bound : ℕ) → List ℕ
run_text sizes cost bound =
    line (codes "number") (sizes.number ∷ []) ++ line (codes "floors") (sizes.floors ∷ []) ++ line (codes "cars") (sizes.cars ∷ [])
    ++ line (codes "calls") (sizes.calls ∷ []) ++ line (codes "cost") (cost ∷ []) ++ line (codes "bound") (bound ∷ [])

-- The lines of the generated case, with the cost and the bound of a plan as a search answers them within these limits. The
-- status tells whether they are equal; then the plan is optimal.
pub record IsSolvedCase (options : RunOptions) (status : Status) (text : List ℕ) : Type 0 where
  pub snapshot : Snapshot
  pub case : IsCaseOf options.sizes snapshot
  pub accepted : IsAccepted snapshot
  pub plan : List (List Stop)
  pub cost : ℕ
  pub bound : ℕ
  pub tree : List Twig
  pub turns : List Turn
  pub why : StopReason
  pub answer : IsSolveAnswer snapshot options.limits.rounds options.limits.most_tours plan cost bound tree turns why
  pub done : (status ≡ Done) ↔ (cost ≡ bound)
  pub stopped : (status ≡ Stopped) ↔ (bound < cost)
  pub optimal : status ≡ Done → IsOptimal snapshot plan
  -- no feasible plan costs less than the bound
  pub least : IsBound snapshot bound
  pub is_text : text ≡ run_text options.sizes cost bound

-- the texts of `make --run`
abbrev pub SolvedCaseDue : RunOptions → DueTexts
SolvedCaseDue options Done text = IsSolvedCase options Done text
SolvedCaseDue options Words text = ⊥
SolvedCaseDue options Stopped text = IsSolvedCase options Stopped text
SolvedCaseDue options Refused text = ⊥
SolvedCaseDue options Input text = ⊥
SolvedCaseDue options Read text = ⊥
SolvedCaseDue options Write text = ⊥
SolvedCaseDue options Memory text = ⊥

-- The case is solved within the limits, or memory ran out; and where the limits are enough for it, no limit is reached.
pub record IsCaseSolved (options : RunOptions) (status : Status) : Type 0 where
  pub ended : (status ≡ Done) ⊎ (status ≡ Stopped) ⊎ (status ≡ Memory)
  pub enough : (s : Snapshot) → IsCaseOf options.sizes s → rounds_enough s ≤ options.limits.rounds → tours_enough s ≤ options.limits.most_tours
      → (status ≡ Done) ⊎ (status ≡ Memory)

-- ---- how they end; they read nothing

-- A generated case is written, unless the sink fails or memory runs out.
pub record RunsMake (sizes : CaseSizes) (old new : Streams) (status : Status) : Type 0 where
  pub ends : Ends (MakeDue sizes) old new status
  pub unread : new.left ≡ old.left
  pub makes : (Rose old.write_faults new.write_faults → ⊥) → (status ≡ Done) ⊎ (status ≡ Memory)

-- It is solved, and cost and bound are written.
pub record RunsSolvedCase (options : RunOptions) (old new : Streams) (status : Status) : Type 0 where
  pub ends : Ends (SolvedCaseDue options) old new status
  pub unread : new.left ≡ old.left
  pub solves : (Rose old.write_faults new.write_faults → ⊥) → IsCaseSolved options status
