-- What the command `check` leaves: what was read and written, and why it ended.
use Rattle.std.specs.Prelude.{◌≡◌, ◌↔◌, ℕ, List, All}
use Rattle.elevator_model.specs.Snapshot.{Snapshot, IsAccepted}
use Rattle.elevator_model.specs.Plans.{IsBound}
use Rattle.lift_text.specs.Reading.{reading}
use Rattle.check_text.specs.declared.checked.Checked.{Checked}
use Rattle.check_text.specs.CheckTexts.{IsCheckAlone, IsCheckFault}
use Rattle.check_text.specs.VerdictTexts.{IsToldOf, verdict_text}
use Rattle.cert_checker.specs.Laws.{HasEnough}
use Rattle.search_model.specs.declared.Stated.{Stated}
use Rattle.search_model.specs.declared.Verdict.{Verdict}
use Rattle.search_model.specs.declared.Verdict.TheVariants.{Yes, No}
use Rattle.search_model.specs.declared.Twig.{Twig}
use Rattle.search_model.specs.Certificates.{Placed, Proves, placed_twigs}
use Rattle.search_model.specs.Verdicts.{FitsClaims, verdict_of}
use Rattle.command_ends.specs.declared.status.Status.{Status}
use Rattle.command_ends.specs.declared.status.Status.TheVariants.{Done, Refused}
use Rattle.command_ends.specs.Ends.{Streams}
use Rattle.command_ends.specs.InputFaults.{IsTextFault}
use Rattle.command_ends.specs.WholeTexts.{Form}
use Rattle.command_ends.specs.Runs.{Runs}

-- ---- what is judged

-- what a text of `check` says: a case, what is stated of a plan of it, and the tree of a certificate
pub record CheckInput : Type 0 where
  pub snapshot : Snapshot
  pub stated : Stated
  pub tree : List Twig

-- the tree proves the plan, its cost and the bound, and no kept list is longer than its claim
pub record IsProvedInClaims (s : Snapshot) (stated : Stated) (tree : List Twig) : Type 0 where
  pub proves : Proves s stated.plan stated.cost stated.bound tree
  pub claims : All (λ (p : Placed). FitsClaims s p.place p.twig) (placed_twigs s tree)

-- The verdict on this. It is yes exactly where the tree proves the plan, which is then feasible, its cost and the bound,
-- within the claims; and then no feasible plan costs less than the bound.
pub record IsVerdictOn (said : CheckInput) (verdict : Verdict) : Type 0 where
  pub is : verdict ≡ verdict_of said.snapshot said.stated.plan said.stated.cost said.stated.bound said.tree
  pub yes : (verdict ≡ Yes) ↔ IsProvedInClaims said.snapshot said.stated said.tree
  pub bound : verdict ≡ Yes → IsBound said.snapshot said.stated.bound
  -- where the claims are enough for any search, it is yes as soon as the tree proves the rest
  pub enough : Proves said.snapshot said.stated.plan said.stated.cost said.stated.bound said.tree → All (HasEnough said.snapshot) said.tree → verdict ≡ Yes

-- this was judged
pub record IsCheckedAs (checked : Checked) (said : CheckInput) : Type 0 where
  pub snapshot : checked.snapshot ≡ said.snapshot
  pub cost : checked.cost ≡ said.stated.cost
  pub bound : checked.bound ≡ said.stated.bound
  pub verdict : IsVerdictOn said checked.verdict

-- a text that says a case with an answer and a certificate, or what is wrong with it
abbrev pub check_form : Form Checked
check_form = record {
  Meaning = CheckInput;
  says = λ text said. IsCheckAlone (reading text) said.snapshot said.stated said.tree;
  wrong = IsTextFault IsCheckFault;
  means = IsCheckedAs;
  right = λ checked. IsAccepted checked.snapshot × IsToldOf checked.snapshot checked.verdict;
}

-- ---- how the command ends

abbrev pub status_of_verdict : Verdict → Status
status_of_verdict Yes = Done
status_of_verdict (No reason) = Refused

-- the text of the verdict, with its status
pub record IsVerdictTold (checked : Checked) (status : Status) (text : List ℕ) : Type 0 where
  pub status_is : status ≡ status_of_verdict checked.verdict
  pub is_text : text ≡ verdict_text checked.snapshot checked.cost checked.bound checked.verdict

-- The verdict is told of such a text, and any other input is refused.
abbrev pub RunsCheck : (old new : Streams) → Status → Type 0
RunsCheck old new status = Runs check_form IsVerdictTold old new status
