-- What a run of the program leaves, request by request: what was read and written, and why it ended.
use Rattle.std.specs.Prelude.{◌≡◌, ℕ, ◌⊎◌, List, [], ◌∷◌, ◌++◌, codes}
use Rattle.byte_streams.specs.Streams.{Rose}
use Rattle.lift_words.specs.declared.request.Request.{Request}
use Rattle.lift_words.specs.declared.request.Request.TheVariants.{Solve, Check, Day, Report, Make, Run, Table, WhatIf, Banks, Root, Audit}
use Rattle.lift_words.specs.Taken.{AreTaken, without_certificates}
use Rattle.command_ends.specs.declared.status.Status.{Status}
use Rattle.command_ends.specs.declared.status.Status.TheVariants.{Done, Words, Stopped, Refused, Input, Read, Write, Memory}
use Rattle.command_ends.specs.Ends.{DueTexts, Ends, Streams}
use Rattle.case_commands.specs.SolveOutcome.{RunsSolve}
use Rattle.case_commands.specs.CheckOutcome.{RunsCheck}
use Rattle.case_commands.specs.MakeOutcome.{RunsMake, RunsSolvedCase}
use Rattle.day_commands.specs.DayOutcome.{ReportsDay, RunsDay}
use Rattle.case_commands.specs.TableOutcome.{RunsTable}
use Rattle.case_commands.specs.WhatIfOutcome.{RunsWhatIf}
use Rattle.day_commands.specs.BanksOutcome.{RunsBanks}
use Rattle.case_commands.specs.RootOutcome.{RunsRoot}
use Rattle.day_commands.specs.AuditOutcome.{RunsAudit}

-- what is left of what the words ask for
abbrev pub RunsRequest : Request → (old new : Streams) → Status → Type 0
RunsRequest (Solve options) old new status = RunsSolve options old new status
RunsRequest (Check options) old new status = RunsCheck old new status
RunsRequest (Day options) old new status = RunsDay options old new status
RunsRequest (Report options) old new status = ReportsDay (without_certificates options) old new status
RunsRequest (Make sizes) old new status = RunsMake sizes old new status
RunsRequest (Run options) old new status = RunsSolvedCase options old new status
RunsRequest Table old new status = RunsTable old new status
RunsRequest (WhatIf options) old new status = RunsWhatIf options.limits.rounds options.limits.most_tours old new status
RunsRequest (Banks options) old new status = RunsBanks options.limits.rounds options.limits.most_tours old new status
RunsRequest (Root options) old new status = RunsRoot options.limits.rounds options.limits.most_tours old new status
RunsRequest (Audit options) old new status = RunsAudit old new status

-- ---- other words

-- nothing is asked for by these
abbrev pub AskForNothing : (words : List (List ℕ)) → Type 0
AskForNothing words = (request : Request) → AreTaken words request → ⊥

abbrev pub usage_line : List ℕ
usage_line = codes "usage: lift solve/check/day/report/make [options]" ++ 10 ∷ []

abbrev pub UsageDue : DueTexts
UsageDue Done text = ⊥
UsageDue Words text = text ≡ usage_line
UsageDue Stopped text = ⊥
UsageDue Refused text = ⊥
UsageDue Input text = ⊥
UsageDue Read text = ⊥
UsageDue Write text = ⊥
UsageDue Memory text = ⊥

-- They get the usage line, unless the sink fails or memory runs out.
pub record RefusesWords (old new : Streams) (status : Status) : Type 0 where
  pub ends : Ends UsageDue old new status
  pub unread : new.left ≡ old.left
  pub refuses : (Rose old.write_faults new.write_faults → ⊥) → (status ≡ Words) ⊎ (status ≡ Memory)
