-- What is left where memory ran out before anything was read or written.
use Rattle.std.proofs.Common.{inl, inr, refl}
use Rattle.lift_words.specs.declared.request.Request.{Request}
use Rattle.lift_words.specs.declared.request.Request.TheVariants.{Solve, Check, Day, Report, Make, Run, Table, WhatIf, Banks, Root, Audit}
use Rattle.lift_words.specs.Taken.{without_certificates}
use Rattle.command_ends.specs.declared.status.Status.TheVariants.{Memory}
use Rattle.command_ends.specs.Ends.{Streams}
use Rattle.command_ends.specs.WholeTexts.{case_form}
use Rattle.command_ends.proofs.RunLemmas.{runs_out}
use Rattle.case_commands.specs.SolveOutcome.{IsSolution}
use Rattle.case_commands.specs.CheckOutcome.{IsVerdictTold, check_form}
use Rattle.case_commands.specs.TableOutcome.{IsToldOf, table_form}
use Rattle.case_commands.specs.WhatIfOutcome.{IsTold, asked_form}
use Rattle.day_commands.specs.BanksOutcome.{AreTold, banks_form}
use Rattle.case_commands.specs.RootOutcome.{IsRootTold}
use Rattle.lift_commands.specs.Runs.{RunsRequest}

pub out_of_memory : (request : Request) (old : Streams) → RunsRequest request old old Memory
out_of_memory (Solve options) old = runs_out case_form (IsSolution options) old old refl
out_of_memory (Check options) old = runs_out check_form IsVerdictTold old old refl
out_of_memory (Day options) old = record { ends = inl refl; completes = λ day reads writes. inr (inr refl) }
out_of_memory (Report options) old = record { ends = refl; completes = λ day reads writes. inr (inr refl) }
out_of_memory (Make sizes) old = record { ends = refl; unread = refl; makes = λ writes. inr refl }
out_of_memory (Run options) old =
    record { ends = refl; unread = refl; solves = λ writes. record { ended = inr (inr refl); enough = λ s case rounds most_tours. inr refl } }
out_of_memory Table old = runs_out table_form IsToldOf old old refl
out_of_memory (WhatIf options) old = runs_out asked_form (λ s. IsTold s options.limits.rounds options.limits.most_tours) old old refl
out_of_memory (Banks options) old = runs_out banks_form (AreTold options.limits.rounds options.limits.most_tours) old old refl
out_of_memory (Root options) old = runs_out case_form (λ s. IsRootTold s options.limits.rounds options.limits.most_tours) old old refl
out_of_memory (Audit options) old = record { ends = refl; audits = λ reads writes. inr (inr (inr refl)) }
