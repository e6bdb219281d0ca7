use Rattle.std.proofs.Common.{Err, ap, ◌∙◌, subst}
use Rattle.lift_text.specs.LineReader.{text}
use Rattle.lift_text.specs.declared.faults.TextFault.TheVariants.{Read}
use Rattle.case_text.specs.declared.ask_faults.AskFault.{AskFault}
use Rattle.case_text.specs.declared.ask_faults.AskFault.TheVariants.{Text}
use Rattle.case_text.specs.AskedCases.{TakesAskedCases}
use Rattle.command_ends.proofs.RunLemmas.{same_text}
use Rattle.case_commands.proofs.asking.AskingWholeText.read.Goals as goal

pub returns-in-Err-Text-clause-takes : goal.returns-in-Err-Text-clause-takes
returns-in-Err-Text-clause-takes g c =
    subst (λ (f : AskFault). TakesAskedCases (text g.S.Source.left c.args.lines.now) (Err f)) c.in-Err-Text.field-0-is c.in-Err-Text.ensures.takes

pub returns-in-Err-NothingAsked-clause-takes : goal.returns-in-Err-NothingAsked-clause-takes
returns-in-Err-NothingAsked-clause-takes g c =
    subst (λ (f : AskFault). TakesAskedCases (text g.S.Source.left c.args.lines.now) (Err f)) c.in-Err-NothingAsked.field-0-is
    c.in-Err-NothingAsked.ensures.takes

pub returns-in-Err-Text-clause-failed : goal.returns-in-Err-Text-clause-failed
returns-in-Err-Text-clause-failed g c = λ e.
    c.in-Err-Text.ensures.read (ap Err (c.in-Err-Text.field-0-is ∙ ap Text (same_text c.in-Err-Text.fault Read e)))

pub returns-in-Err-NothingAsked-clause-failed : goal.returns-in-Err-NothingAsked-clause-failed
returns-in-Err-NothingAsked-clause-failed g c = λ e. absurd cc
