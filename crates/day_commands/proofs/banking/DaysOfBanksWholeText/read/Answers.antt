use Rattle.std.proofs.Common.{Err, ap, ◌∙◌, refl, subst}
use Rattle.lift_text.specs.LineReader.{text}
use Rattle.lift_text.specs.declared.faults.TextFault.TheVariants.{Read}
use Rattle.bank_text.specs.declared.faults.BankFault.{BankFault}
use Rattle.bank_text.specs.declared.faults.BankFault.TheVariants.{Text}
use Rattle.bank_text.specs.Banks.{views_of}
use Rattle.bank_text.specs.Taken.{TakesInputs}
use Rattle.command_ends.proofs.RunLemmas.{same_text}
use Rattle.day_commands.proofs.banking.DaysOfBanksWholeText.read.Goals as goal

pub returns-in-Ok-clause-says : goal.returns-in-Ok-clause-says
returns-in-Ok-clause-says g c = ((views_of c.in-Ok.banks.banks.items, c.in-Ok.banks.strays), (refl, refl), c.in-Ok.ensures.banks)

pub returns-in-Ok-clause-takes : goal.returns-in-Ok-clause-takes
returns-in-Ok-clause-takes g c = λ said. c.in-Ok.ensures.takes said.0 said.1

pub returns-in-Err-Text-clause-takes : goal.returns-in-Err-Text-clause-takes
returns-in-Err-Text-clause-takes g c = λ said.
    (subst (λ (f : BankFault). TakesInputs (text g.S.Source.left c.args.lines.now) (Err f)) c.in-Err-Text.field-0-is c.in-Err-Text.ensures.takes) said.0 said.1

pub returns-in-Err-UsedId-clause-takes : goal.returns-in-Err-UsedId-clause-takes
returns-in-Err-UsedId-clause-takes g c = λ said.
    (subst (λ (f : BankFault). TakesInputs (text g.S.Source.left c.args.lines.now) (Err f)) c.in-Err-UsedId.field-0-is c.in-Err-UsedId.ensures.takes) said.0
    said.1

pub returns-in-Err-TooMany-clause-takes : goal.returns-in-Err-TooMany-clause-takes
returns-in-Err-TooMany-clause-takes g c = λ said.
    (subst (λ (f : BankFault). TakesInputs (text g.S.Source.left c.args.lines.now) (Err f)) c.in-Err-TooMany.field-0-is c.in-Err-TooMany.ensures.takes) said.0
    said.1

pub returns-in-Err-Text-clause-failed : goal.returns-in-Err-Text-clause-failed
returns-in-Err-Text-clause-failed g c = λ e.
    c.in-Err-Text.ensures.read (ap Err (c.in-Err-Text.field-0-is ∙ ap Text (same_text c.in-Err-Text.fault Read e)))

pub returns-in-Err-UsedId-clause-failed : goal.returns-in-Err-UsedId-clause-failed
returns-in-Err-UsedId-clause-failed g c = λ e. absurd cc

pub returns-in-Err-TooMany-clause-failed : goal.returns-in-Err-TooMany-clause-failed
returns-in-Err-TooMany-clause-failed g c = λ e. absurd cc
