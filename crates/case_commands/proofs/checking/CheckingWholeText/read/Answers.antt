use Rattle.std.proofs.Common.{Err, ap}
use Rattle.lift_text.specs.LineReader.{text}
use Rattle.lift_text.specs.declared.faults.TextFault.TheVariants.{Read}
use Rattle.command_ends.proofs.RunLemmas.{same_text}
use Rattle.case_commands.proofs.Verdicts.{read_as, refused_as, takes_checked, takes_fault}
use Rattle.case_commands.proofs.checking.CheckingWholeText.read.Goals as goal

pub returns-in-Ok-clause-right : goal.returns-in-Ok-clause-right
returns-in-Ok-clause-right g c = (c.in-Ok.ensures.checked.accepted, c.in-Ok.ensures.told)

pub returns-in-Ok-clause-says : goal.returns-in-Ok-clause-says
returns-in-Ok-clause-says g c = read_as (text g.S.Source.left c.args.lines.now) c.in-Ok.checked c.in-Ok.ensures.checked

pub returns-in-Ok-clause-takes : goal.returns-in-Ok-clause-takes
returns-in-Ok-clause-takes g c = takes_checked (text g.S.Source.left c.args.lines.now) c.in-Ok.checked c.in-Ok.ensures.checked c.in-Ok.ensures.takes

pub returns-in-Err-clause-refused : goal.returns-in-Err-clause-refused
returns-in-Err-clause-refused g c = refused_as (text g.S.Source.left c.args.lines.now) c.in-Err.fault c.in-Err.ensures.refused

pub returns-in-Err-clause-takes : goal.returns-in-Err-clause-takes
returns-in-Err-clause-takes g c = takes_fault (text g.S.Source.left c.args.lines.now) c.in-Err.fault c.in-Err.ensures.takes

pub returns-in-Err-clause-failed : goal.returns-in-Err-clause-failed
returns-in-Err-clause-failed g c = λ e. c.in-Err.ensures.read (ap Err (same_text c.in-Err.fault Read e))
