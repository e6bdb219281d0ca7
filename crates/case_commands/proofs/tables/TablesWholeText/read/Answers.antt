use Rattle.std.proofs.Common.{Err, ap}
use Rattle.lift_text.specs.declared.faults.TextFault.TheVariants.{Read}
use Rattle.command_ends.proofs.RunLemmas.{same_text}
use Rattle.case_commands.proofs.tables.TablesWholeText.read.Goals as goal

pub returns-in-Err-clause-failed : goal.returns-in-Err-clause-failed
returns-in-Err-clause-failed g c = λ e. c.in-Err.ensures.read (ap Err (same_text c.in-Err.fault Read e))
