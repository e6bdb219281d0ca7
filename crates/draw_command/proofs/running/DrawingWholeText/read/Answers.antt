use Rattle.std.proofs.Common.{Err, ap}
use Rattle.lift_text.specs.declared.faults.TextFault.TheVariants.{Read}
use Rattle.command_ends.proofs.RunLemmas.{same_text}
use Rattle.draw_command.proofs.running.DrawingWholeText.read.Goals as goal

pub returns-in-Ok-clause-right : goal.returns-in-Ok-clause-right
returns-in-Ok-clause-right g c = c.in-Ok.ensures.few

pub returns-in-Ok-clause-says : goal.returns-in-Ok-clause-says
returns-in-Ok-clause-says g c = c.in-Ok.ensures.scene.reads

pub returns-in-Ok-clause-takes : goal.returns-in-Ok-clause-takes
returns-in-Ok-clause-takes g c = c.in-Ok.ensures.scene.takes

pub returns-in-Err-clause-refused : goal.returns-in-Err-clause-refused
returns-in-Err-clause-refused g c = c.in-Err.ensures.scene.refuses

pub returns-in-Err-clause-takes : goal.returns-in-Err-clause-takes
returns-in-Err-clause-takes g c = c.in-Err.ensures.scene.takes

pub returns-in-Err-clause-failed : goal.returns-in-Err-clause-failed
returns-in-Err-clause-failed g c = λ e. c.in-Err.ensures.read (ap Err (same_text c.in-Err.fault Read e))
