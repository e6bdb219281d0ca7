use Rattle.day_audit.proofs.InputOnce.{bad_line_told, one_answer}
use Rattle.day_audit.proofs.LogOnce.{one_run}
use Rattle.day_audit.proofs.laws.answer_laws.Goals as goal

pub returns-clause-one : goal.returns-clause-one
returns-clause-one c = one_answer

pub returns-clause-bad : goal.returns-clause-bad
returns-clause-bad c = bad_line_told

pub returns-clause-run : goal.returns-clause-run
returns-clause-run c = one_run
