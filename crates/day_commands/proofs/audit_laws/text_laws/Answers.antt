use Rattle.day_commands.proofs.OneText.{one_end, one_text}
use Rattle.day_commands.proofs.audit_laws.text_laws.Goals as goal

pub returns-clause-one : goal.returns-clause-one
returns-clause-one c = one_text

pub returns-clause-ends : goal.returns-clause-ends
returns-clause-ends c = one_end
