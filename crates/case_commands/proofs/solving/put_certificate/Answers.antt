use Rattle.case_commands.proofs.SaidYes.{certificate_when}
use Rattle.case_commands.proofs.solving.put_certificate.Goals as goal

pub returns-then-options : goal.returns-then-options
returns-then-options c = certificate_when c.args.options c.args.snapshot.now c.args.tree.now c.args.text.now.items c.if-options.true
