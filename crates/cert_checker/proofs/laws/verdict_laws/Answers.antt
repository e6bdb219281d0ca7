use Rattle.cert_checker.proofs.VerdictLaws.{verdict_holds, sufficient_holds, yes_holds}
use Rattle.cert_checker.proofs.laws.verdict_laws.Goals as goal

pub returns-clause-exact : goal.returns-clause-exact
returns-clause-exact c = verdict_holds

pub returns-clause-sufficient : goal.returns-clause-sufficient
returns-clause-sufficient c = sufficient_holds

pub returns-clause-yes : goal.returns-clause-yes
returns-clause-yes c = yes_holds
