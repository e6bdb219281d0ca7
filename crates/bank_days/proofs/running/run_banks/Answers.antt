use Rattle.bank_days.proofs.BankLemmas.{logs-in-places}
use Rattle.bank_days.proofs.running.run_banks.Goals as goal

pub returns : goal.returns
returns g c = logs-in-places (g.P.Planner.right c.args.planner.now) c.args.banks.now c.run_all.result c.run_all.ensures.count c.run_all.ensures.right
