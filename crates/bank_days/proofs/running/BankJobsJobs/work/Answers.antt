use Rattle.std.proofs.Common.{ap, arith, length}
use Rattle.bank_days.proofs.BankLemmas.{log-in-place}
use Rattle.bank_days.proofs.running.BankJobsJobs.work.Goals as goal

pub run_day-requires-clause-opening : goal.run_day-requires-clause-opening
run_day-requires-clause-opening g c = (c.args.self.now.are_runnable c.args.k _ c.requires.job).opening

pub run_day-requires-clause-few : goal.run_day-requires-clause-few
run_day-requires-clause-few g c =
    let few = (c.args.self.now.are_runnable c.args.k c.index-self-k.result c.requires.job).few in
    let same = ap length c.as_slice.ensures.value in
    omega (arith, few, same)

pub returns-clause-answer : goal.returns-clause-answer
returns-clause-answer g c =
    log-in-place (g.P.Planner.right c.args.self.now.planner.now) c.args.self.now.banks.now c.args.k c.index-self-k.result c.as_slice.result.now
    c.run_day.result c.as_slice.ensures.value c.run_day.ensures
