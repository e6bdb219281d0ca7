use Rattle.std.proofs.Common.{arith}
use Rattle.day_simulator.proofs.ReadLemmas.{long-line-done}
use Rattle.day_simulator.proofs.row_runs.do_line.Goals as goal

pub returns-then-line-gt-LINE_LIMIT-clause-done : goal.returns-then-line-gt-LINE_LIMIT-clause-done
returns-then-line-gt-LINE_LIMIT-clause-done g c =
    let did = c.do_long_line.ensures in
    long-line-done (g.P.Planner.right c.args.planner.now) c.args.day.now c.do_long_line.new.day c.do_long_line.new.out.items c.args.line.now
    c.do_long_line.result (omega (arith, c.if-line-gt-LINE_LIMIT.true)) did.day did.log
