use Rattle.bank_days.proofs.RowLemmas.{fields-done, other-done}
use Rattle.bank_days.proofs.running.run_row.Goals as goal

pub returns-in-Fields-clause-done : goal.returns-in-Fields-clause-done
returns-in-Fields-clause-done g c =
    fields-done (g.P.Planner.right c.args.planner.now) c.args.day.now c.row.new.self c.args.row.now c.in-Fields.line c.as_slice.result.now
    c.args.log.now.items c.row.new.out.items c.row.result c.in-Fields.is c.as_slice.ensures.value c.row.ensures.row

pub returns-in-Other-clause-done : goal.returns-in-Other-clause-done
returns-in-Other-clause-done g c =
    other-done (g.P.Planner.right c.args.planner.now) c.args.day.now c.long_row.new.self c.args.row.now c.args.log.now.items c.long_row.new.out.items
    c.long_row.result c.in-Other.is c.long_row.ensures.refused
