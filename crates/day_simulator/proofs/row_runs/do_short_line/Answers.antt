use Rattle.std.proofs.Common.{subst, List, ℕ}
use Rattle.day_text.specs.Records.{row_of_line}
use Rattle.day_simulator.specs.Rows.{IsRowDone}
use Rattle.day_simulator.proofs.RowRunLemmas.{short-row-done, some-bytes}
use Rattle.day_simulator.proofs.row_runs.do_short_line.Goals as goal

pub returns-in_ok-row-clause-done : goal.returns-in_ok-row-clause-done
returns-in_ok-row-clause-done g c =
    let right = g.P.Planner.right c.args.planner.now in
    let did = subst (λ (before : List ℕ).
    IsRowDone right c.args.day.now (row_of_line c.args.line.now) c.row.new.self before c.row.new.out.items) c.requires.empty
    c.in_ok-row.ensures.row in
    let full = some-bytes c.args.line.now c.is_empty.result c.is_empty.ensures c.if-not-is_empty.true in
    short-row-done right c.args.day.now c.row.new.self c.args.line.now c.row.new.out.items full did
