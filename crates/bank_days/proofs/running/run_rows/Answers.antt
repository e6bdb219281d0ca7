use Rattle.std.proofs.Common.{List, arith, subst}
use Rattle.std.proofs.lemmas.List.{take_all}
use Rattle.bank_text.specs.declared.banks.BankRow.{BankRow}
use Rattle.bank_days.specs.Banks.{AreRowsAppended}
use Rattle.bank_days.proofs.RowLemmas.{none-appended, row-appended}
use Rattle.bank_days.proofs.running.run_rows.Goals as goal

pub loop-row-init : goal.loop-row-init
loop-row-init g c = record {
  so_far = none-appended (g.P.Planner.right c.args.planner.now) c.args.day.now c.args.log.now.items;
  numbered = omega arith;
  lost_none = c.requires.none_lost;
}

pub loop-row-preserved : goal.loop-row-preserved
loop-row-preserved g c =
    let before = c.loop-row.invariant in
    let did = c.in_ok-run_row.ensures in
    record {
      so_far = row-appended
          (g.P.Planner.right c.args.planner.now) c.args.day.now c.loop-row.day c.run_row.new.day c.args.rows.now c.loop-row.row-index c.row-item.result
          c.args.log.now.items c.loop-row.log.items c.run_row.new.log.items c.loop-row-test.true c.row-item.is before.so_far did.done;
      numbered = omega (arith, before.numbered, did.number);
      lost_none = did.none_lost;
    }

pub returns-clause-done : goal.returns-clause-done
returns-clause-done g c =
    let past = c.loop-row-test.false in
    subst (λ (rows : List BankRow).
    AreRowsAppended (g.P.Planner.right c.args.planner.now) c.args.day.now rows c.loop-row.day c.args.log.now.items c.loop-row.log.items)
    (take_all c.loop-row.row-index c.args.rows.now (omega (arith, past))) c.loop-row.invariant.so_far
