use Rattle.std.proofs.Common.{◌≡◌, ◌+◌, take}
use Rattle.std.specs.Prelude.{IsTrue}
use Rattle.search_model.specs.Days.{loses_none}
use Rattle.day_laws.specs.Standing.{row_number}
use Rattle.bank_days.specs.Banks.{AreRowsAppended}
use Rattle.bank_days.proofs.running.run_rows.Given as goal

-- the rows so far were done, and numbered
abbrev pub invariant-loop-row : goal.invariant-loop-row
invariant-loop-row g l = record {
  so_far : AreRowsAppended (g.P.Planner.right l.planner) l.fn.day (take l.row-index l.rows) l.day l.fn.log.items l.log.items;
  numbered : row_number l.day ≡ row_number l.fn.day + l.row-index;
  lost_none : IsTrue (loses_none l.day);
}
