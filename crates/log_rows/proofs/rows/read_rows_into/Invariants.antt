use Rattle.std.proofs.Common.{◌≡◌, ◌≤◌, ◌+◌, None, All, length}
use Rattle.lift_text.specs.LineReader.{text, line, failure}
use Rattle.log_rows.specs.Rows.{IsGood}
use Rattle.log_rows.proofs.RowLemmas.{RowsSoFar}
use Rattle.log_rows.proofs.rows.read_rows_into.Given as goal

-- the rows of the lines so far were added, of which none begins the log
abbrev pub invariant-lines : goal.invariant-lines
invariant-lines g l = record {
  same_source : l.lines.source.ghost_name ≡ l.initial.lines.source.ghost_name;
  no_failure : failure l.lines ≡ None;
  so_far : RowsSoFar l.building l.rows.items (text g.S.Source.left l.initial.lines) (text g.S.Source.left l.lines);
  good : All (IsGood l.building) l.rows.items;
  few : length l.rows.items ≤ l.counter;
  numbered : line l.lines ≡ line l.initial.lines + l.counter;
  counted : g.S.Source.faults l.initial.lines.source.now ≤ g.S.Source.faults l.lines.source.now;
}
