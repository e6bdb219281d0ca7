use Rattle.std.proofs.Common.{◌≡◌, ◌≤◌, ◌+◌, None}
use Rattle.lift_text.specs.LineReader.{text, line, failure}
use Rattle.lift_text.specs.Shows.{WentOn}
use Rattle.bank_text.proofs.LineLemmas.{RowsSoFar}
use Rattle.bank_text.proofs.row_lines.read_rows.Given as goal

-- what the lines so far say was brought to the banks that they name, and each was counted
abbrev pub invariant-lines : goal.invariant-lines
invariant-lines g l = record {
  same_source : l.lines.source.ghost_name ≡ l.initial.lines.source.ghost_name;
  no_failure : failure l.lines ≡ None;
  went : WentOn (text g.S.Source.left l.initial.lines) (text g.S.Source.left l.lines);
  so_far : RowsSoFar (text g.S.Source.left l.initial.lines) (text g.S.Source.left l.lines) l.initial.banks l.banks l.strays l.counter;
  few : l.strays ≤ l.counter;
  numbered : line l.lines ≡ line l.initial.lines + l.counter;
  counted : g.S.Source.faults l.initial.lines.source.now ≤ g.S.Source.faults l.lines.source.now;
}
