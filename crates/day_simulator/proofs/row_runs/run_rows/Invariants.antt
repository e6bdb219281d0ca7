use Rattle.std.proofs.Common.{◌≡◌, ◌+◌, ◌≤◌, None}
use Rattle.std.specs.Prelude.{IsTrue}
use Rattle.search_model.specs.Days.{loses_none}
use Rattle.lift_text.specs.LineReader.{text, line, failure, has_ended}
use Rattle.day_laws.specs.Standing.{row_number}
use Rattle.day_simulator.proofs.StepLemmas.{SoFar}
use Rattle.day_simulator.proofs.row_runs.run_rows.Given as goal

-- the lines so far were done and written, and each was counted
abbrev pub invariant-lines : goal.invariant-lines
invariant-lines g l = record {
  same_source : l.lines.source.ghost_name ≡ l.initial.lines.source.ghost_name;
  unfailed : failure l.lines ≡ None;
  numbered : row_number l.day ≤ line l.lines + 1;
  lost_none : IsTrue (loses_none l.day);
  so_far : SoFar (g.P.Planner.right l.fn.planner) l.initial.day l.day (text g.S.Source.left l.initial.lines) (text g.S.Source.left l.lines)
      (has_ended l.lines) (g.K.Sink.taken l.initial.sink) (g.K.Sink.taken l.sink);
  counted_lines : line l.lines ≡ line l.initial.lines + l.counter;
  counted : g.S.Source.faults l.initial.lines.source.now ≤ g.S.Source.faults l.lines.source.now;
  counted_in_sink : g.K.Sink.faults l.initial.sink ≤ g.K.Sink.faults l.sink;
}
