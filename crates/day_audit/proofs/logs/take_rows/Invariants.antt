use Rattle.std.proofs.Common.{◌≡◌, ◌≤◌, ◌+◌, None, Ok, map, take}
use Rattle.search_model.specs.Days.{Day}
use Rattle.lift_text.specs.LineReader.{text, failure}
use Rattle.log_rows.specs.Rows.{said_of}
use Rattle.day_audit.specs.Progress.{AreRowsTaken, IsDayOf, next_number}
use Rattle.day_audit.proofs.logs.take_rows.Given as goal

abbrev pub invariant-loop-row : goal.invariant-loop-row
invariant-loop-row g l = record {
  whole : failure l.lines ≡ None;
  numbered : next_number l.progress ≡ next_number l.fn.progress + l.row-index;
  counted : g.S.Source.faults l.fn.lines.source.now ≤ g.S.Source.faults l.lines.source.now;
  same_building : l.progress.world.snapshot.building ≡ l.fn.progress.world.snapshot.building;
  taken : (day : Day) → IsDayOf l.fn.progress day
      → AreRowsTaken day (map said_of (take l.row-index l.rows)) (text g.S.Source.left l.fn.lines) (Ok tt) l.progress (text g.S.Source.left l.lines);
}
