use Rattle.std.proofs.Common.{Err, None, Ok, ◌+◌, get_or, ◌∙◌, refl, arith}
use Rattle.lift_text.specs.LineReader.{text}
use Rattle.log_rows.specs.Rows.{said_of}
use Rattle.day_audit.proofs.ProgressLemmas.{none_taken, row_building, row_numbered, rows_all, rows_more, rows_short}
use Rattle.day_audit.proofs.logs.take_rows.Goals as goal

pub loop-row-init : goal.loop-row-init
loop-row-init g c = record {
  whole = c.requires.whole;
  numbered = omega arith;
  same_building = refl;
  counted = omega arith;
  taken = λ day at. none_taken day (text g.S.Source.left c.args.lines.now) c.args.progress.now at;
}

-- the day at which the audit stands: the end of what was taken
pub take_row-requires-clause-day : goal.take_row-requires-clause-day
take_row-requires-clause-day g c =
    let so_far = c.loop-row.invariant.taken c.requires.day.0 c.requires.day.1 in
    (so_far.0, so_far.1)

pub loop-row-preserved : goal.loop-row-preserved
loop-row-preserved g c =
    let left = g.S.Source.left in
    let iv = c.loop-row.invariant in
    let i = c.loop-row.row-index in
    let so_far = iv.taken c.requires.day.0 c.requires.day.1 in
    let here = so_far.0 in
    let new = c.take_row.new.progress in
    let said = said_of (get_or c.args.rows.now i None) in
    let row = c.in-Ok.ensures.taken here so_far.1 in
    record {
      counted = omega (arith, iv.counted, c.in-Ok.ensures.counted);
      whole = c.in-Ok.ensures.ok;
      numbered = let more = row_numbered here said row.0 c.loop-row.progress new so_far.1 row.1 in omega (arith, more, iv.numbered);
      same_building = row_building here said row.0 c.loop-row.progress new so_far.1 row.1 ∙ iv.same_building;
      taken = λ day at.
          rows_more day c.args.rows.now i None (text left c.args.lines.now) (text left c.loop-row.lines)
          (text left c.take_row.new.lines) c.loop-row.progress c.take_row.new.progress (Ok tt) c.loop-row-test.true (iv.taken day at) c.in-Ok.ensures.taken;
    }

pub returns-in-Err-clause-taken : goal.returns-in-Err-clause-taken
returns-in-Err-clause-taken g c = λ day at.
    (let left = g.S.Source.left in
    let iv = c.loop-row.invariant in
    rows_short day c.args.rows.now (c.loop-row.row-index + 1) (text left c.args.lines.now)
    (text left c.take_row.new.lines) c.take_row.new.progress c.take_row.new.progress c.in-Err.finding
    (rows_more day c.args.rows.now c.loop-row.row-index None (text left c.args.lines.now) (text left c.loop-row.lines)
    (text left c.take_row.new.lines) c.loop-row.progress c.take_row.new.progress (Err c.in-Err.finding) c.loop-row-test.true
    (iv.taken day at) c.in-Err.ensures.taken))

pub returns-clause-taken : goal.returns-clause-taken
returns-clause-taken g c = λ day at.
    rows_all day c.args.rows.now c.loop-row.row-index (text g.S.Source.left c.args.lines.now) (text g.S.Source.left c.loop-row.lines) c.loop-row.progress
    (omega arith) (c.loop-row.invariant.taken day at)
