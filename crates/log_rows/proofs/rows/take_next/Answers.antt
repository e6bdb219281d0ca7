use Rattle.std.proofs.Common.{ℕ, ◌+◌, List, arith, subst, sym}
use Rattle.lift_text.specs.LineReader.{line, raw, text}
use Rattle.lift_text.specs.Shows.{ShowsEnd}
use Rattle.day_text.proofs.HeaderReadLemmas.{number_of}
use Rattle.log_rows.specs.Rows.{IsLineJudged}
use Rattle.log_rows.proofs.RowLemmas.{added_shows, end_taken, fault_taken, judged_shows, line_taken, long_grows_after, long_taken}
use Rattle.log_rows.proofs.rows.take_next.Goals as goal

pub returns-in-Ok-Line-clause-taken : goal.returns-in-Ok-Line-clause-taken
returns-in-Ok-Line-clause-taken g c =
    let left = g.S.Source.left in
    let read = rw c.in-Ok-Line.field-0-is at c.in-Ok-Line.ensures in
    let new = c.raw_line.new.self in
    let b = c.args.building.now in
    let old = c.args.rows.now.items in
    let rows = c.judge_line.new.rows.items in
    let judged = subst (λ (l : List ℕ). IsLineJudged b l old rows c.judge_line.result) c.raw.ensures c.judge_line.ensures.judged in
    line_taken b old rows (text left c.args.lines.now) (text left new) (raw new) c.judge_line.result (read.next c.requires.whole) judged

pub returns-in-Ok-Long-clause-taken : goal.returns-in-Ok-Long-clause-taken
returns-in-Ok-Long-clause-taken g c =
    let left = g.S.Source.left in
    let read = rw c.in-Ok-Long.field-0-is at c.in-Ok-Long.ensures in
    let new = c.raw_line.new.self in
    long_taken c.args.building.now c.args.rows.now.items c.add_long_row.new.rows.items (text left c.args.lines.now) (text left new)
    (raw new) c.add_long_row.result c.after_added.result (read.next c.requires.whole) c.after_added.ensures c.add_long_row.ensures

pub returns-in-Ok-Long-clause-grows : goal.returns-in-Ok-Long-clause-grows
returns-in-Ok-Long-clause-grows g c =
    long_grows_after c.args.building.now c.args.rows.now.items c.add_long_row.new.rows.items c.add_long_row.result c.after_added.result c.after_added.ensures
    c.add_long_row.ensures

pub returns-in-Ok-End-clause-taken : goal.returns-in-Ok-End-clause-taken
returns-in-Ok-End-clause-taken g c =
    let left = g.S.Source.left in
    let read = rw c.in-Ok-End.field-0-is at c.in-Ok-End.ensures in
    let old = c.args.lines.now in
    let new = c.raw_line.new.self in
    let rows = c.args.rows.now.items in
    end_taken c.args.building.now rows rows (text left old) (text left new) (raw new) (line old) _ (read.next c.requires.whole)
    (number_of old.page (left old.source.now)) (omega (arith, c.line.ensures.value, read.line))

pub returns-in-Err-clause-taken : goal.returns-in-Err-clause-taken
returns-in-Err-clause-taken g c =
    let left = g.S.Source.left in
    let new = c.raw_line.new.self in
    let rows = c.args.rows.now.items in
    fault_taken c.args.building.now rows rows (text left c.args.lines.now) (text left new) (raw new) c.in-Err.fault (c.in-Err.ensures.next c.requires.whole)

pub returns-in-Ok-Line-clause-shows : goal.returns-in-Ok-Line-clause-shows
returns-in-Ok-Line-clause-shows g c =
    let left = g.S.Source.left in
    judged_shows c.args.building.now c.raw.result.now c.args.rows.now.items c.judge_line.new.rows.items c.judge_line.result (text left c.args.lines.now)
    (left c.raw_line.new.self.source.now) c.judge_line.ensures.judged

pub returns-in-Ok-Long-clause-shows : goal.returns-in-Ok-Long-clause-shows
returns-in-Ok-Long-clause-shows g c =
    let left = g.S.Source.left in
    added_shows c.add_long_row.result c.after_added.result (text left c.args.lines.now) (left c.raw_line.new.self.source.now) c.after_added.ensures

pub returns-in-Ok-End-clause-shows : goal.returns-in-Ok-End-clause-shows
returns-in-Ok-End-clause-shows g c =
    let left = g.S.Source.left in
    let read = rw c.in-Ok-End.field-0-is at c.in-Ok-End.ensures in
    let before = text left c.args.lines.now in
    let behind = left c.raw_line.new.self.source.now in
    subst (λ (n : ℕ). ShowsEnd before (n + 1) behind) (sym c.line.ensures.value) (read.shows c.requires.whole)
