use Rattle.std.proofs.Common.{All, ap, arith, length, refl, subst, sym, ◌∙◌}
use Rattle.std.proofs.lemmas.List.Elements.{All-nil}
use Rattle.lift_text.specs.LineReader.{text}
use Rattle.lift_text.proofs.ShowLemmas.{fault_behind}
use Rattle.log_rows.specs.Rows.{IsGood}
use Rattle.log_rows.proofs.RowLemmas.{log_found, more_so_far, no_log_found, none_so_far, so_far_went}
use Rattle.log_rows.proofs.rows.read_rows_into.Goals as goal

pub lines-init : goal.lines-init
lines-init g c =
    let b = c.args.building.now in
    let none = c.requires.none in
    record {
      same_source = refl;
      no_failure = c.requires.whole;
      so_far = none_so_far b (text g.S.Source.left c.args.lines.now) c.args.rows.now.items none;
      good = subst (All (IsGood b)) (sym none) (All-nil (IsGood b));
      few = let size = ap length none in omega (arith, size);
      numbered = omega arith;
      counted = omega arith;
    }

pub lines-preserved : goal.lines-preserved
lines-preserved g c =
    let left = g.S.Source.left in
    let new = c.take_next.new in
    let before = c.lines.invariant in
    let did = rw c.in-Ok-Row.field-0-is at c.in-Ok-Row.ensures in
    record {
      same_source = did.same_source ∙ before.same_source;
      no_failure = did.ok;
      so_far = more_so_far c.args.building.now (text left c.args.lines.now) (text left c.lines.lines)
          (text left new.lines) c.lines.rows.items new.rows.items before.so_far did.taken;
      good = did.grows.good before.good;
      few = omega (arith, before.few, did.grows.few);
      numbered = omega (arith, did.line, before.numbered);
      counted = omega (arith, before.counted, did.counted);
    }

pub returns-in-Ok-Log-clause-rows : goal.returns-in-Ok-Log-clause-rows
returns-in-Ok-Log-clause-rows g c =
    let left = g.S.Source.left in
    let new = c.take_next.new in
    let did = rw c.in-Ok-Log.field-0-is at c.in-Ok-Log.ensures in
    log_found c.args.building.now (text left c.args.lines.now) (text left c.lines.lines)
    (text left new.lines) c.lines.rows.items new.rows.items c.lines.invariant.so_far did.taken

pub returns-in-Ok-Log-clause-good : goal.returns-in-Ok-Log-clause-good
returns-in-Ok-Log-clause-good g c =
    let did = rw c.in-Ok-Log.field-0-is at c.in-Ok-Log.ensures in
    did.grows.good c.lines.invariant.good

pub returns-in-Ok-Log-clause-few : goal.returns-in-Ok-Log-clause-few
returns-in-Ok-Log-clause-few g c =
    let did = rw c.in-Ok-Log.field-0-is at c.in-Ok-Log.ensures in
    omega (arith, c.lines.invariant.few, did.grows.few, c.lines-test.true)

pub returns-in-Err-clause-told : goal.returns-in-Err-clause-told
returns-in-Err-clause-told g c =
    let left = g.S.Source.left in
    let new = c.take_next.new in
    no_log_found c.args.building.now (text left c.args.lines.now) (text left c.lines.lines)
    (text left new.lines) c.lines.rows.items new.rows.items c.in-Err.fault c.lines.invariant.so_far c.in-Err.ensures.taken

pub returns-in-Err-clause-shows : goal.returns-in-Err-clause-shows
returns-in-Err-clause-shows g c =
    let left = g.S.Source.left in
    let before = text left c.args.lines.now in
    let here = text left c.lines.lines in
    fault_behind before here c.in-Err.fault (left c.take_next.new.lines.source.now)
    (so_far_went c.args.building.now c.lines.rows.items before here c.lines.invariant.so_far) c.in-Err.ensures.shows
