use Rattle.std.proofs.Common.{rules, ◌+◌, ◌*◌, ◌≡◌, ◌<◌, ◌^◌, arith}
use Rattle.std.proofs.lemmas.Result.{err_from_is_err_and}
use Rattle.lift_text.specs.LineReader.{text}
use Rattle.lift_text.proofs.ShowLemmas.{went_further, fault_behind}
use Rattle.check_text.proofs.PieceLemmas.{tree_none, tree_more, tree_whole, tree_broken, tree_handed}
use Rattle.check_text.proofs.reading.check_tree.Goals as goal

pub loop-count-init : goal.loop-count-init
loop-count-init g c =
    let left = g.S.Source.left in
    let s = c.args.snapshot.now in
    record {
      same_source = c.begin.ensures.same_source;
      went = c.in_ok-reader.ensures.went c.requires.whole;
      stands = tree_none s (text left c.args.lines.now) c.in_ok-reader.reader c.args.checker.now (text left c.begin.new.lines)
          (c.in_ok-reader.ensures.begun c.requires.whole s);
      own = c.requires.own;
      sound = c.in_ok-reader.ensures.sound;
      whole = c.in_ok-reader.ensures.ok;
      counted = c.begin.ensures.counted;
    }

pub check_piece-requires-clause-begun : goal.check_piece-requires-clause-begun
check_piece-requires-clause-begun g c =
    let left = g.S.Source.left in
    tree_handed c.args.snapshot.now (text left c.args.lines.now) c.args.checker.now c.loop-count.reader c.loop-count.checker (text left c.loop-count.lines)
    (256 * c.loop-count.count) c.requires.seen c.loop-count.invariant.stands

pub loop-count-preserved : goal.loop-count-preserved
loop-count-preserved g c =
    let left = g.S.Source.left in
    let before = c.loop-count.invariant in
    let read = rw c.if-is_whole.false at c.in_ok-is_whole.ensures in
    let next : 256 * (c.loop-count.count + 1) ≡ 256 * c.loop-count.count + 256 = omega arith in
    let room : 256 * c.loop-count.count + 256 < 2 ^ 32 = omega arith in
    record {
      same_source = search rules;
      went = went_further (text left c.args.lines.now) (text left c.loop-count.lines) (text left c.check_piece.new.lines) before.went read.went;
      stands = tree_more c.args.snapshot.now
          (text left c.args.lines.now) c.args.checker.now c.loop-count.reader c.check_piece.new.reader c.loop-count.checker c.check_piece.new.checker
          (text left c.loop-count.lines) (text left c.check_piece.new.lines) (256 * c.loop-count.count)
          (256 * (c.loop-count.count + 1)) next room before.stands read.feeds;
      own = read.own;
      sound = read.sound;
      whole = read.ok;
      counted = omega (arith, before.counted, read.counted);
    }

pub returns-then-is_whole-clause-feeds : goal.returns-then-is_whole-clause-feeds
returns-then-is_whole-clause-feeds g c =
    let left = g.S.Source.left in
    let read = rw c.if-is_whole.true at c.in_ok-is_whole.ensures in
    let room : 256 * c.loop-count.count + 256 < 2 ^ 32 = omega arith in
    tree_whole c.args.snapshot.now
    (text left c.args.lines.now) c.args.checker.now c.loop-count.reader c.check_piece.new.reader c.loop-count.checker c.check_piece.new.checker
    (text left c.loop-count.lines) (text left c.check_piece.new.lines) (256 * c.loop-count.count) room c.loop-count.invariant.stands read.feeds

pub returns-in_err-is_whole-clause-feeds : goal.returns-in_err-is_whole-clause-feeds
returns-in_err-is_whole-clause-feeds g c =
    let left = g.S.Source.left in
    let same = err_from_is_err_and c.from_residual-in_err-is_whole.result c.from_residual-in_err-is_whole.ensures.1 in
    let room : 256 * c.loop-count.count + 256 < 2 ^ 32 = omega arith in
    rw (same.1, same.2)
    (tree_broken c.args.snapshot.now
    (text left c.args.lines.now) c.args.checker.now c.loop-count.reader c.check_piece.new.reader c.loop-count.checker c.check_piece.new.checker
    c.in_err-is_whole.field-0.0
    (text left c.loop-count.lines) (text left c.check_piece.new.lines)
    (256 * c.loop-count.count) room c.loop-count.invariant.stands c.in_err-is_whole.ensures.feeds)

pub returns-in_err-reader-clause-feeds : goal.returns-in_err-reader-clause-feeds
returns-in_err-reader-clause-feeds g c = λ claims seen.
    (let same = err_from_is_err_and c.from_residual.result c.from_residual.ensures.1 in
    rw (same.1, same.2) (c.in_err-reader.ensures.refused c.requires.whole c.args.snapshot.now))

pub returns-then-is_whole-clause-went : goal.returns-then-is_whole-clause-went
returns-then-is_whole-clause-went g c =
    let left = g.S.Source.left in
    let read = rw c.if-is_whole.true at c.in_ok-is_whole.ensures in
    went_further (text left c.args.lines.now) (text left c.loop-count.lines) (text left c.check_piece.new.lines) c.loop-count.invariant.went read.went

pub returns-in_err-is_whole-clause-shows : goal.returns-in_err-is_whole-clause-shows
returns-in_err-is_whole-clause-shows g c =
    let left = g.S.Source.left in
    let now = c.check_piece.new.lines in
    let same = err_from_is_err_and c.from_residual-in_err-is_whole.result c.from_residual-in_err-is_whole.ensures.1 in
    rw (same.1, same.2)
    (fault_behind (text left c.args.lines.now) (text left c.loop-count.lines) c.in_err-is_whole.field-0.0
    (left now.source.now) c.loop-count.invariant.went c.in_err-is_whole.ensures.shows)

pub returns-in_err-reader-clause-shows : goal.returns-in_err-reader-clause-shows
returns-in_err-reader-clause-shows g c =
    let same = err_from_is_err_and c.from_residual.result c.from_residual.ensures.1 in
    rw (same.1, same.2) (c.in_err-reader.ensures.shows c.requires.whole)
