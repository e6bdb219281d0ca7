use Rattle.std.proofs.Common.{rules, refl, ap, length, arith}
use Rattle.std.proofs.lemmas.Result.{err_from_is_err_and}
use Rattle.lift_text.specs.LineReader.{text}
use Rattle.lift_text.proofs.ShowLemmas.{went_nowhere, went_further, fault_behind}
use Rattle.check_text.proofs.PieceLemmas.{piece_none, piece_more, piece_whole, piece_broken, piece_full}
use Rattle.check_text.proofs.reading.read_piece.Goals as goal

pub loop-count-init : goal.loop-count-init
loop-count-init g c =
    let left = g.S.Source.left in
    let none = ap length c.requires.empty in
    record {
      same_source = refl;
      went = went_nowhere (text left c.args.lines.now);
      gone = piece_none c.args.snapshot.now c.args.reader.now c.args.piece.now (text left c.args.lines.now) c.requires.empty;
      few = omega (arith, none);
      sound = c.requires.sound;
      whole = c.requires.whole;
      counted = omega arith;
    }

pub loop-count-preserved : goal.loop-count-preserved
loop-count-preserved g c =
    let left = g.S.Source.left in
    let before = c.loop-count.invariant in
    let read = rw c.if-is_whole.false at c.in_ok-is_whole.ensures in
    record {
      same_source = search rules;
      went = went_further (text left c.args.lines.now) (text left c.loop-count.lines) (text left c.read_twig.new.lines) before.went read.went;
      gone = piece_more c.args.snapshot.now c.args.reader.now c.loop-count.reader c.read_twig.new.reader c.loop-count.piece c.read_twig.new.piece
          (text left c.args.lines.now) (text left c.loop-count.lines) (text left c.read_twig.new.lines) before.gone read.reads;
      few = omega (arith, before.few, read.few);
      sound = read.sound;
      whole = read.ok;
      counted = omega (arith, before.counted, read.counted);
    }

pub returns-then-is_whole-clause-reads : goal.returns-then-is_whole-clause-reads
returns-then-is_whole-clause-reads g c =
    let left = g.S.Source.left in
    let read = rw c.if-is_whole.true at c.in_ok-is_whole.ensures in
    piece_whole c.args.snapshot.now c.args.reader.now c.loop-count.reader c.read_twig.new.reader c.loop-count.piece c.read_twig.new.piece
    (text left c.args.lines.now) (text left c.loop-count.lines) (text left c.read_twig.new.lines) c.loop-count.invariant.gone read.reads

pub returns-then-is_whole-clause-few : goal.returns-then-is_whole-clause-few
returns-then-is_whole-clause-few g c =
    let read = rw c.if-is_whole.true at c.in_ok-is_whole.ensures in
    omega (arith, c.loop-count.invariant.few, read.few)

pub returns-in_err-is_whole-clause-reads : goal.returns-in_err-is_whole-clause-reads
returns-in_err-is_whole-clause-reads g c =
    let left = g.S.Source.left in
    let same = err_from_is_err_and c.from_residual.result c.from_residual.ensures.1 in
    rw (same.1, same.2)
    (piece_broken c.args.snapshot.now c.args.reader.now c.loop-count.reader c.read_twig.new.reader c.loop-count.piece c.read_twig.new.piece
    c.in_err-is_whole.field-0.0
    (text left c.args.lines.now) (text left c.loop-count.lines) (text left c.read_twig.new.lines) c.loop-count.invariant.gone c.in_err-is_whole.ensures.reads)

pub returns-clause-reads : goal.returns-clause-reads
returns-clause-reads g c =
    let left = g.S.Source.left in
    piece_full c.args.snapshot.now c.args.reader.now c.loop-count.reader c.loop-count.piece (text left c.args.lines.now)
    (text left c.loop-count.lines) c.loop-count.invariant.gone

pub returns-then-is_whole-clause-went : goal.returns-then-is_whole-clause-went
returns-then-is_whole-clause-went g c =
    let left = g.S.Source.left in
    let read = rw c.if-is_whole.true at c.in_ok-is_whole.ensures in
    went_further (text left c.args.lines.now) (text left c.loop-count.lines) (text left c.read_twig.new.lines) c.loop-count.invariant.went read.went

pub returns-in_err-is_whole-clause-shows : goal.returns-in_err-is_whole-clause-shows
returns-in_err-is_whole-clause-shows g c =
    let left = g.S.Source.left in
    let now = c.read_twig.new.lines in
    let same = err_from_is_err_and c.from_residual.result c.from_residual.ensures.1 in
    rw (same.1, same.2)
    (fault_behind (text left c.args.lines.now) (text left c.loop-count.lines) c.in_err-is_whole.field-0.0
    (left now.source.now) c.loop-count.invariant.went c.in_err-is_whole.ensures.shows)
