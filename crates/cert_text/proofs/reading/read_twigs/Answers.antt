use Rattle.std.proofs.Common.{rules, refl, arith}
use Rattle.std.proofs.lemmas.Result.{err_from_is_err_and}
use Rattle.lift_text.specs.LineReader.{text}
use Rattle.lift_text.proofs.ShowLemmas.{went_nowhere, went_further, fault_behind}
use Rattle.cert_text.proofs.LoopLemmas.{gone_on, tells_whole, tells_fault}
use Rattle.cert_text.proofs.reading.read_twigs.Goals as goal

pub loop-init : goal.loop-init
loop-init g c = record {
  same_source = refl;
  went = went_nowhere (text g.S.Source.left c.args.lines.now);
  gone = λ first h. h;
  sound = c.requires.sound;
  whole = c.requires.whole;
  counted = omega arith;
}

pub loop-preserved : goal.loop-preserved
loop-preserved g c =
    let left = g.S.Source.left in
    let before = c.loop.invariant in
    let read = rw c.if-is_whole.false at c.in_ok-is_whole.ensures in
    record {
      same_source = search rules;
      went = went_further (text left c.args.lines.now) (text left c.loop.lines) (text left c.read_twig.new.lines) before.went read.went;
      gone = gone_on c.args.snapshot.now c.args.reader.now c.loop.reader c.read_twig.new.reader c.args.tree.now c.loop.tree c.read_twig.new.tree
          (text left c.args.lines.now) (text left c.loop.lines) (text left c.read_twig.new.lines) before.gone read.adds;
      sound = read.sound;
      whole = read.ok;
      counted = omega (arith, before.counted, read.counted);
    }

pub returns-then-is_whole-clause-tells : goal.returns-then-is_whole-clause-tells
returns-then-is_whole-clause-tells g c =
    let left = g.S.Source.left in
    let read = rw c.if-is_whole.true at c.in_ok-is_whole.ensures in
    tells_whole c.args.snapshot.now c.args.reader.now c.loop.reader c.read_twig.new.reader c.args.tree.now c.loop.tree c.read_twig.new.tree
    (text left c.args.lines.now) (text left c.loop.lines) (text left c.read_twig.new.lines) c.loop.invariant.gone read.adds

pub returns-in_err-is_whole-clause-tells : goal.returns-in_err-is_whole-clause-tells
returns-in_err-is_whole-clause-tells g c =
    let left = g.S.Source.left in
    let same = err_from_is_err_and c.from_residual.result c.from_residual.ensures.1 in
    rw (same.1, same.2)
    (tells_fault c.args.snapshot.now c.args.reader.now c.loop.reader c.read_twig.new.reader c.args.tree.now c.loop.tree c.read_twig.new.tree
    c.in_err-is_whole.field-0.0
    (text left c.args.lines.now) (text left c.loop.lines) (text left c.read_twig.new.lines) c.loop.invariant.gone c.in_err-is_whole.ensures.adds)

pub returns-clause-tells : goal.returns-clause-tells
returns-clause-tells g c = λ first h. tt

pub returns-then-is_whole-clause-went : goal.returns-then-is_whole-clause-went
returns-then-is_whole-clause-went g c =
    let left = g.S.Source.left in
    let read = rw c.if-is_whole.true at c.in_ok-is_whole.ensures in
    went_further (text left c.args.lines.now) (text left c.loop.lines) (text left c.read_twig.new.lines) c.loop.invariant.went read.went

pub returns-in_err-is_whole-clause-shows : goal.returns-in_err-is_whole-clause-shows
returns-in_err-is_whole-clause-shows g c =
    let left = g.S.Source.left in
    let now = c.read_twig.new.lines in
    let same = err_from_is_err_and c.from_residual.result c.from_residual.ensures.1 in
    rw (same.1, same.2)
    (fault_behind (text left c.args.lines.now) (text left c.loop.lines) c.in_err-is_whole.field-0.0
    (left now.source.now) c.loop.invariant.went c.in_err-is_whole.ensures.shows)
