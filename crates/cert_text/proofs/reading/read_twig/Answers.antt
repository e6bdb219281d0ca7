use Rattle.std.proofs.lemmas.Result.{err_from_is_err_and}
use Rattle.lift_text.specs.LineReader.{text}
use Rattle.cert_text.proofs.LoopLemmas.{adds_twig, adds_none, adds_fault, adds_memory}
use Rattle.cert_text.proofs.reading.read_twig.Goals as goal

pub returns-in_err-twig-clause-adds : goal.returns-in_err-twig-clause-adds
returns-in_err-twig-clause-adds g c =
    let left = g.S.Source.left in
    let same = err_from_is_err_and c.from_residual.result c.from_residual.ensures.1 in
    rw (same.1, same.2)
    (adds_fault c.args.snapshot.now c.args.reader.now c.next.new.self c.args.tree.now c.args.tree.now c.in_err-twig.field-0.0 (text left c.args.lines.now)
    (text left c.next.new.lines) (c.in_err-twig.ensures.twig c.requires.whole))

pub returns-in_err-push-in-Some-clause-adds : goal.returns-in_err-push-in-Some-clause-adds
returns-in_err-push-in-Some-clause-adds g c =
    let left = g.S.Source.left in
    let same = err_from_is_err_and c.from_residual-in_err-push-in-Some.result c.from_residual-in_err-push-in-Some.ensures.1 in
    rw same.1
    (adds_memory c.args.snapshot.now c.args.reader.now c.next.new.self c.args.tree.now c.push.new.self same.0 (text left c.args.lines.now)
    (text left c.next.new.lines) same.2)

pub returns-in_ok-push-in-Some-clause-adds : goal.returns-in_ok-push-in-Some-clause-adds
returns-in_ok-push-in-Some-clause-adds g c =
    let left = g.S.Source.left in
    let told = rw c.in-Some.is at c.in_ok-twig.ensures in
    adds_twig c.args.snapshot.now c.args.reader.now c.next.new.self c.args.tree.now c.push.new.self c.in-Some.twig (text left c.args.lines.now)
    (text left c.next.new.lines) (told.twig c.requires.whole) c.in_ok-push-in-Some.ensures.ok

pub returns-in-None-clause-adds : goal.returns-in-None-clause-adds
returns-in-None-clause-adds g c =
    let left = g.S.Source.left in
    let told = rw c.in-None.is at c.in_ok-twig.ensures in
    adds_none c.args.snapshot.now c.args.reader.now c.next.new.self c.args.tree.now (text left c.args.lines.now) (text left c.next.new.lines)
    (told.twig c.requires.whole)

pub returns-in_err-twig-clause-shows : goal.returns-in_err-twig-clause-shows
returns-in_err-twig-clause-shows g c =
    let same = err_from_is_err_and c.from_residual.result c.from_residual.ensures.1 in
    rw (same.1, same.2) (c.in_err-twig.ensures.shows c.requires.whole c.requires.sound)

pub returns-in_err-push-in-Some-clause-shows : goal.returns-in_err-push-in-Some-clause-shows
returns-in_err-push-in-Some-clause-shows g c =
    let same = err_from_is_err_and c.from_residual-in_err-push-in-Some.result c.from_residual-in_err-push-in-Some.ensures.1 in
    rw (same.1, same.2) tt

pub returns-in_ok-push-in-Some-clause-went : goal.returns-in_ok-push-in-Some-clause-went
returns-in_ok-push-in-Some-clause-went g c =
    let told = rw c.in-Some.is at c.in_ok-twig.ensures in
    told.went c.requires.whole

pub returns-in-None-clause-went : goal.returns-in-None-clause-went
returns-in-None-clause-went g c =
    let told = rw c.in-None.is at c.in_ok-twig.ensures in
    told.went c.requires.whole
