use Rattle.std.proofs.Common.{[], ◌∷◌, length, length-append, ap, arith}
use Rattle.std.proofs.lemmas.Result.{err_from_is_err_and}
use Rattle.lift_text.specs.LineReader.{text}
use Rattle.check_text.proofs.PieceLemmas.{piece_twig, piece_end, piece_fault, piece_memory}
use Rattle.check_text.proofs.reading.read_twig.Goals as goal

pub returns-in_err-twig-clause-reads : goal.returns-in_err-twig-clause-reads
returns-in_err-twig-clause-reads g c =
    let left = g.S.Source.left in
    let same = err_from_is_err_and c.from_residual.result c.from_residual.ensures.1 in
    rw (same.1, same.2)
    (piece_fault c.args.snapshot.now c.args.reader.now c.next.new.self c.args.piece.now c.args.piece.now c.in_err-twig.field-0.0 (text left c.args.lines.now)
    (text left c.next.new.lines) (c.in_err-twig.ensures.twig c.requires.whole))

pub returns-in_err-push-in-Some-clause-reads : goal.returns-in_err-push-in-Some-clause-reads
returns-in_err-push-in-Some-clause-reads g c =
    let left = g.S.Source.left in
    let same = err_from_is_err_and c.from_residual-in_err-push-in-Some.result c.from_residual-in_err-push-in-Some.ensures.1 in
    rw same.1
    (piece_memory c.args.snapshot.now c.args.reader.now c.next.new.self c.args.piece.now c.push.new.self same.0 (text left c.args.lines.now)
    (text left c.next.new.lines) same.2)

pub returns-in_ok-push-in-Some-clause-reads : goal.returns-in_ok-push-in-Some-clause-reads
returns-in_ok-push-in-Some-clause-reads g c =
    let left = g.S.Source.left in
    let told = rw c.in-Some.is at c.in_ok-twig.ensures in
    piece_twig c.args.snapshot.now c.args.reader.now c.next.new.self c.args.piece.now c.push.new.self c.in-Some.twig (text left c.args.lines.now)
    (text left c.next.new.lines) (told.twig c.requires.whole) c.in_ok-push-in-Some.ensures.ok

pub returns-in_ok-push-in-Some-clause-few : goal.returns-in_ok-push-in-Some-clause-few
returns-in_ok-push-in-Some-clause-few g c =
    let longer = ap length c.in_ok-push-in-Some.ensures.ok in
    let size = length-append c.args.piece.now (c.in-Some.twig ∷ []) in
    omega (arith, longer, size)

pub returns-in-None-clause-reads : goal.returns-in-None-clause-reads
returns-in-None-clause-reads g c =
    let left = g.S.Source.left in
    let told = rw c.in-None.is at c.in_ok-twig.ensures in
    piece_end c.args.snapshot.now c.args.reader.now c.next.new.self c.args.piece.now (text left c.args.lines.now) (text left c.next.new.lines)
    (told.twig c.requires.whole)

pub returns-in_err-twig-clause-shows : goal.returns-in_err-twig-clause-shows
returns-in_err-twig-clause-shows g c =
    let same = err_from_is_err_and c.from_residual.result c.from_residual.ensures.1 in
    rw (same.1, same.2) (c.in_err-twig.ensures.shows c.requires.whole c.requires.sound)

pub returns-in_err-push-in-Some-clause-shows : goal.returns-in_err-push-in-Some-clause-shows
returns-in_err-push-in-Some-clause-shows g c =
    let same = err_from_is_err_and c.from_residual-in_err-push-in-Some.result c.from_residual-in_err-push-in-Some.ensures.1 in
    rw (same.1, same.2) tt

pub returns-in_ok-push-in-Some-clause-went : goal.returns-in_ok-push-in-Some-clause-went
returns-in_ok-push-in-Some-clause-went g c =
    let told = rw c.in-Some.is at c.in_ok-twig.ensures in
    told.went c.requires.whole

pub returns-in-None-clause-went : goal.returns-in-None-clause-went
returns-in-None-clause-went g c =
    let told = rw c.in-None.is at c.in_ok-twig.ensures in
    told.went c.requires.whole
