use Rattle.std.proofs.Common.{List, ap, length, sym, subst, arith}
use Rattle.std.specs.Prelude.{All}
use Rattle.std.proofs.lemmas.Result.{err_from_is_err_and}
use Rattle.search_model.specs.declared.Twig.{Twig}
use Rattle.lift_text.specs.LineReader.{text}
use Rattle.cert_checker.specs.Judging.{HasWorthSizes}
use Rattle.check_text.proofs.PieceLemmas.{piece_sizes, fed_piece, fed_fault, fed_memory, SeesMore}
use Rattle.check_text.proofs.reading.check_piece.Goals as goal

pub feed-requires-clause-few : goal.feed-requires-clause-few
feed-requires-clause-few g c =
    let same = ap length c.as_slice.ensures in
    omega (arith, same, c.in_ok-is_whole.ensures.few)

pub feed-requires-clause-sizes : goal.feed-requires-clause-sizes
feed-requires-clause-sizes g c =
    let left = g.S.Source.left in
    subst (All HasWorthSizes) (sym c.as_slice.ensures)
    (piece_sizes c.args.snapshot.now c.args.reader.now c.read_piece.new.reader c.read_piece.new.piece (text left c.args.lines.now)
    (text left c.read_piece.new.lines) c.in_ok-is_whole.is_whole c.requires.begun c.in_ok-is_whole.ensures.reads)

pub returns-in_err-is_whole-clause-feeds : goal.returns-in_err-is_whole-clause-feeds
returns-in_err-is_whole-clause-feeds g c =
    let left = g.S.Source.left in
    let same = err_from_is_err_and c.from_residual.result c.from_residual.ensures.1 in
    rw (same.1, same.2)
    (fed_fault c.args.snapshot.now c.args.reader.now c.read_piece.new.reader c.read_piece.new.piece c.in_err-is_whole.field-0.0 (text left c.args.lines.now)
    (text left c.read_piece.new.lines) c.args.checker.now c.args.checker.now c.in_err-is_whole.ensures.reads)

pub returns-in_err-feed-clause-feeds : goal.returns-in_err-feed-clause-feeds
returns-in_err-feed-clause-feeds g c =
    let left = g.S.Source.left in
    let same = err_from_is_err_and c.from_residual-in_err-feed.result c.from_residual-in_err-feed.ensures.1 in
    rw same.1
    (fed_memory c.args.snapshot.now c.args.reader.now c.read_piece.new.reader same.0 (text left c.args.lines.now)
    (text left c.read_piece.new.lines) c.args.checker.now c.feed.new.self same.2)

pub returns-clause-feeds : goal.returns-clause-feeds
returns-clause-feeds g c =
    let left = g.S.Source.left in
    let sees = subst (λ (ts : List Twig). SeesMore c.args.snapshot.now c.args.checker.now ts c.feed.new.self) c.as_slice.ensures c.in_ok-feed.ensures.seen in
    fed_piece c.args.snapshot.now c.args.reader.now c.read_piece.new.reader c.read_piece.new.piece (text left c.args.lines.now)
    (text left c.read_piece.new.lines) c.in_ok-is_whole.is_whole c.args.checker.now c.feed.new.self c.in_ok-is_whole.ensures.reads
    c.in_ok-is_whole.ensures.few sees

pub returns-in_err-is_whole-clause-shows : goal.returns-in_err-is_whole-clause-shows
returns-in_err-is_whole-clause-shows g c =
    let same = err_from_is_err_and c.from_residual.result c.from_residual.ensures.1 in
    rw (same.1, same.2) c.in_err-is_whole.ensures.shows

pub returns-in_err-feed-clause-shows : goal.returns-in_err-feed-clause-shows
returns-in_err-feed-clause-shows g c =
    let same = err_from_is_err_and c.from_residual-in_err-feed.result c.from_residual-in_err-feed.ensures.1 in
    rw (same.1, same.2) tt
