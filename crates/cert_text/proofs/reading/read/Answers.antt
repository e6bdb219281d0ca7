use Rattle.std.proofs.Common.{List, sym, subst}
use Rattle.std.proofs.lemmas.Result.{err_from_is_err_and}
use Rattle.search_model.specs.declared.Twig.{Twig}
use Rattle.lift_text.specs.LineReader.{text, failure}
use Rattle.lift_text.proofs.ShowLemmas.{went_further, fault_behind}
use Rattle.cert_text.specs.Readers.{HasRead}
use Rattle.cert_text.proofs.LoopLemmas.{no_fault, was_whole}
use Rattle.cert_text.proofs.reading.read.Goals as goal

pub returns-in_err-reader-clause-refused : goal.returns-in_err-reader-clause-refused
returns-in_err-reader-clause-refused g c = λ none.
    (let same = err_from_is_err_and c.from_residual.result c.from_residual.ensures.1 in
    rw (same.1, same.2) (c.in_err-reader.ensures.refused none c.args.snapshot.now))

pub returns-in_err-read_twigs-clause-refused : goal.returns-in_err-read_twigs-clause-refused
returns-in_err-read_twigs-clause-refused g c = λ none.
    (let left = g.S.Source.left in
    let s = c.args.snapshot.now in
    let before = text left c.args.lines.now in
    let start = subst (λ (ts : List Twig). HasRead s before c.in_ok-reader.reader ts (text left c.begin.new.lines)) (sym c.new-tree.ensures)
    (c.in_ok-reader.ensures.begun none s) in
    let same = err_from_is_err_and c.from_residual-in_err-read_twigs.result c.from_residual-in_err-read_twigs.ensures.1 in
    rw (same.1, same.2) (c.in_err-read_twigs.ensures.tells before start))

pub returns-in_err-read_twigs-clause-again : goal.returns-in_err-read_twigs-clause-again
returns-in_err-read_twigs-clause-again g c =
    no_fault (failure c.args.lines.now) _ (was_whole (failure c.args.lines.now) c.in_ok-reader.reader c.in_ok-reader.ensures.again)

pub returns-clause-said : goal.returns-clause-said
returns-clause-said g c = λ none.
    (let left = g.S.Source.left in
    let s = c.args.snapshot.now in
    let before = text left c.args.lines.now in
    let start = subst (λ (ts : List Twig). HasRead s before c.in_ok-reader.reader ts (text left c.begin.new.lines)) (sym c.new-tree.ensures)
    (c.in_ok-reader.ensures.begun none s) in
    (c.in_ok-read_twigs.ensures.tells before start).0)

pub returns-clause-within : goal.returns-clause-within
returns-clause-within g c = λ none.
    (let left = g.S.Source.left in
    let s = c.args.snapshot.now in
    let before = text left c.args.lines.now in
    let start = subst (λ (ts : List Twig). HasRead s before c.in_ok-reader.reader ts (text left c.begin.new.lines)) (sym c.new-tree.ensures)
    (c.in_ok-reader.ensures.begun none s) in
    (c.in_ok-read_twigs.ensures.tells before start).1)

pub returns-clause-again : goal.returns-clause-again
returns-clause-again g c = no_fault (failure c.args.lines.now) _ (was_whole (failure c.args.lines.now) c.in_ok-reader.reader c.in_ok-reader.ensures.again)

pub returns-in_err-reader-clause-shows : goal.returns-in_err-reader-clause-shows
returns-in_err-reader-clause-shows g c = λ none.
    (let same = err_from_is_err_and c.from_residual.result c.from_residual.ensures.1 in
    rw (same.1, same.2) (c.in_err-reader.ensures.shows none))

pub returns-in_err-read_twigs-clause-shows : goal.returns-in_err-read_twigs-clause-shows
returns-in_err-read_twigs-clause-shows g c = λ none.
    (let left = g.S.Source.left in
    let same = err_from_is_err_and c.from_residual-in_err-read_twigs.result c.from_residual-in_err-read_twigs.ensures.1 in
    rw (same.1, same.2)
    (fault_behind (text left c.args.lines.now) (text left c.begin.new.lines) c.in_err-read_twigs.field-0.0 (left c.read_twigs.new.lines.source.now)
    (c.in_ok-reader.ensures.went none) c.in_err-read_twigs.ensures.shows))

pub returns-clause-went : goal.returns-clause-went
returns-clause-went g c = λ none.
    (let left = g.S.Source.left in
    went_further (text left c.args.lines.now) (text left c.begin.new.lines) (text left c.read_twigs.new.lines)
    (c.in_ok-reader.ensures.went none) c.in_ok-read_twigs.ensures.went)
