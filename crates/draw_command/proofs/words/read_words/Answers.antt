use Rattle.std.proofs.Common.{map, string_bytes, sym}
use Rattle.std.proofs.lemmas.Result.{err_from_is_err_and}
use Rattle.clap.specs.Words.{found_of, rows_of}
use Rattle.draw_command.proofs.WordLemmas.{refused_by_options, refused_by_rows, taken, taken_one}
use Rattle.draw_command.proofs.words.read_words.Goals as goal

pub returns-in-Some-size_asked-clause-taken : goal.returns-in-Some-size_asked-clause-taken
returns-in-Some-size_asked-clause-taken c =
    taken (map string_bytes c.args.words.now) c.in-Some.subject c.in-Some.ensures.known
    (rows_of (found_of c.in_ok-matches.matches)) c.in-Some-size_asked.size c.in_ok-matches.ensures.given (sym c.in-Some-size_asked.ensures)

pub returns-in-Some-size_asked-clause-one : goal.returns-in-Some-size_asked-clause-one
returns-in-Some-size_asked-clause-one c =
    taken_one (map string_bytes c.args.words.now) c.in-Some.subject c.in-Some.ensures.known
    (rows_of (found_of c.in_ok-matches.matches)) c.in-Some-size_asked.size c.in_ok-matches.ensures.given (sym c.in-Some-size_asked.ensures)

pub returns-clause-refused : goal.returns-clause-refused
returns-clause-refused c = λ _.
    refused_by_rows (map string_bytes c.args.words.now) c.in-Some.subject c.in-Some.ensures.known
    (rows_of (found_of c.in_ok-matches.matches)) c.in_ok-matches.ensures.given (sym c.in-None.ensures)

pub returns-in_err-matches-clause-refused : goal.returns-in_err-matches-clause-refused
returns-in_err-matches-clause-refused c =
    let same = err_from_is_err_and c.from_residual.result c.from_residual.ensures.1 in
    rw (same.1, same.2)
    (λ e. refused_by_options (map string_bytes c.args.words.now) c.in-Some.subject c.in-Some.ensures.known (c.in_err-matches.ensures.refused e))
