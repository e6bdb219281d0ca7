use Rattle.std.proofs.Common.{map, string_bytes}
use Rattle.std.proofs.lemmas.Result.{err_from_is_err_and}
use Rattle.clap.specs.Words.{found_of, rows_of}
use Rattle.lift_words.proofs.TakenLemmas.{asks_one, refused_by_options, refused_by_rows, taken, taken_asks}
use Rattle.lift_words.proofs.reading.read_words.Goals as goal

pub returns-in-Some-asked-clause-taken : goal.returns-in-Some-asked-clause-taken
returns-in-Some-asked-clause-taken c =
    taken (map string_bytes c.args.words.now) c.in-Some.command c.in-Some.ensures.known
    (rows_of (found_of c.in_ok-matches.matches)) c.in-Some-asked.request c.in_ok-matches.ensures.given c.in-Some-asked.ensures.asked

pub returns-in-Some-asked-clause-one : goal.returns-in-Some-asked-clause-one
returns-in-Some-asked-clause-one c = λ other t.
    let rows = rows_of (found_of c.in_ok-matches.matches) in
    asks_one c.in-Some.command rows other c.in-Some-asked.request
    (taken_asks (map string_bytes c.args.words.now) c.in-Some.command c.in-Some.ensures.known rows c.in_ok-matches.ensures.given other t)
    c.in-Some-asked.ensures.asked

pub returns-clause-refused : goal.returns-clause-refused
returns-clause-refused c = λ _.
    refused_by_rows (map string_bytes c.args.words.now) c.in-Some.command c.in-Some.ensures.known
    (rows_of (found_of c.in_ok-matches.matches)) c.in_ok-matches.ensures.given c.in-None.ensures.asked

pub returns-in_err-matches-clause-refused : goal.returns-in_err-matches-clause-refused
returns-in_err-matches-clause-refused c =
    let same = err_from_is_err_and c.from_residual.result c.from_residual.ensures.1 in
    rw (same.1, same.2)
    (λ e. refused_by_options (map string_bytes c.args.words.now) c.in-Some.command c.in-Some.ensures.known (c.in_err-matches.ensures.refused e))
