use Rattle.std.proofs.Common.{string_bytes}
use Rattle.clap.specs.Words.{app_of, found_of, rows_of}
use Rattle.option_words.specs.declared.faults.WordsFault.TheVariants.{NotTaken}
use Rattle.option_words.proofs.ParseLemmas.{found_given, refused_given, unclear_given}
use Rattle.option_words.proofs.parsing.options_given.Goals as goal

pub returns-then-are_unclear-clause-refused : goal.returns-then-are_unclear-clause-refused
returns-then-are_unclear-clause-refused c =
    λ _. unclear_given string_bytes c.args.words.now (app_of c.args.command) (c.are_unclear.ensures.0 c.if-are_unclear.true)

pub returns-clause-given : goal.returns-clause-given
returns-clause-given c =
    found_given string_bytes c.args.words.now (app_of c.args.command)
    (λ m. rows_of (found_of m)) c.matches_in.result c.are_unclear.result c.if-are_unclear.false c.are_unclear.ensures.1 c.matches_in.ensures.taken
    c.matches_in.ensures.rows

pub returns-clause-refused : goal.returns-clause-refused
returns-clause-refused c =
    refused_given string_bytes c.args.words.now (app_of c.args.command) (λ m. rows_of (found_of m)) c.matches_in.result NotTaken c.matches_in.ensures.refused
