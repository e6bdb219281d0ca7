use Rattle.std.proofs.Common.{◌∙◌, map, string_bytes}
use Rattle.clap.specs.Words.{app_of}
use Rattle.option_words.proofs.ParseLemmas.{not_taken, same_rows, taken}
use Rattle.option_words.proofs.parsing.matches_in.Goals as goal

pub returns-in-Ok-clause-taken : goal.returns-in-Ok-clause-taken
returns-in-Ok-clause-taken c = taken _ _ c.requires c.in-Ok.ensures.kinds

pub returns-in-Ok-clause-rows : goal.returns-in-Ok-clause-rows
returns-in-Ok-clause-rows c = same_rows _ _ c.requires _ c.in-Ok.ensures.matches

pub returns : goal.returns
returns c = record {
  taken = tt;
  rows = tt;
  refused = λ _. not_taken (app_of c.args.command) (map string_bytes c.args.words.now) _
      (λ memory. c.in_default.not-OutOfMemory (c.kind.ensures ∙ memory)) c.in-Err.ensures.passes;
}
