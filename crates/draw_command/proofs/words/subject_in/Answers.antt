use Rattle.std.proofs.Common.{◌∙◌, ap, map, string_bytes, sym, Some}
use Rattle.option_words.proofs.ParseLemmas.{second_is}
use Rattle.draw_command.proofs.WordLemmas.{known}
use Rattle.draw_command.proofs.words.subject_in.Goals as goal

pub returns-clause-known : goal.returns-clause-known
returns-clause-known c = known (map string_bytes c.args.words.now) c.as_str.result.now c.named.result
    (second_is string_bytes c.args.words.now c.in_ok-word.word.now c.in_ok-word.ensures.lookup.3.0 c.in_ok-word.ensures.lookup.1
    ∙ ap Some (sym c.as_str.ensures.value)) c.named.ensures
