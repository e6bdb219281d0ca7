use Rattle.std.proofs.Common.{[], map, string_bytes, slice_index_or, subst}
use Rattle.option_words.specs.Repeats.{Repeats}
use Rattle.option_words.proofs.RepeatLemmas.{below_more, refuted, word_is}
use Rattle.option_words.proofs.repeats.is_repeated_in.Goals as goal

pub loop-other-preserved : goal.loop-other-preserved
loop-other-preserved c =
    below_more (λ k. Repeats (string_bytes c.args.word.now) (slice_index_or (map string_bytes c.args.words.now) k [])) c.loop-other.other-index
    c.loop-other.invariant
    (λ r. refuted c.repeats.result c.if-repeats.false c.repeats.ensures.1
    (subst (Repeats (string_bytes c.args.word.now))
    (word_is string_bytes c.args.words.now c.loop-other.other-index c.other-item.result c.loop-other-test.true c.other-item.is []) r))
