use Rattle.std.proofs.Common.{◌≡◌, ◌∙◌, codes, map, string_bytes, slice_index_or, sym, refl}
use Rattle.option_words.proofs.RepeatLemmas.{below_more, found, refuted, word_is}
use Rattle.option_words.proofs.repeats.has_lone_dashes.Goals as goal

pub returns-then-is_lone_dashes : goal.returns-then-is_lone_dashes
returns-then-is_lone_dashes c = (
  λ _. found string_bytes c.args.words.now c.loop-word.word-index c.word-item.result c.loop-word-test.true c.word-item.is (codes "--")
      (c.is_lone_dashes.ensures.0 c.if-is_lone_dashes.true),
  λ _. refl,
)

pub loop-word-preserved : goal.loop-word-preserved
loop-word-preserved c =
    below_more (λ k. slice_index_or (map string_bytes c.args.words.now) k (codes "--") ≡ codes "--") c.loop-word.word-index c.loop-word.invariant
    (λ e. refuted c.is_lone_dashes.result c.if-is_lone_dashes.false c.is_lone_dashes.ensures.1
    (sym (word_is string_bytes c.args.words.now c.loop-word.word-index c.word-item.result c.loop-word-test.true c.word-item.is (codes "--")) ∙ e))
