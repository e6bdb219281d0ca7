use Rattle.std.proofs.Common.{◌+◌, [], map, drop, string_bytes, slice_index_or, refl}
use Rattle.option_words.specs.Repeats.{RepeatsOneOf}
use Rattle.option_words.proofs.RepeatLemmas.{below_more, from_rest, never, none_repeated, refuted, repeated, to_rest}
use Rattle.option_words.proofs.repeats.has_repeats.Goals as goal

pub returns-then-is_repeated_in : goal.returns-then-is_repeated_in
returns-then-is_repeated_in c = (
  λ _. repeated (map string_bytes c.args.words.now) c.loop-place.place
      (from_rest string_bytes c.args.words.now c.loop-place.place c.index-words-place.result c.loop-place-test.true c.index-words-place.is
      (c.is_repeated_in.ensures.0 c.if-is_repeated_in.true)),
  λ _. refl,
)

pub loop-place-preserved : goal.loop-place-preserved
loop-place-preserved c =
    below_more (λ k. RepeatsOneOf (slice_index_or (map string_bytes c.args.words.now) k []) (drop (k + 1) (map string_bytes c.args.words.now)))
    c.loop-place.place c.loop-place.invariant
    (λ r. refuted c.is_repeated_in.result c.if-is_repeated_in.false c.is_repeated_in.ensures.1
    (to_rest string_bytes c.args.words.now c.loop-place.place c.index-words-place.result c.loop-place-test.true c.index-words-place.is r))

pub returns : goal.returns
returns c = (never, λ r. absurd (none_repeated string_bytes c.args.words.now c.loop-place.place c.loop-place-test.false c.loop-place.invariant r))
