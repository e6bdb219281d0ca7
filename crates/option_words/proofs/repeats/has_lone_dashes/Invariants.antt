use Rattle.std.proofs.Common.{◌≡◌, ℕ, ◌<◌, codes, map, string_bytes, slice_index_or}
use Rattle.option_words.proofs.repeats.has_lone_dashes.Given as goal

abbrev pub invariant-loop-word : goal.invariant-loop-word
invariant-loop-word l = (k : ℕ) → k < l.word-index → slice_index_or (map string_bytes l.words) k (codes "--") ≡ codes "--" → ⊥
