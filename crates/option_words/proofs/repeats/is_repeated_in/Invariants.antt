use Rattle.std.proofs.Common.{ℕ, ◌<◌, [], map, string_bytes, slice_index_or}
use Rattle.option_words.specs.Repeats.{Repeats}
use Rattle.option_words.proofs.repeats.is_repeated_in.Given as goal

abbrev pub invariant-loop-other : goal.invariant-loop-other
invariant-loop-other l = (k : ℕ) → k < l.other-index → Repeats (string_bytes l.word) (slice_index_or (map string_bytes l.words) k []) → ⊥
