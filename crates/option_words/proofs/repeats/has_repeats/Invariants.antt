use Rattle.std.proofs.Common.{ℕ, ◌<◌, ◌+◌, [], map, drop, string_bytes, slice_index_or}
use Rattle.option_words.specs.Repeats.{RepeatsOneOf}
use Rattle.option_words.proofs.repeats.has_repeats.Given as goal

abbrev pub invariant-loop-place : goal.invariant-loop-place
invariant-loop-place l = (k : ℕ) → k < l.place → RepeatsOneOf (slice_index_or (map string_bytes l.words) k []) (drop (k + 1) (map string_bytes l.words)) → ⊥
