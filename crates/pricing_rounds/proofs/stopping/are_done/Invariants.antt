use Rattle.std.specs.Prelude.{IsSome, slice_index_or}
use Rattle.std.proofs.Common.{ℕ, ◌<◌, None}
use Rattle.pricing_rounds.proofs.stopping.are_done.Given as goal

abbrev pub invariant-loop-place : goal.invariant-loop-place
invariant-loop-place l =
    record {
      done : (k : ℕ) → k < l.place → IsSome (slice_index_or l.answers k None);
    }
