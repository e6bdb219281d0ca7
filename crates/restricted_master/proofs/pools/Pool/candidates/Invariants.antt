-- The candidates so far.
use Rattle.std.proofs.Common.{◌≡◌, ◌<◌, ℕ, length, get_or}
use Rattle.restricted_master.specs.declared.columns.Column.{Column}
use Rattle.car_search.specs.Choosing.{IsSmall}
use Rattle.restricted_master.specs.Choosing.{candidate_at}
use Rattle.restricted_master.specs.Priced.{candidate_of}
use Rattle.restricted_master.proofs.pools.Pool.candidates.Given as goal

abbrev pub invariant-loop-place : goal.invariant-loop-place
invariant-loop-place l = record {
  counted : length l.candidates.items ≡ l.place;
  each : (i : ℕ) (d : Column) → i < l.place → candidate_at l.candidates.items i ≡ candidate_of l.prices l.least i (get_or l.columns i d);
  small : (i : ℕ) → i < l.place → IsSmall (candidate_at l.candidates.items i);
}
