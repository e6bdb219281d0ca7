-- The cars so far have no columns.
use Rattle.std.proofs.Common.{◌≡◌, ℕ, [], length}
use Rattle.restricted_master.specs.Columns.{columns_of}
use Rattle.restricted_master.proofs.pools.Pool.new.Given as goal

abbrev pub invariant-loop : goal.invariant-loop
invariant-loop l = record {
  counted : length l.cars.items ≡ l.counter;
  empty : (c : ℕ) → columns_of l.cars.items c ≡ [];
}
