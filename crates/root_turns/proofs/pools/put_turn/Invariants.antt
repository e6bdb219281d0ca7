use Rattle.std.proofs.Common.{◌≡◌, drop}
use Rattle.root_turns.specs.Pools.{with_turn}
use Rattle.root_turns.proofs.pools.put_turn.Given as goal

abbrev pub invariant-loop-car : goal.invariant-loop-car
invariant-loop-car l =
    record {
      snapshot : l.pool.snapshot ≡ l.initial.pool.snapshot;
      pool : with_turn l.pool l.car (drop l.car l.cars) ≡ with_turn l.initial.pool 0 l.cars;
    }
