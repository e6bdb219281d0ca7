use Rattle.std.proofs.Common.{◌≡◌, drop}
use Rattle.motion_table.specs.Tables.{rests_at}
use Rattle.motion_table.proofs.tables.rests_at.Given as goal

abbrev pub invariant-loop-k : goal.invariant-loop-k
invariant-loop-k l = rests_at l.floor 0 l.times ≡ rests_at l.floor l.k (drop l.k l.times)
