use Rattle.std.proofs.Common.{◌≡◌, ◌++◌, take, drop, map}
use Rattle.cert_claims.specs.Leaves.{with_claim}
use Rattle.cert_claims.proofs.leaves.with_claims.Given as goal

abbrev pub invariant-loop-place : goal.invariant-loop-place
invariant-loop-place l = l.worths.items ≡ map (with_claim l.by_car) (take l.place l.initial.worths.items) ++ drop l.place l.initial.worths.items
