use Rattle.std.proofs.Common.{◌≡◌, map, take}
use Rattle.cert_claims.specs.Lowering.{lowered_worth}
use Rattle.cert_claims.proofs.lowering.lowered_worths.Given as goal

abbrev pub invariant-loop-worth : goal.invariant-loop-worth
invariant-loop-worth l = l.lowered.items ≡ map (lowered_worth l.by) (take l.worth-index l.worths)
