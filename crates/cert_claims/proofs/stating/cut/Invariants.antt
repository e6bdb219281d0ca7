use Rattle.std.proofs.Common.{take}
use Rattle.std.specs.Prelude.{All}
use Rattle.cert_claims.specs.Lowering.{GoesBeyond}
use Rattle.cert_claims.proofs.stating.cut.Given as goal

abbrev pub invariant-loop-lesser : goal.invariant-loop-lesser
invariant-loop-lesser g l = All (GoesBeyond l.snapshot l.limit l.tree.twigs) (take l.lesser-index l.lesser-items)
