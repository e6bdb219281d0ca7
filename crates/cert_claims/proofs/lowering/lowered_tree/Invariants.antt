use Rattle.std.proofs.Common.{◌≡◌, map, take}
use Rattle.cert_claims.specs.Lowering.{lowered_twig}
use Rattle.cert_claims.proofs.lowering.lowered_tree.Given as goal

abbrev pub invariant-loop-twig : goal.invariant-loop-twig
invariant-loop-twig l = l.twigs.items ≡ map (lowered_twig l.bound) (take l.twig-index l.tree)
