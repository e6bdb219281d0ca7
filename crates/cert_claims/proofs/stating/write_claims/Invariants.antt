use Rattle.std.proofs.Common.{◌≡◌, ◌++◌, drop}
use Rattle.cert_claims.specs.Leaves.{claimed}
use Rattle.cert_claims.proofs.stating.write_claims.Given as goal

abbrev pub invariant-loop-twig : goal.invariant-loop-twig
invariant-loop-twig l = l.twigs.items ++ claimed l.twig-iterator.rest.items (drop l.next l.all) ≡ claimed l.fn.tree.twigs l.all
