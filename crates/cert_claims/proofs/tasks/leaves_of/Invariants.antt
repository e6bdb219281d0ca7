use Rattle.std.proofs.Common.{◌≡◌, ◌∷◌, [], ◌++◌, drop, map}
use Rattle.search_model.specs.Nodes.{root_of}
use Rattle.cert_claims.specs.Leaves.{leaf_at, leaves_from}
use Rattle.cert_claims.proofs.tasks.leaves_of.Given as goal

abbrev pub invariant-loop-twig : goal.invariant-loop-twig
invariant-loop-twig l = map leaf_at l.tasks.items ++ leaves_from l.places (drop l.twig-index l.twigs) ≡ leaves_from (root_of l.snapshot ∷ []) l.twigs
