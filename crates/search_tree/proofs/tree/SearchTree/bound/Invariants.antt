use Rattle.std.proofs.Common.{◌≡◌, drop, map}
use Rattle.search_model.specs.Solving.{least_bound}
use Rattle.search_tree.specs.Branches.{twig_of}
use Rattle.search_tree.proofs.tree.SearchTree.bound.Given as goal

abbrev pub invariant-loop-place : goal.invariant-loop-place
invariant-loop-place g l = l.least ≡ least_bound l.cost (map twig_of (drop l.place l.self-inside.branches.items))
