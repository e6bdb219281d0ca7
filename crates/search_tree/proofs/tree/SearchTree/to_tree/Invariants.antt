use Rattle.std.proofs.Common.{◌≡◌, map, take}
use Rattle.std.specs.Prelude.{All}
use Rattle.search_tree.specs.Branches.{twig_of}
use Rattle.search_tree.specs.Sheets.{IsSizedTwig}
use Rattle.search_tree.proofs.tree.SearchTree.to_tree.Given as goal

abbrev pub invariant-loop-place : goal.invariant-loop-place
invariant-loop-place g l = (l.twigs ≡ map twig_of (take l.place l.self-inside.branches.items)) × All IsSizedTwig l.twigs
