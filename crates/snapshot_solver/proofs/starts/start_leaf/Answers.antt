use Rattle.search_model.specs.declared.Leaf.{Leaf}
use Rattle.std.proofs.Common.{◌≡◌}
use Rattle.search_tree.specs.Sheets.{IsSizedLeaf, leaf_with}
use Rattle.snapshot_solver.specs.Starts.{IsStartLeaf}
use Rattle.snapshot_solver.proofs.SolveLaws.{if_both}
use Rattle.snapshot_solver.proofs.StartSheet.{starts-leaf}
use Rattle.snapshot_solver.proofs.starts.start_leaf.Goals as goal

pub returns : goal.returns
returns c =
    let s = c.args.snapshot.now in
    let start = c.in_ok-sheet.ensures in
    if_both (λ (leaf : Leaf). leaf ≡ leaf_with 1 c.in_ok-sheet.sheet) IsSizedLeaf (IsStartLeaf s)
    (λ leaf is sized. starts-leaf s c.in_ok-sheet.sheet leaf start.prices start.worths start.root start.sum is sized) c.to_leaf.result
    c.to_leaf.ensures.leaf c.to_leaf.ensures.sized
