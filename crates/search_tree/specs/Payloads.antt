-- The nodes of a tree, and what its owner keeps of each.
use Rattle.std.specs.Prelude.{ℕ, ◌+◌, List, insert, slice_set}
use Rattle.search_tree.specs.declared.branches.Branch.{Branch}

-- the nodes in preorder, and a payload for each of them, in their order
pub record TreeNodes (X : Type 0) : Type 0 where
  pub branches : List Branch
  pub payloads : List X

module _ {X : Type 0} where
  -- the node at the place has this payload
  abbrev pub with_payload : TreeNodes X → (place : ℕ) → X → TreeNodes X
  with_payload tree place payload = record { branches = tree.branches; payloads = slice_set tree.payloads place payload }

  -- those of the two parts follow that of the leaf that was split
  abbrev pub split_payloads : List X → (place : ℕ) → (first second : X) → List X
  split_payloads payloads place first second = insert (insert payloads (place + 1) first) (place + 2) second
