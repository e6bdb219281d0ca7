-- What a tree ends as, once a `&mut` to a payload has ended.
use Rattle.std.specs.Prelude.{ℕ}
use Rattle.std.specs.Borrow.{Fml, RattleType, MutBor, Lends}
use Rattle.search_tree.specs.Payloads.{TreeNodes, with_payload}
use Rattle.search_tree.specs.contracts.tree.SearchTree.{the_row}

-- the node at the place has the last payload that was written through r, and all else stays
abbrev pub lends_payload : (R : RattleType) → MutBor (TreeNodes R.Denot) → (place : ℕ) → MutBor R.Denot → Fml
lends_payload R tree place r = Lends (the_row R) R tree r (with_payload tree.now place)
