-- Nodes of a tree in preorder, and what pricings and splits make of them.
use Rattle.std.specs.Prelude.{◌≡◌, ℕ, ◌+◌, ◌-◌, ◌^◌, ◌<◌, ◌==◌, min, ℤ, List, [], ◌∷◌, slice_index_or, slice_set, insert, true, false, if◌then◌else◌, Option}
use Rattle.std.specs.Prelude.{Some, None}
use Rattle.search_model.specs.declared.TurnOf.{TurnOf}
use Rattle.search_model.specs.declared.Twig.{Twig}
use Rattle.search_model.specs.declared.Twig.TheVariants.{Split, Leaf as Tip}
use Rattle.call_sets.specs.Counting.{has}
use Rattle.search_model.specs.Nodes.{Node, set_of, first_of_split, second_of_split}
use Rattle.search_tree.specs.declared.branches.SplitAt.{SplitAt}
use Rattle.search_tree.specs.declared.branches.Branch.{Branch}
use Rattle.search_tree.specs.Sheets.{PriceSheet, leaf_of, raised_sheet, better_of, sheet_of_turn}

-- a leaf that was not priced yet
abbrev pub leaf_at : Node → PriceSheet → (depth : ℕ) → Branch
leaf_at node sheet depth = record { node = node; sheet = sheet; split = None; depth = depth; rounds = 0; spent = None }

abbrev pub no_branch : Branch
no_branch = leaf_at [] (record { prices = []; worths = [] }) 0

abbrev pub at_place : List Branch → ℕ → Branch
at_place tree k = slice_index_or tree k no_branch

abbrev pub twig_at : Option SplitAt → PriceSheet → Twig
twig_at None sheet = Tip (leaf_of sheet)
twig_at (Some at) sheet = Split at.call at.part

-- what a certificate states of it
abbrev pub twig_of : Branch → Twig
twig_of b = twig_at b.split b.sheet

-- the first car from c on whose pricing was spent
abbrev pub first_spent : (c : ℕ) → List TurnOf → Option ℕ
first_spent c [] = None
first_spent c (turn ∷ cars) = if turn.priced.spent then Some c else first_spent (c + 1) cars

-- A pricing of all cars at these prices is taken in. The first one is at the prices of the leaf, and each car keeps the
-- greater of its worths. A later one replaces the prices and worths where its sum is greater.
abbrev pub noted : Branch → (prices : List ℤ) → List TurnOf → Branch
noted b prices cars =
    record {
      node = b.node;
      sheet = if b.rounds == 0 then raised_sheet b.sheet cars else better_of b.sheet (sheet_of_turn prices cars);
      split = b.split;
      depth = b.depth;
      rounds = b.rounds + 1;
      spent = first_spent 0 cars;
    }

abbrev pub split_at : Branch → (call part : ℕ) → Branch
split_at b call part = record
    { node = b.node; sheet = b.sheet; split = Some (record { call = call; part = part }); depth = b.depth; rounds = b.rounds; spent = b.spent }

-- how deep the parts of a split lie
abbrev pub depth_below : Branch → ℕ
depth_below b = min (b.depth + 1) (2 ^ 32 - 1)

-- the two parts of a split, with the prices and worths of the leaf that was split
abbrev pub first_part : Branch → (call part : ℕ) → Branch
first_part b call part = leaf_at (first_of_split b.node call part) b.sheet (depth_below b)

abbrev pub second_part : Branch → (call part : ℕ) → Branch
second_part b call part = leaf_at (second_of_split b.node call part) b.sheet (depth_below b)

-- The leaf at the place is split, and the two parts follow it.
abbrev pub split_tree : List Branch → (place call part : ℕ) → List Branch
split_tree tree place call part =
    let b = at_place tree place in
    slice_set (insert (insert tree (place + 1) (first_part b call part)) (place + 2) (second_part b call part)) place (split_at b call part)

-- the part is the least car of the set, alone
pub record IsLeastAlone (set part : ℕ) : Type 0 where
  pub car : ℕ
  pub member : has set car ≡ true
  pub least : (k : ℕ) → k < car → has set k ≡ false
  pub part_is : part ≡ 2 ^ car

-- none of the calls has two cars left
abbrev pub AreSingle : (calls : ℕ) → Node → Type 0
AreSingle calls node = (j : ℕ) → j < calls → (c : ℕ) → has (set_of node j) c ≡ true → set_of node j ≡ 2 ^ c
