-- Trees in preorder, as far as a text says them.
use Rattle.std.specs.Prelude.{◌≡◌, ℕ, zero, suc, ◌<◌, ◌≤◌, ◌^◌, pos, neg_ℤ, ◌≤ℤ◌, true, List, [], ◌∷◌, sum_by, All, Option, None, Some, IsTrue}
use Rattle.call_sets.specs.Counting.{has}
use Rattle.elevator_model.specs.Snapshot.{Snapshot, car_count, call_count}
use Rattle.price_scale.specs.Scale.{IsPrice}
use Rattle.search_model.specs.declared.PriceOf.{PriceOf}
use Rattle.search_model.specs.declared.WorthOf.{WorthOf}
use Rattle.search_model.specs.declared.Leaf.{Leaf}
use Rattle.search_model.specs.declared.Twig.{Twig}
use Rattle.search_model.specs.declared.Twig.TheVariants.{Split, Leaf as Tip}
use Rattle.search_model.specs.Certificates.{is_whole}

-- how many places are open after these twigs, of this many before them: a split fills one and opens two, a leaf
-- fills one
abbrev pub places_left : ℕ → List Twig → Option ℕ
places_left places [] = Some places
places_left zero (twig ∷ twigs) = None
places_left (suc places) (Split j part ∷ twigs) = places_left (suc (suc places)) twigs
places_left (suc places) (Tip leaf ∷ twigs) = places_left places twigs

-- the claims of a twig, and of a tree
abbrev pub claims_of : Twig → ℕ
claims_of (Split j part) = 0
claims_of (Tip leaf) = sum_by (λ (w : WorthOf). w.claim) leaf.worths

abbrev pub sum_of_claims : List Twig → ℕ
sum_of_claims tree = sum_by claims_of tree

-- ---- ranges

pub record IsPriceWithin (s : Snapshot) (p : PriceOf) : Type 0 where
  pub call : p.call < call_count s
  pub price : IsPrice p.price

pub record IsWorthWithin (s : Snapshot) (w : WorthOf) : Type 0 where
  pub car : w.car < car_count s
  pub worth_low : neg_ℤ (pos (10 ^ 27)) ≤ℤ w.worth
  pub worth_high : w.worth ≤ℤ pos (10 ^ 27)
  pub claim_low : 1 ≤ w.claim
  pub claim_high : w.claim ≤ 10 ^ 10

pub record IsLeafWithin (s : Snapshot) (leaf : Leaf) : Type 0 where
  pub prices : All (IsPriceWithin s) leaf.prices
  pub worths : All (IsWorthWithin s) leaf.worths

pub record IsSplitWithin (s : Snapshot) (j part : ℕ) : Type 0 where
  pub call : j < call_count s
  pub cars : (c : ℕ) → has part c ≡ true → c < car_count s
  pub set : part < 2 ^ 16

-- calls and cars are those of the snapshot, prices, worths and claims lie in their ranges
abbrev pub IsTwigWithin : Snapshot → Twig → Type 0
IsTwigWithin s (Split j part) = IsSplitWithin s j part
IsTwigWithin s (Tip leaf) = IsLeafWithin s leaf

-- The twigs are a whole tree of the snapshot, and its claims sum to 10^10 at most.
pub record IsWithin (s : Snapshot) (tree : List Twig) : Type 0 where
  pub twigs : All (IsTwigWithin s) tree
  pub places : places_left 1 tree ≡ Some 0
  pub whole : IsTrue (is_whole s tree)
  pub claims : sum_of_claims tree ≤ 10 ^ 10

-- ---- a tree that can be written

-- each call and each car is one of the snapshot
pub record IsKnownSplit (s : Snapshot) (j part : ℕ) : Type 0 where
  pub call : j < call_count s
  pub cars : (c : ℕ) → has part c ≡ true → c < car_count s

abbrev pub IsKnownPrice : Snapshot → PriceOf → Type 0
IsKnownPrice s p = p.call < call_count s

abbrev pub IsKnownWorth : Snapshot → WorthOf → Type 0
IsKnownWorth s w = w.car < car_count s

pub record IsKnownLeaf (s : Snapshot) (leaf : Leaf) : Type 0 where
  pub prices : All (IsKnownPrice s) leaf.prices
  pub worths : All (IsKnownWorth s) leaf.worths

abbrev pub IsKnownTwig : Snapshot → Twig → Type 0
IsKnownTwig s (Split j part) = IsKnownSplit s j part
IsKnownTwig s (Tip leaf) = IsKnownLeaf s leaf

abbrev pub AreTwigsKnown : Snapshot → List Twig → Type 0
AreTwigsKnown s tree = All (IsKnownTwig s) tree
