-- What stands of the tree of a search.
use Rattle.std.specs.Prelude.{◌≡◌, ℕ, zero, suc, ◌<◌, ◌≤◌, ◌⊎◌, ℤ, pos, ◌≤ℤ◌, sum_by, List, [], ◌∷◌, length, true, IsTrue, IfSome, Option, Some, None}
use Rattle.search_model.specs.Sums.{rounded_up}
use Rattle.elevator_model.specs.Snapshot.{Snapshot, car_count, call_count}
use Rattle.search_model.specs.Nodes.{Node, IsNodeOf, set_of, allows, requires_of, is_part}
use Rattle.search_model.specs.Prices.{price_at, IsWorth}
use Rattle.search_model.specs.Certificates.{TreePlace, places_after, root_place}
use Rattle.search_model.specs.Solving.{ReachesLeast, HasPartialTours}
use Rattle.search_tree.specs.declared.branches.SplitAt.{SplitAt}
use Rattle.search_tree.specs.declared.branches.Branch.{Branch}
use Rattle.search_tree.specs.declared.branches.TheConstants.{MOST_PRICINGS}
use Rattle.search_tree.specs.Sheets.{PriceSheet, worth_of_car, sum_of_sheet}
use Rattle.search_tree.specs.Branches.{AreSingle, twig_of}

-- what holds of a node of the tree at its place
abbrev pub Holding : Type 1
Holding = TreePlace → Branch → Type 0

-- The nodes fill the places, and this holds of each at its place.
abbrev pub AllStand : Holding → List TreePlace → List Branch → Type 0
AllStand P [] [] = Unit {0}
AllStand P [] (b ∷ tree) = ⊥
AllStand P (place ∷ places) [] = ⊥
AllStand P (place ∷ places) (b ∷ tree) = P place b × AllStand P (places_after place (twig_of b) places) tree

-- The nodes are one whole tree, and this holds of each at its place.
abbrev pub AllInTree : Holding → Snapshot → List Branch → Type 0
AllInTree P s tree = AllStand P (root_place s ∷ []) tree

-- ---- nodes

-- the node allows no more and requires no less than the other
pub record IsTighter (node other : Node) : Type 0 where
  pub fewer : (c j : ℕ) → c < 16 → allows node c j ≡ true → allows other c j ≡ true
  pub more : (c j : ℕ) → c < 16 → requires_of other c j ≡ true → requires_of node c j ≡ true

-- a price for each call, and for each car a worth in the node
pub record IsSheetIn (s : Snapshot) (node : Node) (sheet : PriceSheet) : Type 0 where
  pub calls : length sheet.prices ≡ call_count s
  pub cars : length sheet.worths ≡ car_count s
  pub worths : (c : ℕ) → c < car_count s → IsWorth s node c (price_at sheet.prices) (worth_of_car sheet c)

-- each worth is the least value of the car's tours in the node, or the car has too many partial tours there
abbrev pub AreLeastIn : Snapshot → (most_tours : ℕ) → Node → PriceSheet → Type 0
AreLeastIn s most_tours node sheet =
    (c : ℕ) → c < car_count s → ReachesLeast s node c (price_at sheet.prices) (worth_of_car sheet c) ⊎ HasPartialTours s node c most_tours

-- a car with at least this many partial tours in the node
abbrev pub IsSpentCar : Snapshot → (most_tours : ℕ) → Node → ℕ → Type 0
IsSpentCar s most_tours node c = (c < car_count s) × HasPartialTours s node c most_tours

pub record IsLeafIn (s : Snapshot) (most_tours : ℕ) (node : Node) (b : Branch) : Type 0 where
  pub sheet : IsSheetIn s node b.sheet
  -- once it was priced
  pub priced : 0 < b.rounds → AreLeastIn s most_tours node b.sheet
  pub spent : IfSome b.spent (IsSpentCar s most_tours node)

abbrev pub IsKindIn : Snapshot → (most_tours : ℕ) → Node → Branch → Option SplitAt → Type 0
IsKindIn s most_tours node b None = IsLeafIn s most_tours node b
IsKindIn s most_tours node b (Some at) = IsTrue (is_part (set_of node at.call) at.part)

-- a node of the tree, at its place
pub record IsBranchAt (s : Snapshot) (most_tours : ℕ) (place : TreePlace) (b : Branch) : Type 0 where
  pub node : b.node ≡ place.node
  pub is_node : IsNodeOf s b.node
  pub above : IsTighter b.node place.above
  pub few : b.rounds ≤ MOST_PRICINGS
  pub kind : IsKindIn s most_tours b.node b b.split

-- what holds of leaves alone
abbrev pub IfLeaf : Option SplitAt → Type 0 → Type 0
IfLeaf None P = P
IfLeaf (Some at) P = Unit {0}

-- a leaf's worths are those of the node of the split above it
abbrev pub IsPricedAt : Snapshot → (most_tours : ℕ) → Holding
IsPricedAt s most_tours place b = IfLeaf b.split (AreLeastIn s most_tours place.above b.sheet)

abbrev pub bound_of_sheet : PriceSheet → ℤ
bound_of_sheet sheet = rounded_up (sum_of_sheet sheet)

-- no round may take the leaf any more unless its bound is below the cost and it may be priced once more
pub record IsResting (s : Snapshot) (cost : ℕ) (b : Branch) : Type 0 where
  -- where each call has one car left, one pricing that reached no limit makes a plan
  pub single : AreSingle (call_count s) b.node → 0 < b.rounds → b.spent ≡ None → pos cost ≤ℤ bound_of_sheet b.sheet
  -- the other leaves are split after this many pricings
  pub many : (AreSingle (call_count s) b.node → ⊥) → MOST_PRICINGS ≤ b.rounds → pos cost ≤ℤ bound_of_sheet b.sheet

abbrev pub IsRestingAt : Snapshot → (cost : ℕ) → Holding
IsRestingAt s cost place b = IfLeaf b.split (IsResting s cost b)

-- no leaf has a smaller sum
abbrev pub IsAtLeast : ℤ → Holding
IsAtLeast z place b = IfLeaf b.split (z ≤ℤ sum_of_sheet b.sheet)

-- What stands of a tree that was priced, with this cost of the cheapest plan.
pub record IsTreeOf (s : Snapshot) (most_tours cost : ℕ) (tree : List Branch) : Type 0 where
  pub branches : AllInTree (IsBranchAt s most_tours) s tree
  pub priced : AllInTree (IsPricedAt s most_tours) s tree
  pub resting : AllInTree (IsRestingAt s cost) s tree

-- in how many pricings of nodes the rounds had a part
abbrev pub pricings_of : List Branch → ℕ
pricings_of tree = sum_by (λ (b : Branch). b.rounds) tree

-- ---- splits, step by step

-- the leaf at the place is split, and its two parts follow it
abbrev pub split_branch : (split first second : Branch → Branch) → List Branch → (place : ℕ) → List Branch
split_branch split first second [] k = []
split_branch split first second (b ∷ tree) zero = split b ∷ first b ∷ second b ∷ tree
split_branch split first second (b ∷ tree) (suc k) = b ∷ split_branch split first second tree k
