-- What a count of a kept list answers.
use Rattle.std.specs.Prelude.{◌≡◌, ℕ, ◌-◌, ◌≤◌, ◌<◌, ℤ, List, length, take, Some, None}
use Rattle.elevator_model.specs.declared.Move.{Move}
use Rattle.elevator_model.specs.declared.Stop.{Stop}
use Rattle.elevator_model.specs.Snapshot.{Snapshot}
use Rattle.search_model.specs.declared.Leaf.{Leaf}
use Rattle.search_model.specs.Nodes.{Node, allows, requires_of}
use Rattle.search_model.specs.Prices.{price_at, value_of}
use Rattle.search_model.specs.Certificates.{price_in, worth_in, claim_in}
use Rattle.search_model.specs.Kept.{kept_list}
use Rattle.search_model.specs.Verdicts.{first_under}
use Rattle.partial_tours.specs.PartialTour.{stops_made}
use Rattle.kept_tours.specs.declared.counts.Count.{Count}
use Rattle.kept_tours.specs.declared.counts.Count.TheVariants.{Whole, Longer, Under}
use Rattle.kept_tours.specs.declared.desks.Desk.{Desk}
use Rattle.kept_tours.specs.declared.visits.Visits.{Visits}
use Rattle.kept_tours.specs.declared.visits.Visits.TheVariants.{Going, Passed, Under as IsUnder}
use Rattle.kept_tours.specs.Leaves.{worth_at, claim_at}

-- ---- desks

-- the leaf's prices, worths and claims are laid out at the desk
pub record Holds (leaf : Leaf) (desk : Desk) : Type 0 where
  pub prices : (j : ℕ) → price_at desk.rates.prices j ≡ price_in leaf j
  pub worths : (c : ℕ) → worth_at desk.stakes.items c ≡ worth_in leaf c
  pub claims : (c : ℕ) → claim_at desk.stakes.items c ≡ claim_in leaf c

-- what stays laid out from one count to the next
abbrev pub StaysLaidOut : (old new : Desk) → Type 0
StaysLaidOut old new = (leaf : Leaf) → Holds leaf old → Holds leaf new

-- the tour at which the last count stopped, where it found one
abbrev pub found_tour : Desk → List Stop
found_tour desk = stops_made desk.prefix.moves

-- ---- counts

-- The list has this length, within the limit, and no tour under the worth.
pub record HasLength (s : Snapshot) (c : ℕ) (price : ℕ → ℤ) (worth : ℤ) (limit : ℕ) (kept : List (List Move)) (n : ℕ) : Type 0 where
  pub counted : length kept ≡ n
  pub within : n ≤ limit
  pub none : first_under s c price worth kept ≡ None

-- The list is longer than the limit, and up to the limit there is no tour under the worth.
pub record IsLonger (s : Snapshot) (c : ℕ) (price : ℕ → ℤ) (worth : ℤ) (limit : ℕ) (kept : List (List Move)) : Type 0 where
  pub longer : limit < length kept
  pub none : first_under s c price worth (take limit kept) ≡ None

-- Up to the limit there is a tour under the worth: this is the first one, and has this value.
pub record FindsUnder (s : Snapshot) (c : ℕ) (price : ℕ → ℤ) (worth : ℤ) (limit : ℕ) (kept : List (List Move)) (tour : List Stop) (value : ℤ) : Type 0 where
  pub first : first_under s c price worth (take limit kept) ≡ Some tour
  pub value_is : value ≡ value_of s c price tour

-- the count of a list, with the tour that was found
abbrev pub IsCount : Snapshot → (c : ℕ) → (price : ℕ → ℤ) → (worth : ℤ) → (limit : ℕ) → (kept : List (List Move)) → (tour : List Stop) → Count → Type 0
IsCount s c price worth limit kept tour (Whole n) = HasLength s c price worth limit kept n
IsCount s c price worth limit kept tour Longer = IsLonger s c price worth limit kept
IsCount s c price worth limit kept tour (Under value) = FindsUnder s c price worth limit kept tour value

-- The count of the kept list of a car in a node for a worth, at a leaf's prices.
abbrev pub IsCounted : Snapshot → Node → Leaf → (c : ℕ) → (worth : ℤ) → (limit : ℕ) → (tour : List Stop) → Count → Type 0
IsCounted s node leaf c worth limit tour count =
    IsCount s c (price_in leaf) worth limit (kept_list s c (price_in leaf) (allows node c) (requires_of node c) worth) tour count

-- ---- visits

-- where the visits go on, at most the limit of them are left
abbrev pub LeavesFew : (limit : ℕ) → Visits → Type 0
LeavesFew limit visits = (left : ℕ) → visits ≡ Going left → left ≤ limit

-- what visits have counted that began with this many left
abbrev pub count_of : (limit : ℕ) → Visits → Count
count_of limit (Going left) = Whole (limit - left)
count_of limit Passed = Longer
count_of limit (IsUnder value) = Under value
