-- What the pricings of all cars in a node answer.
use Rattle.std.specs.Prelude.{◌≡◌, ℕ, ◌<◌, ℤ, List, length, slice_index_or, true, false, Some, IfSome}
use Rattle.elevator_model.specs.declared.Stop.{Stop}
use Rattle.elevator_model.specs.Snapshot.{Snapshot, car_count, call_count}
use Rattle.search_model.specs.declared.TurnOf.{TurnOf}
use Rattle.search_model.specs.Nodes.{Node, IsTourIn}
use Rattle.search_model.specs.Prices.{price_at, value_of, IsWorth}
use Rattle.search_model.specs.Solving.{ReachesLeast, HasPartialTours, no_turn}
use Rattle.search_tree.specs.declared.branches.Branch.{Branch}
use Rattle.assign_branch.specs.Pricings.{IsWorthSize}

-- the tour that was given has the worth
pub record GivesTour (s : Snapshot) (node : Node) (c : ℕ) (price : ℕ → ℤ) (t : TurnOf) : Type 0 where
  pub tour : List Stop
  pub given : t.tour ≡ Some tour
  pub within : IsTourIn s node c tour
  pub has_it : value_of s c price tour ≡ t.priced.worth

-- a pricing of the car in the node at these prices, of at most this many partial tours
pub record IsAnswerIn (s : Snapshot) (most_tours : ℕ) (node : Node) (price : ℕ → ℤ) (c : ℕ) (t : TurnOf) : Type 0 where
  pub worth : IsWorth s node c price t.priced.worth
  pub size : IsWorthSize t.priced.worth
  pub least : t.priced.spent ≡ false → ReachesLeast s node c price t.priced.worth
  pub gives : t.priced.spent ≡ false → GivesTour s node c price t
  pub many : t.priced.spent ≡ true → HasPartialTours s node c most_tours
  pub within : IfSome t.tour (IsTourIn s node c)

-- the pricings of all cars
pub record AreAnswersIn (s : Snapshot) (most_tours : ℕ) (node : Node) (prices : List ℤ) (cars : List TurnOf) : Type 0 where
  pub calls : length prices ≡ call_count s
  pub count : length cars ≡ car_count s
  pub each : (c : ℕ) → c < car_count s → IsAnswerIn s most_tours node (price_at prices) c (slice_index_or cars c no_turn)

-- the first pricing of a leaf is at its prices
abbrev pub BeginsAt : Branch → List ℤ → Type 0
BeginsAt b prices = b.rounds ≡ 0 → b.sheet.prices ≡ prices
