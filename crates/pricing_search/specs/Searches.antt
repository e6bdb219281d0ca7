-- What a search for a car's cheapest tour answers.
use Rattle.std.specs.Prelude.{◌≡◌, ◌↔◌, ℕ, ◌≤◌, ℤ, ◌≤ℤ◌, List, length, Bool, true, false, Some}
use Rattle.elevator_model.specs.declared.Move.{Move}
use Rattle.elevator_model.specs.declared.Stop.{Stop}
use Rattle.elevator_model.specs.Snapshot.{Snapshot, IsAccepted}
use Rattle.elevator_model.specs.Partial.{Course, course_of, course_start}
use Rattle.search_model.specs.declared.Priced.{Priced}
use Rattle.search_model.specs.Nodes.{Node, IsTourWithin, IsTourIn, allows, requires_of}
use Rattle.search_model.specs.Orders.{partial_tours}
use Rattle.search_model.specs.Prices.{IsWorth, price_at, value_of}
use Rattle.search_model.specs.Bounds.{completion_bound}
use Rattle.search_model.specs.Solving.{ReachesLeast, HasPartialTours}
use Rattle.assign_branch.specs.Pricings.{Pricing, IsWorthSize}
use Rattle.partial_tours.specs.PartialTour.{PartialTour}
use Rattle.pricing_bound.specs.Aims.{Aim, value_for, IsBoundSize}
use Rattle.pricing_bound.specs.Rates.{Rated}
use Rattle.route_sums.specs.CallRates.{HasRoomFor, RouteRated}
use Rattle.pricing_search.specs.Walks.{IsFoundTour}

-- a tour was found
abbrev pub FindsSome : Aim → List Move → Type 0
FindsSome a moves = (value : ℤ) × IsFoundTour a moves value

-- The answer of a search for an aim, no worth of which may be below the least.
pub record IsSearched (a : Aim) (least : ℤ) (most : ℕ) (found : List Move) (answer : Priced) : Type 0 where
  pub low : 1 ≤ answer.visits
  pub high : answer.visits ≤ most
  pub worth : (tour : List Stop) → IsTourWithin a.snapshot a.car a.allowed a.required tour → answer.worth ≤ℤ value_for a tour
  pub size : IsBoundSize answer.worth
  pub at_least : least ≤ℤ answer.worth
  pub finds : FindsSome a found
  pub exact : answer.spent ≡ false → IsFoundTour a found answer.worth
  pub reached : (answer.spent ≡ true) ↔ (answer.visits ≡ most)
  pub many : answer.visits ≤ length (partial_tours a.snapshot a.car a.allowed)

-- ---- desks

-- the moves found are those of a tour of the pricing's car in its node, which has the worth unless the limit was reached
pub record HoldsPricing (s : Snapshot) (found : List Move) (has_priced : Bool) (p : Pricing) : Type 0 where
  pub priced : has_priced ≡ true
  pub last : Course
  pub leads : course_of s p.car found ≡ Some last
  pub ended : last.ended ≡ true
  pub within : IsTourIn s p.node p.car last.left
  pub gives : p.answer.spent ≡ false → value_of s p.car (price_at p.prices) last.left ≡ p.answer.worth

-- the desk is one of the snapshot's
pub record IsDeskOf (s : Snapshot) (prefix : PartialTour) (rates : Rated) (route_rates : RouteRated) (found : List Move) (has_priced : Bool) : Type 0 where
  pub accepted : IsAccepted s
  pub prefix_is : prefix.snapshot ≡ s
  pub rates_are : rates.snapshot ≡ s
  pub route_rates_fit : HasRoomFor s route_rates
  pub held : has_priced ≡ true → (p : Pricing) × HoldsPricing s found has_priced p

-- ---- pricings

-- the completion bound of the car's empty partial tour in the node
abbrev pub bound_of_empty : Snapshot → Node → ℕ → List ℤ → ℤ
bound_of_empty s node c prices = completion_bound s c (price_at prices) (allows node c) (requires_of node c) (course_start s c)

-- The answer of a pricing of a car in a node, with the moves found.
pub record IsPriced (s : Snapshot) (node : Node) (c : ℕ) (prices : List ℤ) (most : ℕ) (found : List Move) (has_priced : Bool) (answer : Priced) : Type 0 where
  pub held : HoldsPricing s found has_priced (record { car = c; node = node; prices = prices; answer = answer })
  pub worth : IsWorth s node c (price_at prices) answer.worth
  pub size : IsWorthSize answer.worth
  pub low : 1 ≤ answer.visits
  pub high : answer.visits ≤ most
  pub exact : answer.spent ≡ false → ReachesLeast s node c (price_at prices) answer.worth
  pub reached : (answer.spent ≡ true) ↔ (answer.visits ≡ most)
  pub spent : answer.spent ≡ true → HasPartialTours s node c most
  -- the worth is no less than the completion bound of the empty partial tour
  pub least : bound_of_empty s node c prices ≤ℤ answer.worth
