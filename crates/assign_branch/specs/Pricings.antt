-- What a pricing of a car in a node answers.
use Rattle.std.specs.Prelude.{◌≡◌, ◌≤ℤ◌, ◌^◌, ℕ, ℤ, pos, neg_ℤ, List, Option, Some}
use Rattle.elevator_model.specs.declared.Stop.{Stop}
use Rattle.elevator_model.specs.Snapshot.{Snapshot}
use Rattle.search_model.specs.declared.Priced.{Priced}
use Rattle.search_model.specs.Nodes.{Node, IsTourIn}
use Rattle.search_model.specs.Prices.{price_at, value_of}

-- a pricing: of which car in which node, at which prices, and what was answered
pub record Pricing : Type 0 where
  pub car : ℕ
  pub node : Node
  pub prices : List ℤ
  pub answer : Priced

-- a worth has at most this absolute value
abbrev pub IsWorthSize : ℤ → Type 0
IsWorthSize worth = (neg_ℤ (pos (10 ^ 27)) ≤ℤ worth) × (worth ≤ℤ pos (10 ^ 27))

-- a tour of the car in the node is given, and the worth is its value
pub record GivesWorth (s : Snapshot) (p : Pricing) (given : Option (List Stop)) : Type 0 where
  pub tour : List Stop
  pub given_is : given ≡ Some tour
  pub within : IsTourIn s p.node p.car tour
  pub value : value_of s p.car (price_at p.prices) tour ≡ p.answer.worth
