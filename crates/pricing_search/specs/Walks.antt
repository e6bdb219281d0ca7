-- How far a walk over a car's partial tours is, and what it has seen.
use Rattle.std.specs.Prelude.{◌≡◌, ℕ, ◌+◌, ◌<◌, ◌≤◌, ℤ, ◌≤ℤ◌, List, length, true, Some}
use Rattle.elevator_model.specs.declared.Move.{Move}
use Rattle.elevator_model.specs.declared.Stop.{Stop}
use Rattle.elevator_model.specs.Partial.{Course, course_of}
use Rattle.search_model.specs.Nodes.{IsTourWithin}
use Rattle.search_model.specs.Orders.{BeginsWith, lists_from, any_course}
use Rattle.tour_rules.specs.Measure.{moves_left}
use Rattle.partial_tours.specs.PartialTour.{PartialTour, course}
use Rattle.pricing_bound.specs.Aims.{Aim, value_for, IsBoundSize}
use Rattle.kept_tours.specs.Walking.{aim_at}
use Rattle.tour_extension.specs.declared.demands.Demand.{Demand}
use Rattle.pricing_search.specs.declared.progress.Progress.{Progress}

-- The moves are those of a tour for the aim, and this is its value.
pub record IsFoundTour (a : Aim) (moves : List Move) (value : ℤ) : Type 0 where
  pub last : Course
  pub leads : course_of a.snapshot a.car moves ≡ Some last
  pub ended : last.ended ≡ true
  pub within : IsTourWithin a.snapshot a.car a.allowed a.required last.left
  pub is : value_for a last.left ≡ value

abbrev pub HasFound : Aim → Progress → Type 0
HasFound a p = IsFoundTour a p.found p.best

-- a walk goes on from the one to the other
pub record GoesOn (most : ℕ) (old new : Progress) : Type 0 where
  pub limit : new.visits ≤ most
  pub rises : old.visits ≤ new.visits
  pub best : new.best ≤ℤ old.best
  pub untried : new.untried ≤ℤ old.untried
  -- where the limit was not reached, nothing was left out
  pub unspent : new.visits < most → new.untried ≡ old.untried

-- a worth that may still be answered
pub record MayAnswer (p : Progress) (worth : ℤ) : Type 0 where
  pub best : worth ≤ℤ p.best
  pub untried : worth ≤ℤ p.untried

-- Each worth that may be answered is at most the value of each tour for the aim of this kind.
abbrev pub IsBelowThose : Aim → (kind : List Stop → Type 0) → Progress → Type 0
IsBelowThose a kind new =
    (worth : ℤ) (tour : List Stop) → MayAnswer new worth → IsTourWithin a.snapshot a.car a.allowed a.required tour → kind tour → worth ≤ℤ value_for a tour

-- No more were visited than there are lawful ones.
abbrev pub CountsFew : Aim → (t : PartialTour) → Course → (old new : Progress) → Type 0
CountsFew a t x old new =
    (n : ℕ) → moves_left t.snapshot t.car x < n → new.visits ≤ old.visits + length (lists_from t.snapshot t.car a.allowed any_course n t.moves x)

-- what is told of all tours that begin with some moves
abbrev pub BelowAll : PartialTour → Demand → (price : ℕ → ℤ) → List Move → Progress → Type 0
BelowAll t demand price moves p = IsBelowThose (aim_at t demand price) (λ tour. BeginsWith t.snapshot tour moves) p

-- What a walk through a partial tour and all that begin with it has done.
pub record Visited (t : PartialTour) (demand : Demand) (price : ℕ → ℤ) (most : ℕ) (old new : Progress) : Type 0 where
  pub on : GoesOn most old new
  pub found : HasFound (aim_at t demand price) new
  pub below : BelowAll t demand price t.moves new
  pub few : (x : Course) → course t ≡ Some x → CountsFew (aim_at t demand price) t x old new

-- A walk begins: nothing was visited, and a tour was found.
pub record Begins (a : Aim) (p : Progress) : Type 0 where
  pub visits : p.visits ≡ 0
  pub untried : p.untried ≡ p.best
  pub found : HasFound a p
  pub size : IsBoundSize p.best
