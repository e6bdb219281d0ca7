-- What a walk keeps: its sums are those of where the partial tour leads, which boards allowed calls only.
use Rattle.std.specs.Prelude.{◌≡◌, Some}
use Rattle.elevator_model.specs.Partial.{Course}
use Rattle.search_model.specs.Orders.{AreAllowed}
use Rattle.partial_tours.specs.PartialTour.{PartialTour, course}
use Rattle.pricing_bound.specs.declared.straight.Sums.{Sums}
use Rattle.pricing_bound.specs.Aims.{Aim, AimsAt}
use Rattle.pricing_bound.specs.Running.{StandFor}

pub record IsKept (a : Aim) (t : PartialTour) (sums : Sums) : Type 0 where
  pub for_it : AimsAt a t
  pub at : Course
  pub leads : course t ≡ Some at
  pub stands : StandFor a sums at
  pub may : AreAllowed a.allowed t.moves
