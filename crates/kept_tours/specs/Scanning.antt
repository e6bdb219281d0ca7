-- What the visits to a whole kept list have seen.
use Rattle.std.specs.Prelude.{◌≡◌, ℕ, ℤ, List}
use Rattle.elevator_model.specs.declared.Move.{Move}
use Rattle.elevator_model.specs.Partial.{Course}
use Rattle.partial_tours.specs.PartialTour.{stops_made}
use Rattle.pricing_bound.specs.Aims.{Aim, value_for}
use Rattle.kept_tours.specs.Kept.{kept_list_by}
use Rattle.kept_tours.specs.Visiting.{see, seen_of, under_for}
use Rattle.kept_tours.specs.declared.visits.Visits.{Visits}
use Rattle.kept_tours.specs.declared.visits.Visits.TheVariants.{Under}

-- the visits to the kept list for an aim and a bound, of which the walk stands at these moves at the end
pub record Scanned (a : Aim) (bound : Course → ℤ) (worth : ℤ) (limit : ℕ) (moves : List Move) (visits : Visits) : Type 0 where
  pub seen : see (under_for a worth) limit (kept_list_by a.snapshot a.car bound a.allowed a.required worth) ≡ seen_of visits moves
  pub value : (value : ℤ) → visits ≡ Under value → value ≡ value_for a (stops_made moves)
