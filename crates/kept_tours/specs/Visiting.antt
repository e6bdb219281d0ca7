-- Visits to the partial tours of a list, one after another, at most this many.
use Rattle.std.specs.Prelude.{◌≡◌, ℕ, zero, suc, ◌<◌, ℤ, List, [], ◌∷◌, Option, Some, None}
use Rattle.call_sets.specs.Counting.{has}
use Rattle.elevator_model.specs.declared.Move.{Move}
use Rattle.elevator_model.specs.declared.Stop.{Stop}
use Rattle.elevator_model.specs.Partial.{Course, course_of}
use Rattle.search_model.specs.Prices.{value_of}
use Rattle.search_model.specs.Verdicts.{tour_under_at}
use Rattle.tour_rules.specs.Measure.{moves_left}
use Rattle.partial_tours.specs.PartialTour.{PartialTour, course, stops_made}
use Rattle.tour_extension.specs.declared.demands.Demand.{Demand}
use Rattle.pricing_bound.specs.Aims.{Aim}
use Rattle.kept_tours.specs.Kept.{kept_from}
use Rattle.kept_tours.specs.Walking.{aim_at}
use Rattle.kept_tours.specs.declared.visits.Visits.{Visits}
use Rattle.kept_tours.specs.declared.visits.Visits.TheVariants.{Going, Passed, Under}

-- How visits end: at the end of the list with this many left, before one that may not be visited, or at one that ends
-- a tour under the worth.
pub data Seen : Type 0 where
  goes_on : (left : ℕ) → Seen
  passes : Seen
  finds : (tour : List Stop) → Seen

-- the visits go on with those of another list
abbrev pub and_then : Seen → (ℕ → Seen) → Seen
and_then (goes_on left) rest = rest left
and_then passes rest = passes
and_then (finds tour) rest = finds tour

abbrev pub seen_at : Option (List Stop) → Seen → Seen
seen_at None rest = rest
seen_at (Some tour) rest = finds tour

-- At most this many of the list are visited, until one is found.
abbrev pub see : (under : List Move → Option (List Stop)) → (left : ℕ) → List (List Move) → Seen
see under left [] = goes_on left
see under zero (moves ∷ lists) = passes
see under (suc left) (moves ∷ lists) = seen_at (under moves) (see under left lists)

-- the tour that the moves end, where its value is below the worth
abbrev pub under_for : Aim → (worth : ℤ) → List Move → Option (List Stop)
under_for a worth moves = tour_under_at a.snapshot a.car a.price worth (course_of a.snapshot a.car moves)

-- ---- walks

-- what a walk that stands at these moves has seen
abbrev pub seen_of : Visits → List Move → Seen
seen_of (Going left) moves = goes_on left
seen_of Passed moves = passes
seen_of (Under value) moves = finds (stops_made moves)

-- where nothing stops the walk, it is where it was
abbrev pub GoesBack : (old new : PartialTour) → Visits → Type 0
GoesBack old new visits = (left : ℕ) → visits ≡ Going left → new ≡ old

-- What a walk through the kept ones that begin with a partial tour has seen.
pub record Visited (t : PartialTour) (demand : Demand) (price : ℕ → ℤ) (bound : Course → ℤ) (worth : ℤ) (left : ℕ) (new : PartialTour)
    (visits : Visits) : Type 0 where
  pub seen : (x : Course) → course t ≡ Some x → (n : ℕ) → moves_left t.snapshot t.car x < n
      → see (under_for (aim_at t demand price) worth) left (kept_from t.snapshot t.car bound (has demand.allowed) (has demand.required) worth n t.moves x)
      ≡ seen_of visits new.moves
  pub value : (value : ℤ) → visits ≡ Under value → value ≡ value_of t.snapshot t.car price (stops_made new.moves)
  pub snapshot : new.snapshot ≡ t.snapshot
  pub car : new.car ≡ t.car
