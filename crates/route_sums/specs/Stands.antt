-- Where a partial tour or its forced route is, as the sums keep it, against the definition.
use Rattle.std.specs.Prelude.{◌≡◌, ℕ, ◌+◌, ◌<◌, ◌≤◌, ◌==◌, ◌&&◌, ◌||◌, Bool, true, Option, Some, None, if◌then◌else◌}
use Rattle.call_sets.specs.Counting.{has}
use Rattle.elevator_model.specs.Building.{floor_count}
use Rattle.elevator_model.specs.Costs.{settled_cost}
use Rattle.elevator_model.specs.Partial.{Course}
use Rattle.elevator_model.specs.Snapshot.{Snapshot, call_count, spec_of}
use Rattle.elevator_model.specs.Tours.{Progress}
use Rattle.elevator_model.specs.Travel.{time_between}
use Rattle.partial_tours.specs.Courses.{any_goes_to, reached}
use Rattle.partial_tours.specs.PartialTour.{PartialTour, course}
use Rattle.tour_rules.specs.Leaving.{IsKept}
use Rattle.tour_rules.specs.Places.{Tracks}
use Rattle.route_sums.specs.declared.stands.Newest.{Newest}
use Rattle.route_sums.specs.declared.stands.Stand.{Stand}

-- The call boarded within the partial tour that has come to p, or is the one that boards next.
abbrev pub is_known : Option Newest → Progress → ℕ → Bool
is_known None p j = p.boarded j
is_known (Some new) p j = (new.call == j) || p.boarded j

-- the moment of that
abbrev pub boarding_moment : Option Newest → Progress → ℕ → ℕ
boarding_moment None p j = p.boarded_at j
boarding_moment (Some new) p j = if new.call == j then new.moment else p.boarded_at j

-- the stand is that of progress p, or one that is no later and where no more is settled; the calls carried boarded within
-- the partial tour that has come to q, or next
pub record IsStand (s : Snapshot) (c : ℕ) (newest : Option Newest) (q : Progress) (stand : Stand) (p : Progress) : Type 0 where
  pub place : Tracks s c stand.place p
  pub bound_for : (g : ℕ) → has stand.bound_for g ≡ any_goes_to s p g
  pub kept : IsKept s c p
  pub floor : p.floor < floor_count s.building
  pub opened : stand.opened ≤ p.opened
  pub leaves : stand.leaves ≤ p.leaves
  pub settled : stand.settled ≤ settled_cost s c p
  pub known : (j : ℕ) → j < call_count s → p.carried j ≡ true → is_known newest q j ≡ true
  pub boarded_at : (j : ℕ) → j < call_count s → p.carried j ≡ true → p.boarded_at j ≡ boarding_moment newest q j

-- it is that of a progress to which the partial tour leads, or its forced route
pub record StandsFor (t : PartialTour) (newest : Option Newest) (stand : Stand) (p : Progress) : Type 0 where
  pub there : Course
  pub leads : course t ≡ Some there
  pub stands : IsStand t.snapshot t.car newest (reached t.snapshot t.car there) stand p

-- the earliest moment at which the doors can be open at floor g, as the stand tells it
abbrev pub soonest : Snapshot → ℕ → Stand → (g : ℕ) → ℕ
soonest s c stand g =
    if stand.place.begun
    && (g == stand.place.floor) then stand.opened else stand.leaves + time_between s.building.travel stand.place.floor g + (spec_of s c).opening
