-- A car on its tour, as the code keeps it with the moments of its last stop, against the definition.
use Rattle.std.specs.Prelude.{◌≡◌, ℕ}
use Rattle.elevator_model.specs.Snapshot.{Snapshot}
use Rattle.elevator_model.specs.Tours.{Progress}
use Rattle.tour_rules.specs.declared.walking.Walker.{Walker}
use Rattle.tour_rules.specs.Places.{Tracks}

-- the walker is where this progress is
pub record Walks (s : Snapshot) (c : ℕ) (walker : Walker) (p : Progress) : Type 0 where
  pub place : Tracks s c walker.place p
  pub opened : walker.opened ≡ p.opened
  pub leaves : walker.leaves ≡ p.leaves
