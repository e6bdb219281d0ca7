-- Where a car is in its tour, as the code keeps it for the rules, against the definition.
use Rattle.std.specs.Prelude.{◌≡◌, ℕ, ◌-◌, ◌<◌, ◌≤◌, ◌==◌, ◌&&◌, not, Bool, true, false, nat_lt, List, slice_index_or, if◌then◌else◌}
use Rattle.elevator_model.specs.declared.Call.{Call}
use Rattle.elevator_model.specs.declared.Aboard.{Aboard}
use Rattle.elevator_model.specs.declared.Stop.{Stop}
use Rattle.call_sets.specs.Counting.{has, is_among}
use Rattle.elevator_model.specs.Snapshot.{Snapshot, call_count, no_call, no_group}
use Rattle.elevator_model.specs.Tours.{Progress, rider_count, destination_of}
use Rattle.tour_rules.specs.declared.places.CarPlace.{CarPlace}
use Rattle.tour_rules.specs.declared.places.Heading.{Heading}
use Rattle.tour_rules.specs.declared.places.Heading.TheVariants.{To, Elsewhere, Below, Above, Anywhere}

-- the destination is one of these
abbrev pub heads : Heading → ℕ → Bool
heads (To f) g = g == f
heads (Elsewhere f) g = not (g == f)
heads (Below f) g = nat_lt g f
heads (Above f) g = nat_lt f g
heads Anywhere g = true

abbrev pub call_in : List Call → ℕ → Call
call_in calls j = slice_index_or calls j no_call

abbrev pub group_in : List Aboard → ℕ → Aboard
group_in groups k = slice_index_or groups k no_group

-- a call of the set with such a destination
abbrev pub call_heads : List Call → (set : ℕ) → Heading → ℕ → Bool
call_heads calls set heading j = has set j && heads heading (call_in calls j).destination

-- the group is still aboard: the car has made no stop at its destination
abbrev pub group_carried : List Aboard → (car visited : ℕ) → ℕ → Bool
group_carried groups car visited k = ((group_in groups k).car == car) && not (has visited (group_in groups k).destination)

abbrev pub group_heads : List Aboard → (car visited : ℕ) → Heading → ℕ → Bool
group_heads groups car visited heading k = group_carried groups car visited k && heads heading (group_in groups k).destination

-- the riders carried: a set of calls, and the groups for whose floors no stop was made
abbrev pub carries : Snapshot → ℕ → (calls visited : ℕ) → ℕ → Bool
carries s c calls visited r = if nat_lt r (call_count s) then has calls r else group_carried s.aboard c visited (r - call_count s)

abbrev pub rider_heads : Snapshot → ℕ → (calls visited : ℕ) → Heading → ℕ → Bool
rider_heads s c calls visited heading r = carries s c calls visited r && heads heading (destination_of s r)

-- the place stands for this progress
pub record Tracks (s : Snapshot) (c : ℕ) (place : CarPlace) (p : Progress) : Type 0 where
  pub begun : place.begun ≡ p.begun
  pub floor : place.floor ≡ p.floor
  pub boarded : (j : ℕ) → j < call_count s → has place.boarded j ≡ p.boarded j
  pub carried : (r : ℕ) → r < rider_count s → carries s c place.carried place.visited r ≡ p.carried r

-- the set has the calls that board, which are calls
pub record IsBoardSet (s : Snapshot) (set : ℕ) (boards : ℕ → Bool) : Type 0 where
  pub calls : (j : ℕ) → j < call_count s → has set j ≡ boards j
  pub only : (j : ℕ) → call_count s ≤ j → boards j ≡ false

-- the set has the calls that board at the stop
abbrev pub HasBoards : Snapshot → ℕ → Stop → Type 0
HasBoards s set stop = (j : ℕ) → j < call_count s → has set j ≡ is_among j stop.boards
