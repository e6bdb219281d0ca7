-- Tours: who is carried, when, and the rules that a tour may not break.
use Rattle.std.specs.Prelude.{◌≡◌, ℕ, ◌+◌, ◌-◌, ◌*◌, ◌==◌, ◌&&◌, ◌||◌, not, List, [], ◌∷◌, length, Bool, true, false, nat_le, nat_lt, count_by, if◌then◌else◌}
use Rattle.std.specs.Prelude.{Option, Some, None}
use Rattle.std.specs.List.{list_any}
use Rattle.elevator_model.specs.declared.Call.{Call}
use Rattle.elevator_model.specs.declared.Stop.{Stop}
use Rattle.elevator_model.specs.declared.Broken.{Broken}
use Rattle.elevator_model.specs.declared.Rule.{Rule}
use Rattle.elevator_model.specs.declared.Rule.TheVariants.{FirstStop, SameFloorTwice, UselessStop, TurnWithPassengers, Capacity, QueueOrder, Car, Floor}
use Rattle.elevator_model.specs.declared.Rule.TheVariants.{Delivery, CallTwice, Origin}
use Rattle.call_sets.specs.Counting.{any_below, sum_where, is_among}
use Rattle.elevator_model.specs.Travel.{time_between}
use Rattle.elevator_model.specs.Snapshot.{Snapshot, call_count, call_of, group_of, spec_of, state_of, floor_of, moment_of, is_coming, is_idle, is_possible}
use Rattle.elevator_model.specs.Snapshot.{serves, may_stop_first}

-- Riders are numbered: the open calls, and after them the groups aboard.
abbrev pub rider_count : Snapshot → ℕ
rider_count s = call_count s + length s.aboard

abbrev pub destination_of : Snapshot → ℕ → ℕ
destination_of s r = if nat_lt r (call_count s) then (call_of s r).destination else (group_of s (r - call_count s)).destination

abbrev pub persons_of : Snapshot → ℕ → ℕ
persons_of s r = if nat_lt r (call_count s) then (call_of s r).persons else (group_of s (r - call_count s)).persons

abbrev pub is_aboard : Snapshot → ℕ → ℕ → Bool
is_aboard s c r = nat_le (call_count s) r && nat_lt r (rider_count s) && ((group_of s (r - call_count s)).car == c)

-- How far a car is in its tour.
pub record Progress : Type 0 where
  -- whether it has begun a stop
  pub begun : Bool
  -- the floor of its last stop, or where it stands, comes to or comes from
  pub floor : ℕ
  -- the moment at which the doors of its last stop are open, and that at which it leaves; before the
  -- first stop the moment from which its tour is timed
  pub opened : ℕ
  pub leaves : ℕ
  -- the calls that boarded, the riders carried, and the moments at which riders boarded and got off
  pub boarded : ℕ → Bool
  pub carried : ℕ → Bool
  pub boarded_at : ℕ → ℕ
  pub delivered_at : ℕ → ℕ

abbrev pub boarded_before : Snapshot → ℕ → ℕ
boarded_before s r = if nat_lt r (call_count s) then 0 else (group_of s (r - call_count s)).boarded

-- a car at the start of its tour
abbrev pub start_of : Snapshot → ℕ → Progress
start_of s c =
    record {
      begun = false;
      floor = floor_of (state_of s c);
      opened = moment_of (state_of s c);
      leaves = moment_of (state_of s c);
      boarded = λ _. false;
      carried = is_aboard s c;
      boarded_at = boarded_before s;
      delivered_at = λ _. 0;
    }

-- A leg leads to each stop but the first one of a coming car.
abbrev pub has_leg : Snapshot → ℕ → Progress → Bool
has_leg s c p = p.begun || not (is_coming (state_of s c))

-- the moment of the arrival at a next stop at floor g
abbrev pub arrival : Snapshot → ℕ → Progress → ℕ → ℕ
arrival s c p g = if has_leg s c p then p.leaves + time_between s.building.travel p.floor g else p.leaves

-- the calls that board at a stop, each once
abbrev pub boards_at : Snapshot → Stop → ℕ → Bool
boards_at s stop j = nat_lt j (call_count s) && is_among j stop.boards

-- at a next stop at floor g everyone carried to that floor gets off
abbrev pub gets_off : Snapshot → Progress → ℕ → ℕ → Bool
gets_off s p g r = p.carried r && (destination_of s r == g)

abbrev pub stays_on : Snapshot → Progress → ℕ → ℕ → Bool
stays_on s p g r = p.carried r && not (destination_of s r == g)

abbrev pub persons_where : Snapshot → (ℕ → Bool) → ℕ
persons_where s test = sum_where (rider_count s) test (persons_of s)

-- The car makes a stop at floor g where the calls of a set board.
abbrev pub stop_at : Snapshot → ℕ → Progress → ℕ → (ℕ → Bool) → Progress
stop_at s c p g boards =
    let opened = arrival s c p g + (spec_of s c).opening in
    record {
      begun = true;
      floor = g;
      opened = opened;
      leaves = opened + (spec_of s c).alighting * persons_where s (gets_off s p g) + (spec_of s c).boarding * persons_where s boards + (spec_of s c).closing;
      boarded = λ j. p.boarded j || boards j;
      carried = λ r. stays_on s p g r || boards r;
      boarded_at = λ r. if boards r then opened else p.boarded_at r;
      delivered_at = λ r. if gets_off s p g r then opened else p.delivered_at r;
    }

abbrev pub make_stop : Snapshot → ℕ → Progress → Stop → Progress
make_stop s c p stop = stop_at s c p stop.floor (boards_at s stop)

abbrev pub after_stops : Snapshot → ℕ → Progress → List Stop → Progress
after_stops s c p [] = p
after_stops s c p (stop ∷ stops) = after_stops s c (make_stop s c p stop) stops

-- The queue of a call is its origin and its direction; in it a call is later by `released`, then by id.
abbrev pub is_upward : Call → Bool
is_upward x = nat_lt x.origin x.destination

abbrev pub same_direction : Bool → Bool → Bool
same_direction true y = y
same_direction false y = not y

abbrev pub is_later : Call → Call → Bool
is_later x y = nat_lt y.released x.released || ((x.released == y.released) && nat_lt y.id x.id)

-- x is a later call of the queue of y
abbrev pub is_later_in_queue : Call → Call → Bool
is_later_in_queue x y = (x.origin == y.origin) && same_direction (is_upward x) (is_upward y) && is_later x y

-- a later call of the queue of call j boarded at an earlier stop
abbrev pub overtakes : Snapshot → Progress → ℕ → Bool
overtakes s p j = any_below (call_count s) (λ k. p.boarded k && is_later_in_queue (call_of s k) (call_of s j))

-- On the leg from floor f to floor g someone carried would ride past or away from the destination: the
-- car rises above it, or falls below it.
abbrev pub turns_with : Snapshot → Progress → ℕ → ℕ → Bool
turns_with s p f g =
    (nat_lt f g && any_below (rider_count s) (λ r. p.carried r && nat_lt (destination_of s r) g))
    || (nat_lt g f && any_below (rider_count s) (λ r. p.carried r && nat_lt g (destination_of s r)))

abbrev pub is_call_for : Snapshot → ℕ → ℕ → Bool
is_call_for s c j = nat_lt j (call_count s) && is_possible s c (call_of s j)

-- The stop breaks a rule after the stops before it. A call that boards twice in a row of stops counts
-- twice for the capacity; calls that tours of earlier cars took count as boarded for `CallTwice` alone.
abbrev pub breaks : Snapshot → ℕ → (taken : ℕ → Bool) → Progress → Stop → Rule → Bool
breaks s c taken p stop FirstStop = not p.begun && not (may_stop_first s.building c s.moment (state_of s c) stop.floor)
breaks s c taken p stop SameFloorTwice = p.begun && (stop.floor == p.floor)
breaks s c taken p stop UselessStop =
    (p.begun || is_idle (state_of s c)) && not (any_below (rider_count s) (gets_off s p stop.floor)) && not (any_below (call_count s) (boards_at s stop))
breaks s c taken p stop TurnWithPassengers = has_leg s c p && turns_with s p p.floor stop.floor
breaks s c taken p stop Capacity = nat_lt (spec_of s c).capacity (persons_where s (stays_on s p stop.floor) + persons_where s (boards_at s stop))
breaks s c taken p stop QueueOrder = any_below (call_count s) (λ j. boards_at s stop j && overtakes s p j)
breaks s c taken p stop Car = list_any (λ j. not (is_call_for s c j)) stop.boards
breaks s c taken p stop Floor = not (serves s.building c stop.floor)
breaks s c taken p stop Delivery = false
breaks s c taken p stop CallTwice =
    any_below (call_count s) (λ j. boards_at s stop j && (p.boarded j || taken j || nat_le 2 (count_by (λ x. x == j) stop.boards)))
breaks s c taken p stop Origin = any_below (call_count s) (λ j. boards_at s stop j && not ((call_of s j).origin == stop.floor))
breaks s c taken p stop _ = false

-- the first rule of a list that is broken
abbrev pub first_rule : (Rule → Bool) → List Rule → Option Rule
first_rule broken [] = None
first_rule broken (rule ∷ rules) = if broken rule then Some rule else first_rule broken rules

abbrev pub rules_but_useless : List Rule
rules_but_useless = FirstStop ∷ SameFloorTwice ∷ TurnWithPassengers ∷ Capacity ∷ QueueOrder ∷ Car ∷ Floor ∷ CallTwice ∷ Origin ∷ []

abbrev pub rules_of_stop : List Rule
rules_of_stop = FirstStop ∷ SameFloorTwice ∷ UselessStop ∷ TurnWithPassengers ∷ Capacity ∷ QueueOrder ∷ Car ∷ Floor ∷ CallTwice ∷ Origin ∷ []

-- the lowest rule that the stop breaks
abbrev pub broken_at : Snapshot → ℕ → (taken : ℕ → Bool) → Progress → Stop → Option Rule
broken_at s c taken p stop = first_rule (breaks s c taken p stop) rules_of_stop

-- The rule that is broken by ending the tour: a coming or moving car has to stop first, and nobody may
-- be carried.
abbrev pub broken_at_end : Snapshot → ℕ → Progress → Option Rule
broken_at_end s c p =
    if not p.begun && not (is_idle (state_of s c)) then Some FirstStop else (if any_below (rider_count s) p.carried then Some Delivery else None)

-- the rule broken at stop k, and else what is found later
abbrev pub broken_or : Option Rule → ℕ → Option Broken → Option Broken
broken_or None k later = later
broken_or (Some rule) k later = Some (record { stop = k; rule = rule })

-- The first bad stop and its lowest rule, of stops that follow and are numbered from k.
abbrev pub first_broken_from : Snapshot → ℕ → (taken : ℕ → Bool) → Progress → ℕ → List Stop → Option Broken
first_broken_from s c taken p k [] = broken_or (broken_at_end s c p) k None
first_broken_from s c taken p k (stop ∷ stops) =
    broken_or (broken_at s c taken p stop) k (first_broken_from s c taken (make_stop s c p stop) (k + 1) stops)

abbrev pub none_taken : ℕ → Bool
none_taken _ = false

abbrev pub first_broken : Snapshot → ℕ → List Stop → Option Broken
first_broken s c tour = first_broken_from s c none_taken (start_of s c) 1 tour

-- a tour that breaks no rule
abbrev pub IsFeasible : Snapshot → ℕ → List Stop → Type 0
IsFeasible s c tour = first_broken s c tour ≡ None
