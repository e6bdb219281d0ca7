-- What one more call costs, car by car. The last open call of a snapshot is the one that is asked about.
use Rattle.std.specs.Prelude.{◌≡◌, ℕ, ◌-◌, ◌++◌, ◌<◌, ◌≤◌, ◌⊎◌, ℤ, pos, ◌-ℤ◌, ◌≤ℤ◌, ◌<ℤ◌, List, [], ◌∷◌, take, length, Bool, true, false, Some, slice_index}
use Rattle.std.specs.Prelude.{slice_index_or}
use Rattle.elevator_model.specs.declared.Call.{Call}
use Rattle.elevator_model.specs.declared.Stop.{Stop}
use Rattle.elevator_model.specs.Travel.{difference}
use Rattle.elevator_model.specs.Snapshot.{Snapshot, call_count, call_of, car_count, floor_of, is_possible, state_of}
use Rattle.elevator_model.specs.Plans.{IsBound, IsOptimal, plan_cost_of}
use Rattle.search_model.specs.declared.Twig.{Twig}
use Rattle.search_model.specs.declared.Turn.{Turn}
use Rattle.search_model.specs.declared.StopReason.{StopReason}
use Rattle.search_model.specs.Solving.{IsSolveAnswer}
use Rattle.search_model.specs.Verdicts.{tours_enough, rounds_enough}
use Rattle.what_if.specs.declared.extras.Extra.{Extra}
use Rattle.what_if.specs.declared.extras.Extra.TheVariants.{None as NoExtra, Exact, Between}
use Rattle.what_if.specs.declared.extras.Searched.{Searched}
use Rattle.what_if.specs.declared.regrets.Regret.{Regret}

-- ---- the two snapshots

abbrev pub with_calls : Snapshot → List Call → Snapshot
with_calls s calls = record { version = s.version; building = s.building; moment = s.moment; states = s.states; aboard = s.aboard; calls = calls }

-- the index of the call that is asked about
abbrev pub asked : Snapshot → ℕ
asked s = call_count s - 1

abbrev pub earlier_calls : Snapshot → List Call
earlier_calls s = take (asked s) s.calls

-- without the call that is asked about
abbrev pub without_last : Snapshot → Snapshot
without_last s = with_calls s (earlier_calls s)

abbrev pub pinned_to : Call → ℕ → Call
pinned_to call c = record { id = call.id; origin = call.origin; destination = call.destination; persons = call.persons; released = call.released; pin = Some c }

-- with the call that is asked about pinned to this car
abbrev pub with_pin : Snapshot → ℕ → Snapshot
with_pin s c = with_calls s (earlier_calls s ++ pinned_to (call_of s (asked s)) c ∷ [])

-- ---- the cars that can take the call

-- the call that is asked about may be served by the car
abbrev pub takes_asked : Snapshot → ℕ → Bool
takes_asked s c = is_possible s c (call_of s (asked s))

pub record CanTakeAsked (s : Snapshot) (c : ℕ) : Type 0 where
  pub is_car : c < car_count s
  pub possible : takes_asked s c ≡ true

-- how far in height the car's floor is from where the call begins
abbrev pub distance : Snapshot → ℕ → ℕ
distance s c = difference (slice_index s.building.heights (floor_of (state_of s c))) (slice_index s.building.heights (call_of s (asked s)).origin)

-- The car that can take the call with the least distance to it; of equals, the first.
pub record IsNearest (s : Snapshot) (c : ℕ) : Type 0 where
  pub takes : CanTakeAsked s c
  pub least : (other : ℕ) → CanTakeAsked s other → distance s c ≤ distance s other
  pub first : (other : ℕ) → other < c → CanTakeAsked s other → distance s c < distance s other

-- ---- extra costs

-- no feasible plan costs less, and some feasible plan costs this
pub record IsLeastCost (s : Snapshot) (cost : ℕ) : Type 0 where
  pub plan : List (List Stop)
  pub optimal : IsOptimal s plan
  pub costs : plan_cost_of s plan ≡ cost

-- What the call costs where this car serves it: the least cost with it less the least cost without it.
pub record IsExtraCost (s : Snapshot) (c : ℕ) (extra : ℤ) : Type 0 where
  pub before : ℕ
  pub after : ℕ
  pub least_before : IsLeastCost (without_last s) before
  pub least_after : IsLeastCost (with_pin s c) after
  pub is : extra ≡ pos after -ℤ pos before

-- ---- what two searches tell of it

-- a search within the limits answers this cost and this bound
pub record IsSearched (s : Snapshot) (rounds most_tours : ℕ) (x : Searched) : Type 0 where
  pub plan : List (List Stop)
  pub tree : List Twig
  pub turns : List Turn
  pub why : StopReason
  pub answer : IsSolveAnswer s rounds most_tours plan x.cost x.bound tree turns why
  pub bound : IsBound s x.bound
  pub enough : rounds_enough s ≤ rounds → tours_enough s ≤ most_tours → x.cost ≡ x.bound

abbrev pub AreClosed : (before after : Searched) → Type 0
AreClosed before after = (before.cost ≡ before.bound) × (after.cost ≡ after.bound)

-- the bound is below the cost in one of the two
abbrev pub IsOneOpen : (before after : Searched) → Type 0
IsOneOpen before after = (before.bound < before.cost) ⊎ (after.bound < after.cost)

pub record IsExact (s : Snapshot) (rounds most_tours : ℕ) (before : Searched) (c : ℕ) (extra : ℤ) : Type 0 where
  pub after : Searched
  pub searched : IsSearched (with_pin s c) rounds most_tours after
  pub closed : AreClosed before after
  pub is : extra ≡ pos after.cost -ℤ pos before.cost
  pub extra_cost : IsExtraCost s c extra
  pub only : (other : ℤ) → IsExtraCost s c other → other ≡ extra

-- There is one extra cost, and it lies between these.
pub record IsBetween (s : Snapshot) (rounds most_tours : ℕ) (before : Searched) (c : ℕ) (low high : ℤ) : Type 0 where
  pub after : Searched
  pub searched : IsSearched (with_pin s c) rounds most_tours after
  pub one_open : IsOneOpen before after
  pub low_is : low ≡ pos after.bound -ℤ pos before.cost
  pub high_is : high ≡ pos after.cost -ℤ pos before.bound
  pub apart : low <ℤ high
  pub extra : ℤ
  pub extra_cost : IsExtraCost s c extra
  pub only : (other : ℤ) → IsExtraCost s c other → other ≡ extra
  pub holds : (other : ℤ) → IsExtraCost s c other → (low ≤ℤ other) × (other ≤ℤ high)

-- What is said of a car, after the search without the call.
abbrev pub IsExtraOf : Snapshot → (rounds most_tours : ℕ) → (before : Searched) → ℕ → Extra → Type 0
IsExtraOf s rounds most_tours before c NoExtra = takes_asked s c ≡ false
IsExtraOf s rounds most_tours before c (Exact extra) = (takes_asked s c ≡ true) × IsExact s rounds most_tours before c extra
IsExtraOf s rounds most_tours before c (Between low high) = (takes_asked s c ≡ true) × IsBetween s rounds most_tours before c low high

abbrev pub no_extra : Extra
no_extra = NoExtra

-- what is said of this car
abbrev pub extra_at : List Extra → ℕ → Extra
extra_at extras c = slice_index_or extras c no_extra

-- What is said of each car.
pub record AreExtras (s : Snapshot) (rounds most_tours : ℕ) (extras : List Extra) : Type 0 where
  pub before : Searched
  pub searched : IsSearched (without_last s) rounds most_tours before
  pub count : length extras ≡ car_count s
  pub each : (c : ℕ) → c < car_count s → IsExtraOf s rounds most_tours before c (extra_at extras c)

-- the limits are enough for each of the searches
pub record AreEnough (s : Snapshot) (rounds most_tours : ℕ) : Type 0 where
  pub rounds_without : rounds_enough (without_last s) ≤ rounds
  pub moves_without : tours_enough (without_last s) ≤ most_tours
  pub rounds_with : (c : ℕ) → CanTakeAsked s c → rounds_enough (with_pin s c) ≤ rounds
  pub moves_with : (c : ℕ) → CanTakeAsked s c → tours_enough (with_pin s c) ≤ most_tours

-- ---- what it costs to send the nearest car

-- of an exact extra both ends are the extra itself
abbrev pub low_of : Extra → ℤ
low_of NoExtra = pos 0
low_of (Exact extra) = extra
low_of (Between low high) = low

abbrev pub high_of : Extra → ℤ
high_of NoExtra = pos 0
high_of (Exact extra) = extra
high_of (Between low high) = high

abbrev pub has_extra : Extra → Bool
has_extra NoExtra = false
has_extra (Exact extra) = true
has_extra (Between low high) = true

abbrev pub is_settled : Extra → Bool
is_settled NoExtra = true
is_settled (Exact extra) = true
is_settled (Between low high) = false

-- no extra is known by its ends alone
abbrev pub AreSettled : List Extra → Type 0
AreSettled extras = (c : ℕ) → c < length extras → is_settled (extra_at extras c) ≡ true

-- the least extra cost of the cars that can take the call
pub record IsLeastExtra (s : Snapshot) (extra : ℤ) : Type 0 where
  pub car : ℕ
  pub takes : CanTakeAsked s car
  pub is : IsExtraCost s car extra
  pub least : (c : ℕ) (other : ℤ) → CanTakeAsked s c → IsExtraCost s c other → extra ≤ℤ other

-- how much more the call costs with this car than with the best one
pub record IsRegretOf (s : Snapshot) (c : ℕ) (regret : ℤ) : Type 0 where
  pub extra : ℤ
  pub best : ℤ
  pub extra_cost : IsExtraCost s c extra
  pub least : IsLeastExtra s best
  pub is : regret ≡ extra -ℤ best

-- The ends of a regret, from the extras: from the high end of its car down to the least of all low ends.
pub record HasEnds (extras : List Extra) (r : Regret) : Type 0 where
  pub cheapest : ℕ
  pub is_car : cheapest < length extras
  pub has : has_extra (extra_at extras cheapest) ≡ true
  pub least : (c : ℕ) → c < length extras → has_extra (extra_at extras c) ≡ true → low_of (extra_at extras cheapest) ≤ℤ low_of (extra_at extras c)
  pub high : r.high ≡ high_of (extra_at extras r.car) -ℤ low_of (extra_at extras cheapest)
  pub settled : AreSettled extras → r.low ≡ r.high
  pub unsettled : (AreSettled extras → ⊥) → r.low ≡ pos 0

-- What is said of the nearest car: it has one regret, which lies between the ends.
pub record IsRegret (s : Snapshot) (extras : List Extra) (r : Regret) : Type 0 where
  pub nearest : IsNearest s r.car
  pub ends : HasEnds extras r
  pub regret : ℤ
  pub regret_of : IsRegretOf s r.car regret
  pub only : (other : ℤ) → IsRegretOf s r.car other → other ≡ regret
  pub holds : (other : ℤ) → IsRegretOf s r.car other → (r.low ≤ℤ other) × (other ≤ℤ r.high)
  pub exact : AreSettled extras → IsRegretOf s r.car r.low
