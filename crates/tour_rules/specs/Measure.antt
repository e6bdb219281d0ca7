-- A number that falls with each lawful move, so that partial tours are short.
use Rattle.std.specs.Prelude.{ℕ, ◌+◌, ◌*◌, ◌&&◌, ◌||◌, not, Bool, false, if◌then◌else◌, Option, Some, None}
use Rattle.elevator_model.specs.declared.Stop.{Stop}
use Rattle.call_sets.specs.Counting.{sum_where, is_among}
use Rattle.elevator_model.specs.Snapshot.{Snapshot, call_count, state_of, is_idle}
use Rattle.elevator_model.specs.Tours.{Progress, rider_count, is_aboard}
use Rattle.elevator_model.specs.Partial.{Course}

abbrev pub count_below : ℕ → (ℕ → Bool) → ℕ
count_below n test = sum_where n test (λ _. 1)

-- the groups aboard a car
abbrev pub groups_of : Snapshot → ℕ → ℕ
groups_of s c = count_below (rider_count s) (is_aboard s c)

-- the most moves that a partial tour can have
abbrev pub most_moves : Snapshot → ℕ → ℕ
most_moves s c = 3 * call_count s + groups_of s c + 2

abbrev pub boards_here : Snapshot → Option Stop → ℕ → Bool
boards_here s None j = false
boards_here s (Some p) j = is_among j p.boards

-- What a first stop needs no use for: that of an idle car has to be useful.
abbrev pub spare : (idle begun : Bool) → Option Stop → ℕ
spare idle begun None = if idle then 1 else 2
spare idle begun (Some p) = if begun || idle then 0 else 1

-- Three for each call that has not boarded, two for each that boards at the present stop, one for each
-- rider carried before it.
abbrev pub moves_left : Snapshot → ℕ → Course → ℕ
moves_left s c x =
    if x.ended then 0 else
    (3 * count_below (call_count s) (λ j. not (x.before.boarded j) && not (boards_here s x.present j)) + 2 * count_below (call_count s)
    (boards_here s x.present) + count_below (rider_count s) x.before.carried + spare (is_idle (state_of s c)) x.before.begun x.present)

-- Two for each call that has not boarded and one for each rider carried bound the stops that may come.
abbrev pub stops_left : Snapshot → Progress → ℕ
stops_left s p = 2 * count_below (call_count s) (λ j. not (p.boarded j)) + count_below (rider_count s) p.carried + (if p.begun then 0 else 1)
