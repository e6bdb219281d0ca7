-- What holds of a day between two rows.
use Rattle.std.specs.Prelude.{ℕ, ◌+◌, ◌<◌, ◌≤◌, ◌^◌, List, length, slice_index_or, All, IsTrue, None}
use Rattle.elevator_model.specs.declared.Aboard.{Aboard}
use Rattle.elevator_model.specs.declared.Call.{Call}
use Rattle.elevator_model.specs.Snapshot.{IsAccepted}
use Rattle.elevator_model.specs.Plans.{IsFeasiblePlan}
use Rattle.search_model.specs.declared.Served.{Served}
use Rattle.search_model.specs.Days.{Day, DayCall, loses_none, served_from}

abbrev pub no_day_call : DayCall
no_day_call = record { id = 0; released = 0; boarded = None; delivered = None }

abbrev pub id_at : List DayCall → ℕ → ℕ
id_at calls k = (slice_index_or calls k no_day_call).id

-- the ids rise
abbrev pub IdsRise : List DayCall → Type 0
IdsRise calls = (i j : ℕ) → i < j → j < length calls → id_at calls i < id_at calls j

-- the number of the next row
abbrev pub row_number : Day → ℕ
row_number day = day.refused + length day.calls + 1

-- It boarded and was delivered, if it was, before 10^10 ms, so sums over many calls stay small.
pub record IsEarly (x : Served) : Type 0 where
  pub boarded : x.boarded ≤ 10000000000
  pub delivered : x.delivered ≤ 10000000000

pub record IsStanding (day : Day) : Type 0 where
  pub accepted : IsAccepted day.world.snapshot
  pub feasible : IsFeasiblePlan day.world.snapshot day.world.plan
  pub rising : IdsRise day.calls
  -- each id is the number of a row that came
  pub known : All (λ (x : DayCall). x.id < row_number day) day.calls
  pub open_known : All (λ (call : Call). call.id < row_number day) day.world.snapshot.calls
  pub aboard_known : All (λ (group : Aboard). group.id < row_number day) day.world.snapshot.aboard
  pub none_lost : IsTrue (loses_none day)
  pub early : All (λ (x : DayCall). IsEarly (served_from x)) day.calls
  pub unsolved : day.unsolved ≤ length day.calls
  pub few : day.refused + length day.calls < 2 ^ 32
