-- The days of banks: what the rows of each say, and what its log is.
use Rattle.std.specs.Prelude.{◌≡◌, ℕ, ◌<◌, ◌^◌, nat_lt, List, ◌++◌, length, slice_get, Some, IsTrue}
use Rattle.elevator_model.specs.Snapshot.{Snapshot}
use Rattle.search_model.specs.Days.{Day, delivered_count, loses_none, opening_day}
use Rattle.day_state.specs.Openings.{IsOpeningSnapshot}
use Rattle.bank_text.specs.BankRows.{rows_said}
use Rattle.day_simulator.specs.RowRuns.{Right, AreRowsDone}
use Rattle.day_simulator.specs.Served.{AreServedOnce}
use Rattle.day_simulator.specs.DayRuns.{day_log}
use Rattle.bank_text.specs.declared.banks.BankRow.{BankRow}
use Rattle.bank_text.specs.declared.banks.Bank.{Bank}
use Rattle.bank_days.specs.declared.logs.BankLog.{BankLog}

-- ---- rows

-- The rows did what the definition says, and their lines stand behind what stood before.
pub record AreRowsAppended (right : Right) (old : Day) (rows : List BankRow) (new : Day) (before after : List ℕ) : Type 0 where
  pub text : List ℕ
  pub done : AreRowsDone right old (rows_said rows) new text
  pub appended : after ≡ before ++ text

-- ---- banks

-- Its day may begin: no call is open, and nobody is aboard. Its rows can be numbered.
pub record IsRunnable (bank : Bank) : Type 0 where
  pub opening : IsOpeningSnapshot bank.opening
  pub few : length bank.rows.items < 2 ^ 32

-- The log of the day of the opening over these rows, each with a plan that is right where it was accepted. None of the
-- accepted calls is lost: by the end of the last plan each boards once and is delivered once, in time.
pub record IsDayLog (right : Right) (opening : Snapshot) (rows : List BankRow) (log : BankLog) : Type 0 where
  pub day : Day
  pub text : List ℕ
  pub done : AreRowsDone right (opening_day opening) (rows_said rows) day text
  pub none_lost : IsTrue (loses_none day)
  pub once : AreServedOnce right (opening_day opening) (rows_said rows) day text done
  pub delivered : delivered_count day ≡ length day.calls
  pub log_is : log.text.items ≡ day_log text day
  -- some accepted row had a bound below its cost
  pub stopped_is : log.is_stopped ≡ nat_lt 0 day.unsolved

-- The log of the bank's day over its own rows, and no others.
abbrev pub IsBankLog : Right → Bank → BankLog → Type 0
IsBankLog right bank log = IsDayLog right bank.opening bank.rows.items log

-- In each place stands a log of the bank there.
pub record AreBankLogs (right : Right) (banks : List Bank) (logs : List BankLog) : Type 0 where
  pub count : length logs ≡ length banks
  pub each : (k : ℕ) (bank : Bank) (log : BankLog) → slice_get banks k ≡ Some bank → slice_get logs k ≡ Some log → IsBankLog right bank log
