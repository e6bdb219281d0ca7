-- The log of a day, from its parts, and logs in the places of their banks.
use Rattle.std.proofs.Common.{◌≡◌, ℕ, ltb, List, ◌++◌, length, ap, subst, ◌∙◌, get_or, slice_get, Some, Result, Ok, Err, Vec, Global}
use Rattle.std.specs.Prelude.{IfOk, IsTrue}
use Rattle.std.specs.declared.alloc.AllocError.{AllocError}
use Rattle.std.proofs.lemmas.Option.{get_or_from_slice_get}
use Rattle.elevator_model.specs.Snapshot.{Snapshot, IsAccepted}
use Rattle.search_model.specs.Days.{Day, delivered_count, loses_none, opening_day}
use Rattle.day_state.specs.Openings.{IsOpeningSnapshot}
use Rattle.day_simulator.specs.Planning.{PlannerLaw}
use Rattle.day_text.specs.LogTexts.{end_text}
use Rattle.day_simulator.specs.RowRuns.{Right, AreRowsDone}
use Rattle.day_simulator.specs.DayRuns.{first_line}
use Rattle.day_simulator.proofs.ServedRows.{served-rows}
use Rattle.bank_text.specs.declared.banks.Bank.{Bank}
use Rattle.bank_days.specs.declared.logs.BankLog.{BankLog}
use Rattle.bank_text.specs.declared.banks.BankRow.{BankRow}
use Rattle.bank_text.specs.BankRows.{rows_said}
use Rattle.bank_days.specs.Banks.{AreBankLogs, AreRowsAppended, IsBankLog, IsDayLog}

pub day-logged : (right : Right) (law : PlannerLaw right) (opening : Snapshot) (rows : List BankRow) (log : BankLog) (opened day : Day) (first at : List ℕ)
    → IsAccepted opening → IsOpeningSnapshot opening → opened ≡ opening_day opening → first ≡ first_line
    → AreRowsAppended right opened rows day first at → IsTrue (loses_none day) → delivered_count day ≡ length day.calls → log.text.items ≡ at ++ end_text day
    → log.is_stopped ≡ ltb 0 day.unsolved → IsDayLog right opening rows log
day-logged right law opening rows log opened day first at accepted may_open opened_is first_is were none_lost delivered written stopped =
    let done = subst (λ (d : Day). AreRowsDone right d (rows_said rows) day were.text) opened_is were.done in
    record {
      day = day;
      text = were.text;
      done = done;
      none_lost = none_lost;
      once = served-rows right law opening (rows_said rows) day were.text accepted may_open done;
      delivered = delivered;
      log_is = written ∙ ap (λ (t : List ℕ). t ++ end_text day) (were.appended ∙ ap (λ (f : List ℕ). f ++ were.text) first_is);
      stopped_is = stopped;
    }

-- ---- logs in the places of their banks

-- what stands in a list is the bank there
pub log-in-place : (right : Right) (banks : List Bank) (k : ℕ) (d : Bank) (rows : List BankRow) (result : Result BankLog AllocError)
    → rows ≡ (get_or banks k d).rows.items
    → IfOk result (IsDayLog right (get_or banks k d).opening rows)
    → IfOk result (λ log. (bank : Bank) → slice_get banks k ≡ Some bank → IsBankLog right bank log)
log-in-place right banks k d rows (Ok log) same is = λ bank at.
    subst (λ (b : Bank). IsBankLog right b log) (get_or_from_slice_get banks k bank d at)
    (subst (λ (r : List BankRow). IsDayLog right (get_or banks k d).opening r log) same is)
log-in-place right banks k d rows (Err error) same is = is

pub logs-in-places : (right : Right) (banks : List Bank) (result : Result (Vec BankLog Global) AllocError)
    → IfOk result (λ logs. length logs.items ≡ length banks)
    → IfOk result (λ logs. (k : ℕ) (log : BankLog) → slice_get logs.items k ≡ Some log → (bank : Bank) → slice_get banks k ≡ Some bank
    → IsBankLog right bank log) → IfOk result (λ logs. AreBankLogs right banks logs.items)
logs-in-places right banks (Ok logs) count each = record { count = count; each = λ k bank log there at. each k log at bank there }
logs-in-places right banks (Err error) count each = count
