-- Where the day of a bank was stopped, the limits are not enough for one of its rows.
use Rattle.std.proofs.Common.{◌≡◌, ℕ, suc, Bool, true, false, List, [], ◌∷◌, length, slice_get, refl, sym, ◌∙◌, inl, inr, arith, Some, None}
use Rattle.std.specs.List.{list_any}
use Rattle.std.specs.Prelude.{if◌then◌else◌}
use Rattle.std.proofs.lemmas.Bool.{both_ways, ltb-true, or_cases}
use Rattle.search_model.specs.Days.{opening_day}
use Rattle.bank_text.specs.declared.banks.Bank.{Bank}
use Rattle.bank_text.specs.BankRows.{rows_said}
use Rattle.bank_days.specs.declared.logs.BankLog.{BankLog}
use Rattle.bank_days.specs.Banks.{AreBankLogs, IsBankLog}
use Rattle.day_planner.specs.SolvedRows.{IsSolvedRow}
use Rattle.day_planner.proofs.StoppedLaws.{stopped-rows}
use Rattle.command_ends.specs.declared.status.Status.{Status}
use Rattle.command_ends.specs.declared.status.Status.TheVariants.{Done, Stopped}
use Rattle.day_commands.specs.BanksOutcome.{IsBankStopped, IsOneStopped, status_of_logs}

-- before its first row a day has no unsolved one
pub stopped-bank : (rounds most_tours : ℕ) (bank : Bank) (log : BankLog) (is : IsBankLog (IsSolvedRow rounds most_tours None) bank log)
    → log.is_stopped ≡ true → IsBankStopped rounds most_tours bank log is
stopped-bank rounds most_tours bank log is stopped =
    stopped-rows rounds most_tours None (opening_day bank.opening) (rows_said bank.rows.items) is.day is.text is.done
    (ltb-true 0 is.day.unsolved (sym is.stopped_is ∙ stopped))

-- the place of a bank whose day was stopped
record HasStopped (banks : List Bank) (logs : List BankLog) : Type 0 where
  place : ℕ
  bank : Bank
  log : BankLog
  bank_at : slice_get banks place ≡ Some bank
  log_at : slice_get logs place ≡ Some log
  is_stopped : log.is_stopped ≡ true

later-stopped : (bank : Bank) (log : BankLog) (banks : List Bank) (logs : List BankLog) → HasStopped banks logs → HasStopped (bank ∷ banks) (log ∷ logs)
later-stopped bank log banks logs found = record {
  place = suc found.place;
  bank = found.bank;
  log = found.log;
  bank_at = found.bank_at;
  log_at = found.log_at;
  is_stopped = found.is_stopped;
}

some-stopped : (banks : List Bank) (logs : List BankLog) → length logs ≡ length banks → list_any (λ (log : BankLog). log.is_stopped) logs ≡ true
    → HasStopped banks logs
some-stopped [] [] count any = absurd (both_ways false refl any)
some-stopped [] (log ∷ logs) count any = absurd (omega (arith, count))
some-stopped (bank ∷ banks) [] count any = absurd (both_ways false refl any)
some-stopped (bank ∷ banks) (log ∷ logs) count any =
    elim (or_cases log.is_stopped (list_any (λ (l : BankLog). l.is_stopped) logs) any) [
      | inl is ↦ record { place = 0; bank = bank; log = log; bank_at = refl; log_at = refl; is_stopped = is }
      | inr other ↦ later-stopped bank log banks logs (some-stopped banks logs (omega (arith, count)) other)
    ]

any-stopped : (logs : List BankLog) (status : Status) → status ≡ status_of_logs logs → status ≡ Stopped
    → list_any (λ (log : BankLog). log.is_stopped) logs ≡ true
any-stopped logs status is stopped = by_any (list_any (λ (log : BankLog). log.is_stopped) logs) (sym is ∙ stopped)
  where
    by_any : (b : Bool) → (if b then Stopped else Done) ≡ Stopped → b ≡ true
    by_any true e = refl
    by_any false e = let clash : Done ≡ Stopped = e in absurd cc

pub one-stopped : (rounds most_tours : ℕ) (banks : List Bank) (logs : List BankLog) (are : AreBankLogs (IsSolvedRow rounds most_tours None) banks logs)
    (status : Status) → status ≡ status_of_logs logs → status ≡ Stopped → IsOneStopped rounds most_tours banks logs are
one-stopped rounds most_tours banks logs are status is stopped =
    let found = some-stopped banks logs are.count (any-stopped logs status is stopped) in
    record {
      place = found.place;
      bank = found.bank;
      log = found.log;
      bank_at = found.bank_at;
      log_at = found.log_at;
      is_stopped = found.is_stopped;
      row = stopped-bank rounds most_tours found.bank found.log (are.each found.place found.bank found.log found.bank_at found.log_at) found.is_stopped;
    }
