-- What the command `banks` leaves: what was read and written, and why it ended.
use Rattle.std.specs.Prelude.{◌≡◌, ℕ, ◌≤◌, List, [], ◌∷◌, ◌++◌, All, codes, length, map, slice_get, true, Some, None, if◌then◌else◌}
use Rattle.std.specs.List.{list_any}
use Rattle.search_model.specs.Days.{opening_day}
use Rattle.lift_text.specs.Reading.{TextState}
use Rattle.lift_text.specs.Text.{line}
use Rattle.bank_text.specs.declared.banks.Bank.{Bank}
use Rattle.bank_text.specs.BankRows.{rows_said}
use Rattle.bank_text.specs.Banks.{BankView, views_of}
use Rattle.bank_days.specs.declared.logs.BankLog.{BankLog}
use Rattle.bank_days.specs.Banks.{AreBankLogs, IsBankLog}
use Rattle.bank_text.specs.declared.reading.BankInput.{BankInput}
use Rattle.bank_text.specs.declared.faults.BankFault.TheVariants.{Text as BanksText, UsedId as UsedBankId, TooMany}
use Rattle.bank_text.specs.BankTexts.{AreBanksIn, IsBanksFault, IsReadyBank, most_banks}
use Rattle.day_planner.specs.SolvedRows.{AreEnoughFor, IsSolvedRow}
use Rattle.day_planner.specs.StoppedRows.{IsStoppedIn}
use Rattle.command_ends.specs.declared.input_faults.InputFault.{InputFault}
use Rattle.command_ends.specs.declared.input_faults.InputFault.TheVariants.{Text, Own}
use Rattle.command_ends.specs.declared.input_faults.OwnCode.TheVariants.{NothingAsked, UsedId, TooManyBanks}
use Rattle.command_ends.specs.Ends.{Streams}
use Rattle.command_ends.specs.WholeTexts.{Form}
use Rattle.command_ends.specs.Runs.{Runs}
use Rattle.command_ends.specs.declared.status.Status.{Status}
use Rattle.command_ends.specs.declared.status.Status.TheVariants.{Done, Stopped}

-- ---- the text

-- the line of a bank with this id, and its log
abbrev pub bank_part : (id : ℕ) (log : List ℕ) → List ℕ
bank_part id log = line (codes "bank") (id ∷ []) ++ log

-- the parts of banks with these ids and logs, in their order
unfoldable pub bank_parts : List ℕ → List (List ℕ) → List ℕ
bank_parts [] logs = []
bank_parts (id ∷ ids) [] = []
bank_parts (id ∷ ids) (log ∷ logs) = bank_part id log ++ bank_parts ids logs

abbrev pub banks_text : (ids : List ℕ) (logs : List (List ℕ)) (strays : ℕ) → List ℕ
banks_text ids logs strays = bank_parts ids logs ++ line (codes "strays") (strays ∷ []) ++ line (codes "end") []

abbrev pub ids_of : List Bank → List ℕ
ids_of banks = map (λ bank. bank.id) banks

abbrev pub texts_of : List BankLog → List (List ℕ)
texts_of logs = map (λ log. log.text.items) logs

-- ---- what is told

-- Stopped exactly where some accepted row of some bank has a bound below its cost
abbrev pub status_of_logs : List BankLog → Status
status_of_logs logs = if list_any (λ log. log.is_stopped) logs then Stopped else Done

-- Of the bank's rows one was accepted where the limits are not enough, and its bound is below its cost.
abbrev pub IsBankStopped : (rounds most_tours : ℕ) (bank : Bank) (log : BankLog) → IsBankLog (IsSolvedRow rounds most_tours None) bank log → Type 0
IsBankStopped rounds most_tours bank log is =
    IsStoppedIn (IsSolvedRow rounds most_tours None) (AreEnoughFor rounds most_tours None) (opening_day bank.opening) (rows_said bank.rows.items) is.day is.text

-- the days of these banks were told, and this one's was stopped
pub record IsOneStopped (rounds most_tours : ℕ) (banks : List Bank) (logs : List BankLog)
    (are : AreBankLogs (IsSolvedRow rounds most_tours None) banks logs) : Type 0 where
  pub place : ℕ
  pub bank : Bank
  pub log : BankLog
  pub bank_at : slice_get banks place ≡ Some bank
  pub log_at : slice_get logs place ≡ Some log
  pub is_stopped : log.is_stopped ≡ true
  pub row : IsBankStopped rounds most_tours bank log (are.each place bank log bank_at log_at)

-- The text has the log of each bank's day over its own rows, with plans as searches within these limits answer them.
pub record AreTold (rounds most_tours : ℕ) (banks : BankInput) (status : Status) (text : List ℕ) : Type 0 where
  pub logs : List BankLog
  pub are_logs : AreBankLogs (IsSolvedRow rounds most_tours None) banks.banks.items logs
  pub status_is : status ≡ status_of_logs logs
  -- where a bank's day was stopped, the limits are not enough for one of its rows
  pub stopped_each : (k : ℕ) (bank : Bank) (log : BankLog) (bank_at : slice_get banks.banks.items k ≡ Some bank) (log_at : slice_get logs k ≡ Some log)
      → log.is_stopped ≡ true → IsBankStopped rounds most_tours bank log (are_logs.each k bank log bank_at log_at)
  pub stopped : status ≡ Stopped → IsOneStopped rounds most_tours banks.banks.items logs are_logs
  pub is_text : text ≡ banks_text (ids_of banks.banks.items) (texts_of logs) banks.strays

-- ---- how the command ends

-- what is wrong with a text of banks
abbrev pub IsNoBanks : TextState → InputFault → Type 0
IsNoBanks text (Text fault) = IsBanksFault text (BanksText fault)
IsNoBanks text (Own line NothingAsked) = ⊥
IsNoBanks text (Own line UsedId) = IsBanksFault text (UsedBankId line)
IsNoBanks text (Own line TooManyBanks) = IsBanksFault text (TooMany line)

-- a text that says banks with their rows, and how many rows are strays; or what is wrong with it
abbrev pub banks_form : Form BankInput
banks_form = record {
  Meaning = List BankView × ℕ;
  says = λ text said. AreBanksIn text said.0 said.1;
  wrong = IsNoBanks;
  means = λ banks said. (views_of banks.banks.items ≡ said.0) × (banks.strays ≡ said.1);
  right = λ banks. All IsReadyBank banks.banks.items × (length banks.banks.items ≤ most_banks);
}

-- The days of such banks are told, and any other input is refused.
abbrev pub RunsBanks : (rounds most_tours : ℕ) → (old new : Streams) → Status → Type 0
RunsBanks rounds most_tours old new status = Runs banks_form (AreTold rounds most_tours) old new status
