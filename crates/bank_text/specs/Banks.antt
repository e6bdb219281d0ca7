-- Banks, and the rows that lines bring them.
use Rattle.std.specs.Prelude.{◌≡◌, ℕ, ◌≤◌, ◌<◌, List, [], ◌∷◌, ◌++◌, map, length, slice_get, Bool, Option, Some, IfSome, IsSomeAnd, Result, Ok, Err}
use Rattle.elevator_model.specs.Snapshot.{Snapshot}
use Rattle.search_model.specs.Days.{Row}
use Rattle.lift_text.specs.Reading.{TextState}
use Rattle.lift_text.specs.declared.faults.TextFault.{TextFault}
use Rattle.lift_text.specs.declared.faults.TextFault.TheVariants.{TooLong, NoMemory}
use Rattle.case_text.specs.CaseTexts.{Tells}
use Rattle.bank_text.specs.BankRows.{Said, is_stray, lines_of, rows_of, rows_said, said_of_line, strays_of}
use Rattle.bank_text.specs.declared.banks.Bank.{Bank}
use Rattle.bank_text.specs.declared.row_lines.NextRow.{NextRow}
use Rattle.bank_text.specs.declared.row_lines.NextRow.TheVariants.{Line, End}

-- ---- banks

-- what clauses see of a bank
pub record BankView : Type 0 where
  pub id : ℕ
  pub opening : Snapshot
  pub rows : List (Option Row)

abbrev pub view_of : Bank → BankView
view_of bank = record { id = bank.id; opening = bank.opening; rows = rows_said bank.rows.items }

abbrev pub views_of : List Bank → List BankView
views_of banks = map view_of banks

abbrev pub ids_of : List Bank → List ℕ
ids_of banks = map (λ bank. bank.id) banks

-- no id stands at two places
abbrev pub AreDistinct : List ℕ → Type 0
AreDistinct ids = (j k id : ℕ) → slice_get ids j ≡ Some id → slice_get ids k ≡ Some id → j ≡ k

-- the bank with these rows behind its own
abbrev pub with_rows : BankView → List (Option Row) → BankView
with_rows view rows = record { id = view.id; opening = view.opening; rows = view.rows ++ rows }

-- the bank with what lines say for it
abbrev pub with_saids : List (Option Said) → BankView → BankView
with_saids saids view = with_rows view (rows_of view.id saids)

abbrev pub all_with : List (Option Said) → List BankView → List BankView
all_with saids views = map (with_saids saids) views

-- ---- the rows of a text

-- Every line of the text has brought its row to the bank that it names; this many lines are strays.
pub record AreRowsRead (text : TextState) (old new : List Bank) (strays : ℕ) : Type 0 where
  pub short : length text.bytes ≤ text.limit
  pub rows : views_of new ≡ all_with (map said_of_line (lines_of text)) (views_of old)
  pub strays_are : strays ≡ strays_of (ids_of old) (lines_of text)

-- the text goes past the most bytes that may be read
pub record IsRowsFault (text : TextState) (fault : TextFault) : Type 0 where
  pub fault_is : fault ≡ TooLong
  pub long : text.limit < length text.bytes

-- what as many lines as a text may have bring the banks
pub record AreRowsAdded (old new : List Bank) (most : ℕ) : Type 0 where
  pub saids : List (Option Said)
  pub few : length saids ≤ most
  pub rows : views_of new ≡ all_with saids (views_of old)

-- ---- one line

-- the next line says this, and is a stray or not
pub record IsLineSaid (from to : TextState) (ids : List ℕ) (said : Option Said) (stray : Bool) : Type 0 where
  pub line : List ℕ
  pub lines_are : lines_of from ≡ line ∷ lines_of to
  pub said_is : said ≡ said_of_line line
  pub stray_is : stray ≡ is_stray ids line

-- what the next line says was brought to the bank that it names
pub record IsLineTaken (before after : Option TextState) (old new : List Bank) (stray : Bool) : Type 0 where
  pub said : Option Said
  pub rows : views_of new ≡ all_with (said ∷ []) (views_of old)
  pub next : IfSome before (λ from. IsSomeAnd after (λ to. IsLineSaid from to (ids_of old) said stray))

abbrev pub NextTaken : Option TextState → List Bank → Result NextRow TextFault → List Bank → Option TextState → Type 0
NextTaken before old (Ok (Line stray)) new after = IsLineTaken before after old new stray
NextTaken before old (Ok End) new after = (new ≡ old) × IfSome before (λ from. from.bytes ≡ [])
NextTaken before old (Err fault) new after = IfSome before (λ from. Tells fault (IsRowsFault from fault))

-- how many lines were taken
abbrev pub rows_counted : Result NextRow TextFault → ℕ
rows_counted (Ok (Line stray)) = 1
rows_counted (Ok End) = 0
rows_counted (Err fault) = 0

-- what comes of a line that was brought to its bank, or for which memory was wanting
abbrev pub next_of : {E : Type 0} → Result Bool E → Result NextRow TextFault
next_of (Ok stray) = Ok (Line stray)
next_of (Err error) = Err NoMemory
