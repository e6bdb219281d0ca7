-- Which texts are banks and their rows, and what is wrong with any other.
use Rattle.std.specs.Prelude.{◌≡◌, ℕ, ◌≤◌, ◌<◌, ◌⊎◌, Bool, true, false, List, [], ◌∷◌, ◌++◌, map, length, All, Contains, Option, None, Some, IfSome, IsSomeAnd}
use Rattle.std.specs.Prelude.{Result, Ok, Err}
use Rattle.elevator_model.specs.Snapshot.{Snapshot, IsAccepted}
use Rattle.lift_text.specs.Reading.{TextState, reading, whole_text}
use Rattle.lift_text.specs.Shows.{ShowsEnd, FaultShows}
use Rattle.lift_text.specs.declared.faults.TextFault.{TextFault}
use Rattle.text_sections.specs.Between.{IsNextLine}
use Rattle.text_sections.specs.Judging.{Judged}
use Rattle.text_sections.specs.Sections.{Line}
use Rattle.case_text.specs.CaseTexts.{IsBuildingFault, Tells}
use Rattle.day_text.specs.declared.headers.Header.TheVariants.{BankRows}
use Rattle.day_text.specs.Headers.{HeaderInFront, IsHeaderFault}
use Rattle.day_text.specs.DayOpenings.{BuildingNext, IsEmptySnapshot, IsOpeningFault, OpeningNext}
use Rattle.bank_text.specs.Heads.{IsUnsaid, first_said, head_said}
use Rattle.bank_text.specs.BankRows.{lines_of, said_of_line, strays_of}
use Rattle.bank_text.specs.Banks.{BankView, AreRowsRead, IsRowsFault, all_with, ids_of, views_of}
use Rattle.bank_text.specs.declared.banks.Bank.{Bank}
use Rattle.bank_text.specs.declared.heads.Head.TheVariants.{Bank as BankLine, Rows as RowsLine}
use Rattle.bank_text.specs.declared.faults.BankFault.{BankFault}
use Rattle.bank_text.specs.declared.faults.BankFault.TheVariants.{Text, UsedId, TooMany}

-- ---- what stands in front of the rows

-- The next line with a word says this, and the text goes on right behind it.
abbrev pub SaysNext : {X : Type 0} → (Line → Judged X) → TextState → X → TextState → Type 0
SaysNext says before x behind = (words : Line) × IsNextLine before words behind × (says words ≡ Ok x)

-- a building and an opening snapshot of it
pub record OpeningInFront (text : TextState) (s : Snapshot) (behind : TextState) : Type 0 where
  pub above : TextState
  pub building : BuildingNext text s.building above
  pub opening : OpeningNext above s behind

-- what stands of a bank in front of the rows
pub record BankHead : Type 0 where
  pub id : ℕ
  pub opening : Snapshot

abbrev pub head_ids : List BankHead → List ℕ
head_ids heads = map (λ head. head.id) heads

-- the bank without rows
abbrev pub opened : BankHead → BankView
opened head = record { id = head.id; opening = head.opening; rows = [] }

abbrev pub has_some : List ℕ → Bool
has_some [] = false
has_some (id ∷ ids) = true

abbrev pub most_banks : ℕ
most_banks = 16

-- behind banks with these ids there may be one with this id
pub record IsNewBank (used : List ℕ) (id : ℕ) : Type 0 where
  pub unused : Contains used id → ⊥
  pub few : length used < most_banks

-- a line `bank ID`, behind some bank or none, and then the building and the opening snapshot
pub record BankInFront (some : Bool) (text : TextState) (head : BankHead) (behind : TextState) : Type 0 where
  pub named : TextState
  pub line : SaysNext (head_said some) text (BankLine head.id) named
  pub opening : OpeningInFront named head.opening behind

-- Banks one after another, behind banks with these ids.
abbrev pub BanksBetween : List ℕ → TextState → List BankHead → TextState → Type 0
BanksBetween used text [] behind = text ≡ behind
BanksBetween used text (head ∷ heads) behind =
    (between : TextState) × BankInFront (has_some used) text head between × IsNewBank used head.id × BanksBetween (used ++ head.id ∷ []) between heads behind

-- the first line, banks, and the line `rows`
pub record HeadsInFront (text : TextState) (heads : List BankHead) (behind : TextState) : Type 0 where
  pub begun : TextState
  pub last : TextState
  pub first : SaysNext first_said text tt begun
  pub banks : BanksBetween [] begun heads last
  pub rows : SaysNext (head_said (has_some (head_ids heads))) last RowsLine behind

-- ---- whole texts

-- Banks, the header, and rows: the banks have those that the lines behind the header say for them, and of these lines this
-- many are strays.
pub record AreBanksIn (text : TextState) (views : List BankView) (strays : ℕ) : Type 0 where
  pub heads : List BankHead
  pub above : TextState
  pub rows : TextState
  pub front : HeadsInFront text heads above
  pub header : HeaderInFront BankRows above rows
  pub short : length rows.bytes ≤ rows.limit
  pub views_are : views ≡ all_with (map said_of_line (lines_of rows)) (map opened heads)
  pub strays_are : strays ≡ strays_of (head_ids heads) (lines_of rows)

-- These bytes are the text of banks with these rows, and of this many strays.
abbrev pub IsBanksText : List ℕ → List BankView → ℕ → Type 0
IsBanksText bytes views strays = AreBanksIn (whole_text bytes) views strays

-- ---- what is wrong with other texts

-- the next line begins a bank with an id that an earlier one has
pub record IsUsedId (used : List ℕ) (text : TextState) (line : ℕ) : Type 0 where
  pub id : ℕ
  pub named : TextState
  pub says : SaysNext (head_said (has_some used)) text (BankLine id) named
  pub is_used : Contains used id
  pub line_is : line ≡ named.line

-- the next line begins a bank with a new id, behind sixteen others
pub record IsOneTooMany (used : List ℕ) (text : TextState) (line : ℕ) : Type 0 where
  pub id : ℕ
  pub named : TextState
  pub says : SaysNext (head_said (has_some used)) text (BankLine id) named
  pub unused : Contains used id → ⊥
  pub many : most_banks ≤ length used
  pub line_is : line ≡ named.line

-- a fault of the building, or of the opening snapshot behind a building that is right
abbrev pub IsFaultInOpening : TextState → TextFault → Type 0
IsFaultInOpening text fault = IsBuildingFault (reading text) fault ⊎ IsOpeningFault text fault

-- a fault behind a line that begins a bank
pub record IsFaultInBank (used : List ℕ) (text : TextState) (fault : TextFault) : Type 0 where
  pub id : ℕ
  pub named : TextState
  pub says : SaysNext (head_said (has_some used)) text (BankLine id) named
  pub new : IsNewBank used id
  pub fault_is : IsFaultInOpening named fault

-- What is wrong where a bank or the line `rows` is due, behind banks with these ids.
abbrev pub IsFaultDue : List ℕ → TextState → BankFault → Type 0
IsFaultDue used text (Text fault) = IsUnsaid (head_said (has_some used)) (reading text) fault ⊎ IsFaultInBank used text fault
IsFaultDue used text (UsedId line) = IsUsedId used text line
IsFaultDue used text (TooMany line) = IsOneTooMany used text line

-- banks that are right, and a fault behind them
pub record IsFaultBehindBanks (text : TextState) (fault : BankFault) : Type 0 where
  pub begun : TextState
  pub heads : List BankHead
  pub last : TextState
  pub first : SaysNext first_said text tt begun
  pub banks : BanksBetween [] begun heads last
  pub due : IsFaultDue (head_ids heads) last fault

-- a fault of the header
pub record IsFaultOfBankHeader (text : TextState) (fault : TextFault) : Type 0 where
  pub heads : List BankHead
  pub above : TextState
  pub front : HeadsInFront text heads above
  pub fault_is : IsHeaderFault BankRows above fault

-- the rows go past the most bytes that may be read
pub record IsFaultInRows (text : TextState) (fault : TextFault) : Type 0 where
  pub heads : List BankHead
  pub above : TextState
  pub rows : TextState
  pub front : HeadsInFront text heads above
  pub header : HeaderInFront BankRows above rows
  pub fault_is : IsRowsFault rows fault

-- The first fault of a text: of its first line; where a bank or the line `rows` is due; of the header; of the rows.
abbrev pub IsBanksFault : TextState → BankFault → Type 0
IsBanksFault text (Text fault) = IsUnsaid first_said (reading text) fault
    ⊎ (IsFaultBehindBanks text (Text fault) ⊎ (IsFaultOfBankHeader text fault ⊎ IsFaultInRows text fault))
IsBanksFault text (UsedId line) = IsFaultBehindBanks text (UsedId line)
IsBanksFault text (TooMany line) = IsFaultBehindBanks text (TooMany line)

-- ---- what the readers answer, where the source tells what it has left

-- a failed read and want of memory tell nothing
abbrev pub TellsBanks : BankFault → Type 0 → Type 0
TellsBanks (Text fault) P = Tells fault P
TellsBanks (UsedId line) P = P
TellsBanks (TooMany line) P = P

abbrev pub AreBanksRead : Option TextState → List Bank → ℕ → Type 0
AreBanksRead before banks strays = IfSome before (λ text. AreBanksIn text (views_of banks) strays)

abbrev pub AreBanksRefused : Option TextState → BankFault → Type 0
AreBanksRefused before fault = IfSome before (λ text. TellsBanks fault (IsBanksFault text fault))

-- the end of the line that is named shows, by what is wrong
abbrev pub BankFaultShows : Option TextState → BankFault → Option (List ℕ) → Type 0
BankFaultShows before (Text fault) left = FaultShows before fault left
BankFaultShows before (UsedId line) left = ShowsEnd before line left
BankFaultShows before (TooMany line) left = ShowsEnd before line left

-- A snapshot with which a day may begin.
pub record IsReadyOpening (s : Snapshot) : Type 0 where
  pub accepted : IsAccepted s
  pub empty : IsEmptySnapshot s

-- A bank whose day may be run: it has no more rows than a text has bytes.
pub record IsReadyBank (bank : Bank) : Type 0 where
  pub opening : IsReadyOpening bank.opening
  pub few : length bank.rows.items ≤ 67108864

-- ---- one bank

-- this opening was read, and this is left
abbrev pub IsOpeningRead : Option TextState → Snapshot → Option TextState → Type 0
IsOpeningRead None s now = Unit {0}
IsOpeningRead (Some text) s now = IsSomeAnd now (OpeningInFront text s)

abbrev pub IsOpeningRefused : Option TextState → TextFault → Type 0
IsOpeningRefused before fault = IfSome before (λ text. Tells fault (IsFaultInOpening text fault))

-- why a bank with this id, which this line begins, may not come behind banks with these ids, if it may not
abbrev pub IsRefusal : List ℕ → (id line : ℕ) → Option BankFault → Type 0
IsRefusal used id line None = IsNewBank used id
IsRefusal used id line (Some (Text fault)) = ⊥
IsRefusal used id line (Some (UsedId n)) = Contains used id × (n ≡ line)
IsRefusal used id line (Some (TooMany n)) = (Contains used id → ⊥) × (most_banks ≤ length used) × (n ≡ line)

-- behind its line a bank was read, and put behind the others
pub record IsBankPut (named : Option TextState) (id : ℕ) (old new : List Bank) (after : Option TextState) : Type 0 where
  pub opening : Snapshot
  pub views_are : views_of new ≡ views_of old ++ opened (record { id = id; opening = opening }) ∷ []
  pub ready : IsReadyOpening opening
  pub read : IsOpeningRead named opening after

-- the next bank was read, and put behind the others
pub record IsBankTaken (before : Option TextState) (old new : List Bank) (after : Option TextState) : Type 0 where
  pub head : BankHead
  pub views_are : views_of new ≡ views_of old ++ opened head ∷ []
  pub new_bank : IsNewBank (ids_of old) head.id
  pub ready : IsReadyOpening head.opening
  pub read : IfSome before (λ text. IsSomeAnd after (BankInFront (has_some (ids_of old)) text head))

-- the line `rows` was read
abbrev pub AreRowsDue : Option TextState → List ℕ → Option TextState → Type 0
AreRowsDue before used after = IfSome before (λ text. IsSomeAnd after (SaysNext (head_said (has_some used)) text RowsLine))

-- what came next: a bank, or the line `rows`
abbrev pub IsNextRead : Option TextState → List Bank → Result Bool BankFault → List Bank → Option TextState → Type 0
IsNextRead before old (Ok true) new after = IsBankTaken before old new after
IsNextRead before old (Ok false) new after = (new ≡ old) × AreRowsDue before (ids_of old) after
IsNextRead before old (Err fault) new after = IfSome before (λ text. TellsBanks fault (IsFaultDue (ids_of old) text fault))

-- all banks were read, up to the line `rows`
pub record AreHeadsRead (begun : Option TextState) (banks : List Bank) (after : Option TextState) : Type 0 where
  pub heads : List BankHead
  pub views_are : views_of banks ≡ map opened heads
  pub ready : All (λ head. IsReadyOpening head.opening) heads
  pub read : IfSome begun
      (λ text. IsSomeAnd after
      (λ behind. (last : TextState) × BanksBetween [] text heads last × SaysNext (head_said (has_some (head_ids heads))) last RowsLine behind))

abbrev pub AreHeadsRefused : Option TextState → BankFault → Type 0
AreHeadsRefused begun fault =
    IfSome begun (λ text. TellsBanks fault
    ((heads : List BankHead) × (last : TextState) × BanksBetween [] text heads last × IsFaultDue (head_ids heads) last fault))

-- ---- all rows

-- the header was in front, and then these rows
pub record AreRowsIn (text : TextState) (old new : List Bank) (strays : ℕ) : Type 0 where
  pub rows : TextState
  pub header : HeaderInFront BankRows text rows
  pub read : AreRowsRead rows old new strays

abbrev pub AreRowsBehind : Option TextState → (old new : List Bank) → ℕ → Type 0
AreRowsBehind before old new strays = IfSome before (λ text. AreRowsIn text old new strays)

-- behind a header that is right, the rows are too long
pub record IsFaultBehindHeader (text : TextState) (fault : TextFault) : Type 0 where
  pub rows : TextState
  pub header : HeaderInFront BankRows text rows
  pub fault_is : IsRowsFault rows fault

abbrev pub AreRowsRefused : Option TextState → TextFault → Type 0
AreRowsRefused before fault = IfSome before (λ text. Tells fault (IsHeaderFault BankRows text fault ⊎ IsFaultBehindHeader text fault))
