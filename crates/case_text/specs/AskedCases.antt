-- Which texts are cases of which a call is asked about, and what is wrong with any other.
use Rattle.std.specs.Prelude.{◌≡◌, ℕ, ◌-◌, ◌≤◌, ◌⊎◌, List, [], ◌∷◌, ◌++◌, Option, None, Some, IfSome, IsSomeAnd, Result, Ok, Err, false}
use Rattle.elevator_model.specs.Snapshot.{Snapshot, call_count, call_of}
use Rattle.lift_text.specs.Reading.{TextState, Reading, reading, whole_text, line_with}
use Rattle.lift_text.specs.Shows.{ShowsEnd, FaultShows}
use Rattle.lift_text.specs.declared.faults.TextFault.{TextFault}
use Rattle.text_sections.specs.Sections.{Line}
use Rattle.text_sections.specs.Canonical.{BeginsWith}
use Rattle.snapshot_text.specs.Snapshots.{StandsFor}
use Rattle.case_text.specs.CaseTexts.{BuildingInFront, IsCaseAlone, IsCaseFault, IsLateFault, Tells}
use Rattle.case_text.specs.declared.ask_faults.AskFault.{AskFault}
use Rattle.case_text.specs.declared.ask_faults.AskFault.TheVariants.{Text, NothingAsked}

-- ---- cases of which a call is asked about

-- the last call is asked about: there is one, and no car is stated for it
pub record HasAskedCall (s : Snapshot) : Type 0 where
  pub some : 1 ≤ call_count s
  pub free : (call_of s (call_count s - 1)).pin ≡ None

-- a case whose last call is asked about, and no other line with a word
pub record IsAskedCaseAlone (read : Reading) (s : Snapshot) : Type 0 where
  pub case : IsCaseAlone read s
  pub asked : HasAskedCall s

-- these bytes are the text of the accepted snapshot, whose last call is asked about, and of its building
abbrev pub IsAskedCaseText : List ℕ → Snapshot → Type 0
IsAskedCaseText bytes s = IsAskedCaseAlone (reading (whole_text bytes)) s

-- ---- what is wrong with other texts

-- A case in front, whose snapshot's last line, `end`, has this number; and this comes after it.
pub record CaseEndsAt (read : Reading) (s : Snapshot) (line : ℕ) (rest : Reading) : Type 0 where
  pub between : Reading
  pub building : BuildingInFront read s.building between
  -- the snapshot's lines above its last one
  pub above : List Line
  pub end : Line
  pub front : BeginsWith above between (line_with line end rest)
  pub stands : StandsFor s.building false (above ++ end ∷ []) s

-- a case in front that has no call which is asked about, and the line with which it ends
pub record IsNothingAsked (read : Reading) (line : ℕ) : Type 0 where
  pub snapshot : Snapshot
  pub behind : Reading
  pub case : CaseEndsAt read snapshot line behind
  pub none : HasAskedCall snapshot → ⊥

-- a fault behind a case that is right, and whose last call is asked about
pub record IsLateFaultBehindAsked (read : Reading) (fault : TextFault) : Type 0 where
  pub late : IsLateFault read fault
  pub asked : HasAskedCall late.snapshot

-- What is wrong with a text: a fault of its case; then that nothing is asked about; then a fault behind it.
abbrev pub IsAskFault : Reading → AskFault → Type 0
IsAskFault read (Text fault) = IsCaseFault read fault ⊎ IsLateFaultBehindAsked read fault
IsAskFault read (NothingAsked line) = IsNothingAsked read line

-- ---- what the readers answer, where the source tells what it has left

-- a failed read and want of memory tell nothing
abbrev pub TellsAsked : AskFault → Type 0 → Type 0
TellsAsked (Text fault) P = Tells fault P
TellsAsked (NothingAsked line) P = P

-- this snapshot was read up to its last line, which has this number, and this is left
abbrev pub IsReadUpToEnd : Option TextState → Snapshot → (line : ℕ) → Option TextState → Type 0
IsReadUpToEnd None s line now = Unit {0}
IsReadUpToEnd (Some text) s line now = IsSomeAnd now (λ behind. CaseEndsAt (reading text) s line (reading behind))

abbrev pub IsReadAsked : Option TextState → Snapshot → Type 0
IsReadAsked before s = IfSome before (λ text. IsAskedCaseAlone (reading text) s)

abbrev pub IsRefusedAsked : Option TextState → AskFault → Type 0
IsRefusedAsked before fault = IfSome before (λ text. TellsAsked fault (IsAskFault (reading text) fault))

-- this snapshot is answered: only a failed read and want of memory come in its place
abbrev pub IsAnsweredAsked : Snapshot → Result Snapshot AskFault → Type 0
IsAnsweredAsked s (Ok snapshot) = snapshot ≡ s
IsAnsweredAsked s (Err (Text fault)) = Tells fault ⊥
IsAnsweredAsked s (Err (NothingAsked line)) = ⊥

-- where the text is a case of which a call is asked about, that one is read
abbrev pub TakesAskedCases : Option TextState → Result Snapshot AskFault → Type 0
TakesAskedCases before answer = (s : Snapshot) → IfSome before (λ text. IsAskedCaseAlone (reading text) s → IsAnsweredAsked s answer)

-- the end of the line that is named shows, by what is wrong
abbrev pub AskFaultShows : Option TextState → AskFault → Option (List ℕ) → Type 0
AskFaultShows before (Text fault) left = FaultShows before fault left
AskFaultShows before (NothingAsked line) left = ShowsEnd before line left
