-- The audit of a day's log: its lines are judged in order, and the first found decides.
use Rattle.std.specs.Prelude.{◌≡◌, ℕ, ◌+◌, ◌⊎◌, List, [], ◌∷◌, ◌++◌, length, map, codes, Option, None, Some, IsTrue}
use Rattle.elevator_model.specs.Snapshot.{Snapshot, car_count}
use Rattle.search_model.specs.declared.Event.{Event}
use Rattle.search_model.specs.declared.Reason.{Reason}
use Rattle.search_model.specs.declared.RowFault.{RowFault}
use Rattle.search_model.specs.declared.Stated.{Stated}
use Rattle.search_model.specs.declared.Twig.{Twig}
use Rattle.search_model.specs.declared.Verdict.TheVariants.{Yes, No}
use Rattle.search_model.specs.Certificates.{is_whole}
use Rattle.search_model.specs.Verdicts.{verdict_of}
use Rattle.search_model.specs.Advancing.{advanced, events_by, last_events}
use Rattle.search_model.specs.Days.{Day, Row, call_of_row, day_step, delivered_count, fault_of_row, with_call}
use Rattle.lift_text.specs.Reading.{Reading, line_with, finished, bad_line, past_limit}
use Rattle.lift_text.specs.declared.faults.TextFault.{TextFault}
use Rattle.lift_text.specs.declared.faults.TextFault.TheVariants.{Bad, Read, TooLong, NoMemory}
use Rattle.text_sections.specs.Sections.{Line}
use Rattle.text_sections.specs.Canonical.{BeginsWith}
use Rattle.check_text.specs.Pairs.{IsPairFault, PairInFront}
use Rattle.check_text.specs.VerdictTexts.{reason_text}
use Rattle.day_text.specs.LogTexts.{accepted_words, event_words, refused_words, total_words}
use Rattle.day_laws.specs.Standing.{row_number}

-- ---- what is found first

-- a line that is not the one that is due; a row whose certificate proves nothing, with the lines of the reason; or a bad line
-- of an answer or a certificate, or that the text could not be read on
pub data Found : Type 0 where
  differs : (line : ℕ) → Found
  bad_row : (row : ℕ) → (reason : List ℕ) → Found
  bad_text : TextFault → Found

-- ---- lines

-- what is found where a line that is due could not be read: a bad line differs
abbrev pub found_for : TextFault → Found
found_for (Bad line code) = differs line
found_for TooLong = bad_text TooLong
found_for Read = bad_text Read
found_for NoMemory = bad_text NoMemory

-- Of these lines, which are due, the first that is not there; nothing is asked of what comes after them.
abbrev pub Lacks : List Line → Reading → Found → Type 0
Lacks [] read found = ⊥
Lacks (due ∷ later) (line_with number words rest) found = ((words ≡ due → ⊥) × (found ≡ differs number)) ⊎ ((words ≡ due) × Lacks later rest found)
Lacks (due ∷ later) (finished lines) found = found ≡ differs (lines + 1)
Lacks (due ∷ later) (bad_line number code) found = found ≡ differs number
Lacks (due ∷ later) past_limit found = found ≡ bad_text TooLong

-- where no line with a word may come any more
abbrev pub FindsBehind : Reading → Found → Type 0
FindsBehind (line_with number words rest) found = found ≡ differs number
FindsBehind (finished lines) found = ⊥
FindsBehind (bad_line number code) found = found ≡ differs number
FindsBehind past_limit found = found ≡ bad_text TooLong

abbrev pub event_lines : List Event → List Line
event_lines events = map event_words events

-- ---- what is printed of an accepted row

-- An answer to the snapshot and a certificate that proves it are in front, and this comes after them.
pub record ProofInFront (read : Reading) (s : Snapshot) (printed : Stated) (rest : Reading) : Type 0 where
  pub tree : List Twig
  pub pair : PairInFront read s printed tree rest
  pub cars : length printed.plan ≡ car_count s
  pub whole : IsTrue (is_whole s tree)
  pub verdict : verdict_of s printed.plan printed.cost printed.bound tree ≡ Yes

-- A bad line of the answer or of the certificate; or where both are whole, that they prove nothing.
pub data ProofFinds (s : Snapshot) (number : ℕ) (read : Reading) (found : Found) : Type 0 where
  bad_section : (fault : TextFault) → IsPairFault s read fault → found ≡ bad_text fault → ProofFinds s number read found
  no_proof : (printed : Stated) (tree : List Twig) (rest : Reading) (reason : Reason) → PairInFront read s printed tree rest
      → verdict_of s printed.plan printed.cost printed.bound tree ≡ No reason → found ≡ bad_row number (reason_text s reason) → ProofFinds s number read found

-- ---- rows

-- the lines of an accepted row before its answer
abbrev pub accepted_lines : ℕ → List Event → List Line
accepted_lines number events = accepted_words number ∷ event_lines events

-- the lines of an accepted row are in front, with what is printed of it, and this comes after them
abbrev pub AcceptedInFront : Reading → ℕ → List Event → Snapshot → Stated → Reading → Type 0
AcceptedInFront read number events s printed rest = (between : Reading) × BeginsWith (accepted_lines number events) read between
    × ProofInFront between s printed rest

abbrev pub AcceptedFinds : ℕ → List Event → Snapshot → Reading → Found → Type 0
AcceptedFinds number events s read found =
    Lacks (accepted_lines number events) read found
    ⊎ ((between : Reading) × BeginsWith (accepted_lines number events) read between × ProofFinds s number between found)

-- the snapshot with the call of an accepted row
abbrev pub snapshot_of_row : Day → Row → Snapshot
snapshot_of_row day row = (with_call (advanced day.world row.time) (call_of_row (row_number day) row) []).snapshot

-- The lines of the next row are in front, with what is printed of it where it is accepted.
abbrev pub RowInFront : Option RowFault → Day → Option Row → Stated → Reading → Reading → Type 0
RowInFront (Some fault) day said printed read rest = BeginsWith (refused_words (row_number day) fault ∷ []) read rest
RowInFront None day None printed read rest = ⊥
RowInFront None day (Some row) printed read rest = AcceptedInFront read (row_number day) (events_by day.world row.time) (snapshot_of_row day row) printed rest

abbrev pub RowFinds : Option RowFault → Day → Option Row → Reading → Found → Type 0
RowFinds (Some fault) day said read found = Lacks (refused_words (row_number day) fault ∷ []) read found
RowFinds None day None read found = ⊥
RowFinds None day (Some row) read found = AcceptedFinds (row_number day) (events_by day.world row.time) (snapshot_of_row day row) read found

-- why the next row is refused, if it is
abbrev pub next_fault : Day → Option Row → Option RowFault
next_fault day said = fault_of_row day.world (row_number day) said

-- the day after the next row, which takes the printed plan
abbrev pub day_after : Day → Option Row → Stated → Day
day_after day said printed = (day_step day (row_number day) said printed).day

-- ---- the end

-- the totals and the end, and before them the last events: the lines after the last row
abbrev pub last_lines : (accepted refused delivered : ℕ) → List Line
last_lines accepted refused delivered = total_words accepted refused delivered ∷ (codes "end" ∷ []) ∷ []

abbrev pub end_lines : List Event → (accepted refused delivered : ℕ) → List Line
end_lines events accepted refused delivered = event_lines events ++ last_lines accepted refused delivered

abbrev pub end_lines_of : Day → List Line
end_lines_of day = end_lines (last_events day.world) (length day.calls) day.refused (delivered_count day)

abbrev pub EndInFront : List Line → Reading → Type 0
EndInFront due read = (lines : ℕ) × BeginsWith due read (finished lines)

abbrev pub EndFinds : List Line → Reading → Found → Type 0
EndFinds due read found = Lacks due read found ⊎ ((rest : Reading) × BeginsWith due read rest × FindsBehind rest found)

-- ---- rows one after another

-- The lines of these rows are in front, from this day on: by the printed plans they lead to the last day, and this comes
-- after them.
abbrev pub RowsInFront : Day → List (Option Row) → Reading → (end : Day) → Reading → Type 0
RowsInFront day [] read end rest = (end ≡ day) × (read ≡ rest)
RowsInFront day (said ∷ rows) read end rest =
    (printed : Stated) × (between : Reading) × RowInFront (next_fault day said) day said printed read between
    × RowsInFront (day_after day said printed) rows between end rest

-- what is found first in the lines of these rows
abbrev pub RowsFind : Day → List (Option Row) → Reading → Found → Type 0
RowsFind day [] read found = ⊥
RowsFind day (said ∷ rows) read found =
    RowFinds (next_fault day said) day said read found
    ⊎ ((printed : Stated) × (between : Reading) × RowInFront (next_fault day said) day said printed read between
    × RowsFind (day_after day said printed) rows between found)

-- ---- a whole log, behind its first line

-- Nothing is found: the lines of the rows, of the last events, of the totals and of the end are there, and no other.
abbrev pub LogHolds : Day → List (Option Row) → Reading → (end : Day) → Type 0
LogHolds day rows read end = (rest : Reading) × RowsInFront day rows read end rest × EndInFront (end_lines_of end) rest

-- The first finding.
abbrev pub LogFinds : Day → List (Option Row) → Reading → Found → Type 0
LogFinds day rows read found =
    RowsFind day rows read found ⊎ ((end : Day) × (rest : Reading) × RowsInFront day rows read end rest × EndFinds (end_lines_of end) rest found)
