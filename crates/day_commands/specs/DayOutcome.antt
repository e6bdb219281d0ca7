-- What `day` and `report` leave: what was read and written, and why it ended.
use Rattle.std.specs.Prelude.{◌≡◌, ℕ, ◌≤◌, ◌⊎◌, List, length, take, zero, suc, Option, None, IfSome, IsSomeAnd, option_map, Result, Ok, Err}
use Rattle.std.specs.Io.KnownBytes.{append_known}
use Rattle.byte_streams.specs.Streams.{Rose}
use Rattle.lift_text.specs.Reading.{TextState, whole_text}
use Rattle.lift_text.specs.Shows.{FaultShows}
use Rattle.lift_text.specs.declared.faults.TextFault.{TextFault}
use Rattle.lift_text.specs.declared.faults.TextFault.TheVariants.{TooLong as LongText}
use Rattle.day_text.specs.DayOpenings.{HoldsNoOpening, IsDayOpeningRefused}
use Rattle.elevator_model.specs.Snapshot.{Snapshot}
use Rattle.search_model.specs.Days.{opening_day}
use Rattle.search_model.specs.Reports.{report_of}
use Rattle.service_report.specs.ReportTexts.{report_text}
use Rattle.day_planner.specs.SolvedRows.{AreEnoughFor, IsSolvedRow}
use Rattle.day_planner.specs.StoppedRows.{IsStoppedIn}
use Rattle.day_laws.specs.RowLines.{rows_of}
use Rattle.day_simulator.specs.RowRuns.{Right}
use Rattle.day_simulator.specs.TextRuns.{DayRan, IsDayText}
use Rattle.day_simulator.specs.declared.day_runs.Ended.{Ended}
use Rattle.day_simulator.specs.declared.row_runs.RunFault.{RunFault}
use Rattle.day_simulator.specs.declared.row_runs.RunFault.TheVariants.{TooLong, Read as RowsUnread, Write as RowsUnwritten, NoMemory}
use Rattle.lift_words.specs.declared.request.DayOptions.{DayOptions}
use Rattle.lift_words.specs.Taken.{most_claims}
use Rattle.command_ends.specs.Ends.{Streams, Ends, Puts, IsRefusalLine}
use Rattle.command_ends.specs.declared.status.Status.{Status}
use Rattle.command_ends.specs.declared.status.Status.TheVariants.{Done, Words, Stopped, Refused, Input, Read, Write, Memory}
use Rattle.day_commands.specs.DayRows.{AreRowsKept}

-- ---- days

abbrev pub status_of_unsolved : ℕ → Status
status_of_unsolved zero = Done
status_of_unsolved (suc n) = Stopped

-- what a search within the options answers at a row
abbrev pub SolvedBy : DayOptions → Right
SolvedBy options = IsSolvedRow options.search.limits.rounds options.search.limits.most_tours (most_claims options)

-- the options are enough for a search of the snapshot, and for its certificate
abbrev pub AreEnoughBy : DayOptions → Snapshot → Type 0
AreEnoughBy options s = AreEnoughFor options.search.limits.rounds options.search.limits.most_tours (most_claims options) s

-- Of the rows that were done one was accepted where the limits are not enough, and its bound is below its cost.
abbrev pub IsDayStopped : (options : DayOptions) {before : Option TextState} {ahead : List ℕ} {left taken taken' : Option (List ℕ)}
    {result : Result Ended RunFault} → DayRan (SolvedBy options) before ahead left taken taken' result → Type 0
IsDayStopped options ran = IsStoppedIn (SolvedBy options) (AreEnoughBy options) (opening_day ran.opening) (rows_of ran.ran.passed) ran.ran.day ran.ran.text

-- ---- how they end

-- the text was written
pub record WroteText (is_due : List ℕ → Type 0) (old new : Option (List ℕ)) : Type 0 where
  pub text : List ℕ
  pub due : is_due text
  pub written : new ≡ append_known old text

-- a beginning of the text was
pub record WrotePart (is_due : List ℕ → Type 0) (old new : Option (List ℕ)) : Type 0 where
  pub text : List ℕ
  pub due : is_due text
  pub count : ℕ
  pub within : count ≤ length text
  pub written : new ≡ append_known old (take count text)

-- the line that refuses what begins with no opening; the end of the line that it names shows in the bytes that were taken
pub record IsNoDayLine (left left' : Option (List ℕ)) (text : List ℕ) : Type 0 where
  pub fault : TextFault
  pub is_line : IsRefusalLine fault text
  pub no_day : IsDayOpeningRefused (option_map whole_text left) fault
  pub shows : FaultShows (option_map whole_text left) fault left'

-- The most bytes that are taken from a source beyond the line that was read last: the front of a line, and those of one read.
abbrev pub most_ahead : ℕ
most_ahead = 69634

-- A day was run with the limits of the words, and where the source tells what it has left, no accepted call is lost after
-- any of the rows that were done. These few bytes were read ahead (`HoldsDayAhead`).
pub record RanWithin (options : DayOptions) (left left' taken taken' : Option (List ℕ)) (result : Result Ended RunFault) : Type 0 where
  pub ahead : List ℕ
  pub few : length ahead ≤ most_ahead
  pub ran : DayRan (SolvedBy options) (option_map whole_text left) ahead left' taken taken' result
  pub kept : IfSome left (λ input. AreRowsKept (SolvedBy options) (opening_day ran.opening) (rows_of ran.ran.passed) ran.ran.day ran.ran.text)

-- a day of `day`
abbrev pub RanBy : DayOptions → (old new : Streams) → (taken' : Option (List ℕ)) → Result Ended RunFault → Type 0
RanBy options old new taken' result = RanWithin options old.left new.left old.taken taken' result

-- a day of `report`, which writes no log
abbrev pub ToldBy : DayOptions → (left left' : Option (List ℕ)) → Result Ended RunFault → Type 0
ToldBy options left left' result = RanWithin options left left' None None result

-- The day came to its end, and its log was written.
pub record DayDone (options : DayOptions) (old new : Streams) (status : Status) : Type 0 where
  pub ended : Ended
  pub ran : RanBy options old new new.taken (Ok ended)
  pub status_is : status ≡ status_of_unsolved ended.unsolved
  pub stopped : status ≡ Stopped → IsDayStopped options ran.ran

-- The rows that end within the most bytes were done and their lines of the log written; then the refusal line is due.
pub record DayCut (options : DayOptions) (old new : Streams) (Then : (before after : Option (List ℕ)) → Type 0) : Type 0 where
  pub between : Option (List ℕ)
  pub ran : RanBy options old new between (Err TooLong)
  pub then : Then between new.taken

-- Nothing was written, and no opening is whole, each line with its LF, among the bytes that were taken.
pub record IsNotBegun (old new : Streams) : Type 0 where
  pub unwritten : new.taken ≡ old.taken
  pub no_opening : HoldsNoOpening (option_map whole_text old.left) new.left

-- How `day` ends.
abbrev pub DayEnds : DayOptions → (old new : Streams) → Status → Type 0
DayEnds options old new Done = DayDone options old new Done
DayEnds options old new Words = ⊥
DayEnds options old new Stopped = DayDone options old new Stopped
DayEnds options old new Refused = ⊥
DayEnds options old new Input = WroteText (IsNoDayLine old.left new.left) old.taken new.taken ⊎ DayCut options old new (WroteText (IsRefusalLine LongText))
DayEnds options old new Read = Rose old.read_faults new.read_faults × (IsNotBegun old new ⊎ RanBy options old new new.taken (Err RowsUnread))
DayEnds options old new Write =
    Rose old.write_faults new.write_faults
    × (WrotePart (IsNoDayLine old.left new.left) old.taken new.taken
    ⊎ (RanBy options old new new.taken (Err RowsUnwritten) ⊎ DayCut options old new (WrotePart (IsRefusalLine LongText))))
DayEnds options old new Memory = (new.taken ≡ old.taken) ⊎ RanBy options old new new.taken (Err NoMemory)

-- the text of the report of a day that came to its end
pub record IsReport (options : DayOptions) (left left' : Option (List ℕ)) (status : Status) (text : List ℕ) : Type 0 where
  pub ended : Ended
  pub ran : ToldBy options left left' (Ok ended)
  pub status_is : status ≡ status_of_unsolved ended.unsolved
  pub stopped : status ≡ Stopped → IsDayStopped options ran.ran
  pub is_text : text ≡ report_text (report_of ended.served.items)

-- the refusal line of an input that is too long
pub record IsLongLine (options : DayOptions) (left left' : Option (List ℕ)) (text : List ℕ) : Type 0 where
  pub ran : ToldBy options left left' (Err TooLong)
  pub is_line : IsRefusalLine LongText text

-- Which text of `report` is due with a status.
abbrev pub ReportDue : DayOptions → (left left' : Option (List ℕ)) → Status → List ℕ → Type 0
ReportDue options left left' Done text = IsReport options left left' Done text
ReportDue options left left' Words text = ⊥
ReportDue options left left' Stopped text = IsReport options left left' Stopped text
ReportDue options left left' Refused text = ⊥
ReportDue options left left' Input text = IsNoDayLine left left' text ⊎ IsLongLine options left left' text
ReportDue options left left' Read text = ⊥
ReportDue options left left' Write text = ⊥
ReportDue options left left' Memory text = ⊥

-- the day of an opening and rows comes to its end, unless the source or the sink fails or memory is wanting
abbrev pub Completes : (old new : Streams) → Status → Type 0
Completes old new status = IsSomeAnd (option_map whole_text old.left) IsDayText
    → (Rose old.read_faults new.read_faults → ⊥) → (Rose old.write_faults new.write_faults → ⊥) → (status ≡ Done) ⊎ ((status ≡ Stopped) ⊎ (status ≡ Memory))

-- ---- what they promise

-- of `day`
pub record RunsDay (options : DayOptions) (old new : Streams) (status : Status) : Type 0 where
  pub ends : DayEnds options old new status
  pub completes : Completes old new status

-- of `report`
pub record ReportsDay (options : DayOptions) (old new : Streams) (status : Status) : Type 0 where
  pub ends : Ends (ReportDue options old.left new.left) old new status
  pub completes : Completes old new status

-- ---- how rows that were not run to their end are answered

-- where the input is too long, the refusal line was put; otherwise nothing more
abbrev pub PutsRowsFault : RunFault → (result : Status) → (old new : Option (List ℕ)) → (before after : ℕ) → Type 0
PutsRowsFault TooLong result old new before after = (text : List ℕ) × IsRefusalLine LongText text × Puts text Input result old new before after
PutsRowsFault RowsUnread result old new before after = (result ≡ Read) × (new ≡ old)
PutsRowsFault RowsUnwritten result old new before after = (result ≡ Write) × (new ≡ old)
PutsRowsFault NoMemory result old new before after = (result ≡ Memory) × (new ≡ old)
