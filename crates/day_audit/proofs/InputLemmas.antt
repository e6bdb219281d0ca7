-- An input is its opening, the rows behind it, and the log behind these.
use Rattle.std.proofs.Common.{◌≡◌, ℕ, ◌+◌, ◌-◌, ◌<◌, ◌≤◌, ◌⊎◌, inl, inr, List, [], ◌++◌, length, map, take, get_or, Option, None, Some, option_map, Result, Ok}
use Rattle.std.proofs.Common.{Err, refl, sym, ap, ◌∙◌}
use Rattle.std.proofs.Common.{subst, arith}
use Rattle.std.specs.Prelude.{IfSome}
use Rattle.std.specs.Io.KnownBytes.{IsAtEnd, prepend_known}
use Rattle.std.proofs.lemmas.Bool.{cases_lt}
use Rattle.std.proofs.lemmas.List.{append-nil, take-append-le, take_all}
use Rattle.elevator_model.specs.Snapshot.{Snapshot, IsAccepted}
use Rattle.search_model.specs.Days.{opening_day}
use Rattle.lift_text.specs.Lines.{pieces_of}
use Rattle.lift_text.specs.Reading.{TextState, EndShows, reading, whole_text}
use Rattle.lift_text.specs.Shows.{FaultShows}
use Rattle.lift_text.specs.declared.codes.TextCode.{TextCode}
use Rattle.lift_text.specs.declared.faults.TextFault.{TextFault}
use Rattle.lift_text.specs.declared.faults.TextFault.TheVariants.{Bad, NoMemory, Read, TooLong}
use Rattle.lift_text.proofs.SkipLemmas.{size_of, size_of-pieces}
use Rattle.byte_streams.specs.declared.inputs.InputFault.{InputFault}
use Rattle.byte_streams.specs.declared.inputs.InputFault.TheVariants.{Read as FailedRead, NoMemory as MemoryWanting}
use Rattle.day_text.specs.declared.rows.GoodRow.{GoodRow}
use Rattle.day_text.specs.DayOpenings.{IsDayOpeningRead, IsDayOpeningRefused, IsEmptySnapshot}
use Rattle.day_state.specs.Openings.{IsOpeningSnapshot}
use Rattle.day_audit.specs.declared.findings.Finding.{Finding}
use Rattle.day_audit.specs.declared.findings.Finding.TheVariants.{Differs, Row as BadRow, Text}
use Rattle.day_audit.specs.declared.logs.Audited.{Audited}
use Rattle.day_audit.specs.Audits.{Found, LogFinds, bad_row, bad_text, differs, found_for}
use Rattle.day_audit.specs.Taking.{IsUnread, TellsFound, TellsOf, found_by}
use Rattle.log_rows.specs.Rows.{AreRowsGiven, TellsNoLog, TellsRows, said_of}
use Rattle.day_audit.specs.Progress.{IsLogAudited}
use Rattle.day_audit.specs.Inputs.{EndsIfJudged, FindingShows, FindsBehind, FindsIn, HasNoBadLine, IsAudit, IsDayAudited, IsShort, IsTextAudited}
use Rattle.day_audit.specs.Inputs.{bad_opening, behind, if_long, in_log, no_log, rows_past, unread}
use Rattle.day_audit.specs.OneAnswer.{IsFoundInText}
use Rattle.day_audit.proofs.InputOnce.{text_finds_once, text_or_finds}
use Rattle.day_audit.proofs.ProvedDays.{log_proved}
use Rattle.day_audit.proofs.TakingLemmas.{tells, tells_found}
use Rattle.day_audit.proofs.FaultPlaces.{EndsItself, bad_line_shows, text_is_long}

-- ---- behind the opening

pub log_audited : (opening : Snapshot) (rows : List (Option GoodRow)) (before mid : Option TextState) (answer : Result Audited Finding)
    → AreRowsGiven opening.building rows before mid → IsLogAudited (opening_day opening) (map said_of rows) mid answer → IsDayAudited opening before answer
log_audited opening rows None mid answer given audited = tt
log_audited opening rows (Some from) None answer given audited = absurd given
log_audited opening rows (Some from) (Some log) (Ok audited) given is =
    record { rows = map said_of rows; log = log; end = is.0; front = given; holds = is.1; accepted = is.2; unsolved = is.3 }
log_audited opening rows (Some from) (Some log) (Err finding) given told =
    tells_found finding (LogFinds (opening_day opening) (map said_of rows) (reading log)) (FindsBehind opening from)
    (λ found finds. in_log (map said_of rows) log given finds) told

no_rows_in : (opening : Snapshot) (from : TextState) (fault : TextFault) → TellsRows from fault
    → TellsOf (found_for fault) (FindsBehind opening from (found_for fault))
no_rows_in opening from (Bad line code) told = no_log line told.0 refl
no_rows_in opening from TooLong told = rows_past told refl
no_rows_in opening from Read told = tt
no_rows_in opening from NoMemory told = tt

pub rows_refused : (opening : Snapshot) (before : Option TextState) (fault : TextFault) (finding : Finding) → found_by finding ≡ found_for fault
    → TellsNoLog before fault → IsDayAudited opening before (Err finding)
rows_refused opening None fault finding is told = tt
rows_refused opening (Some from) fault finding is told =
    subst (λ (found : Found). TellsOf found (FindsBehind opening from found)) (sym is) (no_rows_in opening from fault told)

-- ---- a text

pub opening_empty : (opening : Snapshot) → IsEmptySnapshot opening → IsOpeningSnapshot opening
opening_empty opening empty = record { calls = ap length empty.calls; aboard = ap length empty.aboard }

pub day_audited : (opening : Snapshot) (before mid : Option TextState) (answer : Result Audited Finding) → IsAccepted opening → IsEmptySnapshot opening
    → IsDayOpeningRead before opening mid → IsDayAudited opening mid answer → IsTextAudited before answer
day_audited opening None mid answer accepted empty opens audited = tt
day_audited opening (Some text) None answer accepted empty opens audited = absurd opens
day_audited opening (Some text) (Some from) (Ok audited) accepted empty opens holds =
    let is_empty = opening_empty opening empty in
    record {
      opening = opening;
      from = from;
      accepted = accepted;
      empty = is_empty;
      opens = opens;
      holds = holds;
      proved = log_proved opening holds.rows (reading holds.log) holds.end accepted is_empty holds.holds;
    }
day_audited opening (Some text) (Some from) (Err finding) accepted empty opens told =
    tells_found finding (FindsBehind opening from) (FindsIn text) (λ found finds. behind opening from opens finds) told

pub opening_refused : (before : Option TextState) (fault : TextFault) (finding : Finding) → finding ≡ Text fault → IsDayOpeningRefused before fault
    → IsTextAudited before (Err finding)
opening_refused None fault finding is refused = tt
opening_refused (Some text) fault finding is refused =
    subst (λ (f : Finding). TellsFound f (FindsIn text)) (sym is) (tells fault (λ bad. bad_opening fault bad refl) refused)

-- ---- an input

pub short_audited : (input : List ℕ) (answer : Result Audited Finding) → IsShort input → IsTextAudited (Some (whole_text input)) answer → IsAudit input answer
short_audited input (Ok audited) short holds = (short, holds)
short_audited input (Err (Differs line)) short told = (short, told)
short_audited input (Err (BadRow row reason)) short told = (short, told)
short_audited input (Err (Text (Bad line code))) short told = told
short_audited input (Err (Text TooLong)) short told = let long = text_is_long (whole_text input) told in absurd (omega (arith, short, long))
short_audited input (Err (Text Read)) short told = tt
short_audited input (Err (Text NoMemory)) short told = tt

-- what is found besides is no bad line
found_besides : (input : List ℕ) (found : Found) → IsFoundInText found → ((line : ℕ) (code : TextCode) → found ≡ bad_text (Bad line code) → ⊥)
    → FindsIn (whole_text input) found → HasNoBadLine input
found_besides input found told other finds line code bad =
    other line code (text_finds_once (whole_text input) found (bad_text (Bad line code)) told tt finds bad)

pub long_audited : (input : List ℕ) (answer : Result Audited Finding) → 67108864 < length input → IsTextAudited (Some (whole_text input)) answer
    → IsAudit input (if_long answer)
long_audited input (Ok audited) long holds = (long, λ line code bad. text_or_finds (whole_text input) audited (bad_text (Bad line code)) tt holds bad)
long_audited input (Err (Differs line)) long told = (long, found_besides input (differs line) tt (λ number code is. absurd cc) told)
long_audited input (Err (BadRow row reason)) long told = (long, found_besides input (bad_row row reason.items) tt (λ number code is. absurd cc) told)
long_audited input (Err (Text (Bad line code))) long told = told
long_audited input (Err (Text TooLong)) long told = (long, found_besides input (bad_text TooLong) tt (λ number code is. absurd cc) told)
long_audited input (Err (Text Read)) long told = tt
long_audited input (Err (Text NoMemory)) long told = tt

pub long_read : (answer : Result Audited Finding) → IsUnread (if_long answer) → IsUnread answer
long_read (Ok audited) failed = absurd cc
long_read (Err (Differs line)) failed = absurd cc
long_read (Err (BadRow row reason)) failed = absurd cc
long_read (Err (Text fault)) failed = failed

-- the bytes that were read are the first of the input
first_bytes : (input rest : List ℕ) → length input ≤ 67108865 → (length input < 67108865 → rest ≡ []) → take 67108865 (input ++ rest) ≡ input
first_bytes input rest few whole = at (cases_lt (length input) 67108865)
  where
    at : (length input < 67108865) ⊎ (67108865 ≤ length input) → take 67108865 (input ++ rest) ≡ input
    at (inl less) = ap (λ (r : List ℕ). take 67108865 (input ++ r)) (whole less) ∙ ap (take 67108865) (append-nil input) ∙ take_all 67108865 input few
    at (inr more) = take-append-le 67108865 input rest more ∙ take_all 67108865 input few

pub input_audited : (input : List ℕ) (before now : Option (List ℕ)) (answer : Result Audited Finding) → before ≡ prepend_known input now
    → length input ≤ 67108865 → (length input < 67108865 → IsAtEnd now) → IsAudit input answer
    → IfSome before (λ whole. IsAudit (take 67108865 whole) answer)
input_audited input before None answer given few ends audit =
    subst (λ (b : Option (List ℕ)). IfSome b (λ whole. IsAudit (take 67108865 whole) answer)) (sym given) tt
input_audited input before (Some rest) answer given few ends audit =
    subst (λ (b : Option (List ℕ)). IfSome b (λ whole. IsAudit (take 67108865 whole) answer)) (sym given)
    (subst (λ (bytes : List ℕ). IsAudit bytes answer) (sym (first_bytes input rest few ends)) audit)

pub ends_if_judged : (input : List ℕ) (left : Option (List ℕ)) (answer : Result Audited Finding) → (length input < 67108865 → IsAtEnd left)
    → IsAudit input answer → EndsIfJudged answer left
ends_if_judged input left (Ok audited) ends audit = ends (omega (arith, audit.0))
ends_if_judged input left (Err (Differs line)) ends audit = ends (omega (arith, audit.0))
ends_if_judged input left (Err (BadRow row reason)) ends audit = ends (omega (arith, audit.0))
ends_if_judged input left (Err (Text fault)) ends audit = tt

pub not_judged : (finding : Finding) (fault : TextFault) (left : Option (List ℕ)) → finding ≡ Text fault → EndsIfJudged (Err finding) left
not_judged finding fault left is = subst (λ (f : Finding). EndsIfJudged (Err f) left) (sym is) tt

-- where nothing was read
pub none_audited : (finding : Finding) (fault : TextFault) (before : Option (List ℕ)) → finding ≡ Text fault → (fault ≡ Read) ⊎ (fault ≡ NoMemory)
    → IfSome before (λ whole. IsAudit (take 67108865 whole) (Err finding))
none_audited finding fault None is kind = tt
none_audited finding fault (Some whole) is (inl read) = subst (λ (f : Finding). IsAudit (take 67108865 whole) (Err f)) (sym (is ∙ ap Text read)) tt
none_audited finding fault (Some whole) is (inr none) = subst (λ (f : Finding). IsAudit (take 67108865 whole) (Err f)) (sym (is ∙ ap Text none)) tt

-- ---- the end of a bad line

bad_line_shown : (input : List ℕ) (now : Option (List ℕ)) (line : ℕ) (code : TextCode) → (length input < 67108865 → IsAtEnd now)
    → FindsIn (whole_text input) (bad_text (Bad line code)) → FaultShows (option_map whole_text (prepend_known input now)) (Bad line code) now
bad_line_shown input None line code ends finds = tt
bad_line_shown input (Some rest) line code ends finds =
    let shown = bad_line_shows (whole_text input) line code finds in
    record { taken = input; split = refl; later = shown.later; shows = shown_by shown.shows }
  where
    shown_by : (size_of (pieces_of input) ≤ 67108864) ⊎ EndsItself (get_or (pieces_of input) (line - (0 + 1)) [])
        → EndShows (get_or (pieces_of input) (line - (0 + 1)) []) (Some rest)
    shown_by (inl short) = inr (inl (ends (omega (arith, short, size_of-pieces input))))
    shown_by (inr (inl whole)) = inl whole
    shown_by (inr (inr long)) = inr (inr long)

pub finding_shows : (input : List ℕ) (before now : Option (List ℕ)) (answer : Result Audited Finding) → before ≡ prepend_known input now
    → (length input < 67108865 → IsAtEnd now) → IsAudit input answer → FindingShows before answer now
finding_shows input before now (Ok audited) given ends audit = tt
finding_shows input before now (Err (Differs line)) given ends audit = tt
finding_shows input before now (Err (BadRow row reason)) given ends audit = tt
finding_shows input before now (Err (Text (Bad line code))) given ends audit =
    subst (λ (b : Option (List ℕ)). FaultShows (option_map whole_text b) (Bad line code) now) (sym given) (bad_line_shown input now line code ends audit)
finding_shows input before now (Err (Text TooLong)) given ends audit = tt
finding_shows input before now (Err (Text Read)) given ends audit = tt
finding_shows input before now (Err (Text NoMemory)) given ends audit = tt

pub nothing_shows : (finding : Finding) (fault : InputFault) (before now : Option (List ℕ)) → finding ≡ Text (unread fault)
    → FindingShows before (Err finding) now
nothing_shows finding FailedRead before now is = subst (λ (f : Finding). FindingShows before (Err f) now) (sym is) tt
nothing_shows finding MemoryWanting before now is = subst (λ (f : Finding). FindingShows before (Err f) now) (sym is) tt
