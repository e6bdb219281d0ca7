-- An input has one answer.
use Rattle.std.proofs.Common.{◌≡◌, ℕ, ◌<◌, ◌⊎◌, inl, inr, List, length, Option, Result, Ok, Err, refl, sym, ap, ◌∙◌, subst, arith}
use Rattle.elevator_model.specs.Snapshot.{Snapshot}
use Rattle.search_model.specs.Days.{Day, Row, opening_day}
use Rattle.lift_text.specs.Reading.{TextState, reading, whole_text}
use Rattle.lift_text.specs.declared.codes.TextCode.{TextCode}
use Rattle.lift_text.specs.declared.faults.TextFault.TheVariants.{Bad, NoMemory, Read, TooLong}
use Rattle.log_rows.proofs.OneLog.{log_begins_once, log_or_none, log_or_past, without_once, without_or_past}
use Rattle.day_audit.specs.declared.findings.Finding.{Finding}
use Rattle.day_audit.specs.declared.findings.Finding.TheVariants.{Differs, Row as BadRow, Text}
use Rattle.day_audit.specs.declared.logs.Audited.{Audited}
use Rattle.day_audit.specs.Audits.{Found, LogFinds, LogHolds, bad_text, differs}
use Rattle.day_audit.specs.Inputs.{FindsBehind, FindsIn, HasNoBadLine, HoldsBehind, HoldsIn, IsAudit, IsShort, bad_opening, behind, in_log, no_log, rows_past}
use Rattle.day_audit.specs.OneAnswer.{BadLineLaw, IsFoundInText, IsToldOfInput, OneAnswerLaw, Told, all_right, first_found, told_by}
use Rattle.day_audit.proofs.LogOnce.{log_finds_once, log_once, log_or_finds}
use Rattle.day_audit.proofs.OpeningOnce.{one_opening_fault, opens_once, opens_or_fault}

-- ---- behind the opening

behind_once : (opening : Snapshot) (from : TextState) (audited other : Audited) → HoldsBehind opening from audited → HoldsBehind opening from other
    → told_by (Ok audited) ≡ told_by (Ok other)
behind_once opening from audited other first second =
    let same = log_begins_once opening.building from second.rows first.rows second.log first.log second.front first.front in
    let moved = subst (λ (rows : List (Option Row)). LogHolds (opening_day opening) rows (reading first.log) second.end) same.0
    (subst (λ (log : TextState). LogHolds (opening_day opening) second.rows (reading log) second.end) same.1 second.holds) in
    let ends = log_once (opening_day opening) first.rows (reading first.log) first.end second.end first.holds moved in
    let accepted = first.accepted ∙ ap (λ (day : Day). length day.calls) ends ∙ sym second.accepted in
    let unsolved = first.unsolved ∙ ap (λ (day : Day). day.unsolved) ends ∙ sym second.unsolved in
    ap (λ (n : ℕ). all_right n audited.unsolved) accepted ∙ ap (all_right other.accepted) unsolved

behind_or_finds : (opening : Snapshot) (from : TextState) (audited : Audited) (found : Found) → IsFoundInText found → HoldsBehind opening from audited
    → FindsBehind opening from found → ⊥
behind_or_finds opening from audited found told is (rows_past past found_is) = log_or_past opening.building from is.rows is.log is.front past
behind_or_finds opening from audited found told is (no_log line without found_is) = log_or_none opening.building from is.rows is.log line is.front without
behind_or_finds opening from audited found told is (in_log rows log front finds) =
    let same = log_begins_once opening.building from rows is.rows log is.log front is.front in
    log_or_finds (opening_day opening) is.rows (reading is.log) is.end found told is.holds
    (subst (λ (r : List (Option Row)). LogFinds (opening_day opening) r (reading is.log) found) same.0
    (subst (λ (t : TextState). LogFinds (opening_day opening) rows (reading t) found) same.1 finds))

behind_finds_once : (opening : Snapshot) (from : TextState) (found other : Found) → IsFoundInText found → IsFoundInText other → FindsBehind opening from found
    → FindsBehind opening from other → found ≡ other
behind_finds_once opening from found other told also (rows_past past found_is) (rows_past past' other_is) = found_is ∙ sym other_is
behind_finds_once opening from found other told also (rows_past past found_is) (no_log line without other_is) =
    absurd (without_or_past opening.building from line without past)
behind_finds_once opening from found other told also (rows_past past found_is) (in_log rows log front finds) =
    absurd (log_or_past opening.building from rows log front past)
behind_finds_once opening from found other told also (no_log line without found_is) (rows_past past other_is) =
    absurd (without_or_past opening.building from line without past)
behind_finds_once opening from found other told also (in_log rows log front finds) (rows_past past other_is) =
    absurd (log_or_past opening.building from rows log front past)
behind_finds_once opening from found other told also (no_log line without found_is) (no_log number without' other_is) =
    found_is ∙ ap differs (without_once opening.building from line number without without') ∙ sym other_is
behind_finds_once opening from found other told also (no_log line without found_is) (in_log rows log front finds) =
    absurd (log_or_none opening.building from rows log line front without)
behind_finds_once opening from found other told also (in_log rows log front finds) (no_log line without other_is) =
    absurd (log_or_none opening.building from rows log line front without)
behind_finds_once opening from found other told also (in_log rows log front finds) (in_log others there also_front more) =
    let same = log_begins_once opening.building from others rows there log also_front front in
    log_finds_once (opening_day opening) rows (reading log) found other told also finds
    (subst (λ (r : List (Option Row)). LogFinds (opening_day opening) r (reading log) other) same.0
    (subst (λ (t : TextState). LogFinds (opening_day opening) others (reading t) other) same.1 more))

-- ---- a text

text_once : (text : TextState) (audited other : Audited) → HoldsIn text audited → HoldsIn text other → told_by (Ok audited) ≡ told_by (Ok other)
text_once text audited other first second =
    let same = opens_once text second.opening first.opening second.from first.from second.opens first.opens in
    behind_once first.opening first.from audited other first.holds
    (subst (λ (s : Snapshot). HoldsBehind s first.from other) same.0 (subst (λ (t : TextState). HoldsBehind second.opening t other) same.1 second.holds))

pub text_or_finds : (text : TextState) (audited : Audited) (found : Found) → IsFoundInText found → HoldsIn text audited → FindsIn text found → ⊥
text_or_finds text audited found told is (bad_opening fault bad found_is) =
    opens_or_fault text is.opening is.from fault (subst IsFoundInText found_is told) is.opens bad
text_or_finds text audited found told is (behind opening from opens finds) =
    let same = opens_once text opening is.opening from is.from opens is.opens in
    behind_or_finds is.opening is.from audited found told is.holds
    (subst (λ (s : Snapshot). FindsBehind s is.from found) same.0 (subst (λ (t : TextState). FindsBehind opening t found) same.1 finds))

pub text_finds_once : (text : TextState) (found other : Found) → IsFoundInText found → IsFoundInText other → FindsIn text found → FindsIn text other
    → found ≡ other
text_finds_once text found other told also (bad_opening fault bad found_is) (bad_opening worse worst other_is) =
    found_is ∙ ap bad_text (one_opening_fault text fault worse (subst IsFoundInText found_is told) (subst IsFoundInText other_is also) bad worst) ∙ sym other_is
text_finds_once text found other told also (bad_opening fault bad found_is) (behind opening from opens more) =
    absurd (opens_or_fault text opening from fault (subst IsFoundInText found_is told) opens bad)
text_finds_once text found other told also (behind opening from opens finds) (bad_opening fault bad other_is) =
    absurd (opens_or_fault text opening from fault (subst IsFoundInText other_is also) opens bad)
text_finds_once text found other told also (behind opening from opens finds) (behind also_opening there also_opens more) =
    let same = opens_once text also_opening opening there from also_opens opens in
    behind_finds_once opening from found other told also finds
    (subst (λ (s : Snapshot). FindsBehind s from other) same.0 (subst (λ (t : TextState). FindsBehind also_opening t other) same.1 more))

-- ---- an input

-- what an answer tells of a text
abbrev IsToldOf : TextState → Told → Type 0
IsToldOf text (all_right accepted unsolved) = (audited : Audited) × HoldsIn text audited × (told_by (Ok audited) ≡ all_right accepted unsolved)
IsToldOf text (first_found found) = IsFoundInText found × FindsIn text found

told_once : (text : TextState) (one other : Told) → IsToldOf text one → IsToldOf text other → one ≡ other
told_once text (all_right accepted unsolved) (all_right more fewer) first second = sym first.2 ∙ text_once text first.0 second.0 first.1 second.1 ∙ second.2
told_once text (all_right accepted unsolved) (first_found found) first second = absurd (text_or_finds text first.0 found second.0 first.1 second.1)
told_once text (first_found found) (all_right accepted unsolved) first second = absurd (text_or_finds text second.0 found first.0 second.1 first.1)
told_once text (first_found found) (first_found other) first second = ap first_found (text_finds_once text found other first.0 second.0 first.1 second.1)

-- An answer tells of the text, where the input is not too long or a bad line is told.
record IsToldOfText (input : List ℕ) (told : Told) : Type 0 where
  of_text : IsToldOf (whole_text input) told
  short_or_bad : IsShort input ⊎ ((line : ℕ) × (code : TextCode) × (told ≡ first_found (bad_text (Bad line code))))

-- Or it tells of the length, where no bad line is to be told.
record IsToldOfLength (input : List ℕ) (told : Told) : Type 0 where
  is_long : told ≡ first_found (bad_text TooLong)
  long : 67108864 < length input
  none_bad : HasNoBadLine input

told_of : (input : List ℕ) (answer : Result Audited Finding) → IsToldOfInput answer → IsAudit input answer → IsToldOfText input (told_by answer)
    ⊎ IsToldOfLength input (told_by answer)
told_of input (Ok audited) told audit = inl (record { of_text = (audited, audit.1, refl); short_or_bad = inl audit.0 })
told_of input (Err (Differs line)) told audit = inl (record { of_text = (tt, audit.1); short_or_bad = inl audit.0 })
told_of input (Err (BadRow row reason)) told audit = inl (record { of_text = (tt, audit.1); short_or_bad = inl audit.0 })
told_of input (Err (Text (Bad line code))) told audit = inl (record { of_text = (tt, audit); short_or_bad = inr (line, code, refl) })
told_of input (Err (Text TooLong)) told audit = inr (record { is_long = refl; long = audit.0; none_bad = audit.1 })
told_of input (Err (Text Read)) told audit = absurd told
told_of input (Err (Text NoMemory)) told audit = absurd told

-- what is told of a text is not told of an input for its length
text_or_length : (input : List ℕ) (one other : Told) → IsToldOfText input one → IsToldOfLength input other → ⊥
text_or_length input one other text length_told = at text.short_or_bad
  where
    at : (IsShort input ⊎ ((line : ℕ) × (code : TextCode) × (one ≡ first_found (bad_text (Bad line code))))) → ⊥
    at (inl short) = let long = length_told.long in omega (arith, short, long)
    at (inr (line, code, is)) = length_told.none_bad line code (subst (IsToldOf (whole_text input)) is text.of_text).1

pub one_answer : OneAnswerLaw
one_answer input first second told also audit audit' = both (told_of input first told audit) (told_of input second also audit')
  where
    both : (IsToldOfText input (told_by first) ⊎ IsToldOfLength input (told_by first))
        → (IsToldOfText input (told_by second) ⊎ IsToldOfLength input (told_by second)) → told_by first ≡ told_by second
    both (inl one) (inl other) = told_once (whole_text input) (told_by first) (told_by second) one.of_text other.of_text
    both (inl one) (inr other) = absurd (text_or_length input (told_by first) (told_by second) one other)
    both (inr one) (inl other) = absurd (text_or_length input (told_by second) (told_by first) other one)
    both (inr one) (inr other) = one.is_long ∙ sym other.is_long

pub bad_line_told : BadLineLaw
bad_line_told input line code answer bad told audit = one_answer input answer (Err (Text (Bad line code))) told tt audit bad
