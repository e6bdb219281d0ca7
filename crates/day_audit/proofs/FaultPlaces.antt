-- Where a fault that is found in a text stands: a bad line is one that is read, whose end shows, and a text that is too long
-- has more bytes than may be read.
use Rattle.std.proofs.Common.{◌≡◌, ℕ, suc, ◌+◌, ◌-◌, ◌<◌, ◌≤◌, ◌⊎◌, inl, inr, Bool, true, false, cond, eqb, ltb, List, [], ◌∷◌, length, get_or, Option}
use Rattle.std.proofs.Common.{None}
use Rattle.std.proofs.Common.{Some, refl, sym, ap, ◌∙◌, subst, arith}
use Rattle.std.specs.Prelude.{IsTrue, nat_lt}
use Rattle.std.specs.List.{onto_first}
use Rattle.std.specs.Io.BufRead.{ends_with_byte}
use Rattle.std.proofs.lemmas.Bool.{and_from, and_parts, false≢true, lt-ltb, ltb-false, ltb-true}
use Rattle.std.proofs.lemmas.List.{get_or-drop}
use Rattle.elevator_model.specs.Snapshot.{Snapshot}
use Rattle.search_model.specs.declared.Event.{Event}
use Rattle.search_model.specs.declared.RowFault.{RowFault}
use Rattle.search_model.specs.declared.Stated.{Stated}
use Rattle.search_model.specs.Days.{Day, Row, opening_day}
use Rattle.lift_text.specs.Lines.{pieces_of, line_of, words_of, is_clean}
use Rattle.lift_text.specs.Reading.{TextState, Reading, reading, reading_of, judged, cut_short, line_limit, line_with, finished, bad_line, past_limit, Passed}
use Rattle.lift_text.specs.declared.codes.TextCode.{TextCode}
use Rattle.lift_text.specs.declared.codes.TextCode.TheVariants.{CutShort, ForbiddenByte, OverLong}
use Rattle.lift_text.specs.declared.faults.TextFault.{TextFault}
use Rattle.lift_text.specs.declared.faults.TextFault.TheVariants.{Bad, NoMemory, Read, TooLong}
use Rattle.lift_text.proofs.SkipLemmas.{size_of, size_of-pieces}
use Rattle.text_sections.specs.Sections.{Line, Outcome, Step, accepted, outcome, continued, goes_on, is_whole, is_bad, refused, too_long}
use Rattle.text_sections.specs.Canonical.{BeginsWith}
use Rattle.text_sections.specs.Between.{AreBetween}
use Rattle.text_sections.proofs.BetweenLemmas.{behind_went}
use Rattle.day_text.specs.declared.headers.Header.{Header}
use Rattle.day_text.specs.declared.headers.Header.TheVariants.{Rows}
use Rattle.building_text.specs.Drafts.{no_draft, after as after_building_line}
use Rattle.snapshot_text.specs.Drafts.{blank, after as after_snapshot_line}
use Rattle.answer_text.specs.Drafts.{blank as no_answer, after as after_answer_line}
use Rattle.cert_text.specs.Drafts.{blank as no_tree, after as after_tree_line}
use Rattle.case_text.specs.CaseTexts.{IsRefusedWith}
use Rattle.day_text.specs.Headers.{HeaderFirst, NoHeaderFirst}
use Rattle.day_text.specs.DayOpenings.{DayOpeningInFront, IsDayOpeningFault}
use Rattle.check_text.specs.Pairs.{IsPairFault}
use Rattle.day_text.specs.LogTexts.{refused_words}
use Rattle.day_laws.specs.Standing.{row_number}
use Rattle.log_rows.proofs.RowLemmas.{reads_passed, rows_are_past}
use Rattle.day_audit.specs.Audits.{AcceptedFinds, AcceptedInFront, EndFinds, FindsBehind as FindsMore, Found, Lacks, LogFinds, ProofFinds, RowFinds, RowInFront}
use Rattle.day_audit.specs.Audits.{RowsFind, RowsInFront, accepted_lines, bad_section, bad_row, bad_text, day_after, differs, end_lines_of, next_fault}
use Rattle.day_audit.specs.Audits.{no_proof}
use Rattle.day_audit.specs.Inputs.{FindsBehind, FindsIn, bad_opening, behind, in_log, no_log, rows_past}
use Rattle.day_audit.specs.OneAnswer.{IsOfText}
use Rattle.day_audit.proofs.OpeningOnce.{no_refusal, one_refusal}

-- ---- lines with their ends

-- every line but the last has its LF
abbrev HaveEnds : List (List ℕ) → Type 0
HaveEnds [] = Unit {0}
HaveEnds (piece ∷ []) = Unit {0}
HaveEnds (piece ∷ next ∷ later) = IsTrue (ends_with_byte 10 piece) × HaveEnds (next ∷ later)

ends_behind : (piece : List ℕ) (pieces : List (List ℕ)) → HaveEnds (piece ∷ pieces) → HaveEnds pieces
ends_behind piece [] ends = tt
ends_behind piece (next ∷ later) ends = ends.1

end_stays : (b : ℕ) (bytes : List ℕ) → ends_with_byte 10 bytes ≡ true → ends_with_byte 10 (b ∷ bytes) ≡ true
end_stays b [] ends = absurd (false≢true ends)
end_stays b (x ∷ bytes) ends =
    let all = b ∷ x ∷ bytes in
    let parts = and_parts (nat_lt 0 (length (x ∷ bytes))) (eqb (get_or (x ∷ bytes) (length (x ∷ bytes) - 1) 0) 10) ends in
    let place : length all - 1 ≡ suc (length (x ∷ bytes) - 1) = omega arith in
    and_from (nat_lt 0 (length all)) (eqb (get_or all (length all - 1) 0) 10) (lt-ltb 0 (length all) (omega arith))
    (ap (λ (k : ℕ). eqb (get_or all k 0) 10) place ∙ parts.1)

ends_step : (is : Bool) (b : ℕ) (later : List (List ℕ)) → eqb b 10 ≡ is → HaveEnds later → HaveEnds (cond is ((b ∷ []) ∷ later) (onto_first b later))
ends_step true b [] is ends = tt
ends_step true b (piece ∷ later) is ends = (is, ends)
ends_step false b [] is ends = tt
ends_step false b (piece ∷ []) is ends = tt
ends_step false b (piece ∷ next ∷ later) is ends = (end_stays b piece ends.0, ends.1)

have_ends : (bytes : List ℕ) → HaveEnds (pieces_of bytes)
have_ends [] = tt
have_ends (b ∷ bytes) = ends_step (eqb b 10) b (pieces_of bytes) refl (have_ends bytes)

-- ---- what shows of a fault

-- the end of a line shows in its own bytes
abbrev pub EndsItself : List ℕ → Type 0
EndsItself piece = IsTrue (ends_with_byte 10 piece) ⊎ (line_limit + 1 < length piece)

-- Of lines with their ends, after this many others, where at most `limit` bytes may be read: the line with this number shows
-- its end, or all of them may be read.
pub record ShowsAmong (line limit : ℕ) (pieces : List (List ℕ)) (number : ℕ) : Type 0 where
  pub later : line < number
  pub shows : (size_of pieces ≤ limit) ⊎ EndsItself (get_or pieces (number - (line + 1)) [])

-- where they have this fault, that is so of the bad line, or they are more bytes than may be read
abbrev ShowsOf : TextFault → (line limit : ℕ) → List (List ℕ) → Type 0
ShowsOf (Bad number code) line limit pieces = ShowsAmong line limit pieces number
ShowsOf TooLong line limit pieces = limit < size_of pieces
ShowsOf Read line limit pieces = Unit {0}
ShowsOf NoMemory line limit pieces = Unit {0}

abbrev ShowsIn : TextFault → TextState → Type 0
ShowsIn fault text = ShowsOf fault text.line text.limit (pieces_of text.bytes)

-- the next line is the bad one
first_shows : (line limit : ℕ) (piece : List ℕ) (pieces : List (List ℕ)) (number : ℕ) → number ≡ line + 1
    → (size_of (piece ∷ pieces) ≤ limit) ⊎ EndsItself piece → ShowsAmong line limit (piece ∷ pieces) number
first_shows line limit piece pieces number is ends = record { later = omega (arith, is); shows = shown_by ends }
  where
    shown_by : (size_of (piece ∷ pieces) ≤ limit) ⊎ EndsItself piece → (size_of (piece ∷ pieces) ≤ limit)
        ⊎ EndsItself (get_or (piece ∷ pieces) (number - (line + 1)) [])
    shown_by (inl within) = inl within
    shown_by (inr end) =
        let place : 0 ≡ number - (line + 1) = omega (arith, is) in inr (subst (λ (k : ℕ). EndsItself (get_or (piece ∷ pieces) k [])) place end)

first_ends : (piece : List ℕ) (pieces : List (List ℕ)) (limit : ℕ) → HaveEnds (piece ∷ pieces) → length piece ≤ limit
    → (size_of (piece ∷ pieces) ≤ limit) ⊎ EndsItself piece
first_ends piece [] limit ends within = inl (omega (arith, within))
first_ends piece (next ∷ later) limit ends within = inr (inl ends.0)

none_shows : (line limit number : ℕ) → number ≡ line + 1 → ShowsAmong line limit [] number
none_shows line limit number is = record { later = omega (arith, is); shows = inl (omega arith) }

-- what shows behind a line shows with it
line_before : (line limit : ℕ) (piece : List ℕ) (pieces : List (List ℕ)) (number : ℕ) → length piece ≤ limit
    → ShowsAmong (line + 1) (limit - length piece) pieces number → ShowsAmong line limit (piece ∷ pieces) number
line_before line limit piece pieces number within shown = record { later = omega (arith, shown.later); shows = shown_by shown.shows }
  where
    shown_by : (size_of pieces ≤ limit - length piece) ⊎ EndsItself (get_or pieces (number - (line + 1 + 1)) [])
        → (size_of (piece ∷ pieces) ≤ limit) ⊎ EndsItself (get_or (piece ∷ pieces) (number - (line + 1)) [])
    shown_by (inl fits) = inl (omega (arith, fits, within))
    shown_by (inr end) =
        let place : suc (number - (line + 1 + 1)) ≡ number - (line + 1) = omega (arith, shown.later) in
        inr (subst (λ (k : ℕ). EndsItself (get_or (piece ∷ pieces) k [])) place end)

more_before : (limit : ℕ) (piece : List ℕ) (pieces : List (List ℕ)) → length piece ≤ limit → limit - length piece < size_of pieces
    → limit < size_of (piece ∷ pieces)
more_before limit piece pieces within past = omega (arith, within, past)

shows_before : (fault : TextFault) (line limit : ℕ) (piece : List ℕ) (pieces : List (List ℕ)) → length piece ≤ limit
    → ShowsOf fault (line + 1) (limit - length piece) pieces → ShowsOf fault line limit (piece ∷ pieces)
shows_before (Bad number code) line limit piece pieces within shows = line_before line limit piece pieces number within shows
shows_before TooLong line limit piece pieces within shows = more_before limit piece pieces within shows
shows_before Read line limit piece pieces within shows = tt
shows_before NoMemory line limit piece pieces within shows = tt

-- what shows in a later state of a text shows in an earlier one
lines_before : (before after : TextState) (number : ℕ) → Passed before after → ShowsAmong after.line after.limit (pieces_of after.bytes) number
    → ShowsAmong before.line before.limit (pieces_of before.bytes) number
lines_before before after number passed shown = record { later = omega (arith, passed.lines, shown.later); shows = shown_by shown.shows }
  where
    shown_by : (size_of (pieces_of after.bytes) ≤ after.limit) ⊎ EndsItself (get_or (pieces_of after.bytes) (number - (after.line + 1)) [])
        → (size_of (pieces_of before.bytes) ≤ before.limit) ⊎ EndsItself (get_or (pieces_of before.bytes) (number - (before.line + 1)) [])
    shown_by (inl fits) = inl (omega (arith, fits, passed.limit, size_of-pieces before.bytes, size_of-pieces after.bytes))
    shown_by (inr end) =
        let count = after.line - before.line in
        let k = number - (after.line + 1) in
        let pieces = pieces_of before.bytes in
        let place : count + k ≡ number - (before.line + 1) = omega (arith, passed.lines, shown.later) in
        let same = ap (λ (l : List (List ℕ)). get_or l k []) passed.pieces ∙ get_or-drop count pieces k [] ∙ ap (λ (i : ℕ). get_or pieces i []) place in
        inr (subst EndsItself same end)

more_passed : (before after : TextState) → Passed before after → after.limit < size_of (pieces_of after.bytes) → before.limit < size_of (pieces_of before.bytes)
more_passed before after passed more = omega (arith, more, passed.limit, size_of-pieces before.bytes, size_of-pieces after.bytes)

passed_shows : (fault : TextFault) (before after : TextState) → Passed before after → ShowsIn fault after → ShowsIn fault before
passed_shows (Bad number code) before after passed shows = lines_before before after number passed shows
passed_shows TooLong before after passed shows = more_passed before after passed shows
passed_shows Read before after passed shows = tt
passed_shows NoMemory before after passed shows = tt

more_bytes : (text : TextState) → text.limit < length text.bytes → text.limit < size_of (pieces_of text.bytes)
more_bytes text more = omega (arith, more, size_of-pieces text.bytes)

between_passed : (from to : TextState) (lines : List Line) → AreBetween from lines to → Passed from to
between_passed from to lines steps = behind_went (Some from) (Some to) (lines, steps)

-- ---- where a fault stands in what is read

-- it is one of the line with this number
abbrev IsAt : TextFault → ℕ → Type 0
IsAt (Bad line code) number = line ≡ number
IsAt TooLong number = ⊥
IsAt Read number = ⊥
IsAt NoMemory number = ⊥

-- it is one of a line that is read, or of the line behind the last, or the text goes past the most bytes
abbrev StandsIn : TextFault → Reading → Type 0
StandsIn fault (line_with number words rest) = IsAt fault number ⊎ StandsIn fault rest
StandsIn fault (finished lines) = IsAt fault (lines + 1)
StandsIn fault (bad_line number code) = IsAt fault number
StandsIn fault past_limit = fault ≡ TooLong

judged_stands : (fault : TextFault) (line : ℕ) (text : List ℕ) (after : Reading) → StandsIn fault (judged line text after)
    → IsAt fault line ⊎ StandsIn fault after
judged_stands fault line text after stands = at (ltb line_limit (length text)) (is_clean text) (ltb 0 (length (words_of text))) stands
  where
    at : (long clean some : Bool)
        → StandsIn fault
        (cond long (bad_line line OverLong) (cond clean (cond some (line_with line (words_of text) after) after) (bad_line line ForbiddenByte)))
        → IsAt fault line ⊎ StandsIn fault after
    at true clean some stands = inl stands
    at false false some stands = inl stands
    at false true true stands = stands
    at false true false stands = inr stands

-- a line that goes past the most bytes is over long where more bytes than such a line may have can be read
cut_stands : (fault : TextFault) (line limit : ℕ) → StandsIn fault (cut_short line limit) → (IsAt fault line × (line_limit + 1 < limit)) ⊎ (fault ≡ TooLong)
cut_stands fault line limit stands = at (ltb (line_limit + 1) limit) refl stands
  where
    at : (long : Bool) → ltb (line_limit + 1) limit ≡ long → StandsIn fault (cond long (bad_line line OverLong) past_limit)
        → (IsAt fault line × (line_limit + 1 < limit)) ⊎ (fault ≡ TooLong)
    at true is stands = inl (stands, ltb-true (line_limit + 1) limit is)
    at false is stands = inr stands

-- the next line has the fault
first_stands : (fault : TextFault) (line limit : ℕ) (piece : List ℕ) (pieces : List (List ℕ)) → IsAt fault (line + 1)
    → (size_of (piece ∷ pieces) ≤ limit) ⊎ EndsItself piece → ShowsOf fault line limit (piece ∷ pieces)
first_stands (Bad number code) line limit piece pieces is ends = first_shows line limit piece pieces number is ends
first_stands TooLong line limit piece pieces is ends = absurd is
first_stands Read line limit piece pieces is ends = absurd is
first_stands NoMemory line limit piece pieces is ends = absurd is

none_stands : (fault : TextFault) (line limit : ℕ) → IsAt fault (line + 1) → ShowsOf fault line limit []
none_stands (Bad number code) line limit is = none_shows line limit number is
none_stands TooLong line limit is = absurd is
none_stands Read line limit is = absurd is
none_stands NoMemory line limit is = absurd is

over_long : (limit : ℕ) (piece : List ℕ) → line_limit + 1 < limit → limit < length piece → line_limit + 1 < length piece
over_long limit piece long past = omega (arith, long, past)

more_here : (limit : ℕ) (piece : List ℕ) (pieces : List (List ℕ)) → limit < length piece → limit < size_of (piece ∷ pieces)
more_here limit piece pieces past = omega (arith, past)

past_shows : (fault : TextFault) (line limit : ℕ) (piece : List ℕ) (pieces : List (List ℕ)) → limit < length piece
    → (IsAt fault (line + 1) × (line_limit + 1 < limit)) ⊎ (fault ≡ TooLong) → ShowsOf fault line limit (piece ∷ pieces)
past_shows fault line limit piece pieces past (inl here) =
    first_stands fault line limit piece pieces here.0 (inr (inr (over_long limit piece here.1 past)))
past_shows fault line limit piece pieces past (inr is) =
    subst (λ (f : TextFault). ShowsOf f line limit (piece ∷ pieces)) (sym is) (more_here limit piece pieces past)

within_shows : (fault : TextFault) (line limit : ℕ) (piece : List ℕ) (pieces : List (List ℕ)) → HaveEnds (piece ∷ pieces) → length piece ≤ limit
    → (StandsIn fault (reading_of (line + 1) (limit - length piece) pieces) → ShowsOf fault (line + 1) (limit - length piece) pieces)
    → IsAt fault (line + 1) ⊎ StandsIn fault (reading_of (line + 1) (limit - length piece) pieces) → ShowsOf fault line limit (piece ∷ pieces)
within_shows fault line limit piece pieces ends within later (inl here) =
    first_stands fault line limit piece pieces here (first_ends piece pieces limit ends within)
within_shows fault line limit piece pieces ends within later (inr stands) = shows_before fault line limit piece pieces within (later stands)

lines_show : (fault : TextFault) (pieces : List (List ℕ)) (line limit : ℕ) → HaveEnds pieces → StandsIn fault (reading_of line limit pieces)
    → ShowsOf fault line limit pieces
lines_show fault [] line limit ends stands = none_stands fault line limit stands
lines_show fault (piece ∷ pieces) line limit ends stands =
    at (lines_show fault pieces (line + 1) (limit - length piece) (ends_behind piece pieces ends)) (ltb limit (length piece)) refl stands
  where
    at : (StandsIn fault (reading_of (line + 1) (limit - length piece) pieces) → ShowsOf fault (line + 1) (limit - length piece) pieces) → (past : Bool)
        → ltb limit (length piece) ≡ past
        → StandsIn fault
        (cond past (cut_short (line + 1) limit) (judged (line + 1) (line_of piece) (reading_of (line + 1) (limit - length piece) pieces)))
        → ShowsOf fault line limit (piece ∷ pieces)
    at later true is stands = past_shows fault line limit piece pieces (ltb-true limit (length piece) is) (cut_stands fault (line + 1) limit stands)
    at later false is stands =
        within_shows fault line limit piece pieces ends (ltb-false limit (length piece) is) later
        (judged_stands fault (line + 1) (line_of piece) (reading_of (line + 1) (limit - length piece) pieces) stands)

text_shows : (fault : TextFault) (text : TextState) → StandsIn fault (reading text) → ShowsIn fault text
text_shows fault text stands = lines_show fault (pieces_of text.bytes) text.line text.limit (have_ends text.bytes) stands

-- ---- findings that are no faults

no_line : (found : Found) (number : ℕ) (fault : TextFault) → found ≡ differs number → found ≡ bad_text fault → ⊥
no_line found number fault one other = absurd cc

no_row : (found : Found) (number : ℕ) (reason : List ℕ) (fault : TextFault) → found ≡ bad_row number reason → found ≡ bad_text fault → ⊥
no_row found number reason fault one other = absurd cc

same_fault : (found : Found) (one other : TextFault) → found ≡ bad_text one → found ≡ bad_text other → one ≡ other
same_fault found one other is same = cc

refused_at : {A : Type 0} (out : Outcome A) (line : ℕ) (code : TextCode) (fault : TextFault) → IsOfText fault → out ≡ refused line code
    → IsRefusedWith out fault → IsAt fault line
refused_at out line code fault told here is =
    subst (λ (f : TextFault). IsAt f line) (sym (one_refusal out fault (Bad line code) told tt is here)) refl

past_is : {A : Type 0} (out : Outcome A) (fault : TextFault) → IsOfText fault → out ≡ too_long → IsRefusedWith out fault → fault ≡ TooLong
past_is out fault told here is = one_refusal out fault TooLong told tt is here

-- ---- a fault of the text that is found

module _ (fault : TextFault) (told : IsOfText fault) where
  begins_stands : (lines : List Line) (read rest : Reading) → BeginsWith lines read rest → StandsIn fault rest → StandsIn fault read
  begins_stands [] read rest begins stands = subst (StandsIn fault) (sym begins) stands
  begins_stands (words ∷ lines) read rest begins stands =
      subst (StandsIn fault) (sym begins.2) (inr (begins_stands lines begins.1 rest begins.3 stands))

  outcome_stands : {A : Type 0} (after : A → Line → Step A) (read : Reading) (state : A) → IsRefusedWith (outcome after read state) fault
      → StandsIn fault read
  outcome_stands {A} after (line_with line words rest) state is = at (outcome_stands after rest) (after state words) is
    where
      at : ((state : A) → IsRefusedWith (outcome after rest state) fault → StandsIn fault rest) → (step : Step A)
          → IsRefusedWith (continued step line rest (outcome after rest)) fault → IsAt fault line ⊎ StandsIn fault rest
      at later (goes_on next) is = inr (later next is)
      at later (is_whole end) is = absurd (no_refusal (accepted end rest) end rest fault told refl is)
      at later (is_bad code) is = inl (refused_at (continued (is_bad code) line rest (outcome after rest)) line code fault told refl is)
  outcome_stands after (finished lines) state is = refused_at (outcome after (finished lines) state) (lines + 1) CutShort fault told refl is
  outcome_stands after (bad_line line code) state is = refused_at (outcome after (bad_line line code) state) line code fault told refl is
  outcome_stands after past_limit state is = past_is (outcome after past_limit state) fault told refl is

  lacks_stands : (due : List Line) (read : Reading) (found : Found) → Lacks due read found → found ≡ bad_text fault → StandsIn fault read
  lacks_stands [] read found lacks is = absurd lacks
  lacks_stands (due ∷ later) (line_with number words rest) found (inl other) is = absurd (no_line found number fault other.1 is)
  lacks_stands (due ∷ later) (line_with number words rest) found (inr same) is = inr (lacks_stands later rest found same.1 is)
  lacks_stands (due ∷ later) (finished lines) found lacks is = absurd (no_line found (lines + 1) fault lacks is)
  lacks_stands (due ∷ later) (bad_line number code) found lacks is = absurd (no_line found number fault lacks is)
  lacks_stands (due ∷ later) past_limit found lacks is = same_fault found fault TooLong is lacks

  pair_stands : (s : Snapshot) (read : Reading) → IsPairFault s read fault → StandsIn fault read
  pair_stands s read (inl answer) = outcome_stands after_answer_line read (no_answer s) answer
  pair_stands s read (inr tree) = begins_stands tree.2.0 read tree.1 tree.2.1 (outcome_stands after_tree_line tree.1 (no_tree s) tree.3)

  proof_stands : (s : Snapshot) (number : ℕ) (read : Reading) (found : Found) → ProofFinds s number read found → found ≡ bad_text fault → StandsIn fault read
  proof_stands s number read found (bad_section other bad found_is) is =
      pair_stands s read (subst (IsPairFault s read) (same_fault found other fault found_is is) bad)
  proof_stands s number read found (no_proof printed tree rest reason pair verdict found_is) is = absurd (no_row found number _ fault found_is is)

  accepted_stands : (number : ℕ) (events : List Event) (s : Snapshot) (read : Reading) (found : Found) → AcceptedFinds number events s read found
      → found ≡ bad_text fault → StandsIn fault read
  accepted_stands number events s read found (inl lacks) is = lacks_stands (accepted_lines number events) read found lacks is
  accepted_stands number events s read found (inr proof) is =
      begins_stands (accepted_lines number events) read proof.0 proof.1 (proof_stands s number proof.0 found proof.2 is)

  row_stands : (refusal : Option RowFault) (day : Day) (said : Option Row) (read : Reading) (found : Found) → RowFinds refusal day said read found
      → found ≡ bad_text fault → StandsIn fault read
  row_stands (Some refusal) day said read found finds is = lacks_stands (refused_words (row_number day) refusal ∷ []) read found finds is
  row_stands None day None read found finds is = absurd finds
  row_stands None day (Some row) read found finds is = accepted_stands (row_number day) _ _ read found finds is

  accepted_before : (number : ℕ) (events : List Event) (s : Snapshot) (printed : Stated) (read rest : Reading)
      → AcceptedInFront read number events s printed rest → StandsIn fault rest → StandsIn fault read
  accepted_before number events s printed read rest front stands =
      let proof = front.2 in
      let pair = proof.pair in
      begins_stands (accepted_lines number events) read front.0 front.1
      (begins_stands pair.1.0 front.0 pair.0 pair.1.1 (begins_stands pair.2.0 pair.0 rest pair.2.1 stands))

  row_before : (refusal : Option RowFault) (day : Day) (said : Option Row) (printed : Stated) (read rest : Reading)
      → RowInFront refusal day said printed read rest → StandsIn fault rest → StandsIn fault read
  row_before (Some refusal) day said printed read rest front stands = begins_stands (refused_words (row_number day) refusal ∷ []) read rest front stands
  row_before None day None printed read rest front stands = absurd front
  row_before None day (Some row) printed read rest front stands = accepted_before (row_number day) _ _ printed read rest front stands

  rows_before : (day : Day) (rows : List (Option Row)) (read : Reading) (end : Day) (rest : Reading) → RowsInFront day rows read end rest
      → StandsIn fault rest → StandsIn fault read
  rows_before day [] read end rest front stands = subst (StandsIn fault) (sym front.1) stands
  rows_before day (said ∷ rows) read end rest front stands =
      row_before (next_fault day said) day said front.0 read front.1 front.2 (rows_before (day_after day said front.0) rows front.1 end rest front.3 stands)

  rows_stand : (day : Day) (rows : List (Option Row)) (read : Reading) (found : Found) → RowsFind day rows read found → found ≡ bad_text fault
      → StandsIn fault read
  rows_stand day [] read found finds is = absurd finds
  rows_stand day (said ∷ rows) read found (inl here) is = row_stands (next_fault day said) day said read found here is
  rows_stand day (said ∷ rows) read found (inr later) is =
      row_before (next_fault day said) day said later.0 read later.1 later.2 (rows_stand (day_after day said later.0) rows later.1 found later.3 is)

  more_stands : (read : Reading) (found : Found) → FindsMore read found → found ≡ bad_text fault → StandsIn fault read
  more_stands (line_with number words rest) found finds is = absurd (no_line found number fault finds is)
  more_stands (finished lines) found finds is = absurd finds
  more_stands (bad_line number code) found finds is = absurd (no_line found number fault finds is)
  more_stands past_limit found finds is = same_fault found fault TooLong is finds

  end_stands : (due : List Line) (read : Reading) (found : Found) → EndFinds due read found → found ≡ bad_text fault → StandsIn fault read
  end_stands due read found (inl lacks) is = lacks_stands due read found lacks is
  end_stands due read found (inr more) is = begins_stands due read more.0 more.1 (more_stands more.0 found more.2 is)

  log_stands : (day : Day) (rows : List (Option Row)) (read : Reading) (found : Found) → LogFinds day rows read found → found ≡ bad_text fault
      → StandsIn fault read
  log_stands day rows read found (inl finds) is = rows_stand day rows read found finds is
  log_stands day rows read found (inr end) is = rows_before day rows read end.0 end.1 end.2 (end_stands (end_lines_of end.0) end.1 found end.3 is)

  -- ---- behind the opening

  behind_shows : (opening : Snapshot) (from : TextState) (found : Found) → FindsBehind opening from found → found ≡ bad_text fault → ShowsIn fault from
  behind_shows opening from found (rows_past past found_is) is =
      subst (λ (f : TextFault). ShowsIn f from) (same_fault found TooLong fault found_is is)
      (more_bytes from (rows_are_past from past))
  behind_shows opening from found (no_log line without found_is) is = absurd (no_line found line fault found_is is)
  behind_shows opening from found (in_log rows log front finds) is =
      passed_shows fault from front.here (reads_passed from front.here front.front.front front.front.reads)
      (passed_shows fault front.here log (reads_passed front.here log (front.first ∷ []) front.reads)
      (text_shows fault log (log_stands (opening_day opening) rows (reading log) found finds is)))

  -- ---- the opening

  header_before : (header : Header) (line limit : ℕ) (pieces : List (List ℕ)) (rows : TextState) → HeaderFirst header line limit pieces rows
      → ShowsIn fault rows → ShowsOf fault line limit pieces
  header_before header line limit [] rows first shows = absurd first
  header_before header line limit (piece ∷ pieces) rows (within, inl later) shows =
      shows_before fault line limit piece pieces within (header_before header (line + 1) (limit - length piece) pieces rows later.1 shows)
  header_before header line limit (piece ∷ pieces) rows (within, inr here) shows =
      let is = here.1 in
      shows_before fault line limit piece pieces within
      (subst (λ (p : List (List ℕ)). ShowsOf fault (line + 1) (limit - length piece) p) is.pieces_are
      (subst (λ (l : ℕ). ShowsOf fault (line + 1) l (pieces_of rows.bytes)) is.limit_is
      (subst (λ (n : ℕ). ShowsOf fault n rows.limit (pieces_of rows.bytes)) is.line_is shows)))

  header_shows : (header : Header) (line limit : ℕ) (pieces : List (List ℕ)) → HaveEnds pieces → NoHeaderFirst header line limit pieces fault
      → ShowsOf fault line limit pieces
  header_shows header line limit [] ends none =
      subst (λ (f : TextFault). ShowsOf f line limit []) (sym none) (none_shows line limit (line + 1) refl)
  header_shows header line limit (piece ∷ pieces) ends (inl past) =
      let long = past.0 in past_shows fault line limit piece pieces long (inr past.1)
  header_shows header line limit (piece ∷ pieces) ends (inr (within, inl later)) =
      shows_before fault line limit piece pieces within
      (header_shows header (line + 1) (limit - length piece) pieces (ends_behind piece pieces ends) later.1)
  header_shows header line limit (piece ∷ pieces) ends (inr (within, inr none)) =
      subst (λ (f : TextFault). ShowsOf f line limit (piece ∷ pieces)) (sym none.1)
      (first_shows line limit piece pieces (line + 1) refl (first_ends piece pieces limit ends within))

  opening_shows : (text : TextState) → IsDayOpeningFault text fault → ShowsIn fault text
  opening_shows text (inl building) = text_shows fault text (outcome_stands after_building_line (reading text) no_draft building)
  opening_shows text (inr (inl opening)) =
      let above = opening.above in
      passed_shows fault text above (between_passed text above opening.right.0 opening.right.1)
      (text_shows fault above (outcome_stands after_snapshot_line (reading above) (blank opening.building true) opening.fault_is))
  opening_shows text (inr (inr header)) =
      let above = header.above in
      let between = header.between in
      passed_shows fault text above (between_passed text above header.building.0 header.building.1)
      (passed_shows fault above between (between_passed above between header.right.0 header.right.1)
      (header_shows Rows between.line between.limit (pieces_of between.bytes) (have_ends between.bytes) header.fault_is))

  opening_before : (text : TextState) (s : Snapshot) (rows : TextState) → DayOpeningInFront text s rows → ShowsIn fault rows → ShowsIn fault text
  opening_before text s rows opens shows =
      let above = opens.above in
      let between = opens.between in
      passed_shows fault text above (between_passed text above opens.building.0 opens.building.1)
      (passed_shows fault above between (between_passed above between opens.snapshot.0 opens.snapshot.1)
      (header_before Rows between.line between.limit (pieces_of between.bytes) rows opens.header shows))

  found_shows : (text : TextState) → FindsIn text (bad_text fault) → ShowsIn fault text
  found_shows text (bad_opening other bad found_is) =
      opening_shows text (subst (IsDayOpeningFault text) (same_fault (bad_text fault) other fault found_is refl) bad)
  found_shows text (behind opening from opens finds) =
      opening_before text opening from opens (behind_shows opening from (bad_text fault) finds refl)

-- ---- what is told

-- a text that is found to be too long has more bytes than may be read
pub text_is_long : (text : TextState) → FindsIn text (bad_text TooLong) → text.limit < length text.bytes
text_is_long text finds = let more : text.limit < size_of (pieces_of text.bytes) = found_shows TooLong tt text finds in
    omega (arith, more, size_of-pieces text.bytes)

-- a line that is found to be bad shows its end, or all bytes of the text may be read
pub bad_line_shows : (text : TextState) (number : ℕ) (code : TextCode) → FindsIn text (bad_text (Bad number code))
    → ShowsAmong text.line text.limit (pieces_of text.bytes) number
bad_line_shows text number code finds = found_shows (Bad number code) tt text finds
