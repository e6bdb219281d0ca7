-- What was read of a day is what the definitions say, layer by layer.
use Rattle.std.proofs.Common.{◌≡◌, ℕ, suc, ◌+◌, ◌-◌, ◌≤◌, inl, inr, List, [], ◌∷◌, length, map, drop, Option, None, Some, Result, Ok, Err, refl}
use Rattle.std.proofs.Common.{sym, ap, ◌∙◌, subst, arith}
use Rattle.elevator_model.specs.Snapshot.{Snapshot}
use Rattle.search_model.specs.Days.{Row}
use Rattle.lift_text.specs.Lines.{pieces_of}
use Rattle.lift_text.specs.Reading.{Passed, TextState}
use Rattle.lift_text.specs.Shows.{WentOn}
use Rattle.lift_text.specs.declared.faults.TextFault.{TextFault}
use Rattle.lift_text.specs.declared.faults.TextFault.TheVariants.{Bad, NoMemory, Read, TooLong}
use Rattle.lift_text.proofs.CrossLemmas.{passed_more}
use Rattle.lift_text.proofs.SkipLemmas.{size_of, size_of-pieces}
use Rattle.text_sections.specs.Sections.{Line, ReadAs}
use Rattle.text_sections.specs.Between.{AreBetween}
use Rattle.text_sections.proofs.BetweenLemmas.{behind_went}
use Rattle.case_text.specs.CaseTexts.{IsEnd, IsNoEnd, Tells}
use Rattle.day_text.specs.declared.headers.Header.TheVariants.{Rows}
use Rattle.day_text.specs.declared.rows.GoodRow.{GoodRow}
use Rattle.day_text.specs.DayOpenings.{DayOpeningInFront, IsDayOpeningFault, IsDayOpeningRead, IsDayOpeningRefused, TakesDayOpenings}
use Rattle.day_text.specs.Headers.{HeaderFirst, HeaderInFront}
use Rattle.lift_picture.specs.declared.scenes.Scene.{Scene}
use Rattle.log_rows.specs.Rows.{AreRowsGiven, TellsNoLog, TellsRows, said_of}
use Rattle.log_rows.proofs.OneLog.{log_begins_once, log_or_none, log_or_past}
use Rattle.picture_reader.specs.LogDrafts.{Draft, after, blank}
use Rattle.picture_reader.specs.DayScenes.{AreRowsInFront, day_shown, day_telling, log_telling, rows_telling}
use Rattle.picture_reader.specs.Tellings.{IsAnsweredBy, IsSceneOf, SaysBehind, Shown}
use Rattle.picture_reader.proofs.TellingLemmas.{IsFrontRead, answered_behind, refused_in_front, section_bad, section_late, section_read}

-- ---- a log, to the end of the text

module _ (opening : Snapshot) (rows : List (Option GoodRow)) (before now : Option TextState) (start end : Draft) (blank_is : start ≡ blank opening rows) where
  pub log_read : (scene : Scene) → ReadAs after before start (Ok tt) end now → IsEnd now → IsSceneOf (day_shown end) scene
      → IsAnsweredBy (log_telling opening rows) before (Ok scene)
  log_read scene read ends is =
      section_read after (blank opening rows) day_shown before now end scene
      (subst (λ (d : Draft). ReadAs after before d (Ok tt) end now) blank_is read) ends is

  pub log_bad : (fault : TextFault) → ReadAs after before start (Err fault) end now → IsAnsweredBy (log_telling opening rows) before (Err fault)
  log_bad fault read =
      section_bad after (blank opening rows) day_shown before now end fault (subst (λ (d : Draft). ReadAs after before d (Err fault) end now) blank_is read)

  pub log_late : (fault : TextFault) → ReadAs after before start (Ok tt) end now → IsNoEnd now fault
      → IsAnsweredBy (log_telling opening rows) before (Err fault)
  log_late fault read late =
      section_late after (blank opening rows) day_shown before now end fault
      (subst (λ (d : Draft). ReadAs after before d (Ok tt) end now) blank_is read) late

-- ---- rows in front of a log

-- rows that say the same are the same
abbrev row_again : Option Row → Option GoodRow
row_again None = None
row_again (Some row) = Some (record { time = row.time; origin = row.origin; destination = row.destination; persons = row.persons })

rows_again : (rows : List (Option GoodRow)) → map row_again (map said_of rows) ≡ rows
rows_again [] = refl
rows_again (None ∷ rows) = ap {B = List (Option GoodRow)} (λ later. None ∷ later) (rows_again rows)
rows_again (Some row ∷ rows) = ap {B = List (Option GoodRow)} (λ later. Some row ∷ later) (rows_again rows)

same_rows : (rows others : List (Option GoodRow)) → map said_of rows ≡ map said_of others → rows ≡ others
same_rows rows others same = sym (rows_again rows) ∙ ap (map row_again) same ∙ rows_again others

-- of a failed read and of want of memory nothing is told
told_of : (from : TextState) (fault : TextFault) → TellsRows from fault → Tells fault (TellsRows from fault)
told_of from (Bad line code) told = told
told_of from TooLong told = told
told_of from Read told = tt
told_of from NoMemory told = tt

module _ (opening : Snapshot) where
  -- the rows in front are those that were read
  one_log : (from log : TextState) (rows : List (Option GoodRow)) → AreRowsInFront opening from rows log → (shown : Shown)
      → SaysBehind (AreRowsInFront opening) TellsRows (log_telling opening) from shown → (log_telling opening rows).says log shown
  one_log from log rows given shown says =
      let same = log_begins_once opening.building from (map said_of says.said) (map said_of rows) says.place log says.front given in
      subst (λ (r : List (Option GoodRow)). (log_telling opening r).says log shown) (same_rows says.said rows same.0)
      (subst (λ (t : TextState). (log_telling opening says.said).says t shown) same.1 says.told)

  rows_front : (before mid : Option TextState) (rows : List (Option GoodRow)) → AreRowsGiven opening.building rows before mid
      → IsFrontRead (AreRowsInFront opening) TellsRows (log_telling opening) before rows mid
  rows_front None mid rows given = tt
  rows_front (Some from) None rows given = absurd given
  rows_front (Some from) (Some log) rows given = record { front = given; one = one_log from log rows given }

  pub rows_answered : (rows : List (Option GoodRow)) (before mid : Option TextState) (answer : Result Scene TextFault)
      → AreRowsGiven opening.building rows before mid → IsAnsweredBy (log_telling opening rows) mid answer → IsAnsweredBy (rows_telling opening) before answer
  rows_answered rows before mid answer given told =
      answered_behind (AreRowsInFront opening) TellsRows (log_telling opening) before mid rows answer (rows_front before mid rows given) told

  -- no log is behind rows of which that is told
  none_in_front : (from : TextState) (fault : TextFault) → TellsRows from fault → (shown : Shown)
      → SaysBehind (AreRowsInFront opening) TellsRows (log_telling opening) from shown → Tells fault ⊥
  none_in_front from (Bad line code) told shown says = log_or_none opening.building from (map said_of says.said) says.place line says.front told.0
  none_in_front from TooLong told shown says = log_or_past opening.building from (map said_of says.said) says.place says.front told
  none_in_front from Read told shown says = tt
  none_in_front from NoMemory told shown says = tt

  pub rows_refused : (before : Option TextState) (fault : TextFault) → TellsNoLog before fault → IsAnsweredBy (rows_telling opening) before (Err fault)
  rows_refused None fault told = refused_in_front (AreRowsInFront opening) TellsRows (log_telling opening) None fault tt tt
  rows_refused (Some from) fault told =
      refused_in_front (AreRowsInFront opening) TellsRows (log_telling opening) (Some from) fault (told_of from fault told) (none_in_front from fault told)

-- ---- an opening in front of rows

only : {X : Type 0} {a b : X} → Some a ≡ Some b → a ≡ b
only e = cc

-- the opening in front is the one that was read
one_opening : (text place : TextState) (opening : Snapshot) → TakesDayOpenings (Some text) (Ok opening) (Some place) → (shown : Shown)
    → SaysBehind DayOpeningInFront IsDayOpeningFault rows_telling text shown → (rows_telling opening).says place shown
one_opening text place opening takes shown says =
    let same = takes says.said says.place says.front in
    subst (λ (s : Snapshot). (rows_telling s).says place shown) (sym same.0)
    (subst (λ (t : TextState). (rows_telling says.said).says t shown) (sym (only same.1)) says.told)

opening_front : (before mid : Option TextState) (opening : Snapshot) → IsDayOpeningRead before opening mid → TakesDayOpenings before (Ok opening) mid
    → IsFrontRead DayOpeningInFront IsDayOpeningFault rows_telling before opening mid
opening_front None mid opening read takes = tt
opening_front (Some text) None opening read takes = absurd read
opening_front (Some text) (Some place) opening read takes = record { front = read; one = one_opening text place opening takes }

pub day_answered : (opening : Snapshot) (before mid : Option TextState) (answer : Result Scene TextFault) → IsDayOpeningRead before opening mid
    → TakesDayOpenings before (Ok opening) mid → IsAnsweredBy (rows_telling opening) mid answer → IsAnsweredBy day_telling before answer
day_answered opening before mid answer read takes told =
    answered_behind DayOpeningInFront IsDayOpeningFault rows_telling before mid opening answer (opening_front before mid opening read takes) told

pub opening_refused : (before now : Option TextState) (fault : TextFault) → IsDayOpeningRefused before fault → TakesDayOpenings before (Err fault) now
    → IsAnsweredBy day_telling before (Err fault)
opening_refused None now fault bad takes = refused_in_front DayOpeningInFront IsDayOpeningFault rows_telling None fault tt tt
opening_refused (Some text) now fault bad takes =
    refused_in_front DayOpeningInFront IsDayOpeningFault rows_telling (Some text) fault bad (λ shown says. takes says.said says.place says.front)

-- ---- a text goes on behind its opening

-- where the text behind these lines with their ends goes on
record GoesOn (line limit : ℕ) (pieces : List (List ℕ)) (behind : TextState) : Type 0 where
  lines : line ≤ behind.line
  pieces_are : pieces_of behind.bytes ≡ drop (behind.line - line) pieces
  limit_is : behind.limit + size_of pieces ≡ limit + size_of (pieces_of behind.bytes)

goes_on_behind : (line limit : ℕ) (piece : List ℕ) (pieces : List (List ℕ)) (behind : TextState) → length piece ≤ limit
    → GoesOn (line + 1) (limit - length piece) pieces behind → GoesOn line limit (piece ∷ pieces) behind
goes_on_behind line limit piece pieces behind within on =
    let count : suc (behind.line - (line + 1)) ≡ behind.line - line = omega (arith, on.lines) in record {
      lines = omega (arith, on.lines);
      pieces_are = on.pieces_are ∙ ap (λ (n : ℕ). drop n (piece ∷ pieces)) count;
      limit_is = omega (arith, on.limit_is, within);
    }

goes_on_here : (line limit : ℕ) (behind : TextState) → behind.line ≡ line → behind.limit ≡ limit → GoesOn line limit (pieces_of behind.bytes) behind
goes_on_here line limit behind line_is limit_is =
    let none : 0 ≡ behind.line - line = omega (arith, line_is) in record {
      lines = omega (arith, line_is);
      pieces_are = ap (λ (n : ℕ). drop n (pieces_of behind.bytes)) none;
      limit_is = omega (arith, limit_is);
    }

header_goes_on : (line limit : ℕ) (pieces : List (List ℕ)) (behind : TextState) → HeaderFirst Rows line limit pieces behind → GoesOn line limit pieces behind
header_goes_on line limit [] behind first = absurd first
header_goes_on line limit (piece ∷ pieces) behind (within, inl later) =
    goes_on_behind line limit piece pieces behind within (header_goes_on (line + 1) (limit - length piece) pieces behind later.1)
header_goes_on line limit (piece ∷ pieces) behind (within, inr here) =
    let is = here.1 in
    goes_on_behind line limit piece pieces behind within
    (subst (λ (ps : List (List ℕ)). GoesOn (line + 1) (limit - length piece) ps behind) is.pieces_are
    (goes_on_here (line + 1) (limit - length piece) behind is.line_is is.limit_is))

header_passed : (text behind : TextState) → HeaderInFront Rows text behind → Passed text behind
header_passed text behind front =
    let on = header_goes_on text.line text.limit (pieces_of text.bytes) behind front in
    record { lines = on.lines; pieces = on.pieces_are; limit = omega (arith, on.limit_is, size_of-pieces text.bytes, size_of-pieces behind.bytes) }

between_passed : (from to : TextState) (lines : List Line) → AreBetween from lines to → Passed from to
between_passed from to lines steps = behind_went (Some from) (Some to) (lines, steps)

pub opening_went : (before mid : Option TextState) (opening : Snapshot) → IsDayOpeningRead before opening mid → WentOn before mid
opening_went None mid opening read = tt
opening_went (Some text) None opening read = absurd read
opening_went (Some text) (Some rows) opening read =
    let above = read.above in
    let between = read.between in
    passed_more text above rows (between_passed text above read.building.0 read.building.1)
    (passed_more above between rows (between_passed above between read.snapshot.0 read.snapshot.1) (header_passed between rows read.header))
