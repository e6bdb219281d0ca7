-- After each row of a day that was done no accepted call is lost.
use Rattle.std.proofs.Common.{◌≡◌, ℕ, ◌+◌, ◌-◌, ◌<◌, ◌≤◌, ◌^◌, Bool, true, false, cond, ltb, List, [], ◌∷◌, length, take, drop, take-append-drop, length-append}
use Rattle.std.proofs.Common.{refl, sym, ap, ◌∙◌, subst, arith, Option, Some, None, Result, Ok}
use Rattle.std.specs.Prelude.{IfSome, IsSomeAnd, option_map}
use Rattle.std.specs.List.{concat}
use Rattle.std.proofs.lemmas.List.Folds.{concat-append}
use Rattle.elevator_model.specs.Snapshot.{Snapshot, IsAccepted}
use Rattle.elevator_model.specs.Plans.{IsFeasiblePlan}
use Rattle.elevator_model.specs.declared.Stop.{Stop}
use Rattle.search_model.specs.declared.RowFault.{RowFault}
use Rattle.search_model.specs.declared.Stated.{Stated}
use Rattle.search_model.specs.Days.{Day, Row, IsRightLog, day_after_accepted, fault_of_row, opening_day, step_by}
use Rattle.lift_text.specs.Lines.{line_of, pieces_of}
use Rattle.lift_text.specs.Reading.{Passed, TextState, line_limit, whole_text}
use Rattle.text_sections.specs.Sections.{Line}
use Rattle.text_sections.specs.Between.{AreBetween}
use Rattle.day_text.specs.DayOpenings.{DayOpeningInFront}
use Rattle.day_text.proofs.OpeningLemmas.{limit_of_rows}
use Rattle.day_text.proofs.PieceLemmas.{joined_again}
use Rattle.day_state.specs.Openings.{IsOpeningSnapshot}
use Rattle.day_state.proofs.OpeningLaws.{opening-feasible}
use Rattle.day_simulator.specs.Rows.{IsRowDone, held_plan, next_step}
use Rattle.day_laws.specs.Standing.{IsStanding, row_number}
use Rattle.day_laws.proofs.NoneLost.{accepted-stands, opening-stands, refused-stands}
use Rattle.day_simulator.proofs.RowLemmas.{done-numbered}
use Rattle.day_laws.specs.RowLines.{rows_of, rows_of_line, rows_of_short}
use Rattle.day_simulator.specs.RowRuns.{AreRowsDone, ReadLines, Right, bytes_of}
use Rattle.day_simulator.specs.TextRuns.{DayRan}
use Rattle.day_simulator.specs.DayRuns.{ReadsDay}
use Rattle.day_simulator.specs.declared.day_runs.Ended.{Ended}
use Rattle.day_simulator.specs.declared.row_runs.RunFault.{RunFault}
use Rattle.lift_words.specs.declared.request.DayOptions.{DayOptions}
use Rattle.day_commands.specs.DayRows.{AreRowsKept}
use Rattle.day_commands.specs.DayOutcome.{RanWithin, SolvedBy, most_ahead}

-- ---- how many rows there are

rows-of-short : (line : List ℕ) → length (rows_of_short line) ≤ 1
rows-of-short [] = omega arith
rows-of-short (b ∷ line) = omega arith

rows-of-line : (line : List ℕ) → length (rows_of_line line) ≤ 1
rows-of-line line = at (ltb line_limit (length line))
  where
    at : (b : Bool) → length (cond {A = List (Option Row)} b (None ∷ []) (rows_of_short line)) ≤ 1
    at true = omega arith
    at false = rows-of-short line

-- a line without a byte is no row
rows-of-piece : (piece : List ℕ) → length (rows_of_line (line_of piece)) ≤ length piece
rows-of-piece [] =
    let none : rows_of_line (line_of []) ≡ [] = refl in
    let size = ap length none in
    omega (arith, size)
rows-of-piece (b ∷ piece) =
    let one = rows-of-line (line_of (b ∷ piece)) in
    omega (arith, one)

rows-of-bytes : (pieces : List (List ℕ)) → length (rows_of pieces) ≤ bytes_of pieces
rows-of-bytes [] = omega arith
rows-of-bytes (piece ∷ pieces) =
    let rows = length-append (rows_of_line (line_of piece)) (rows_of pieces) in
    let bytes = length-append piece (concat pieces) in
    let here = rows-of-piece piece in
    let rest = rows-of-bytes pieces in
    omega (arith, rows, bytes, here, rest)

-- ---- how many bytes may be read

bytes-dropped : (n : ℕ) (pieces : List (List ℕ)) → bytes_of (drop n pieces) ≤ bytes_of pieces
bytes-dropped n pieces =
    let all = ap length (ap concat (sym (take-append-drop n pieces)) ∙ concat-append (take n pieces) (drop n pieces)) in
    let parts = length-append (concat (take n pieces)) (concat (drop n pieces)) in
    omega (arith, all, parts)

limit-passed : (before after : TextState) → Passed before after → after.limit ≤ before.limit
limit-passed before after passed =
    let later = ap length (sym (joined_again after.bytes) ∙ ap concat passed.pieces) in
    let all = ap length (joined_again before.bytes) in
    let fewer = bytes-dropped (after.line - before.line) (pieces_of before.bytes) in
    let limit = passed.limit in
    omega (arith, later, all, fewer, limit)

limit-between : (before : TextState) (lines : List Line) (behind : TextState) → AreBetween before lines behind → behind.limit ≤ before.limit
limit-between before [] behind same = let limit = ap (λ (t : TextState). t.limit) same in omega (arith, limit)
limit-between before (words ∷ lines) behind between =
    let here = limit-passed before between.0 between.1.passed in
    let rest = limit-between between.0 lines behind between.2 in
    omega (arith, here, rest)

limit-in-front : (text : TextState) (opening : Snapshot) (rows : TextState) → DayOpeningInFront text opening rows → rows.limit ≤ text.limit
limit-in-front text opening rows front =
    let building = limit-between text front.building.0 front.above front.building.1 in
    let snapshot = limit-between front.above front.snapshot.0 front.between front.snapshot.1 in
    let header = limit_of_rows text opening rows front in
    omega (arith, building, snapshot, header)

-- ---- what holds of the days

module _ (right : Right)
    (law : (s : Snapshot) (held : List (List Stop)) (stated : Stated) (proof : List ℕ) → right s held stated proof
    → IsAccepted s × IsFeasiblePlan s stated.plan) where
  step-stands : (old : Day) (said : Option Row) (printed : Stated) (proof : List ℕ) (fault : Option RowFault) → IsStanding old → row_number old < 2 ^ 32
      → IsRightLog (λ s stated. right s (held_plan old said) stated proof) (step_by old (row_number old) said printed fault).day.world
      (step_by old (row_number old) said printed fault).log → IsStanding (step_by old (row_number old) said printed fault).day
  step-stands old said printed proof (Some fault) is room is_right = refused-stands old is room
  step-stands old None printed proof None is room is_right = refused-stands old is room
  step-stands old (Some row) printed proof None is room is_right =
      let good = law (day_after_accepted old (row_number old) row printed).world.snapshot (held_plan old (Some row)) printed proof is_right in
      accepted-stands old row printed is room good.0 good.1

  row-stands : (old : Day) (said : Option Row) (new : Day) (text : List ℕ) → IsStanding old → row_number old < 2 ^ 32
      → IsRowDone right old said new [] text → IsStanding new
  row-stands old said new text is room done =
      let printed = done.0 in
      let proof = done.1 in
      let does = done.2 in
      let is_right = subst (λ (d : Day). IsRightLog (λ s stated. right s (held_plan old said) stated proof) d.world (next_step old said printed).log)
      does.day does.right_plan in
      subst IsStanding (sym does.day) (step-stands old said printed proof (fault_of_row old.world (row_number old) said) is room is_right)

  kept-rows : (old : Day) (rows : List (Option Row)) (new : Day) (text : List ℕ) → IsStanding old → row_number old + length rows ≤ 2 ^ 32
      → AreRowsDone right old rows new text → AreRowsKept right old rows new text
  kept-rows old [] new text is room done = done
  kept-rows old (said ∷ rows) new text is room done =
      let here = row-stands old said done.0 done.1 is (omega (arith, room)) done.3 in
      let number = done-numbered right old said done.0 [] done.1 (Ok tt) done.3 in
      (done.0, done.1, done.2, done.3, here.none_lost, kept-rows done.0 rows new done.2 here (omega (arith, room, number)) done.4, done.5)

-- ---- the day

opening-kept : (text : TextState) (opening : Snapshot) (rows : TextState) → DayOpeningInFront text opening rows → IsStanding (opening_day opening)
opening-kept text opening rows front =
    let stands = front.snapshot.2 in
    let none = stands.opening refl in
    let is_opening : IsOpeningSnapshot opening = record { calls = ap length none.1; aboard = ap length none.0 } in
    opening-stands opening stands.accepted is_opening (opening-feasible opening stands.accepted is_opening)

kept-from : (options : DayOptions) (input : List ℕ) (opening : Snapshot) (rows : Option TextState) (passed behind : List (List ℕ)) (Reads : TextState → Type 0)
    (day : Day) (text : List ℕ)
    → IsSomeAnd rows (DayOpeningInFront (whole_text input) opening) → IfSome rows (λ from. ReadLines from passed behind × Reads from)
    → AreRowsDone (SolvedBy options) (opening_day opening) (rows_of passed) day text
    → AreRowsKept (SolvedBy options) (opening_day opening) (rows_of passed) day text
kept-from options input opening None passed behind Reads day text begins read done = absurd begins
kept-from options input opening (Some from) passed behind Reads day text begins read done =
    let limit = limit-in-front (whole_text input) opening from begins in
    let short = read.0.short in
    let count = rows-of-bytes passed in
    kept-rows (SolvedBy options) (λ s held stated proof row. (row.accepted, row.right_plan.feasible)) (opening_day opening) (rows_of passed) day text
    (opening-kept (whole_text input) opening from begins) (omega (arith, limit, short, count)) done

pub kept-day : (options : DayOptions) (left : Option (List ℕ)) (ahead : List ℕ) (left' taken taken' : Option (List ℕ)) (result : Result Ended RunFault)
    (ran : DayRan (SolvedBy options) (option_map whole_text left) ahead left' taken taken' result)
    → IfSome left (λ input. AreRowsKept (SolvedBy options) (opening_day ran.opening) (rows_of ran.ran.passed) ran.ran.day ran.ran.text)
kept-day options None ahead left' taken taken' result ran = tt
kept-day options (Some input) ahead left' taken taken' result ran =
    kept-from options input ran.opening ran.rows ran.ran.passed ran.ran.behind
    (λ from. ReadsDay result from ran.ran.passed ran.ran.behind left') ran.ran.day ran.ran.text ran.read ran.ran.read ran.ran.done

abbrev pub ran-within : (options : DayOptions) (left left' taken taken' : Option (List ℕ)) (result : Result Ended RunFault)
    → (ahead : List ℕ) × (length ahead ≤ most_ahead) × DayRan (SolvedBy options) (option_map whole_text left) ahead left' taken taken' result
    → RanWithin options left left' taken taken' result
ran-within options left left' taken taken' result told =
    record { ahead = told.0; few = told.1; ran = told.2; kept = kept-day options left told.0 left' taken taken' result told.2 }
