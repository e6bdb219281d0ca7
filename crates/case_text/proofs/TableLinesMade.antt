-- The lines of a table are read as that table.
use Rattle.std.proofs.Common.{◌≡◌, ℕ, ◌+◌, ◌*◌, ◌<◌, ◌≤◌, List, [], ◌∷◌, ◌++◌, length, Option, None, Some, Ok, ap, arith, ◌∙◌, sym, subst, append_assoc}
use Rattle.std.proofs.Common.{append-nil, length-append}
use Rattle.elevator_model.specs.Travel.{Square}
use Rattle.motion_table.specs.Tables.{columns}
use Rattle.text_sections.specs.Sections.{Line, goes_on}
use Rattle.text_sections.specs.Canonical.{Goes, Makes}
use Rattle.building_text.specs.BuildingText.{AreRowLines}
use Rattle.building_text.proofs.LineLemmas.{exactly_ok, row_length, at_floor}
use Rattle.case_text.specs.declared.table_order.Due.TheVariants.{Times, End}
use Rattle.case_text.specs.TableDrafts.{Draft, no_draft, draft_of, after}
use Rattle.case_text.specs.TableTexts.{AreTableLines}
use Rattle.case_text.proofs.TableLineLemmas.{begun, head_taken, end_taken, decided_by, known_by, row_given, end_due, row_due, no_times, grown, all_grown}
use Rattle.case_text.proofs.TableLineLemmas.{some_left}

rows_few : (n floor : ℕ) (lines : List Line) (times : List ℕ) → AreRowLines n floor lines times → floor ≤ n
rows_few n floor [] times are = let e = are.0 in omega arith
rows_few n floor (words ∷ lines) times are = let later = rows_few n (floor + 1) lines are.1 are.4 in omega arith

-- the section goes on over the times from a floor on, where the first line decides how many floors there are, or they are known
rows_go : (floors : Option ℕ) (n floor : ℕ) (times : List ℕ) (words : Line) (lines : List Line) (later : List ℕ) → columns floors words ≡ Ok n → 0 < n
    → length times ≡ floor * n → AreRowLines n floor (words ∷ lines) later
    → Goes after (words ∷ lines) (record { due = Times floors; times = times }) (record { due = End n; times = times ++ later })
rows_go floors n floor times words [] later decided some size are =
    let row = are.0 in
    let line = are.3 in
    let row_size = row_length floor n words row (exactly_ok words (n + 1) tt line.count) line.times in
    let long = grown floor n (length times) (length row) (length (times ++ row)) size row_size (length-append times row) in
    let end : Draft = record { due = End n; times = times ++ row } in
    let step : after (record { due = Times floors; times = times }) words ≡ goes_on end =
    row_given floors n floor times words row decided (at_floor floor n times size some) line
    ∙ ap (λ (d : Draft). goes_on d) (end_due n (times ++ row) (all_grown floor n (length (times ++ row)) are.4.0 long)) in
    let all : row ≡ later = sym (are.2 ∙ ap (λ (l : List ℕ). row ++ l) are.4.1 ∙ append-nil row) in
    (end, step, ap (λ (l : List ℕ). record { due = End n; times = times ++ l }) all)
rows_go floors n floor times words (next ∷ lines) later decided some size are =
    let row = are.0 in
    let line = are.3 in
    let row_size = row_length floor n words row (exactly_ok words (n + 1) tt line.count) line.times in
    let long = grown floor n (length times) (length row) (length (times ++ row)) size row_size (length-append times row) in
    let few = rows_few n (floor + 1 + 1) lines are.4.1 are.4.4 in
    let more : Draft = record { due = Times (Some n); times = times ++ row } in
    let step : after (record { due = Times floors; times = times }) words ≡ goes_on more =
    row_given floors n floor times words row decided (at_floor floor n times size some) line
    ∙ ap (λ (d : Draft). goes_on d) (row_due n (times ++ row) (some_left floor n (length (times ++ row)) few long)) in
    let rest = rows_go (Some n) n (floor + 1) (times ++ row) next lines are.1 (known_by n next are.4.3.count) some long are.4 in
    let joined : (times ++ row) ++ are.1 ≡ times ++ later = append_assoc times row are.1 ∙ ap (λ (l : List ℕ). times ++ l) (sym are.2) in
    (more, step, subst (λ (ts : List ℕ). Goes after (next ∷ lines) more (record { due = End n; times = ts })) joined rest)

all_rows_go : (n : ℕ) (rows : List Line) (times : List ℕ) → 2 ≤ n → n ≤ 64 → AreRowLines n 0 rows times
    → Goes after rows begun (record { due = End n; times = times })
all_rows_go n [] times low high are = let e = are.0 in absurd (omega arith)
all_rows_go n (words ∷ lines) times low high are =
    let none = no_times n in
    rows_go None n 0 [] words lines times (decided_by n words are.3.count low high) (omega arith) none are

-- the lines of a table make a section
pub made_of : (lines : List Line) (t : Square) → AreTableLines lines t → Makes after lines no_draft (draft_of t)
made_of lines t are = record {
  front = are.head ∷ are.rows;
  last = are.end;
  before = draft_of t;
  lines_are = are.lines_are;
  goes = (begun, head_taken are.head are.head_is_said, all_rows_go t.floors are.rows t.times are.floors_low are.floors_high are.rows_are_said);
  whole = end_taken t.floors t.times are.end are.end_is_said;
}
