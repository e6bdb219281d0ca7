-- From what was read of the lines of a table to the lines themselves.
use Rattle.std.proofs.Common.{◌≡◌, ℕ, zero, suc, ◌+◌, ◌-◌, ◌*◌, ◌/◌, ◌<◌, ◌≤◌, List, [], ◌∷◌, ◌++◌, length, Option, None, Some, Ok, ap, refl, arith, ◌∙◌, sym}
use Rattle.std.proofs.Common.{subst, append_assoc, append-nil, length-append}
use Rattle.elevator_model.specs.Travel.{Square}
use Rattle.call_state.specs.Squares.{square_of}
use Rattle.motion_table.specs.Tables.{row_of, row_judged}
use Rattle.text_sections.specs.Judging.{◌>>=◌}
use Rattle.text_sections.specs.Words.{exactly, number, says_end}
use Rattle.text_sections.specs.Sections.{Line, goes_on, is_whole}
use Rattle.text_sections.specs.Canonical.{Goes, Makes}
use Rattle.text_sections.proofs.StepLemmas.{then-inv}
use Rattle.building_text.specs.BuildingText.{IsRowLine, AreRowLines}
use Rattle.building_text.proofs.LineLemmas.{exactly_ok, row_length, at_floor}
use Rattle.case_text.specs.declared.table_order.Due.{Due}
use Rattle.case_text.specs.declared.table_order.Due.TheVariants.{Head, Times, End}
use Rattle.case_text.specs.TableDrafts.{Draft, no_draft, draft_of, with_rows, after}
use Rattle.case_text.specs.TableTexts.{says_head, AreTableLines}
use Rattle.case_text.proofs.TableLineLemmas.{due_line, begun, head_said, end_said, floors_known, floors_decided, RowTaken, row_taken, end_due, row_due}
use Rattle.case_text.proofs.TableLineLemmas.{no_times, grown, all_grown, some_left}

-- ---- the last line

-- the table is whole with a line: it was the end that was due
pub record IsEnded (due : Due) (d end : Draft) (words : Line) : Type 0 where
  pub floors : ℕ
  pub due_is : due ≡ End floors
  pub said : says_end words ≡ Ok tt
  pub same : d ≡ end

ended_by : (due : Due) (times : List ℕ) (words : Line) (end : Draft) → after (record { due = due; times = times }) words ≡ is_whole end
    → IsEnded due (record { due = due; times = times }) end words
ended_by Head times words end e =
    let line = due_line (record { due = Head; times = times }) words (is_whole end) tt e in
    let next : Draft = record { due = Times None; times = times } in
    let count = then-inv (exactly words 2) (λ _. number words 1 1 1 >>= λ _. Ok (goes_on next)) (is_whole end) line.1 in
    let version = then-inv (number words 1 1 1) (λ _. Ok (goes_on next)) (is_whole end) count.2 in
    let clash : Ok (goes_on next) ≡ Ok (is_whole end) = version.2 in
    absurd cc
ended_by (Times floors) times words end e =
    let line = due_line (record { due = Times floors; times = times }) words (is_whole end) tt e in
    let whole = then-inv (row_judged floors times words) (λ read. Ok (goes_on (with_rows read.0 (times ++ read.1)))) (is_whole end) line.1 in
    let clash : Ok (goes_on (with_rows whole.0.0 (times ++ whole.0.1))) ≡ Ok (is_whole end) = whole.2 in
    absurd cc
ended_by (End n) times words end e =
    let said = end_said n times words (is_whole end) tt e in
    let whole : is_whole (record { due = End n; times = times }) ≡ is_whole end = said.0 in
    let same : record { due = End n; times = times } ≡ end = cc in
    record { floors = n; due_is = refl; said = said.1; same = same }

pub ended : (d : Draft) (words : Line) (end : Draft) → after d words ≡ is_whole end → IsEnded d.due d end words
ended d words end e = ended_by d.due d.times words end e

-- where the end is due, no line goes on
end_stops : (n : ℕ) (times : List ℕ) (lines : List Line) (end : Draft) → Goes after lines (record { due = End n; times = times }) end → (lines ≡ [])
    × (record { due = End n; times = times } ≡ end)
end_stops n times [] end goes = (refl, goes)
end_stops n times (words ∷ lines) end goes =
    let said = end_said n times words (goes_on goes.0) tt goes.1 in
    let clash : is_whole (record { due = End n; times = times }) ≡ goes_on goes.0 = said.0 in
    absurd cc

-- ---- the lines of times

-- a line says the times from a floor, and what was read goes on so
pub record RowSaid (n floor : ℕ) (times : List ℕ) (words : Line) (next : Draft) : Type 0 where
  pub row : List ℕ
  pub line : IsRowLine n floor words row
  pub size : length row ≡ n
  pub is : with_rows n (times ++ row) ≡ next

row_said : (floors : Option ℕ) (n floor : ℕ) (times : List ℕ) (words : Line) (next : Draft) → length times ≡ floor * n → 0 < n → exactly words (n + 1) ≡ Ok tt
    → (taken_row : RowTaken floors times words next) → n ≡ taken_row.count → RowSaid n floor times words next
row_said floors n floor times words next size some count t same =
    let at : length times / t.count ≡ floor = ap (λ (k : ℕ). length times / k) (sym same) ∙ at_floor floor n times size some in
    let read : row_of floor words ≡ Ok t.row = ap (λ (f : ℕ). row_of f words) (sym at) ∙ t.read in
    record {
      row = t.row;
      line = record { name_is = t.name_is; count = count; times = read };
      size = row_length floor n words t.row (exactly_ok words (n + 1) tt count) read;
      is = ap (λ (k : ℕ). with_rows k (times ++ t.row)) same ∙ t.is;
    }

next_row : (n floor : ℕ) (times : List ℕ) (words : Line) (next : Draft) → length times ≡ floor * n → 0 < n
    → after (record { due = Times (Some n); times = times }) words ≡ goes_on next → RowSaid n floor times words next
next_row n floor times words next size some e =
    let t = row_taken (Some n) times words next e in
    let known = floors_known n t.count words t.decided in
    row_said (Some n) n floor times words next size some known.0 t known.1

-- the lines of times that go on up to the end, of which the first was read and this many more are due
rows_from : (left floor n : ℕ) (times : List ℕ) (words : Line) (lines : List Line) (next end : Draft) (m : ℕ) → 0 < n → floor + suc left ≡ n
    → length times ≡ floor * n → RowSaid n floor times words next → Goes after lines next end → end.due ≡ End m
    → (later : List ℕ) × AreRowLines n floor (words ∷ lines) later × (record { due = End n; times = times ++ later } ≡ end)
rows_from zero floor n times words lines next end m some floors size said goes ends =
    let row = said.row in
    let last : floor + 1 ≡ n = omega arith in
    let long = grown floor n (length times) (length row) (length (times ++ row)) size said.size (length-append times row) in
    let whole : record { due = End n; times = times ++ row } ≡ next = sym (end_due n (times ++ row) (all_grown floor n (length (times ++ row)) last long))
    ∙ said.is in
    let rest = end_stops n (times ++ row) lines end (subst (λ (d : Draft). Goes after lines d end) (sym whole) goes) in
    let none : AreRowLines n (floor + 1) lines [] = subst (λ (ls : List Line). AreRowLines n (floor + 1) ls []) (sym rest.0) (last, refl) in
    (row, (row, [], sym (append-nil row), said.line, none), rest.1)
rows_from (suc left) floor n times words [] next end m some floors size said goes ends =
    let row = said.row in
    let long = grown floor n (length times) (length row) (length (times ++ row)) size said.size (length-append times row) in
    let more : record { due = Times (Some n); times = times ++ row } ≡ next =
    sym (row_due n (times ++ row) (some_left floor n (length (times ++ row)) (omega arith) long)) ∙ said.is in
    let clash : Times (Some n) ≡ End m = ap (λ (d : Draft). d.due) (more ∙ goes) ∙ ends in
    absurd cc
rows_from (suc left) floor n times words (line ∷ lines) next end m some floors size said goes ends =
    let row = said.row in
    let long = grown floor n (length times) (length row) (length (times ++ row)) size said.size (length-append times row) in
    let more : record { due = Times (Some n); times = times ++ row } ≡ next =
    sym (row_due n (times ++ row) (some_left floor n (length (times ++ row)) (omega arith) long)) ∙ said.is in
    let first : after (record { due = Times (Some n); times = times ++ row }) line ≡ goes_on goes.0 = ap (λ (d : Draft). after d line) more ∙ goes.1 in
    let second = next_row n (floor + 1) (times ++ row) line goes.0 long some first in
    let rest = rows_from left (floor + 1) n (times ++ row) line lines goes.0 end m some (omega arith) long second goes.2 ends in (
      row ++ rest.0,
      (row, rest.0, refl, said.line, rest.1),
      ap (λ (ts : List ℕ). record { due = End n; times = ts }) (sym (append_assoc times row rest.0))
          ∙ rest.2,
    )

-- ---- the whole

-- the lines before the end
pub record AreInFront (front : List Line) (before : Draft) : Type 0 where
  pub head : Line
  pub rows : List Line
  pub table : Square
  pub lines_are : front ≡ head ∷ rows
  pub head_is_said : says_head head ≡ Ok 1
  pub floors_low : 2 ≤ table.floors
  pub floors_high : table.floors ≤ 64
  pub rows_are_said : AreRowLines table.floors 0 rows table.times
  pub before_is : draft_of table ≡ before

in_front : (front : List Line) (before : Draft) (m : ℕ) → Goes after front no_draft before → before.due ≡ End m → AreInFront front before
in_front [] before m goes ends =
    let clash : Head ≡ End m = ap (λ (d : Draft). d.due) goes ∙ ends in
    absurd cc
in_front (head ∷ []) before m goes ends =
    let said = head_said head goes.0 goes.1 in
    let clash : Times None ≡ End m = ap (λ (d : Draft). d.due) (said.1 ∙ goes.2) ∙ ends in
    absurd cc
in_front (head ∷ words ∷ lines) before m goes ends =
    let said = head_said head goes.0 goes.1 in
    let behind = goes.2 in
    let first : after begun words ≡ goes_on behind.0 = ap (λ (d : Draft). after d words) said.1 ∙ behind.1 in
    let t = row_taken None [] words behind.0 first in
    let n = t.count in
    let decided = floors_decided n words t.decided in
    let none = no_times n in
    let row = row_said None n 0 [] words behind.0 none (omega (arith, decided.1)) decided.0 t refl in
    let rest = rows_from (n - 1) 0 n [] words lines behind.0 before m (omega (arith, decided.1)) (omega (arith, decided.1)) none row behind.2 ends in
    record {
      head = head;
      rows = words ∷ lines;
      table = square_of n rest.0;
      lines_are = refl;
      head_is_said = said.0;
      floors_low = decided.1;
      floors_high = decided.2;
      rows_are_said = rest.1;
      before_is = rest.2;
    }

-- lines that make a section say a table
pub said_of : (lines : List Line) (end : Draft) → Makes after lines no_draft end → (t : Square) × (draft_of t ≡ end) × AreTableLines lines t
said_of lines end makes =
    let last = ended makes.before makes.last end makes.whole in
    let front = in_front makes.front makes.before last.floors makes.goes last.due_is in (
      front.table,
      front.before_is ∙ last.same,
      record {
        head = front.head;
        rows = front.rows;
        end = makes.last;
        lines_are = makes.lines_are ∙ ap (λ (ls : List Line). ls ++ makes.last ∷ []) front.lines_are;
        head_is_said = front.head_is_said;
        floors_low = front.floors_low;
        floors_high = front.floors_high;
        rows_are_said = front.rows_are_said;
        end_is_said = last.said;
      },
    )
