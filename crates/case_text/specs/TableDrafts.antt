-- A table as far as its lines were read, and what each line does to it.
use Rattle.std.specs.Prelude.{ℕ, List, [], ◌++◌, length, None, Some, Ok, Err, if◌then◌else◌}
use Rattle.call_state.specs.Squares.{square_of}
use Rattle.elevator_model.specs.Travel.{Square}
use Rattle.motion_table.specs.Tables.{row_judged, AreFloors}
use Rattle.motion_table.specs.Triples.{IsTable}
use Rattle.text_sections.specs.Judging.{Judged, ◌>>=◌}
use Rattle.text_sections.specs.Words.{is_word, exactly, number}
use Rattle.text_sections.specs.Sections.{Line, Step, goes_on, is_whole, step_of}
use Rattle.case_text.specs.declared.table_order.Due.{Due}
use Rattle.case_text.specs.declared.table_order.Due.TheVariants.{Head, Times, End}
use Rattle.case_text.specs.TableOrder.{name_of, after_rows, misplaced}

-- which line is due, and the times of the lines so far in ms
pub record Draft : Type 0 where
  pub due : Due
  pub times : List ℕ

abbrev pub no_draft : Draft
no_draft = record { due = Head; times = [] }

-- how many floors there are, where it is known, is in its range
abbrev pub HasFloors : Due → Type 0
HasFloors Head = Unit {0}
HasFloors (Times floors) = AreFloors floors
HasFloors (End floors) = AreFloors (Some floors)

-- with this many floors and these times
abbrev pub with_rows : ℕ → List ℕ → Draft
with_rows floors times = record { due = after_rows floors (length times); times = times }

-- what the line that is due does
abbrev pub taken : Due → Draft → Line → Judged (Step Draft)
taken Head d words = exactly words 2 >>= λ _. (number words 1 1 1 >>= λ _. Ok (goes_on (record d { due = Times None })))
taken (Times floors) d words = row_judged floors d.times words >>= λ read. Ok (goes_on (with_rows read.0 (d.times ++ read.1)))
taken (End floors) d words = exactly words 1 >>= λ _. Ok (is_whole d)

-- no other line is taken
abbrev pub judged : Draft → Line → Judged (Step Draft)
judged d words = if is_word words 0 (name_of d.due) then taken d.due d words else Err (misplaced d.due words)

abbrev pub after : Draft → Line → Step Draft
after d words = step_of (judged d words)

-- ---- the table of a draft

abbrev pub floors_of : Due → ℕ
floors_of Head = 0
floors_of (Times floors) = 0
floors_of (End floors) = floors

abbrev pub square_read : Draft → Square
square_read d = square_of (floors_of d.due) d.times

-- what is read of a table
abbrev pub draft_of : Square → Draft
draft_of t = record { due = End t.floors; times = t.times }

-- nothing but the end is due, and the times are a table
abbrev pub IsWholeAt : Due → List ℕ → Type 0
IsWholeAt Head times = ⊥
IsWholeAt (Times floors) times = ⊥
IsWholeAt (End floors) times = IsTable (square_of floors times)

abbrev pub IsWhole : Draft → Type 0
IsWhole d = IsWholeAt d.due d.times
