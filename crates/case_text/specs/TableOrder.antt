-- The lines of a table in their order, by their line words.
use Rattle.std.specs.Prelude.{ℕ, ◌*◌, ◌==◌, ◌||◌, ◌&&◌, Bool, true, false, not, List, Some, codes, if◌then◌else◌}
use Rattle.lift_text.specs.declared.codes.TextCode.{TextCode}
use Rattle.lift_text.specs.declared.codes.TextCode.TheVariants.{NoLineWord, OutOfOrder}
use Rattle.text_sections.specs.Sections.{Line}
use Rattle.text_sections.specs.Words.{is_word}
use Rattle.case_text.specs.declared.table_order.Due.{Due}
use Rattle.case_text.specs.declared.table_order.Due.TheVariants.{Head, Times, End}

-- the line word of the line that is due
abbrev pub name_of : Due → List ℕ
name_of Head = codes "table"
name_of (Times floors) = codes "times"
name_of (End floors) = codes "end"

-- what is due after this many times: the end, once each floor has its line
abbrev pub after_rows : (floors times : ℕ) → Due
after_rows floors times = if times == floors * floors then End floors else Times (Some floors)

abbrev pub is_line_word : Line → Bool
is_line_word words = is_word words 0 (codes "table") || is_word words 0 (codes "times") || is_word words 0 (codes "end")

abbrev pub is_first : Due → Bool
is_first Head = true
is_first (Times floors) = false
is_first (End floors) = false

-- what is wrong with a line that is not due: before the first line no other line word is known
abbrev pub misplaced : Due → Line → TextCode
misplaced due words = if not (is_first due) && is_line_word words then OutOfOrder else NoLineWord
