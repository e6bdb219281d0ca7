-- Worked rows of the lines of a table.
use Rattle.std.specs.Prelude.{◌≡◌, ℕ, List, [], ◌∷◌, refl, codes}
use Rattle.lift_text.specs.Reading.{Reading, line_with, finished}
use Rattle.lift_text.specs.declared.faults.TextFault.TheVariants.{Bad}
use Rattle.lift_text.specs.declared.codes.TextCode.TheVariants.{NoLineWord, Missing, TooMany, NoNumber, OutOfRange, OutOfOrder, CutShort, NoTime}
use Rattle.text_sections.specs.Sections.{Line, outcome, accepted, refused}
use Rattle.case_text.specs.CaseTexts.{IsFaultBehind}
use Rattle.case_text.specs.declared.table_order.Due.TheVariants.{End}
use Rattle.case_text.specs.TableDrafts.{no_draft, after}

abbrev head_line : Line
head_line = codes "table" ∷ codes "1" ∷ []

abbrev times_line : List (List ℕ) → Line
times_line words = codes "times" ∷ words

abbrev end_line : Line
end_line = codes "end" ∷ []

-- a table of two floors, of which the first lines are there
abbrev first_row : Reading → Reading
first_row rest = line_with 2 head_line (line_with 5 (times_line (codes "0" ∷ codes "4999" ∷ [])) rest)

abbrev both_rows : Reading → Reading
both_rows rest = first_row (line_with 6 (times_line (codes "20000000" ∷ codes "00" ∷ [])) rest)

whole_row : outcome after (both_rows (line_with 9 end_line (finished 11))) no_draft
    ≡ accepted (record { due = End 2; times = 0 ∷ 4999 ∷ 20000000 ∷ 0 ∷ [] }) (finished 11)
whole_row = refl

-- what follows the end is left
rest_row : outcome after (both_rows (line_with 9 end_line (line_with 10 end_line (finished 11)))) no_draft
    ≡ accepted (record { due = End 2; times = 0 ∷ 4999 ∷ 20000000 ∷ 0 ∷ [] }) (line_with 10 end_line (finished 11))
rest_row = refl

-- ---- the first line

unknown_first_row : outcome after (line_with 3 (codes "tables" ∷ codes "1" ∷ []) (finished 7)) no_draft ≡ refused 3 NoLineWord
unknown_first_row = refl

-- before the first line no other line word is known
times_first_row : outcome after (line_with 3 (times_line (codes "0" ∷ codes "5" ∷ [])) (finished 7)) no_draft ≡ refused 3 NoLineWord
times_first_row = refl

end_first_row : outcome after (line_with 4 end_line (finished 7)) no_draft ≡ refused 4 NoLineWord
end_first_row = refl

no_version_row : outcome after (line_with 3 (codes "table" ∷ []) (finished 7)) no_draft ≡ refused 3 Missing
no_version_row = refl

two_versions_row : outcome after (line_with 3 (codes "table" ∷ codes "x" ∷ codes "1" ∷ []) (finished 7)) no_draft ≡ refused 3 TooMany
two_versions_row = refl

word_version_row : outcome after (line_with 3 (codes "table" ∷ codes "1." ∷ []) (finished 7)) no_draft ≡ refused 3 NoNumber
word_version_row = refl

late_version_row : outcome after (line_with 3 (codes "table" ∷ codes "2" ∷ []) (finished 7)) no_draft ≡ refused 3 OutOfRange
late_version_row = refl

no_line_row : outcome after (finished 7) no_draft ≡ refused 8 CutShort
no_line_row = refl

-- ---- the times

one_floor_row : outcome after (line_with 2 head_line (line_with 3 (times_line (codes "0" ∷ [])) (finished 7))) no_draft ≡ refused 3 Missing
one_floor_row = refl

short_row : outcome after (first_row (line_with 6 (times_line (codes "7" ∷ [])) (finished 8))) no_draft ≡ refused 6 Missing
short_row = refl

long_row : outcome after (first_row (line_with 6 (times_line (codes "7" ∷ codes "0" ∷ codes "x" ∷ [])) (finished 8))) no_draft ≡ refused 6 TooMany
long_row = refl

word_row : outcome after (first_row (line_with 6 (times_line (codes "20000001x" ∷ codes "20000001" ∷ [])) (finished 8))) no_draft ≡ refused 6 NoNumber
word_row = refl

range_row : outcome after (first_row (line_with 6 (times_line (codes "20000001" ∷ codes "x" ∷ [])) (finished 8))) no_draft ≡ refused 6 OutOfRange
range_row = refl

rest_time_row : outcome after (line_with 2 head_line (line_with 4 (times_line (codes "3" ∷ codes "5" ∷ [])) (finished 7))) no_draft ≡ refused 4 NoTime
rest_time_row = refl

zero_time_row : outcome after (first_row (line_with 6 (times_line (codes "0" ∷ codes "0" ∷ [])) (finished 8))) no_draft ≡ refused 6 NoTime
zero_time_row = refl

-- ---- the order

second_head_row : outcome after (first_row (line_with 6 head_line (finished 8))) no_draft ≡ refused 6 OutOfOrder
second_head_row = refl

early_end_row : outcome after (first_row (line_with 6 end_line (finished 8))) no_draft ≡ refused 6 OutOfOrder
early_end_row = refl

third_row : outcome after (both_rows (line_with 8 (times_line (codes "0" ∷ codes "1" ∷ [])) (finished 8))) no_draft ≡ refused 8 OutOfOrder
third_row = refl

unknown_row : outcome after (both_rows (line_with 8 (codes "ends" ∷ []) (finished 8))) no_draft ≡ refused 8 NoLineWord
unknown_row = refl

long_end_row : outcome after (both_rows (line_with 8 (codes "end" ∷ codes "1" ∷ []) (finished 8))) no_draft ≡ refused 8 TooMany
long_end_row = refl

cut_row : outcome after (both_rows (finished 12)) no_draft ≡ refused 13 CutShort
cut_row = refl

-- ---- behind the end

late_row : IsFaultBehind (line_with 10 end_line (finished 11)) (Bad 10 OutOfOrder)
late_row = refl
