-- Worked rows: what lines of a log do.
use Rattle.std.proofs.Common.{◌≡◌, List, [], ◌∷◌, None, Some, Option, refl}
use Rattle.std.specs.Prelude.{codes}
use Rattle.lift_text.specs.Reading.{Reading, line_with, finished}
use Rattle.lift_text.specs.declared.codes.TextCode.TheVariants.{CutShort, NoLineWord, OutOfOrder, OutOfRange, UnknownId}
use Rattle.text_sections.specs.Sections.{Line, accepted, outcome, refused}
use Rattle.search_model.specs.WorkedDays.{opening}
use Rattle.day_text.specs.declared.rows.GoodRow.{GoodRow}
use Rattle.picture_reader.specs.declared.log_kinds.Part.TheVariants.{Totals}
use Rattle.picture_reader.specs.LogDrafts.{after, blank}

abbrev a_row : GoodRow
a_row = record { time = 650; origin = 2; destination = 0; persons = 4 }

abbrev rows : List (Option GoodRow)
rows = Some a_row ∷ None ∷ []

abbrev row_one : Line
row_one = codes "row" ∷ codes "1" ∷ codes "accepted" ∷ []

abbrev row_two : Line
row_two = codes "row" ∷ codes "2" ∷ codes "refused" ∷ codes "41" ∷ []

-- rows come in their order, each once, and no other
second_row_first : outcome after (line_with 17 row_two (finished 17)) (blank opening rows) ≡ refused 17 OutOfOrder
second_row_first = refl

row_twice : outcome after (line_with 17 row_one (line_with 19 row_one (finished 21))) (blank opening rows) ≡ refused 19 OutOfOrder
row_twice = refl

no_such_row : outcome after (line_with 17 (codes "row" ∷ codes "3" ∷ codes "accepted" ∷ []) (finished 17)) (blank opening rows) ≡ refused 17 OutOfRange
no_such_row = refl

other_answer : outcome after (line_with 17 (codes "row" ∷ codes "1" ∷ codes "taken" ∷ []) (finished 17)) (blank opening rows) ≡ refused 17 NoLineWord
other_answer = refl

-- the call of a row that says none, and a call that has not boarded
no_call : outcome after (line_with 23 (codes "board" ∷ codes "2" ∷ codes "1" ∷ codes "4000" ∷ []) (finished 23)) (blank opening rows) ≡ refused 23 UnknownId
no_call = refl

not_boarded : outcome after (line_with 23 (codes "deliver" ∷ codes "1" ∷ codes "1" ∷ codes "7500" ∷ []) (finished 23)) (blank opening rows)
    ≡ refused 23 OutOfOrder
not_boarded = refl

-- the totals before each row has its line, and what is no line of a log
early_totals : outcome after (line_with 17 row_one (line_with 19 (codes "total" ∷ codes "1" ∷ codes "0" ∷ codes "0" ∷ []) (finished 21))) (blank opening rows)
    ≡ refused 19 OutOfOrder
early_totals = refl

other_word : outcome after (line_with 17 (codes "rows" ∷ codes "1" ∷ []) (finished 17)) (blank opening rows) ≡ refused 17 NoLineWord
other_word = refl

early_end : outcome after (line_with 17 (codes "end" ∷ []) (finished 17)) (blank opening rows) ≡ refused 17 OutOfOrder
early_end = refl

cut_off : outcome after (line_with 17 row_one (finished 20)) (blank opening rows) ≡ refused 21 CutShort
cut_off = refl

-- plans are passed over, and so is what stands in an answer or a certificate
abbrev certified : Reading
certified = line_with 19 (codes "answer" ∷ codes "1" ∷ []) (line_with 20 (codes "row" ∷ codes "7" ∷ []) (line_with 21 (codes "end" ∷ []) (line_with 22 row_two
    (line_with 23 (codes "total" ∷ codes "1" ∷ codes "1" ∷ codes "0" ∷ []) (line_with 24 (codes "end" ∷ []) (finished 25))))))

passed_over : outcome after (line_with 17 row_one (line_with 18 (codes "cost" ∷ codes "x" ∷ []) certified)) (blank opening rows)
    ≡ accepted (record { opening = opening; rows = rows; part = Totals; told = 2; legs = []; refusals = record { moment = opening.moment; floor = 0 } ∷ [] })
    (finished 25)
passed_over = refl
