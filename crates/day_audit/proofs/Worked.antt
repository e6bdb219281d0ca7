-- Worked rows: which line of a log is the first that differs.
use Rattle.std.proofs.Common.{inl, inr, [], ◌∷◌, None, refl, sym, ap}
use Rattle.std.specs.Prelude.{codes}
use Rattle.std.specs.Fmt.{digits}
use Rattle.std.specs.Str.{bytes_eq}
use Rattle.std.proofs.lemmas.Bool.{false≢true}
use Rattle.search_model.specs.declared.Event.TheVariants.{Board, Deliver}
use Rattle.search_model.specs.WorkedDays.{opening}
use Rattle.search_model.specs.Days.{day_after_refused, opening_day}
use Rattle.lift_text.specs.Reading.{line_with, finished}
use Rattle.text_sections.specs.Sections.{Line}
use Rattle.text_sections.specs.Words.{word_at}
use Rattle.day_audit.specs.Audits.{EndFinds, Lacks, LogHolds, differs, event_lines, last_lines}

abbrev boarded : Line
boarded = codes "board" ∷ codes "3" ∷ codes "7" ∷ codes "1500" ∷ []

abbrev delivered_late : Line
delivered_late = codes "deliver" ∷ codes "3" ∷ codes "7" ∷ codes "7501" ∷ []

abbrev totals : Line
totals = codes "total" ∷ codes "3" ∷ codes "2" ∷ codes "3" ∷ []

abbrev ended : Line
ended = codes "end" ∷ []

-- a call is delivered 1 ms later than is due: the second line differs
other_moment : Lacks (event_lines (Board 3 7 1500 ∷ Deliver 3 7 7500 ∷ [])) (line_with 23 boarded (line_with 25 delivered_late (finished 29))) (differs 25)
unfolding digits
other_moment = inr (refl, inl ((λ same. false≢true (sym (ap (λ (words : Line). bytes_eq (word_at words 3) (codes "7501")) same))), refl))

-- a number with a zero in front is another word
zero_in_front : Lacks (last_lines 3 2 3) (line_with 31 (codes "total" ∷ codes "03" ∷ codes "2" ∷ codes "3" ∷ []) (finished 31)) (differs 31)
unfolding digits
zero_in_front = inl ((λ same. false≢true (sym (ap (λ (words : Line). bytes_eq (word_at words 1) (codes "03")) same))), refl)

-- the log ends before its end: the line after the last differs
cut_off : Lacks (last_lines 3 2 3) (line_with 31 totals (finished 33)) (differs 34)
unfolding digits
cut_off = inr (refl, refl)

-- a line behind the end
one_more : EndFinds (last_lines 3 2 3) (line_with 31 totals (line_with 32 ended (line_with 37 ended (finished 37)))) (differs 37)
unfolding digits
one_more = inr (
  line_with 37 ended (finished 37),
  (31, line_with 32 ended (line_with 37 ended (finished 37)), refl, (32, line_with 37 ended (finished 37), refl, refl)),
  refl,
)

-- a day with one row that says nothing
one_refused : LogHolds (opening_day opening) (None ∷ [])
    (line_with 12 (codes "row" ∷ codes "1" ∷ codes "refused" ∷ codes "41" ∷ [])
    (line_with 13 (codes "total" ∷ codes "0" ∷ codes "1" ∷ codes "0" ∷ []) (line_with 14 ended (finished 14)))) (day_after_refused (opening_day opening))
unfolding digits
one_refused = (
  line_with 13 (codes "total" ∷ codes "0" ∷ codes "1" ∷ codes "0" ∷ []) (line_with 14 ended (finished 14)),
  (
    record { plan = []; cost = 0; bound = 0 },
    line_with 13 (codes "total" ∷ codes "0" ∷ codes "1" ∷ codes "0" ∷ []) (line_with 14 ended (finished 14)),
    (12, line_with 13 (codes "total" ∷ codes "0" ∷ codes "1" ∷ codes "0" ∷ []) (line_with 14 ended (finished 14)), refl, refl),
    (refl, refl),
  ),
  (14, (13, line_with 14 ended (finished 14), refl, (14, finished 14, refl, refl))),
)
