-- Worked rows: what rows say, and the logs of a bank without rows and of one with a row that says nothing.
use Rattle.std.proofs.Common.{◌≡◌, ℕ, false, ltb, List, [], ◌∷◌, ◌++◌, Option, None, refl, ap, subst, ◌∙◌, Vec, Global}
use Rattle.std.specs.Prelude.{codes}
use Rattle.std.specs.Fmt.{digits}
use Rattle.csv.specs.Machine.{next_record}
use Rattle.csv.specs.Reading.{strip_bom}
use Rattle.elevator_model.specs.Snapshot.{Snapshot}
use Rattle.search_model.specs.declared.RowFault.TheVariants.{NoRow}
use Rattle.search_model.specs.Days.{Day, Row, day_after_refused, opening_day}
use Rattle.search_model.specs.WorkedDays.{opening, row}
use Rattle.day_text.specs.Records.{end_of_field, row_of_line, without_spaces_before}
use Rattle.day_text.specs.LogTexts.{events_text, refused_text, total_text}
use Rattle.day_simulator.specs.RowRuns.{Right, AreRowsDone}
use Rattle.day_simulator.specs.DayRuns.{day_log}
use Rattle.day_simulator.proofs.RowRunLemmas.{append-nil}
use Rattle.bank_text.specs.declared.banks.BankRow.{BankRow}
use Rattle.bank_text.specs.declared.banks.BankRow.TheVariants.{Fields, Other}
use Rattle.bank_text.specs.declared.banks.Bank.{Bank}
use Rattle.bank_days.specs.declared.logs.BankLog.{BankLog}
use Rattle.bank_text.specs.BankRows.{rows_said}
use Rattle.bank_days.specs.Banks.{IsBankLog}

-- ---- rows

four_numbers : row_of_line (codes "7, 0,2 ,1") ≡ row 7 0 2 1
unfolding next_record strip_bom without_spaces_before end_of_field
four_numbers = refl

three_numbers : row_of_line (codes "7,0,2") ≡ None
unfolding next_record strip_bom without_spaces_before end_of_field
three_numbers = refl

said : (first last : Vec ℕ Global) → first.items ≡ codes "7, 0,2 ,1" → last.items ≡ codes "7,0,2"
    → rows_said (Fields first ∷ Other ∷ Fields last ∷ []) ≡ row 7 0 2 1 ∷ None ∷ None ∷ []
said first last first_is last_is =
    ap (λ (r : Option Row). r ∷ None ∷ row_of_line last.items ∷ []) (ap row_of_line first_is ∙ four_numbers)
    ∙ ap (λ (r : Option Row). row 7 0 2 1 ∷ None ∷ r ∷ []) (ap row_of_line last_is ∙ three_numbers)

-- ---- logs

no_rows_log : day_log [] (opening_day opening) ≡ codes "day 1\ntotal 0 0 0\nend\n# solved\n"
unfolding events_text total_text digits
no_rows_log = refl

one_refused_log : day_log (refused_text 1 NoRow) (day_after_refused (opening_day opening)) ≡ codes "day 1\nrow 1 refused 41\ntotal 0 1 0\nend\n# solved\n"
unfolding events_text refused_text total_text digits
one_refused_log = refl

-- a bank without rows, whatever its planner calls right
without_rows : (right : Right) (bank : Bank) (log : BankLog) → bank.opening ≡ opening → bank.rows.items ≡ [] → IsBankLog right bank log
    → (log.text.items ≡ codes "day 1\ntotal 0 0 0\nend\n# solved\n") × (log.is_stopped ≡ false)
without_rows right bank log opens none is =
    let done = subst (λ (rows : List BankRow). AreRowsDone right (opening_day bank.opening) (rows_said rows) is.day is.text) none is.done in
    let day : is.day ≡ opening_day opening = done.0 ∙ ap opening_day opens in
    (is.log_is ∙ ap (λ (t : List ℕ). day_log t is.day) done.1 ∙ ap (day_log []) day ∙ no_rows_log, is.stopped_is ∙ ap (λ (d : Day). ltb 0 d.unsolved) day)

-- a bank with one row that says nothing
with_one_refused : (right : Right) (bank : Bank) (log : BankLog) → bank.opening ≡ opening → bank.rows.items ≡ Other ∷ [] → IsBankLog right bank log
    → (log.text.items ≡ codes "day 1\nrow 1 refused 41\ntotal 0 1 0\nend\n# solved\n") × (log.is_stopped ≡ false)
with_one_refused right bank log opens one is =
    let done = subst (λ (rows : List BankRow). AreRowsDone right (opening_day bank.opening) (rows_said rows) is.day is.text) one is.done in
    let refused = done.3.2 in
    let day : is.day ≡ day_after_refused (opening_day opening) = done.4.0 ∙ refused.day ∙ ap (λ (s : Snapshot). day_after_refused (opening_day s)) opens in
    let text : is.text ≡ refused_text 1 NoRow = done.5 ∙ ap (λ (t : List ℕ). done.1 ++ t) done.4.1 ∙ append-nil done.1 ∙ refused.text in (
      is.log_is ∙ ap (λ (t : List ℕ). day_log t is.day) text ∙ ap (day_log (refused_text 1 NoRow)) day ∙ one_refused_log,
      is.stopped_is
          ∙ ap (λ (d : Day). ltb 0 d.unsolved) day,
    )
