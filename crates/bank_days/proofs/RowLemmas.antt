-- Rows done one after another, with their lines behind what stood before.
use Rattle.std.proofs.Common.{◌≡◌, ℕ, ◌+◌, ◌<◌, List, [], ◌∷◌, ◌++◌, map, take, length, refl, sym, ap, subst, ◌∙◌, Option, Result, Ok, Err, get_or, Vec, Global}
use Rattle.std.specs.Prelude.{OnOk}
use Rattle.std.proofs.lemmas.List.{map-append, take_more}
use Rattle.std.specs.declared.alloc.AllocError.{AllocError}
use Rattle.search_model.specs.declared.RowFault.TheVariants.{NoRow}
use Rattle.search_model.specs.Days.{Day, Row}
use Rattle.day_text.specs.Records.{row_of_line}
use Rattle.day_simulator.specs.Rows.{IsRefused, IsRowDone, next_step}
use Rattle.day_text.specs.LogTexts.{row_text}
use Rattle.day_simulator.specs.RowRuns.{Right, AreRowsDone}
use Rattle.day_simulator.proofs.RowRunLemmas.{append-assoc, append-nil, no_plan, one-row, rows-more}
use Rattle.bank_text.specs.declared.banks.BankRow.{BankRow}
use Rattle.bank_text.specs.declared.banks.BankRow.TheVariants.{Fields, Other}
use Rattle.bank_text.specs.BankRows.{row_said, rows_said}
use Rattle.bank_days.specs.Banks.{AreRowsAppended}

-- ---- one row

-- a row that is a line says what the line does
pub fields-done : (right : Right) (old new : Day) (row : BankRow) (line : Vec ℕ Global) (bytes before after : List ℕ) (result : Result Unit AllocError)
    → row ≡ Fields line → bytes ≡ line.items
    → OnOk result (IsRowDone right old (row_of_line bytes) new before after) → OnOk result (IsRowDone right old (row_said row) new before after)
fields-done right old new row line bytes before after result is same done =
    subst (λ (r : BankRow). OnOk result (IsRowDone right old (row_said r) new before after)) (sym is)
    (subst (λ (b : List ℕ). OnOk result (IsRowDone right old (row_of_line b) new before after)) same done)

-- any other row is refused
pub other-done : (right : Right) (old new : Day) (row : BankRow) (before after : List ℕ) (result : Result Unit AllocError) → row ≡ Other
    → OnOk result (IsRefused old NoRow new before after) → OnOk result (IsRowDone right old (row_said row) new before after)
other-done right old new row before after (Ok unit) is refused =
    subst (λ (r : BankRow). IsRowDone right old (row_said r) new before after) (sym is)
    (no_plan, [], record { day = refused.day; text = refused.text; right_plan = tt })
other-done right old new row before after (Err error) is refused = refused

-- the lines of a row, apart from what stands before them
row-apart : (right : Right) (old : Day) (said : Option Row) (new : Day) (before after : List ℕ)
    → IsRowDone right old said new before after → (text : List ℕ) × IsRowDone right old said new [] text × (after ≡ before ++ text)
row-apart right old said new before after done = (
  row_text new.world.snapshot (next_step old said done.0).log done.1,
  (done.0, done.1, record { day = done.2.day; text = refl; right_plan = done.2.right_plan }),
  done.2.text,
)

-- ---- rows

pub none-appended : (right : Right) (day : Day) (log : List ℕ) → AreRowsAppended right day [] day log log
none-appended right day log = record { text = []; done = (refl, refl); appended = sym (append-nil log) }

-- one more row
pub row-appended : (right : Right) (a b c : Day) (rows : List BankRow) (k : ℕ) (row : BankRow) (before at after : List ℕ)
    → k < length rows → row ≡ get_or rows k row → AreRowsAppended right a (take k rows) b before at
    → IsRowDone right b (row_said row) c at after → AreRowsAppended right a (take (k + 1) rows) c before after
row-appended right a b c rows k row before at after within is so done =
    let apart = row-apart right b (row_said row) c at after done in
    let one = one-row right b (row_said row) c apart.0 apart.1 in
    let joined : rows_said (take k rows) ++ row_said row ∷ [] ≡ rows_said (take (k + 1) rows) =
    ap (λ (r : BankRow). rows_said (take k rows) ++ row_said r ∷ []) is ∙ sym (map-append row_said (take k rows) (get_or rows k row ∷ []))
    ∙ ap (map row_said) (sym (take_more rows k row within)) in
    record {
      text = so.text ++ apart.0;
      done = subst (λ (r : List (Option Row)). AreRowsDone right a r c (so.text ++ apart.0)) joined
          (rows-more right a b c (rows_said (take k rows)) (row_said row ∷ []) so.text apart.0 so.done one);
      appended = apart.2 ∙ ap (λ (t : List ℕ). t ++ apart.0) so.appended ∙ append-assoc before so.text apart.0;
    }
