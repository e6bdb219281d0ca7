use Rattle.std.proofs.Common.{◌∙◌, sym}
use Rattle.csv.specs.Records.{fields_of}
use Rattle.bank_text.specs.BankRows.{row_said}
use Rattle.bank_text.proofs.RowLemmas.{both_said, nothing_said}
use Rattle.bank_text.proofs.bank_rows.named_row.Goals as goal

pub returns-in_default : goal.returns-in_default
returns-in_default c = nothing_said (fields_of c.args.fields.now) (sym c.in_default.is ∙ c.id_in_front.ensures)

pub returns : goal.returns
returns c = both_said (fields_of c.args.fields.now) c.in-Some.id (row_said c.in_ok-row.row) (sym c.in-Some.is ∙ c.id_in_front.ensures) c.in_ok-row.ensures
