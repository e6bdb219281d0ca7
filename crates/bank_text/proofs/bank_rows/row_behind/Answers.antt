use Rattle.std.proofs.Common.{rules, ◌∙◌, sym, ap}
use Rattle.std.specs.Prelude.{option_map}
use Rattle.csv.specs.Records.{fields_of}
use Rattle.bank_text.specs.BankRows.{texts_of}
use Rattle.bank_text.proofs.RowLemmas.{no_digits, other_count, row_made}
use Rattle.bank_text.proofs.bank_rows.row_behind.Goals as goal

pub returns-then-len-ne5 : goal.returns-then-len-ne5
returns-then-len-ne5 c = other_count (fields_of c.args.fields.now) (search rules)

pub returns-in-Some : goal.returns-in-Some
returns-in-Some c =
    row_made (fields_of c.args.fields.now) (texts_of c.in-Some.digits) c.row_of_digits.result (search rules)
    (ap (option_map texts_of) (sym c.in-Some.is) ∙ c.digits_behind.ensures) c.row_of_digits.ensures

pub returns-in-None : goal.returns-in-None
returns-in-None c = no_digits (fields_of c.args.fields.now) (search rules) (ap (option_map texts_of) (sym c.in-None.is) ∙ c.digits_behind.ensures)
