use Rattle.std.proofs.Common.{◌∙◌, sym, ap}
use Rattle.std.specs.Prelude.{option_map}
use Rattle.bank_text.specs.BankRows.{said_by, said_of_short}
use Rattle.bank_text.specs.Banks.{ids_of}
use Rattle.bank_text.proofs.LineLemmas.{stray_named, stray_unnamed, unsaid_rows}
use Rattle.bank_text.proofs.row_lines.take_line.Goals as goal

pub returns-in_ok-found-in-Some-clause-stray : goal.returns-in_ok-found-in-Some-clause-stray
returns-in_ok-found-in-Some-clause-stray c =
    stray_named c.args.line.now (said_by c.in-Some.named) (ids_of c.args.banks.now) c.in_ok-found-in-Some.found
    (ap (option_map said_by) (sym c.in-Some.is) ∙ c.in_ok-named.ensures) c.in_ok-found-in-Some.ensures.found

pub returns-in-None-clause-rows : goal.returns-in-None-clause-rows
returns-in-None-clause-rows c =
    unsaid_rows c.args.banks.now (said_of_short c.args.line.now) (ap (option_map said_by) (sym c.in-None.is) ∙ c.in_ok-named.ensures)

pub returns-in-None-clause-stray : goal.returns-in-None-clause-stray
returns-in-None-clause-stray c =
    stray_unnamed c.args.line.now (ids_of c.args.banks.now) c.is_empty.result c.is_empty.ensures
    (ap (option_map said_by) (sym c.in-None.is) ∙ c.in_ok-named.ensures)
