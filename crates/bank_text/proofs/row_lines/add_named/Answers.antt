use Rattle.bank_text.specs.BankRows.{row_said}
use Rattle.bank_text.specs.Banks.{ids_of}
use Rattle.bank_text.proofs.BankLemmas.{none_named, row_added, row_of_none, some_named}
use Rattle.bank_text.proofs.row_lines.add_named.Goals as goal

pub returns-in_ok-add_row-in-Some-clause-rows : goal.returns-in_ok-add_row-in-Some-clause-rows
returns-in_ok-add_row-in-Some-clause-rows c =
    row_added c.args.banks.now c.in-Some.place c.args.named.id
    (row_said c.args.named.row) c.index-banks-place.result c.add_row.new.bank c.requires c.in-Some.ensures.found c.in-Some.ensures.within
    c.in_ok-add_row-in-Some.ensures

pub returns-in_ok-add_row-in-Some-clause-found : goal.returns-in_ok-add_row-in-Some-clause-found
returns-in_ok-add_row-in-Some-clause-found c =
    some_named (ids_of c.args.banks.now) c.in-Some.place c.args.named.id (row_said c.args.named.row) c.in-Some.ensures.found

pub returns-in-None-clause-rows : goal.returns-in-None-clause-rows
returns-in-None-clause-rows c = row_of_none c.args.banks.now c.args.named.id (row_said c.args.named.row) c.in-None.ensures.none

pub returns-in-None-clause-found : goal.returns-in-None-clause-found
returns-in-None-clause-found c = none_named (ids_of c.args.banks.now) c.args.named.id (row_said c.args.named.row) c.in-None.ensures.none
