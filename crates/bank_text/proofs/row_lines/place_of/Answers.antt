use Rattle.std.proofs.Common.{get_or}
use Rattle.bank_text.specs.Banks.{ids_of}
use Rattle.bank_text.proofs.BankLemmas.{id_at, none_at_all, none_more}
use Rattle.bank_text.proofs.row_lines.place_of.Goals as goal

pub loop-place-preserved : goal.loop-place-preserved
loop-place-preserved c =
    let banks = c.args.banks.now in
    let place = c.loop-place.place in
    none_more (ids_of banks) place c.args.id (get_or banks place c.index-banks-place.result).id
    (id_at banks place c.index-banks-place.result c.loop-place-test.true) c.if-banks-place.false c.loop-place.invariant

pub returns-clause-none : goal.returns-clause-none
returns-clause-none c = none_at_all c.args.banks.now c.loop-place.place c.args.id c.loop-place-test.false c.loop-place.invariant
