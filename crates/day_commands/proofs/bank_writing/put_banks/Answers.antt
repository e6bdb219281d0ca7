use Rattle.std.proofs.Common.{arith}
use Rattle.day_commands.proofs.BankTextLemmas.{more_parts, no_parts}
use Rattle.day_commands.proofs.bank_writing.put_banks.Goals as goal

pub loop-place-init : goal.loop-place-init
loop-place-init c = no_parts c.args.out.now.items

pub loop-place-preserved : goal.loop-place-preserved
loop-place-preserved c =
    let within = c.loop-place-test.true in
    let same = c.requires in
    more_parts c.args.banks.now c.args.logs.now c.loop-place.place c.index-banks-place.result c.index-logs-place.result c.args.out.now.items
    c.loop-place.out.items c.put_bank.new.out.items
    (omega (arith, within)) (omega (arith, within, same)) c.index-banks-place.is c.index-logs-place.is c.loop-place.invariant c.in_ok-put_bank.ensures
