use Rattle.std.proofs.Common.{List, map, ap}
use Rattle.bank_text.specs.declared.banks.BankRow.{BankRow}
use Rattle.bank_text.specs.BankRows.{row_said}
use Rattle.bank_text.proofs.HeadLemmas.{put_behind}
use Rattle.bank_text.proofs.reading.put_bank.Goals as goal

pub returns : goal.returns
returns c =
    put_behind c.args.banks.now.items c.push_reserved.new.self.items (record { id = c.args.id; opening = c.args.opening; rows = c.new-rows.result })
    (record { id = c.args.id; opening = c.args.opening }) c.push_reserved.ensures.items
    (ap (λ (rows : List BankRow). record { id = c.args.id; opening = c.args.opening; rows = map row_said rows }) c.new-rows.ensures.items)
