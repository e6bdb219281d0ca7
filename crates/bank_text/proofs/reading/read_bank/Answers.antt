use Rattle.std.proofs.Common.{◌++◌, ◌∷◌, ◌∙◌, [], List, ap}
use Rattle.lift_text.specs.LineReader.{text}
use Rattle.bank_text.specs.Banks.{views_of}
use Rattle.bank_text.specs.BankTexts.{opened}
use Rattle.bank_text.specs.declared.banks.Bank.{Bank}
use Rattle.bank_text.proofs.HeadLemmas.{untold}
use Rattle.bank_text.proofs.TakenLemmas.{bank_answered, memory_answered, no_bank_answered}
use Rattle.bank_text.proofs.reading.read_bank.Goals as goal

pub returns-then-is_err-clause-refused : goal.returns-then-is_err-clause-refused
returns-then-is_err-clause-refused g c = untold (text g.S.Source.left c.args.lines.now)

pub returns-then-is_err-clause-takes : goal.returns-then-is_err-clause-takes
returns-then-is_err-clause-takes g c =
    let here = text g.S.Source.left c.args.lines.now in
    memory_answered here here c.args.id c.args.banks.now.items c.reserve.new.self.items

pub returns-in-Ok-clause-takes : goal.returns-in-Ok-clause-takes
returns-in-Ok-clause-takes g c =
    let left = g.S.Source.left in
    let head = opened (record { id = c.args.id; opening = c.in-Ok.opening }) in
    bank_answered (text left c.args.lines.now)
    (text left c.read_bank_opening.new.lines) c.args.id c.args.banks.now.items c.put_bank.new.banks.items c.in-Ok.opening c.in-Ok.ensures.takes
    (c.put_bank.ensures ∙ ap (λ (banks : List Bank). views_of banks ++ head ∷ []) c.reserve.ensures.items)

pub returns-in-Err-clause-takes : goal.returns-in-Err-clause-takes
returns-in-Err-clause-takes g c =
    let left = g.S.Source.left in
    let now = text left c.read_bank_opening.new.lines in
    no_bank_answered (text left c.args.lines.now) now now c.args.id c.args.banks.now.items c.reserve.new.self.items c.in-Err.fault c.in-Err.ensures.takes
