use Rattle.std.proofs.Common.{refl}
use Rattle.lift_text.specs.LineReader.{text}
use Rattle.bank_text.proofs.TakenLemmas.{input_taken, no_input_taken}
use Rattle.bank_text.proofs.reading.read_banks.Goals as goal

pub returns-in-Ok-clause-takes : goal.returns-in-Ok-clause-takes
returns-in-Ok-clause-takes g c =
    input_taken (text g.S.Source.left c.args.lines.now) c.read_into.new.banks.items c.in-Ok.strays
    (record { banks = c.read_into.new.banks; strays = c.in-Ok.strays }) c.in-Ok.ensures.takes refl refl

pub returns-in-Err-clause-takes : goal.returns-in-Err-clause-takes
returns-in-Err-clause-takes g c = no_input_taken (text g.S.Source.left c.args.lines.now) c.read_into.new.banks.items c.in-Err.fault c.in-Err.ensures.takes
