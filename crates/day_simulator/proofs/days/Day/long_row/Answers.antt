use Rattle.search_model.specs.declared.RowFault.TheVariants.{NoRow}
use Rattle.day_simulator.proofs.RowLemmas.{refused-numbered}
use Rattle.day_simulator.proofs.days.Day.long_row.Goals as goal

pub returns-clause-number : goal.returns-clause-number
returns-clause-number c =
    refused-numbered c.args.self.now NoRow c.refuse-done.new.self c.args.out.now.items c.refuse-done.new.out.items c.refuse-done.result
    c.refuse-done.ensures.refused
