use Rattle.case_commands.proofs.MadeCases.{made_case_text}
use Rattle.case_commands.proofs.making.made_case.Goals as goal

pub returns : goal.returns
returns c =
    made_case_text c.args.sizes c.in_ok-snapshot.snapshot c.new-text.result.items c.write_case.new.out.items c.requires.cars.1 c.requires.calls.1
    c.in_ok-snapshot.ensures.case c.in_ok-snapshot.ensures.accepted c.new-text.ensures.items c.in_ok-write_case.ensures.text
    c.in_ok-write_case.ensures.again
