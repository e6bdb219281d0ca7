use Rattle.case_commands.proofs.RootLemmas.{is_told, shares_board}
use Rattle.case_commands.proofs.rooting.answer_of.Goals as goal

pub root_text-requires-clause-calls : goal.root_text-requires-clause-calls
root_text-requires-clause-calls c = c.in_ok-answer.ensures.answer.sheet.in_root.calls

pub root_text-requires-clause-cars : goal.root_text-requires-clause-cars
root_text-requires-clause-cars c = c.in_ok-answer.ensures.answer.sheet.in_root.cars

pub root_text-requires-clause-shares : goal.root_text-requires-clause-shares
root_text-requires-clause-shares c =
    let answer = c.in_ok-answer.answer in
    shares_board c.args.snapshot.now answer.shares 2 answer.cost c.in_ok-answer.ensures.answer.mixture

pub returns-clause-told : goal.returns-clause-told
returns-clause-told c =
    is_told c.args.snapshot.now c.args.limits.rounds c.args.limits.most_tours c.in_ok-answer.answer c.status_of-status.result c.in_ok-text.text.items
    c.in_ok-answer.ensures c.status_of-status.ensures.is c.in_ok-text.ensures
