use Rattle.case_commands.proofs.WhatIfLemmas.{is_told}
use Rattle.case_commands.proofs.asking.AskingCommand.answer.Goals as goal

pub what_if-requires : goal.what_if-requires
what_if-requires g c = record { last = c.requires.1.some }

pub returns-clause-told : goal.returns-clause-told
returns-clause-told g c =
    let costs = c.in_ok-costs.costs in
    let limits = c.args.self.now.limits in
    is_told c.args.snapshot.now limits.rounds limits.most_tours costs.extras.items costs.nearest c.status_of-status.result
    c.in_ok-text.text.items c.in_ok-costs.ensures.extras c.in_ok-costs.ensures.nearest c.in_ok-costs.ensures.enough
    (rw c.as_slice.ensures.value at c.status_of-status.ensures.is) c.in_ok-text.ensures
