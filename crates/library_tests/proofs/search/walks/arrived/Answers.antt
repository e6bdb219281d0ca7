use Rattle.library_tests.proofs.search.walks.arrived.Goals as goal

pub depart-departure-requires-clause-reached : goal.depart-departure-requires-clause-reached
depart-departure-requires-clause-reached c =
    let at = c.requires.kept in
    record { there = at.at; leads = at.leads; stands_there = at.stands; may = at.may }

pub arrive-arrived-requires-clause-leads : goal.arrive-arrived-requires-clause-leads
arrive-arrived-requires-clause-leads c =
    let next = c.requires.leads in
    record { before = next.before; leads = next.leads; stands_before = c.depart-departure.ensures next.before next.leads; lawful = next.lawful; may = next.may }
