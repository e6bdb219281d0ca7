use Rattle.pricing_bound.proofs.parts.waiting_part.Goals as goal

pub cost_alone-requires-clause-same : goal.cost_alone-requires-clause-same
cost_alone-requires-clause-same c = c.requires.same

pub cost_alone-requires-clause-call : goal.cost_alone-requires-clause-call
cost_alone-requires-clause-call c = c.requires.call
