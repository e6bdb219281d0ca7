use Rattle.pricing_bound.proofs.parts.riding_part.Goals as goal

pub straight_cost_of_call-requires-clause-same : goal.straight_cost_of_call-requires-clause-same
straight_cost_of_call-requires-clause-same c = c.requires.same

pub straight_cost_of_call-requires-clause-call : goal.straight_cost_of_call-requires-clause-call
straight_cost_of_call-requires-clause-call c = c.requires.call

pub straight_cost_of_call-requires-clause-boarded : goal.straight_cost_of_call-requires-clause-boarded
straight_cost_of_call-requires-clause-boarded c = c.requires.boarded
