use Rattle.pricing_rounds.proofs.RoundLemmas.{ok_both}
use Rattle.root_turns.proofs.AnswerLaws.{one_task}
use Rattle.root_turns.proofs.pricing.price_turn.Goals as goal

pub returns-clause-answers : goal.returns-clause-answers
returns-clause-answers g c =
    let task = c.args.task in
    ok_both c.price_nodes.result _ _ _
    (λ answers count right.
    one_task (g.P.Pricer.snapshot c.args.pricer.now) c.args.limits.most_tours task _ answers.items right c.requires.cars count c.requires.task)
    c.price_nodes.ensures.count c.price_nodes.ensures.answers

pub price_nodes-requires-clause-accepted : goal.price_nodes-requires-clause-accepted
price_nodes-requires-clause-accepted g c κs within = c.requires.accepted

pub price_nodes-requires-clause-desks : goal.price_nodes-requires-clause-desks
price_nodes-requires-clause-desks g c κs within = c.requires.desks
