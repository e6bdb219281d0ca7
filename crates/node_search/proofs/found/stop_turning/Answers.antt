use Rattle.search_model.specs.declared.StopReason.TheVariants.{Told}
use Rattle.search_model.specs.Solving.{IsToldAnswer}
use Rattle.search_tree.specs.Standing.{bound_of_sheet}
use Rattle.node_search.specs.Found.{IsAnswerOf}
use Rattle.node_search.proofs.SearchStart.{turns_above}
use Rattle.node_search.proofs.SearchEnd.{answer_is, bound_natural, if_ok}
use Rattle.node_search.proofs.ToldLaws.{told_turning}
use Rattle.node_search.proofs.found.stop_turning.Goals as goal

pub answer-requires : goal.answer-requires
answer-requires g c =
    let s = g.P.Pricer.snapshot c.args.pricer.now in
    let root = c.args.root in
    let start = c.requires.turned.0 in
    let far = c.requires.turned.2 in
    bound_natural s c.args.limits.most_tours start root.series.turns.items root.tree.branches root.best far.stands.best
    (turns_above s c.args.limits.rounds c.args.limits.most_tours start root far c.requires.accepted.building.cars_low) c.requires.turned.1

pub returns-clause-found : goal.returns-clause-found
returns-clause-found g c =
    let s = g.P.Pricer.snapshot c.args.pricer.now in
    let root = c.args.root in
    if_ok c.answer.result (IsAnswerOf root.tree.branches root.best root.series.turns.items Told) _
    (λ f is start far. answer_is
    (λ plan cost bound tree turns _.
    IsToldAnswer start.prices (bound_of_sheet start) s c.args.limits.rounds c.args.limits.most_tours plan cost bound tree turns)
    root.tree.branches root.best root.series.turns.items Told f is
    (told_turning s c.args.limits.rounds c.args.limits.most_tours start root f.stated.bound c.requires.accepted.building.cars_low far is.bound))
    c.answer.ensures.answer

pub returns-clause-why : goal.returns-clause-why
returns-clause-why g c =
    let root = c.args.root in
    if_ok c.answer.result (IsAnswerOf root.tree.branches root.best root.series.turns.items Told) _ (λ f is. is.why_is) c.answer.ensures.answer
