use Rattle.search_model.specs.declared.StopReason.TheVariants.{Told}
use Rattle.search_model.specs.Solving.{IsToldAnswer}
use Rattle.search_tree.specs.Standing.{bound_of_sheet}
use Rattle.node_search.specs.Found.{IsAnswerOf}
use Rattle.node_search.proofs.SearchEnd.{answer_is, bound_natural, if_ok}
use Rattle.node_search.proofs.ToldLaws.{told_rounds}
use Rattle.node_search.proofs.found.stop.Goals as goal

pub answer-requires : goal.answer-requires
answer-requires g c =
    let s = g.P.Pricer.snapshot c.args.pricer.now in
    let x = c.args.begun.search in
    let start = c.requires.begun.0 in
    let begun = c.requires.begun.2 in
    bound_natural s c.args.limits.most_tours start c.args.begun.turns.items x.tree.branches x.best begun.searching.under_way.best begun.above
    c.requires.begun.1

pub returns-clause-found : goal.returns-clause-found
returns-clause-found g c =
    let s = g.P.Pricer.snapshot c.args.pricer.now in
    let x = c.args.begun.search in
    let turns = c.args.begun.turns.items in
    if_ok c.answer.result (IsAnswerOf x.tree.branches x.best turns Told) _
    (λ f is start begun. answer_is
    (λ plan cost bound tree ts _. IsToldAnswer start.prices (bound_of_sheet start) s c.args.limits.rounds c.args.limits.most_tours plan cost bound tree ts)
    x.tree.branches x.best turns Told f is (told_rounds s c.args.limits.rounds c.args.limits.most_tours start turns x f.stated.bound begun is.bound))
    c.answer.ensures.answer

pub returns-clause-why : goal.returns-clause-why
returns-clause-why g c =
    let x = c.args.begun.search in
    if_ok c.answer.result (IsAnswerOf x.tree.branches x.best c.args.begun.turns.items Told) _ (λ f is. is.why_is) c.answer.ensures.answer
