use Rattle.std.proofs.Common.{ℕ, length, sym, ap, subst, ◌∙◌}
use Rattle.elevator_model.specs.Snapshot.{call_count}
use Rattle.search_tree.specs.Standing.{bound_of_sheet}
use Rattle.node_search.specs.Found.{IsAnswerOf, IsReasonOf}
use Rattle.node_search.proofs.ReasonLaws.{last_state}
use Rattle.node_search.proofs.SearchEnd.{answer_found, bound_natural, found_ended, if_ok, reason_is}
use Rattle.node_search.proofs.found.end.Goals as goal

pub answer-requires : goal.answer-requires
answer-requires g c =
    let s = g.P.Pricer.snapshot c.args.pricer.now in
    let x = c.args.begun.search in
    let start = c.requires.ended.0 in
    let ended = c.requires.ended.2 in
    bound_natural s c.args.limits.most_tours start c.args.begun.turns.items x.tree.branches x.best ended.begun.searching.under_way.best ended.begun.above
    c.requires.ended.1

pub returns-clause-found : goal.returns-clause-found
returns-clause-found g c =
    let s = g.P.Pricer.snapshot c.args.pricer.now in
    let x = c.args.begun.search in
    let turns = c.args.begun.turns.items in
    let why = c.reason-why.result in
    let ended = c.requires.ended.2 in
    let same = ended.begun.searching.under_way.best.snapshot in
    let reason : IsReasonOf s c.args.limits.most_tours x why =
    subst (λ (n : ℕ). IsReasonOf s n x why) c.most_tours.ensures.value
    (c.reason-why.ensures s (sym (ap length c.calls-calls.ensures.value ∙ ap call_count (c.snapshot.ensures.value ∙ same)))) in
    if_ok c.answer.result (IsAnswerOf x.tree.branches x.best turns why) _
    (λ f is start ended'. answer_found start.prices
    (bound_of_sheet start) s c.args.limits.rounds c.args.limits.most_tours x.tree.branches x.best turns why f is
    (found_ended s c.args.limits.rounds c.args.limits.most_tours start turns x ended' f.stated.bound why is.bound
    (reason_is s c.args.limits.rounds c.args.limits.most_tours start turns x ended' f.stated.bound why is.bound reason))) c.answer.ensures.answer

pub returns-clause-why : goal.returns-clause-why
returns-clause-why g c =
    let s = g.P.Pricer.snapshot c.args.pricer.now in
    let x = c.args.begun.search in
    let turns = c.args.begun.turns.items in
    let why = c.reason-why.result in
    let same = c.requires.ended.2.begun.searching.under_way.best.snapshot in
    let reason : IsReasonOf s c.args.limits.most_tours x why =
    subst (λ (n : ℕ). IsReasonOf s n x why) c.most_tours.ensures.value
    (c.reason-why.ensures s (sym (ap length c.calls-calls.ensures.value ∙ ap call_count (c.snapshot.ensures.value ∙ same)))) in
    if_ok c.answer.result (IsAnswerOf x.tree.branches x.best turns why) _
    (λ f is start ended. last_state s c.args.limits.rounds c.args.limits.most_tours start turns x why f ended is reason) c.answer.ensures.answer
