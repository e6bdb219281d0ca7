use Rattle.search_model.specs.Sums.{rounded_up}
use Rattle.search_tree.specs.Sheets.{sum_of_sheet}
use Rattle.pricing_rounds.proofs.RoundLemmas.{ok_both}
use Rattle.node_search.proofs.EnoughLaws.{enough_solved}
use Rattle.node_search.proofs.found.find_plan.Goals as goal

pub returns-clause-enough : goal.returns-clause-enough
returns-clause-enough g c going rounds most_tours =
    let sheet = c.args.sheet in
    let limits = c.args.limits in
    ok_both c.find_at.result _ _ _
    (λ f answer untold. enough_solved sheet.prices (rounded_up (sum_of_sheet sheet))
    c.args.snapshot.now limits.rounds limits.most_tours f.stated.plan f.stated.cost f.stated.bound f.tree.twigs f.turns f.why
    c.now-moment.ensures.accepted rounds most_tours untold answer) c.find_at.ensures.answer (c.find_at.ensures.goes_on going)
