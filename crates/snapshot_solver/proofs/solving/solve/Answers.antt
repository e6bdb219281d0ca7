use Rattle.std.proofs.Common.{◌≡◌}
use Rattle.std.specs.Prelude.{◌⊎◌}
use Rattle.search_model.specs.declared.StopReason.TheVariants.{Told}
use Rattle.search_model.specs.Solving.{IsSolveAnswer}
use Rattle.node_search.specs.declared.found.Found.{Found}
use Rattle.snapshot_solver.specs.Reasons.{HasReasonOf}
use Rattle.snapshot_solver.proofs.SolveLaws.{if_both, named_untold}
use Rattle.snapshot_solver.proofs.solving.solve.Goals as goal

pub returns-clause-answer : goal.returns-clause-answer
returns-clause-answer g c = c.solve_from.ensures.answer tt

pub returns-clause-why : goal.returns-clause-why
returns-clause-why g c =
    let s = c.args.snapshot.now in
    let limits = c.args.limits in
    if_both (λ (f : Found). (f.why ≡ Told) ⊎ HasReasonOf s limits.rounds limits.most_tours f)
    (λ (f : Found). IsSolveAnswer s limits.rounds limits.most_tours f.stated.plan f.stated.cost f.stated.bound f.tree.twigs f.turns f.why)
    (HasReasonOf s limits.rounds limits.most_tours) (named_untold s limits.rounds limits.most_tours) c.solve_from.result c.solve_from.ensures.why
    (c.solve_from.ensures.answer tt)

pub returns-clause-enough : goal.returns-clause-enough
returns-clause-enough g c = c.solve_from.ensures.enough tt
