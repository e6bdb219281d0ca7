use Rattle.std.proofs.Common.{◌∙◌, ◌≤◌, ap, subst}
use Rattle.elevator_model.specs.Snapshot.{Snapshot}
use Rattle.search_model.specs.Verdicts.{rounds_enough, tours_enough}
use Rattle.case_commands.specs.MakeOutcome.{status_of}
use Rattle.case_commands.proofs.SolvedCases.{one_case, solved_lines}
use Rattle.case_commands.proofs.making.solved_case.Goals as goal

pub returns-clause-solved : goal.returns-clause-solved
returns-clause-solved g c =
    let f = c.in_ok-found.found in
    solved_lines c.args.options c.in_ok-snapshot.snapshot f.stated.plan f.stated.cost f.stated.bound f.tree.twigs f.turns f.why c.in_ok-snapshot.ensures.case
    c.in_ok-snapshot.ensures.accepted c.in_ok-found.ensures.answer c.status_of.result c.in_ok-text.text.items c.status_of.ensures c.in_ok-text.ensures

pub returns-clause-enough : goal.returns-clause-enough
returns-clause-enough g c = λ s case rounds most_tours.
    let options = c.args.options in
    let same = one_case options.sizes s c.in_ok-snapshot.snapshot case c.in_ok-snapshot.ensures.case in
    c.status_of.ensures
    ∙ ap status_of (c.in_ok-found.ensures.enough (subst (λ (x : Snapshot). rounds_enough x ≤ options.limits.rounds) same rounds)
    (subst (λ (x : Snapshot). tours_enough x ≤ options.limits.most_tours) same most_tours))
