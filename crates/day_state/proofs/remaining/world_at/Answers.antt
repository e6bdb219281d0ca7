use Rattle.std.proofs.Common.{◌≡◌, ◌∙◌, List, sym, ap, subst}
use Rattle.elevator_model.specs.declared.Stop.{Stop}
use Rattle.elevator_model.specs.Snapshot.{Snapshot, IsAccepted}
use Rattle.elevator_model.specs.Plans.{IsFeasiblePlan}
use Rattle.search_model.specs.Advancing.{World, advanced}
use Rattle.day_state.proofs.AdvanceLaws.{advance_law}
use Rattle.day_state.proofs.remaining.world_at.Goals as goal

pub plan_at-requires-clause-within : goal.plan_at-requires-clause-within
plan_at-requires-clause-within c = λ car one e. (c.requires.reached.each car one e).within

pub of_accepted-requires : goal.of_accepted-requires
of_accepted-requires c =
    subst IsAccepted (sym c.in_ok-parts.ensures)
    (advance_law c.args.world.now c.args.t c.plan_at.ensures.accepted c.requires.feasible c.requires.later c.requires.early).accepted

pub returns-clause-feasible : goal.returns-clause-feasible
returns-clause-feasible c =
    let w = c.args.world.now in
    let later : World = advanced w c.args.t in
    let made : Snapshot → List (List Stop) → World = λ s plan. record { snapshot = s; plan = plan } in
    let snapshot = c.in_ok-snapshot.ensures ∙ c.in_ok-parts.ensures in
    let plan = c.in_ok-plan.ensures.plan c.args.t c.requires.reached in
    let is : c.of_parts.result ≡ later = c.of_parts.ensures ∙ ap (λ (s : Snapshot). made s c.in_ok-plan.plan) snapshot ∙ ap (made later.snapshot) plan in
    subst (λ (x : World). IsFeasiblePlan x.snapshot x.plan) (sym is)
    (advance_law w c.args.t c.plan_at.ensures.accepted c.requires.feasible c.requires.later c.requires.early).feasible
