use Rattle.std.proofs.Common.{refl, subst}
use Rattle.elevator_model.specs.Plans.{IsFeasiblePlan}
use Rattle.elevator_model.specs.Snapshot.{IsAccepted}
use Rattle.search_model.specs.Advancing.{World}
use Rattle.day_laws.proofs.NoneLost.{opening-stands}
use Rattle.day_audit.proofs.logs.LogProgress.opening.Goals as goal

pub returns : goal.returns
returns c =
    let same = c.in_ok-world.ensures.world in
    let accepted = subst (λ (w : World). IsAccepted w.snapshot) same c.snapshot.ensures.accepted in
    let feasible = subst (λ (w : World). IsFeasiblePlan w.snapshot w.plan) same c.in_ok-world.ensures.feasible in
    record { world = same; accepted = refl; refused = refl; unsolved = refl; standing = opening-stands c.args.opening accepted c.requires feasible }
