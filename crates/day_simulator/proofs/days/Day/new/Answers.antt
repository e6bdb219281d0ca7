use Rattle.std.proofs.Common.{List, sym, subst}
use Rattle.elevator_model.specs.Snapshot.{IsAccepted}
use Rattle.elevator_model.specs.Plans.{IsFeasiblePlan}
use Rattle.search_model.specs.Advancing.{World}
use Rattle.search_model.specs.Days.{opening_world}
use Rattle.day_simulator.specs.declared.logged.LoggedCall.{LoggedCall}
use Rattle.day_simulator.specs.Logged.{day_calls}
use Rattle.day_laws.specs.Standing.{IsStanding}
use Rattle.day_laws.proofs.NoneLost.{opening-stands}
use Rattle.day_simulator.proofs.days.Day.new.Goals as goal

pub invariant_of-result : goal.invariant_of-result
invariant_of-result c =
    let s = c.args.opening in
    let same = c.in_ok-world.ensures.world in
    let accepted = subst (λ (w : World). IsAccepted w.snapshot) same c.snapshot.ensures.accepted in
    let feasible = subst (λ (w : World). IsFeasiblePlan w.snapshot w.plan) same c.in_ok-world.ensures.feasible in
    subst (λ (w : World). IsStanding (record { world = w; refused = 0; unsolved = 0; calls = day_calls c.new.result.items })) (sym same)
    (subst (λ (xs : List LoggedCall). IsStanding (record { world = opening_world s; refused = 0; unsolved = 0; calls = day_calls xs }))
    (sym c.new.ensures.items) (opening-stands s accepted c.requires feasible))
