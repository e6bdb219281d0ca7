use Rattle.std.proofs.Common.{refl, sym, subst, ap}
use Rattle.elevator_model.specs.Plans.{IsFeasiblePlan}
use Rattle.search_model.specs.Advancing.{World}
use Rattle.day_text.specs.Records.{row_as_said}
use Rattle.day_text.specs.LogTexts.{accepted_text}
use Rattle.day_simulator.proofs.RowLemmas.{taken-row}
use Rattle.day_simulator.proofs.days.Day.accept.Goals as goal

pub set_plan-requires : goal.set_plan-requires
set_plan-requires g c =
    let w = c.args.world.now in
    let row = c.in-Ok.ensures.row in
    (c.requires.sound w.snapshot w.plan c.in-Ok.stated row.proof row.right_plan).feasible

pub take-requires-clause-feasible : goal.take-requires-clause-feasible
take-requires-clause-feasible g c =
    let w = c.args.world.now in
    let row = c.in-Ok.ensures.row in
    subst (λ (x : World). IsFeasiblePlan x.snapshot x.plan) (sym c.set_plan.ensures)
    (c.requires.sound w.snapshot w.plan c.in-Ok.stated row.proof row.right_plan).feasible

pub returns-in-Ok-take-clause-row : goal.returns-in-Ok-take-clause-row
returns-in-Ok-take-clause-row g c =
    let w = c.args.world.now in
    let events = c.args.events.now in
    let stated = c.in-Ok.stated in
    let row = c.in-Ok.ensures.row in
    taken-row (g.P.Planner.right c.args.planner.now) c.args.self.now (row_as_said c.args.row.now) c.take.new.self c.args.out.now.items
    c.write_accepted.new.out.items (accepted_text w.snapshot c.number.result events stated row.proof) w.snapshot w.plan c.number.result events
    c.set_plan.new.self.plan stated row.proof c.requires.taken c.in-Ok-take.ensures.taken (ap (λ (x : World). x.plan) c.set_plan.ensures) c.requires.world
    c.requires.held c.number.ensures c.requires.events refl row.text row.right_plan
