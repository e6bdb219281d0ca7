use Rattle.std.proofs.Common.{subst}
use Rattle.elevator_model.specs.Plans.{IsFeasiblePlan}
use Rattle.elevator_model.specs.Snapshot.{Snapshot}
use Rattle.lift_text.specs.LineReader.{text}
use Rattle.day_audit.proofs.ProgressLemmas.{next_accepted, next_found}
use Rattle.day_audit.proofs.logs.accept_next.Goals as goal

pub accept-requires-clause-feasible : goal.accept-requires-clause-feasible
accept-requires-clause-feasible g c =
    subst (λ (s : Snapshot). IsFeasiblePlan s c.in-Ok.printed.plan) c.snapshot.ensures.value c.in-Ok.ensures.proved.feasible

pub returns-in-Ok-clause-takes : goal.returns-in-Ok-clause-takes
returns-in-Ok-clause-takes g c =
    let left = g.S.Source.left in
    next_accepted c.args.progress.now c.accept.new.self c.args.world.now.snapshot c.snapshot.result.now c.number-number.result c.args.events.now
    c.snapshot.ensures.value c.number-number.ensures c.in-Ok.printed (text left c.args.lines.now)
    (text left c.take_accepted.new.lines) c.in-Ok.ensures.proved c.accept.ensures c.in-Ok.ensures.takes

pub returns-in-Err-clause-takes : goal.returns-in-Err-clause-takes
returns-in-Err-clause-takes g c =
    let left = g.S.Source.left in
    next_found c.args.progress.now c.args.progress.now c.args.world.now.snapshot c.snapshot.result.now c.number-number.result c.args.events.now
    c.snapshot.ensures.value c.number-number.ensures c.in-Err.finding (text left c.args.lines.now)
    (text left c.take_accepted.new.lines) c.in-Err.ensures.takes
