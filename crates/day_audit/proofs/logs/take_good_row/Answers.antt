use Rattle.std.proofs.Common.{ℕ, sym, ◌∙◌, subst, arith}
use Rattle.std.specs.Prelude.{IsTrue}
use Rattle.elevator_model.specs.Plans.{IsFeasiblePlan}
use Rattle.search_model.specs.Advancing.{World, advanced}
use Rattle.search_model.specs.Days.{call_of_row, is_row}
use Rattle.day_state.specs.Openings.{IsNewCall}
use Rattle.lift_text.specs.LineReader.{text}
use Rattle.day_text.specs.Records.{row_as_said}
use Rattle.day_laws.proofs.RowFaults.{new-call}
use Rattle.day_audit.proofs.ProgressLemmas.{good_accepted, good_refused, number_is}
use Rattle.day_audit.proofs.logs.take_good_row.Goals as goal

-- what a row brings asks of the world what stands of the day
pub world_of_row-requires-clause-feasible : goal.world_of_row-requires-clause-feasible
world_of_row-requires-clause-feasible g c =
    let at = c.requires.day.1 in
    subst (λ (w : World). IsFeasiblePlan w.snapshot w.plan) (sym at.world) at.standing.feasible

pub world_of_row-requires-clause-fresh : goal.world_of_row-requires-clause-fresh
world_of_row-requires-clause-fresh g c =
    let day = c.requires.day.0 in
    let at = c.requires.day.1 in
    let row = row_as_said c.args.row.now in
    let good = subst (λ (w : World). IsTrue (is_row w.snapshot.building row)) at.world c.requires.good in
    subst (λ (w : World). IsNewCall (advanced w row.time).snapshot (call_of_row c.number-number.result row)) (sym at.world)
    (subst (λ (n : ℕ). IsNewCall (advanced day.world row.time).snapshot (call_of_row n row))
    (sym (c.number-number.ensures ∙ number_is c.args.progress.now day at)) (new-call day row at.standing good))

pub returns-in-Ok-Ok-clause-taken : goal.returns-in-Ok-Ok-clause-taken
returns-in-Ok-Ok-clause-taken g c = λ day at.
    (let left = g.S.Source.left in
    let happened = c.world_of_row.new.events.items in
    good_accepted c.args.progress.now day
    (row_as_said c.args.row.now) c.number-number.result at c.number-number.ensures c.accept_next.new.progress happened c.as_slice-events.result.now
    c.in-Ok-Ok.world (text left c.args.lines.now)
    (text left c.accept_next.new.lines) c.accept_next.result c.requires.number c.as_slice-events.ensures.value
    (rw c.in-Ok-Ok.field-0-is at c.in-Ok-Ok.ensures) c.accept_next.ensures.accepted c.accept_next.ensures.takes)

pub returns-in-Ok-Err-clause-taken : goal.returns-in-Ok-Err-clause-taken
returns-in-Ok-Err-clause-taken g c = λ day at.
    (let left = g.S.Source.left in
    good_refused c.args.progress.now day
    (row_as_said c.args.row.now) c.number-number.result at c.number-number.ensures c.refuse_next.new.progress c.world_of_row.new.events.items
    c.in-Ok-Err.fault (text left c.args.lines.now) (text left c.refuse_next.new.lines) c.refuse_next.result c.requires.number
    (rw c.in-Ok-Err.field-0-is at c.in-Ok-Err.ensures) c.refuse_next.ensures.takes c.refuse_next.ensures.progress)

pub accept_next-requires-clause-few : goal.accept_next-requires-clause-few
accept_next-requires-clause-few g c =
    let at = c.requires.day.1 in
    omega (arith, at.unsolved, at.accepted, at.standing.unsolved)
