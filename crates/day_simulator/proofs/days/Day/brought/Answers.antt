use Rattle.std.proofs.Common.{ℕ, sym, ap, subst}
use Rattle.std.specs.Prelude.{IfOk, IsTrue}
use Rattle.search_model.specs.Advancing.{World, advanced}
use Rattle.search_model.specs.Days.{Day, call_of_row, is_row}
use Rattle.day_state.specs.Openings.{IsNewCall}
use Rattle.day_text.specs.Records.{row_as_said}
use Rattle.day_laws.specs.Arrivals.{IsBrought}
use Rattle.day_laws.specs.Standing.{IsStanding, row_number}
use Rattle.day_laws.proofs.RowFaults.{new-call}
use Rattle.day_simulator.proofs.days.Day.brought.Goals as goal

pub world_of_row-requires-clause-feasible : goal.world_of_row-requires-clause-feasible
world_of_row-requires-clause-feasible c = c.self.invariant.feasible

pub world_of_row-requires-clause-good : goal.world_of_row-requires-clause-good
world_of_row-requires-clause-good c =
    subst (λ (w : World). IsTrue (is_row w.snapshot.building (row_as_said c.args.row.now))) (sym (ap (λ (d : Day). d.world) c.self.view_is)) c.requires.good

pub world_of_row-requires-clause-fresh : goal.world_of_row-requires-clause-fresh
world_of_row-requires-clause-fresh c =
    let day = c.args.self.now in
    let row = row_as_said c.args.row.now in
    let next = new-call day row (subst IsStanding c.self.view_is c.self.invariant) c.requires.good in
    subst (λ (w : World). IsNewCall (advanced w row.time).snapshot (call_of_row c.number.result row)) (sym (ap (λ (d : Day). d.world) c.self.view_is))
    (subst (λ (n : ℕ). IsNewCall (advanced day.world row.time).snapshot (call_of_row n row)) (sym c.number.ensures) next)

pub returns : goal.returns
returns c =
    let day = c.args.self.now in
    let row = row_as_said c.args.row.now in
    let events = c.world_of_row.new.events.items in
    let answer = c.world_of_row.result in
    subst (λ (w : World). IfOk answer (IsBrought w (row_number day) row events)) (ap (λ (d : Day). d.world) c.self.view_is)
    (subst (λ (n : ℕ). IfOk answer (IsBrought c.self.inside.world n row events)) c.number.ensures c.world_of_row.ensures)
