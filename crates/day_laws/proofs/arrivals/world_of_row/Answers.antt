use Rattle.std.proofs.Common.{◌≤◌, ℕ, sym, ap, ◌∙◌, subst, arith}
use Rattle.elevator_model.specs.Snapshot.{Snapshot}
use Rattle.search_model.specs.Advancing.{World, advanced}
use Rattle.day_state.specs.Openings.{IsNewCall}
use Rattle.day_text.specs.Records.{row_as_said}
use Rattle.day_laws.proofs.RowFaults.{brought-fault, brought-unless, brought-world}
use Rattle.day_laws.proofs.arrivals.world_of_row.Goals as goal

pub moved-requires-clause-later : goal.moved-requires-clause-later
moved-requires-clause-later c =
    subst (λ (n : ℕ). n ≤ c.args.row.now.time) (c.now.ensures.value ∙ ap (λ (s : Snapshot). s.moment) c.snapshot.ensures.value)
    (omega (arith, c.if-row-now.false))

pub offer-requires : goal.offer-requires
offer-requires c =
    let there = (advanced c.args.world.now c.args.row.now.time).snapshot in
    subst (λ (w : World). IsNewCall w.snapshot c.call.result) (sym c.in_ok-later.ensures.world) (subst (IsNewCall there) (sym c.call.ensures) c.requires.fresh)

pub returns : goal.returns
returns c =
    let old = c.args.world.now in
    let n = c.args.number in
    let row = row_as_said c.args.row.now in
    let w = c.in_ok-later.later in
    let events = c.moved.new.events.items in
    let moved = c.in_ok-later.ensures.world in
    let there : old.snapshot.moment ≤ row.time =
    subst (λ (n : ℕ). n ≤ row.time) (c.now.ensures.value ∙ ap (λ (s : Snapshot). s.moment) c.snapshot.ensures.value) (omega (arith, c.if-row-now.false)) in
    let fault = c.in_ok-fault.ensures.fault in
    brought-unless old n row events c.in_ok-fault.fault c.offer.new.world c.unless.result c.unless.ensures.world c.unless.ensures.fault
    (brought-fault old n row w c.call.result c.in_ok-fault.fault c.requires.good there moved c.call.ensures (sym fault))
    (λ none. brought-world old n row w c.offer.new.world c.call.result c.args.events.now.items events c.requires.good there moved c.call.ensures
    (sym fault ∙ none) (c.in_ok-fault.ensures.taken none) c.in_ok-fault.ensures.held c.requires.none c.in_ok-later.ensures.events)
