use Rattle.std.proofs.Common.{◌≡◌, sym, subst}
use Rattle.elevator_model.specs.Building.{IsBuilding}
use Rattle.elevator_model.specs.Snapshot.{Snapshot, IsAccepted}
use Rattle.call_state.specs.SnapshotParts.{AreSnapshotParts}
use Rattle.search_model.specs.Cases.{IsCase}
use Rattle.case_maker.proofs.AcceptedCases.{IsAccepted-case, AreSnapshotParts-case, snapshot_with, snapshot_with-case, IsCase-from}
use Rattle.case_maker.proofs.RefusalLemmas.{refused-memory, handed-on}
use Rattle.case_maker.proofs.make.Goals as goal

pub build-requires : goal.build-requires
build-requires c =
    let building = c.in_ok-building.building in
    let same = snapshot_with-case building c.in_ok-states.states.items c.new.result.items c.in_ok-calls.calls.items building.travel c.args.number
    c.from_number-draws.result.state c.states_of.new.draws.state c.args.floors c.args.cars c.args.calls c.from_number-draws.ensures
    c.in_ok-building.ensures.value c.in_ok-states.ensures.states c.in_ok-states.ensures.drawn c.new.ensures.items c.in_ok-calls.ensures in
    subst AreSnapshotParts (sym same) (AreSnapshotParts-case building.travel c.args.number c.args.floors c.args.cars c.args.calls)

pub faultless-requires : goal.faultless-requires
faultless-requires c =
    let building = c.in_ok-building.building in
    let states = c.in_ok-states.states.items in
    let groups = c.new.result.items in
    let made = c.in_ok-calls.calls.items in
    let same = snapshot_with-case building states groups made building.travel c.args.number c.from_number-draws.result.state c.states_of.new.draws.state
    c.args.floors c.args.cars c.args.calls c.from_number-draws.ensures c.in_ok-building.ensures.value c.in_ok-states.ensures.states
    c.in_ok-states.ensures.drawn c.new.ensures.items c.in_ok-calls.ensures in
    let good = subst IsBuilding c.in_ok-building.ensures.value c.in_ok-building.ensures.valid in
    let accepted = IsAccepted-case building.travel c.args.number c.args.floors c.args.cars c.args.calls c.requires.floors_low c.requires.cars_low
    c.requires.calls_high good in
    refused-memory (IsAccepted (snapshot_with building states groups made)) c.build.result (subst IsAccepted (sym same) accepted) c.build.ensures.refused

pub returns-clause-case : goal.returns-clause-case
returns-clause-case c =
    let building = c.in_ok-building.building in
    let states = c.in_ok-states.states.items in
    let groups = c.new.result.items in
    let made = c.in_ok-calls.calls.items in
    let same = snapshot_with-case building states groups made building.travel c.args.number c.from_number-draws.result.state c.states_of.new.draws.state
    c.args.floors c.args.cars c.args.calls c.from_number-draws.ensures c.in_ok-building.ensures.value c.in_ok-states.ensures.states
    c.in_ok-states.ensures.drawn c.new.ensures.items c.in_ok-calls.ensures in
    handed-on c.build.result c.faultless.result (λ (s : Snapshot). s ≡ snapshot_with building states groups made)
    (IsCase c.args.number c.args.floors c.args.cars c.args.calls)
    (IsCase-from building states groups made c.args.number c.args.floors c.args.cars c.args.calls same c.in_ok-building.ensures.travel)
    c.faultless.ensures.value c.build.ensures.value
