use Rattle.std.proofs.Common.{ap, length, arith, below_more}
use Rattle.std.proofs.lemmas.Grind.{common_steps}
use Rattle.call_state.specs.SnapshotParts.{snapshot_of}
use Rattle.call_state.proofs.PossibleLemmas.{most_cars-le}
use Rattle.call_state.proofs.ClearGroups.{groups-few}
use Rattle.call_state.proofs.snapshots.SnapshotParts.first_aboard_fault.Goals as goal

pub overflow_cast-result : goal.overflow_cast-result
overflow_cast-result c =
    let s = snapshot_of c.args.self.now in
    let few = groups-few s.building s.moment s.states s.aboard c.loop-k.k c.cars.ensures.building
    (omega arith) c.requires.group_cars c.loop-k.invariant.clear in
    omega (arith, few)

pub overflow_add-result : goal.overflow_add-result
overflow_add-result c =
    let s = snapshot_of c.args.self.now in
    let few = groups-few s.building s.moment s.states s.aboard c.loop-k.k c.cars.ensures.building
    (omega arith) c.requires.group_cars c.loop-k.invariant.clear in
    let high = c.cars.ensures.building.cars_high in
    let most = most_cars-le s.building.version in
    let long = ap length c.cars.ensures.value in
    omega (arith, few, high, most, long)

pub loop-k-preserved : goal.loop-k-preserved
loop-k-preserved c = record {
  same = grind (arith, common_steps);
  clear = below_more _ _ c.loop-k.invariant.clear (grind (arith, common_steps));
}

pub returns-clause-few : goal.returns-clause-few
returns-clause-few c =
    let s = snapshot_of c.args.self.now in
    groups-few s.building s.moment s.states s.aboard (length s.aboard) c.cars.ensures.building (omega arith) c.requires.group_cars
    (λ k below. c.loop-k.invariant.clear k (omega arith))
