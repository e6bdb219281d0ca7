use Rattle.std.proofs.Common.{◌<◌, ℕ, ap, subst, arith, length}
use Rattle.elevator_model.specs.Snapshot.{Snapshot, IsAccepted, car_count}
use Rattle.partial_tours.proofs.Prefixes.{moves_few}
use Rattle.pricing_search.proofs.found.BestMoves.take.Goals as goal

pub push_reserved-requires : goal.push_reserved-requires
push_reserved-requires c =
    let t = c.args.prefix.now in
    let ok = subst (λ (s : Snapshot). IsAccepted s) (ap (λ (l : _). l.snapshot) c.layout.ensures) c.snapshot-accepted.ensures.accepted in
    let below = subst (λ (n : ℕ). n < car_count t.snapshot) c.car-car.ensures.value c.car-car.ensures.car in
    let few = moves_few t.snapshot t.car t.moves ok below c.moves-next-items.ensures.lawful in
    let same = ap length c.moves-next-items.ensures.value in
    let len = c.loop-next.invariant.len in
    let room = c.loop-next.invariant.room in
    let b = c.loop-next-test.true in
    omega (arith, few, same, len, room, b)
