use Rattle.std.proofs.Common.{◌<◌, ℕ, refl, subst, arith}
use Rattle.elevator_model.specs.Snapshot.{IsAccepted, car_count}
use Rattle.car_layout.specs.Layouts.{LaidOut}
use Rattle.partial_tours.specs.Courses.{reached}
use Rattle.pricing_bound.specs.Standing.{placed_reached, course_standing}
use Rattle.pricing_bound.proofs.CarriedLemmas.{carried_boarded}
use Rattle.route_sums.proofs.halting.stand_at.Goals as goal

pub returns-clause-stands : goal.returns-clause-stands
returns-clause-stands c = λ x e.
    let t = c.args.prefix.now in
    let tracks = c.point-point.ensures x e in
    let accepted = subst (λ (l : LaidOut). IsAccepted l.snapshot) c.layout.ensures c.snapshot-accepted.ensures.accepted in
    let car = subst (λ (n : ℕ). n < car_count t.snapshot) c.car-car.ensures.value c.car-car.ensures.car in
    let placed = placed_reached t.snapshot t.car x (course_standing t.snapshot t.car t.moves x accepted car e) in
    let opened = c.opened.ensures.value x e in
    let leaves = c.departs_at.ensures.value x e in
    let settled = c.settled.ensures.value x e in
    let first = c.min.ensures in
    let second = c.min-2.ensures in
    record {
      place = tracks.place;
      bound_for = tracks.bound_for;
      kept = placed.kept;
      floor = placed.floor;
      opened = omega (arith, opened);
      leaves = omega (arith, leaves, first);
      settled = omega (arith, settled, second);
      known = λ j lt h. carried_boarded t.snapshot t.car (reached t.snapshot t.car x) j placed lt h;
      boarded_at = λ j lt h. refl;
    }
