use Rattle.std.proofs.Common.{refl, arith}
use Rattle.partial_tours.specs.Courses.{reached}
use Rattle.partial_tours.proofs.Follow.{leave_leads_to, stands_in}
use Rattle.partial_tours.proofs.Advance.{off_fits, tracks_leave}
use Rattle.partial_tours.proofs.points.Point.after_leave.Goals as goal

pub ending-ending-requires : goal.ending-ending-requires
ending-ending-requires c =
    let s = c.args.layout.now.snapshot in
    let car = c.args.layout.now.car in
    let l = c.requires.lawful in
    let at = leave_leads_to s car l.0 c.args.floor l.1 l.3 in
    let within = stands_in s car (reached s car l.0) c.args.floor at.1 in
    let high = c.snapshot-accepted.ensures.accepted.building.floors_high in
    omega (arith, within, high)

pub with_stop-requires : goal.with_stop-requires
with_stop-requires c =
    let s = c.args.layout.now.snapshot in
    let car = c.args.layout.now.car in
    let l = c.requires.lawful in
    let at = leave_leads_to s car l.0 c.args.floor l.1 l.3 in
    let within = stands_in s car (reached s car l.0) c.args.floor at.1 in
    let high = c.snapshot-accepted.ensures.accepted.building.floors_high in
    omega (arith, within, high)

pub overflow_add-result : goal.overflow_add-result
overflow_add-result c =
    let s = c.args.layout.now.snapshot in
    let car = c.args.layout.now.car in
    let l = c.requires.lawful in
    let fits = off_fits s car c.args.self.now l.0 c.args.floor l.2 in
    let off = c.requires.off l.0 l.2 in
    let high = (c.snapshot-accepted.ensures.accepted.building.cars car c.car-car.ensures.car).capacity_high in
    omega (arith, fits, off, high)

pub invariant_of-result : goal.invariant_of-result
invariant_of-result c =
    let s = c.args.layout.now.snapshot in
    let car = c.args.layout.now.car in
    let l = c.requires.lawful in
    let at = leave_leads_to s car l.0 c.args.floor l.1 l.3 in
    let within = stands_in s car (reached s car l.0) c.args.floor at.1 in
    let high = c.snapshot-accepted.ensures.accepted.building.floors_high in
    let fits = off_fits s car c.args.self.now l.0 c.args.floor l.2 in
    let off = c.requires.off l.0 l.2 in
    let most = (c.snapshot-accepted.ensures.accepted.building.cars car c.car-car.ensures.car).capacity_high in
    let floor = c.with_stop.ensures.floor in
    record { near = omega (arith, within, high, floor); small = omega (arith, fits, off, most) }

pub returns : goal.returns
returns c = λ x y t h.
    let s = c.args.layout.now.snapshot in
    let car = c.args.layout.now.car in
    tracks_leave s car c.args.self.now _ x y c.args.floor c.args.persons_off t h (c.requires.off x t) refl
    (c.with_stop.ensures.tracks s car (reached s car x) t.place c.ending-ending.ensures) (record {
      ended = refl;
      useful = c.is_useful_at.ensures;
      last = refl;
      waiting = c.minus.ensures;
      passed = c.empty.ensures;
      bound_for = c.without.ensures;
    })
