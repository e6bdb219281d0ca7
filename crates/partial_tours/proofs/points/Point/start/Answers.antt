use Rattle.std.proofs.Common.{◌<◌, ◌∙◌, ◌&&◌, ℕ, true, refl, ap, sym, subst, arith}
use Rattle.elevator_model.specs.declared.CarSpec.{CarSpec}
use Rattle.elevator_model.specs.Snapshot.{Snapshot, car_count, spec_of}
use Rattle.elevator_model.specs.Tours.{start_of, persons_where}
use Rattle.tour_rules.specs.Places.{Tracks}
use Rattle.partial_tours.proofs.Advance.{aboard_first, tracks_start}
use Rattle.partial_tours.proofs.points.Point.start.Goals as goal

pub overflow_sub-result : goal.overflow_sub-result
overflow_sub-result c =
    let s = c.snapshot-snapshot.result.now in
    let car = c.car-car.result in
    let aboard = c.persons_carried-aboard.ensures.value (start_of s car) c.at_start-place.ensures in
    let all = aboard_first s car in
    let accepted = c.spec.ensures.accepted in
    let fits = (accepted.placed car
    (subst (λ (n : ℕ). n < car_count s) (sym c.car-car.ensures.value)
    (subst (λ (t : Snapshot). c.args.layout.now.car < car_count t) (sym c.snapshot-snapshot.ensures.value) c.car-car.ensures.car))).capacity in
    let spec = ap (λ (x : CarSpec). x.capacity) c.spec.ensures.value in
    omega (arith, aboard, all, fits, spec)

pub returns : goal.returns
returns c =
    let s = c.args.layout.now.snapshot in
    let car = c.args.layout.now.car in
    let same_s = c.snapshot-snapshot.ensures.value in
    let same_c = c.car-car.ensures.value in
    let place = c.at_start-place.result in
    let tracks : Tracks s car place (start_of s car) =
    subst (λ (t : Snapshot). Tracks t car place (start_of t car)) same_s
    (subst (λ (n : ℕ). Tracks c.snapshot-snapshot.result.now n place (start_of c.snapshot-snapshot.result.now n)) same_c c.at_start-place.ensures) in
    let aboard = c.persons_carried-aboard.ensures.value (start_of c.snapshot-snapshot.result.now c.car-car.result) c.at_start-place.ensures in
    let moved = ap (λ (n : ℕ). persons_where c.snapshot-snapshot.result.now (λ r. (start_of c.snapshot-snapshot.result.now n).carried r && true)) same_c
    ∙ ap (λ (t : Snapshot). persons_where t (λ r. (start_of t car).carried r && true)) same_s in
    let spec = ap (λ (x : CarSpec). x.capacity)
    (c.spec.ensures.value ∙ ap (spec_of c.snapshot-snapshot.result.now) same_c ∙ ap (λ (t : Snapshot). spec_of t car) same_s) in
    let within = (c.spec.ensures.accepted.placed c.car-car.result
    (subst (λ (n : ℕ). n < car_count c.snapshot-snapshot.result.now) (sym same_c)
    (subst (λ (t : Snapshot). car < car_count t) (sym same_s) c.car-car.ensures.car))).capacity in
    let few = aboard_first c.snapshot-snapshot.result.now c.car-car.result in
    let held = ap (λ (x : CarSpec). x.capacity) c.spec.ensures.value in
    tracks_start s car _ tracks tracks.begun refl refl refl
    (omega (arith, aboard, moved, spec, held, few, within)) c.possible.ensures c.empty.ensures c.destinations.ensures
