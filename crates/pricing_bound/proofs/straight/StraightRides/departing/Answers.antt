use Rattle.std.proofs.Common.{◌≡◌, ◌∙◌, ◌+◌, ◌<◌, ℕ, true, ap, sym, subst, arith}
use Rattle.std.specs.Prelude.{ℤ, ◌+ℤ◌, ◌-ℤ◌}
use Rattle.call_sets.specs.Counting.{has}
use Rattle.elevator_model.specs.Snapshot.{Snapshot, car_count, spec_of}
use Rattle.elevator_model.specs.Travel.{time_between}
use Rattle.partial_tours.specs.Courses.{reached}
use Rattle.partial_tours.specs.PartialTour.{course}
use Rattle.search_model.specs.Prices.{scaled}
use Rattle.pricing_bound.specs.Rates.{aim_at}
use Rattle.pricing_bound.specs.declared.waiting.Waiting.{Waiting}
use Rattle.pricing_bound.specs.Running.{AreEven, StandFor, cost_of_rides, standing_at}
use Rattle.pricing_bound.proofs.CarriedLemmas.{one_course}
use Rattle.pricing_bound.proofs.Late.{departs_after_now}
use Rattle.pricing_bound.proofs.RateLemmas.{stored_paid}
use Rattle.pricing_bound.proofs.SteadyLemmas.{adds_of}
use Rattle.pricing_bound.proofs.RunningLemmas.{aimed_at, aimed_course, departing_size, departing_sums, departs_later, stands_departs_there}
use Rattle.pricing_bound.proofs.straight.StraightRides.departing.Goals as goal

pub returns-then-not-point : goal.returns-then-not-point
returns-then-not-point c = λ x e.
    let it = c.args.self.now in
    let a = aim_at it.rates.now it.car it.allowed it.required in
    let t = c.args.prefix.now in
    let at = c.requires.reached in
    let here = subst (λ (n : ℕ). n < car_count t.snapshot) c.car-car.ensures.value c.car-car.ensures.car in
    let car = aimed_at a t (λ s c. c < car_count s) c.requires.for_it here in
    stands_departs_there a t c.args.sums.now x c.requires.for_it c.snapshot-snapshot.ensures.accepted car e
    (one_course (course t) at.there x (StandFor a c.args.sums.now) at.leads e at.stands_there)

pub returns-then-earliest-ge-LATEST_MOMENT : goal.returns-then-earliest-ge-LATEST_MOMENT
returns-then-earliest-ge-LATEST_MOMENT c = λ x e.
    let it = c.args.self.now in
    let a = aim_at it.rates.now it.car it.allowed it.required in
    let t = c.args.prefix.now in
    let at = c.requires.reached in
    let here = subst (λ (n : ℕ). n < car_count t.snapshot) c.car-car.ensures.value c.car-car.ensures.car in
    let car = aimed_at a t (λ s c. c < car_count s) c.requires.for_it here in
    stands_departs_there a t c.args.sums.now x c.requires.for_it c.snapshot-snapshot.ensures.accepted car e
    (one_course (course t) at.there x (StandFor a c.args.sums.now) at.leads e at.stands_there)

pub waiting_later-waiting-requires-clause-later : goal.waiting_later-waiting-requires-clause-later
waiting_later-waiting-requires-clause-later c =
    let it = c.args.self.now in
    let a = aim_at it.rates.now it.car it.allowed it.required in
    let t = c.args.prefix.now in
    let at = c.requires.reached in
    let here = subst (λ (n : ℕ). n < car_count t.snapshot) c.car-car.ensures.value c.car-car.ensures.car in
    let car = aimed_at a t (λ s c. c < car_count s) c.requires.for_it here in
    let later = departs_later a t c.args.sums.now at.there c.requires.for_it c.snapshot-snapshot.ensures.accepted car at.leads at.stands_there in
    let departs = c.departs_at.ensures.value at.there at.leads in
    omega (arith, later, departs)

pub cost_of_carried-carried-requires-clause-late : goal.cost_of_carried-carried-requires-clause-late
cost_of_carried-carried-requires-clause-late c =
    let it = c.args.self.now in
    let a = aim_at it.rates.now it.car it.allowed it.required in
    let t = c.args.prefix.now in
    let at = c.requires.reached in
    let here = subst (λ (n : ℕ). n < car_count t.snapshot) c.car-car.ensures.value c.car-car.ensures.car in
    let car = aimed_at a t (λ s c. c < car_count s) c.requires.for_it here in
    let leads = aimed_course a t t.moves c.requires.for_it ∙ at.leads in
    let begun = sym (c.point-point.ensures at.there at.leads).place.begun ∙ c.if-not-point.false in
    let late = departs_after_now a.snapshot a.car t.moves at.there c.snapshot-snapshot.ensures.accepted car leads
    (aimed_at a t (λ s c. (reached s c at.there).begun ≡ true) c.requires.for_it begun) in
    let departs = aimed_at a t (λ s c'. c.departs_at.result ≡ (reached s c' at.there).leaves) c.requires.for_it
    (c.departs_at.ensures.value at.there at.leads) in
    let opening = c.opening_of.ensures.value ∙ ap (λ (s : Snapshot). (spec_of s c.car-car.result).opening) c.snapshot-snapshot.ensures.value
    ∙ ap (λ (k : ℕ). (spec_of a.snapshot k).opening) c.car-car.ensures.value in
    omega (arith, late, departs, opening)

pub returns : goal.returns
returns c = λ x e.
    let it = c.args.self.now in
    let a = aim_at it.rates.now it.car it.allowed it.required in
    let t = c.args.prefix.now in
    let at = c.requires.reached in
    let aims = c.requires.for_it in
    let known = c.snapshot-snapshot.ensures in
    let stand = one_course (course t) at.there x (StandFor a c.args.sums.now) at.leads e at.stands_there in
    let here = subst (λ (n : ℕ). n < car_count t.snapshot) c.car-car.ensures.value c.car-car.ensures.car in
    let car = aimed_at a t (λ s c. c < car_count s) aims here in
    let begun = sym (c.point-point.ensures x e).place.begun ∙ c.if-not-point.false in
    let opened = c.departs_at.result + c.opening_of.result in
    let earliest = opened + c.nearest.result in
    let opening = c.opening_of.ensures.value ∙ ap (λ (s : Snapshot). (spec_of s c.car-car.result).opening) c.snapshot-snapshot.ensures.value
    ∙ ap (λ (k : ℕ). (spec_of a.snapshot k).opening) (c.car-car.ensures.value ∙ sym aims.car) in
    let departs = c.departs_at.ensures.value x e in
    let floor = c.floor-floor.ensures.value x e in
    let from = sym (aimed_at a t (λ s c'. c.floor-floor.result ≡ (reached s c' x).floor) aims floor) in
    let floors = known.accepted.building.travel_floors in
    let later = c.waiting_later-waiting.ensures in
    let waits = c.sums_of.ensures.waiting in
    let same = stored_paid c.args.sums.now.paid stand.paid_small in
    let waiting = adds_of a earliest c.args.sums.now.waiting.counted c.waiting_later-waiting.result later.are later.moment later.counted in
    let bound = c.sums_of.ensures.bound
    ∙ ap (λ (z : ℤ). ((scaled c.settled.result +ℤ scaled c.cost_of_carried-carried.result) -ℤ z) +ℤ c.waiting_later-waiting.result.sum) same in
    let bounded = c.settled.ensures.bounded in
    let light = c.cost_of_carried-carried.ensures.small in
    departing_sums a t x c.args.sums.now c.sums_of.result c.settled.result c.cost_of_carried-carried.result opened earliest c.waiting_later-waiting.result.sum
    aims known.accepted car e stand begun (omega (arith, departs, opening))
    (λ g lt apart. let near = c.nearest.ensures.nearest.least g (omega (arith, lt, floors)) (λ at_it. apart (at_it ∙ sym from)) in
    let way = ap (λ (f : ℕ). time_between a.snapshot.building.travel f g) from in omega (arith, near, way)) (omega arith) (c.settled.ensures.value x e)
    (c.cost_of_carried-carried.ensures.cost x e ∙ ap (λ (f : ℕ). cost_of_rides t.snapshot (standing_at (reached t.snapshot t.car x) f opened)) floor)
    waiting bound (departing_size c.sums_of.result.bound c.args.sums.now.paid c.waiting_later-waiting.result.sum c.settled.result
    c.cost_of_carried-carried.result bound (omega (arith, bounded)) (omega (arith, light)) stand.paid_small later.are.low later.are.high)
    (c.sums_of.ensures.paid ∙ same) (λ k. ap (λ (w : Waiting). has w.counted k) waits ∙ later.counted k) (subst (AreEven a) (sym waits) later.are)
    (ap (λ (w : Waiting). w.moment) waits ∙ later.moment)
