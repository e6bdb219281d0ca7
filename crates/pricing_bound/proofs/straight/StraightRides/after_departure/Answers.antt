use Rattle.std.proofs.Common.{◌≡◌, ◌∙◌, ◌<◌, ℕ, ap, sym, subst, arith}
use Rattle.std.specs.Prelude.{ℤ, ◌+ℤ◌, ◌-ℤ◌}
use Rattle.call_sets.specs.Counting.{has}
use Rattle.search_model.specs.Prices.{scaled}
use Rattle.elevator_model.specs.declared.Move.TheVariants.{Leave}
use Rattle.elevator_model.specs.Snapshot.{car_count, spec_of}
use Rattle.partial_tours.specs.Courses.{reached}
use Rattle.partial_tours.specs.PartialTour.{course, with_move}
use Rattle.partial_tours.proofs.Follow.{is_some_has, leave_leads_to, stands_in}
use Rattle.pricing_bound.specs.Rates.{aim_at}
use Rattle.pricing_bound.specs.declared.waiting.Waiting.{Waiting}
use Rattle.pricing_bound.specs.Running.{AreDeparting, AreEven}
use Rattle.pricing_bound.proofs.Late.{left_after_now}
use Rattle.pricing_bound.proofs.RateLemmas.{stored_paid}
use Rattle.pricing_bound.proofs.SteadyLemmas.{adds_of}
use Rattle.pricing_bound.proofs.RunningLemmas.{step_of, aimed_at, last_of, aims_on, leave_sums, leaves_later}
use Rattle.pricing_bound.proofs.straight.StraightRides.after_departure.Goals as goal

pub opened_after-opened-requires : goal.opened_after-opened-requires
opened_after-opened-requires c = c.requires.leads.lawful

pub waiting_later-waiting-requires-clause-are : goal.waiting_later-waiting-requires-clause-are
waiting_later-waiting-requires-clause-are c = c.requires.leads.stands_before.waiting

pub waiting_later-waiting-requires-clause-later : goal.waiting_later-waiting-requires-clause-later
waiting_later-waiting-requires-clause-later c =
    let it = c.args.self.now in
    let a = aim_at it.rates.now it.car it.allowed it.required in
    let t = c.args.prefix.now in
    let to = with_move t (Leave c.args.floor) in
    let led = is_some_has (course to) c.requires.leads.lawful in
    let aims = aims_on a t (Leave c.args.floor) c.requires.for_it in
    let last = last_of a (AreDeparting a c.args.departing.now) t (Leave c.args.floor) c.requires.leads in
    let later = leaves_later a to c.args.departing.now c.args.floor led.0 aims last led.1 in
    let opened = c.opened_after-opened.ensures.value led.0 led.1 in
    omega (arith, later, opened)

pub cost_of_carried-carried-requires-clause-floor : goal.cost_of_carried-carried-requires-clause-floor
cost_of_carried-carried-requires-clause-floor c =
    let it = c.args.self.now in
    let a = aim_at it.rates.now it.car it.allowed it.required in
    let t = c.args.prefix.now in
    let to = with_move t (Leave c.args.floor) in
    let led = is_some_has (course to) c.requires.leads.lawful in
    let aims = aims_on a t (Leave c.args.floor) c.requires.for_it in
    let last = last_of a (AreDeparting a c.args.departing.now) t (Leave c.args.floor) c.requires.leads in
    let step = step_of a (AreDeparting a c.args.departing.now) to (Leave c.args.floor) led.0 aims last led.1 in
    stands_in a.snapshot a.car (reached a.snapshot a.car c.requires.leads.before) c.args.floor
    (leave_leads_to a.snapshot a.car c.requires.leads.before c.args.floor led.0 step.leads).1

pub cost_of_carried-carried-requires-clause-leads : goal.cost_of_carried-carried-requires-clause-leads
cost_of_carried-carried-requires-clause-leads c = (c.requires.leads.before, c.requires.leads.leads)

pub cost_of_carried-carried-requires-clause-late : goal.cost_of_carried-carried-requires-clause-late
cost_of_carried-carried-requires-clause-late c =
    let it = c.args.self.now in
    let a = aim_at it.rates.now it.car it.allowed it.required in
    let t = c.args.prefix.now in
    let to = with_move t (Leave c.args.floor) in
    let led = is_some_has (course to) c.requires.leads.lawful in
    let aims = aims_on a t (Leave c.args.floor) c.requires.for_it in
    let last = last_of a (AreDeparting a c.args.departing.now) t (Leave c.args.floor) c.requires.leads in
    let step = step_of a (AreDeparting a c.args.departing.now) to (Leave c.args.floor) led.0 aims last led.1 in
    let here = subst (λ (n : ℕ). n < car_count t.snapshot) c.car-car.ensures.value c.car-car.ensures.car in
    let car = aimed_at a t (λ s c. c < car_count s) c.requires.for_it here in
    let late = left_after_now a.snapshot a.car to.moves c.requires.leads.before c.args.floor led.0 c.snapshot-accepted.ensures.accepted car step.whole
    step.leads in
    let opened = aimed_at a to (λ s c'. c.opened_after-opened.result ≡ (reached s c' led.0).opened) aims (c.opened_after-opened.ensures.value led.0 led.1) in
    let opening = ap (λ (k : ℕ). (spec_of a.snapshot k).opening) c.requires.for_it.car in
    omega (arith, late, opened, opening)

pub returns : goal.returns
returns c = λ y e.
    let it = c.args.self.now in
    let a = aim_at it.rates.now it.car it.allowed it.required in
    let t = c.args.prefix.now in
    let x = c.requires.leads in
    let aims = aims_on a t (Leave c.args.floor) c.requires.for_it in
    let last = last_of a (AreDeparting a c.args.departing.now) t (Leave c.args.floor) x in
    let here = subst (λ (n : ℕ). n < car_count t.snapshot) c.car-car.ensures.value c.car-car.ensures.car in
    let car = aimed_at a t (λ s c. c < car_count s) c.requires.for_it here in
    let opened = c.opened_after-opened.result in
    let small = c.opened_after-opened.ensures.small y e in
    let later = c.waiting_later-waiting.ensures in
    let waiting = adds_of a opened c.args.departing.now.waiting.counted c.waiting_later-waiting.result later.are later.moment later.counted in
    let waits = c.sums_of.ensures.waiting in
    let same = stored_paid c.args.departing.now.paid x.stands_before.paid_small in
    leave_sums a (with_move t (Leave c.args.floor)) c.args.departing.now c.sums_of.result c.args.floor y c.settled.result c.cost_of_carried-carried.result
    opened c.waiting_later-waiting.result.sum aims last c.snapshot-accepted.ensures.accepted car c.snapshot-accepted.ensures.prices e
    (omega (arith, small)) (c.opened_after-opened.ensures.value y e) (c.settled.ensures.value x.before x.leads)
    (c.cost_of_carried-carried.ensures.cost x.before x.leads) waiting
    (c.sums_of.ensures.bound
    ∙ ap (λ (z : ℤ). ((scaled c.settled.result +ℤ scaled c.cost_of_carried-carried.result) -ℤ z) +ℤ c.waiting_later-waiting.result.sum) same)
    (c.sums_of.ensures.paid ∙ same) (λ k. ap (λ (w : Waiting). has w.counted k) waits ∙ c.waiting_later-waiting.ensures.counted k)
    (subst (AreEven a) (sym waits) c.waiting_later-waiting.ensures.are) (ap (λ (w : Waiting). w.moment) waits ∙ c.waiting_later-waiting.ensures.moment)
