use Rattle.std.proofs.Common.{◌≡◌, ◌∙◌, ◌<◌, ℕ, ap, sym, subst, arith}
use Rattle.std.specs.Prelude.{ℤ, ◌+ℤ◌}
use Rattle.call_sets.specs.Counting.{has}
use Rattle.elevator_model.specs.declared.Move.TheVariants.{Board}
use Rattle.elevator_model.specs.Snapshot.{car_count}
use Rattle.partial_tours.specs.Courses.{reached}
use Rattle.partial_tours.specs.PartialTour.{course, with_move}
use Rattle.partial_tours.proofs.Follow.{is_some_has}
use Rattle.partial_tours.proofs.Tallied.{board_call}
use Rattle.pricing_bound.specs.Rates.{aim_at}
use Rattle.pricing_bound.specs.declared.waiting.Waiting.{Waiting}
use Rattle.pricing_bound.specs.Running.{AreEven, StandFor}
use Rattle.pricing_bound.proofs.RateLemmas.{stored_price, stored_term}
use Rattle.pricing_bound.proofs.RunningLemmas.{step_of, aimed_at, aimed_from, last_of, aims_on, board_sums}
use Rattle.pricing_bound.proofs.straight.StraightRides.after_board.Goals as goal

pub board_adds-more-requires-clause-call : goal.board_adds-more-requires-clause-call
board_adds-more-requires-clause-call c =
    let it = c.args.self.now in
    let a = aim_at it.rates.now it.car it.allowed it.required in
    let t = c.args.prefix.now in
    let to = with_move t (Board c.args.call) in
    let led = is_some_has (course to) c.requires.leads.lawful in
    let step = step_of a (StandFor a c.args.sums.now) to (Board c.args.call) led.0 (aims_on a t (Board c.args.call) c.requires.for_it)
    (last_of a (StandFor a c.args.sums.now) t (Board c.args.call) c.requires.leads) led.1 in
    board_call a.snapshot a.car c.requires.leads.before c.args.call led.0 step.leads

pub board_adds-more-requires-clause-early : goal.board_adds-more-requires-clause-early
board_adds-more-requires-clause-early c =
    let it = c.args.self.now in
    let a = aim_at it.rates.now it.car it.allowed it.required in
    let t = c.args.prefix.now in
    let x = c.requires.leads in
    let moment = x.stands_before.opened in
    let there = aimed_from a t (λ s c'. c.args.sums.now.waiting.moment ≡ (reached s c' x.before).opened) c.requires.for_it moment in
    let opened = c.opened.ensures.value x.before x.leads in
    let early = c.opened.ensures.early in
    omega (arith, there, opened, early)

pub price-requires : goal.price-requires
price-requires c =
    let it = c.args.self.now in
    let a = aim_at it.rates.now it.car it.allowed it.required in
    let t = c.args.prefix.now in
    let to = with_move t (Board c.args.call) in
    let led = is_some_has (course to) c.requires.leads.lawful in
    let step = step_of a (StandFor a c.args.sums.now) to (Board c.args.call) led.0 (aims_on a t (Board c.args.call) c.requires.for_it)
    (last_of a (StandFor a c.args.sums.now) t (Board c.args.call) c.requires.leads) led.1 in
    board_call a.snapshot a.car c.requires.leads.before c.args.call led.0 step.leads

pub waiting_without-waiting-requires-clause-call : goal.waiting_without-waiting-requires-clause-call
waiting_without-waiting-requires-clause-call c =
    let it = c.args.self.now in
    let a = aim_at it.rates.now it.car it.allowed it.required in
    let t = c.args.prefix.now in
    let to = with_move t (Board c.args.call) in
    let led = is_some_has (course to) c.requires.leads.lawful in
    let step = step_of a (StandFor a c.args.sums.now) to (Board c.args.call) led.0 (aims_on a t (Board c.args.call) c.requires.for_it)
    (last_of a (StandFor a c.args.sums.now) t (Board c.args.call) c.requires.leads) led.1 in
    board_call a.snapshot a.car c.requires.leads.before c.args.call led.0 step.leads

pub waiting_without-waiting-requires-clause-early : goal.waiting_without-waiting-requires-clause-early
waiting_without-waiting-requires-clause-early c =
    let it = c.args.self.now in
    let a = aim_at it.rates.now it.car it.allowed it.required in
    let t = c.args.prefix.now in
    let x = c.requires.leads in
    let moment = x.stands_before.opened in
    let there = aimed_from a t (λ s c'. c.args.sums.now.waiting.moment ≡ (reached s c' x.before).opened) c.requires.for_it moment in
    let opened = c.opened.ensures.value x.before x.leads in
    let early = c.opened.ensures.early in
    omega (arith, there, opened, early)

pub waiting_without-waiting-requires-clause-are : goal.waiting_without-waiting-requires-clause-are
waiting_without-waiting-requires-clause-are c = c.requires.leads.stands_before.waiting

pub returns : goal.returns
returns c = λ y e.
    let it = c.args.self.now in
    let a = aim_at it.rates.now it.car it.allowed it.required in
    let t = c.args.prefix.now in
    let x = c.requires.leads in
    let here = subst (λ (n : ℕ). n < car_count t.snapshot) c.car-car.ensures.value c.car-car.ensures.car in
    let car = aimed_at a t (λ s c. c < car_count s) c.requires.for_it here in
    let settled = c.settled.ensures.value x.before x.leads in
    let bounded = c.settled.ensures.bounded in
    let waits = c.with_board.ensures.waiting in
    let paid = c.with_board.ensures.paid
    ∙ ap (λ (z : ℤ). c.args.sums.now.paid +ℤ z) (stored_price c.price.result c.price.ensures.range ∙ c.price.ensures.value) in
    board_sums a (with_move t (Board c.args.call)) c.args.sums.now c.with_board.result c.args.call y c.board_adds-more.result
    (aims_on a t (Board c.args.call) c.requires.for_it)
    (last_of a (StandFor a c.args.sums.now) t (Board c.args.call) x) c.snapshot-accepted.ensures.accepted car c.snapshot-accepted.ensures.prices e
    (omega (arith, settled, bounded)) c.board_adds-more.ensures.more
    (c.with_board.ensures.bound
    ∙ ap (λ (z : ℤ). c.args.sums.now.bound +ℤ z) (stored_term c.board_adds-more.result c.board_adds-more.ensures.low c.board_adds-more.ensures.high)) paid
    (λ k. ap (λ (w : Waiting). has w.counted k) waits ∙ c.waiting_without-waiting.ensures.counted k)
    (subst (AreEven a) (sym waits) c.waiting_without-waiting.ensures.are) (ap (λ (w : Waiting). w.moment) waits ∙ c.waiting_without-waiting.ensures.moment)
