use Rattle.std.proofs.Common.{◌<◌, ◌∙◌, Some, refl, ap, sym, subst}
use Rattle.std.specs.Prelude.{ℕ, ℤ, ◌+ℤ◌, ◌≤ℤ◌}
use Rattle.elevator_model.specs.declared.Move.TheVariants.{Board}
use Rattle.elevator_model.specs.Snapshot.{Snapshot, call_count}
use Rattle.elevator_model.specs.Tours.{Progress}
use Rattle.route_bound.specs.Completions.{CanEnd}
use Rattle.route_bound.specs.ForcedRoute.{bound_from}
use Rattle.route_sums.specs.Idle.{AreIdleBut}
use Rattle.partial_tours.specs.Courses.{is_after, reached}
use Rattle.partial_tours.specs.PartialTour.{course, with_move}
use Rattle.partial_tours.proofs.Follow.{is_some_has}
use Rattle.partial_tours.proofs.Tallied.{board_call}
use Rattle.route_sums.specs.Keeping.{AreRouteSums, aim_of}
use Rattle.price_scale.specs.Scale.{IsPriceSum}
use mir.Val.{to_z, of_z}
use mir.Syntax.{w128}
use Rattle.pricing_bound.proofs.RateLemmas.{stored_in_range, stored_paid, stored_price}
use Rattle.route_sums.proofs.SumsLemmas.{board_idle, board_keeps, board_paid_there, board_size, board_starts, next_leads, stored_low, stored_size}
use Rattle.route_sums.proofs.parts.RouteSums.after_board.Goals as goal

pub with_board-stand-requires : goal.with_board-stand-requires
with_board-stand-requires c =
    let a = aim_of c.args.self.now in
    let t = c.args.prefix.now in
    let led = is_some_has (course (with_move t (Board c.args.call))) c.requires.leads.lawful in
    let there = next_leads a (AreRouteSums a c.args.sums.now) t (Board c.args.call) led.0 c.requires.for_it c.requires.leads led.1 in
    record { call = board_call t.snapshot t.car c.requires.leads.before c.args.call led.0 there }

pub price-requires : goal.price-requires
price-requires c =
    let a = aim_of c.args.self.now in
    let t = c.args.prefix.now in
    let led = is_some_has (course (with_move t (Board c.args.call))) c.requires.leads.lawful in
    let there = next_leads a (AreRouteSums a c.args.sums.now) t (Board c.args.call) led.0 c.requires.for_it c.requires.leads led.1 in
    subst (λ (s : Snapshot). c.args.call < call_count s) (sym c.requires.for_it.snapshot)
    (board_call t.snapshot t.car c.requires.leads.before c.args.call led.0 there)

pub value_at-next-requires-clause-same : goal.value_at-next-requires-clause-same
value_at-next-requires-clause-same c = c.requires.for_it.snapshot

pub value_at-next-requires-clause-car : goal.value_at-next-requires-clause-car
value_at-next-requires-clause-car c = c.requires.for_it.car

pub value_at-next-requires-clause-stands : goal.value_at-next-requires-clause-stands
value_at-next-requires-clause-stands c =
    let a = aim_of c.args.self.now in
    let t = c.args.prefix.now in
    let x = c.requires.leads in
    let led = is_some_has (course (with_move t (Board c.args.call))) x.lawful in
    let there = next_leads a (AreRouteSums a c.args.sums.now) t (Board c.args.call) led.0 c.requires.for_it x led.1 in (
      reached t.snapshot t.car led.0,
      record {
        there = x.before;
        leads = x.leads;
        stands =
            c.with_board-stand.ensures.stands x.before led.0 _ x.leads (c.stand_at.ensures.stands x.before x.leads)
            (c.stand_at.ensures.opened x.before x.leads) refl c.with_board-stand.ensures.opened there;
      },
    )

pub with_price-paid-requires-clause-paid : goal.with_price-paid-requires-clause-paid
with_price-paid-requires-clause-paid c =
    let small = c.requires.leads.stands_before.paid_size in
    subst IsPriceSum (sym (stored_paid c.args.sums.now.paid small)) small

pub with_price-paid-requires-clause-price : goal.with_price-paid-requires-clause-price
with_price-paid-requires-clause-price c = stored_in_range c.price.result c.price.ensures.range

pub value_at-next-requires-clause-paid : goal.value_at-next-requires-clause-paid
value_at-next-requires-clause-paid c =
    let it = c.args.self.now in
    let a = aim_of it in
    let t = c.args.prefix.now in
    let x = c.requires.leads in
    let old = c.args.sums.now in
    let led = is_some_has (course (with_move t (Board c.args.call))) x.lawful in
    let is = c.with_price-paid.ensures ∙ ap (λ (z : ℤ). z +ℤ to_z w128 (of_z w128 c.price.result)) (stored_paid old.paid x.stands_before.paid_size)
    ∙ ap (λ (z : ℤ). old.paid +ℤ z) (stored_price c.price.result c.price.ensures.range ∙ c.price.ensures.value) in
    let small = board_size a t c.args.call led.0 old c.with_price-paid.result c.calls-calls.ensures.accepted it.known it.worth c.requires.for_it x led.1 is in
    subst IsPriceSum (sym (stored_paid c.with_price-paid.result small)) small

pub value_at-next-requires-clause-allowed : goal.value_at-next-requires-clause-allowed
value_at-next-requires-clause-allowed c = c.requires.leads.stands_before.allowed

pub returns : goal.returns
returns c = λ y e.
    let it = c.args.self.now in
    let a = aim_of it in
    let t = c.args.prefix.now in
    let j = c.args.call in
    let x = c.requires.leads in
    let old = c.args.sums.now in
    let accepted = c.calls-calls.ensures.accepted in
    let there = next_leads a (AreRouteSums a old) t (Board j) y c.requires.for_it x e in
    let is = c.with_price-paid.ensures ∙ ap (λ (z : ℤ). z +ℤ to_z w128 (of_z w128 c.price.result)) (stored_paid old.paid x.stands_before.paid_size)
    ∙ ap (λ (z : ℤ). old.paid +ℤ z) (stored_price c.price.result c.price.ensures.range ∙ c.price.ensures.value) in
    let small = board_size a t j y old c.with_price-paid.result accepted it.known it.worth c.requires.for_it x e is in
    let paid = stored_paid c.with_price-paid.result small ∙ is in
    let q = reached t.snapshot t.car y in
    let next = c.value_at-next.result in
    let stand = c.with_board-stand.ensures.stands x.before y _ x.leads (c.stand_at.ensures.stands x.before x.leads)
    (c.stand_at.ensures.opened x.before x.leads) refl c.with_board-stand.ensures.opened there in
    let pays = board_paid_there a t j y old (to_z w128 (of_z w128 c.with_price-paid.result)) accepted it.known c.requires.for_it x e paid in
    let start = board_starts a t j y old accepted it.known c.requires.for_it x e in
    let AreIdle : ℕ → Progress → Type 0 = λ waiting p. AreIdleBut t.snapshot t.car a.price a.allowed a.required (is_after (Some j)) p waiting in
    let idle = λ (can : CanEnd a.snapshot a.car y). subst (AreIdle old.waiting) start (board_idle a t j y old accepted it.known c.requires.for_it x e can) in
    let lower = λ (can : CanEnd a.snapshot a.car y).
    subst (λ (p : Progress). next.value ≤ℤ bound_from t.snapshot t.car a.price a.allowed a.required (is_after (Some j)) p) (sym start)
    (c.value_at-next.ensures.value x.before q x.leads stand pays (idle can)) in
    let still_idle = λ (can : CanEnd a.snapshot a.car y).
    subst (AreIdle next.waiting) (sym start) (c.value_at-next.ensures.idle x.before q x.leads stand (idle can)) in
    board_keeps a t j y old _ accepted it.known it.worth c.requires.for_it x e paid (stored_size next.value c.value_at-next.ensures.size)
    (λ can. stored_low next.value _ c.value_at-next.ensures.size (lower can)) still_idle c.value_at-next.ensures.within
