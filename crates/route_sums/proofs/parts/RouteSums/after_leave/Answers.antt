use Rattle.std.proofs.Common.{◌∙◌, sym, subst}
use Rattle.elevator_model.specs.declared.Move.TheVariants.{Leave}
use Rattle.route_bound.specs.ForcedRoute.{halted}
use Rattle.partial_tours.specs.Courses.{reached}
use Rattle.partial_tours.specs.PartialTour.{course, with_move}
use Rattle.partial_tours.proofs.Follow.{is_some_has, leave_leads_to, stands_in}
use Rattle.price_scale.specs.Scale.{IsPriceSum}
use Rattle.pricing_bound.proofs.RateLemmas.{stored_paid}
use Rattle.route_sums.specs.Keeping.{AreRouteSums, aim_of}
use Rattle.route_sums.proofs.SumsLemmas.{leave_idle, leave_keeps, leave_paid, next_leads, stored_low, stored_size}
use Rattle.route_sums.proofs.parts.RouteSums.after_leave.Goals as goal

pub halted-stand-requires-clause-to : goal.halted-stand-requires-clause-to
halted-stand-requires-clause-to c =
    let a = aim_of c.args.self.now in
    let t = c.args.prefix.now in
    let led = is_some_has (course (with_move t (Leave c.args.floor))) c.requires.leads.lawful in
    let there = next_leads a (AreRouteSums a c.args.sums.now) t (Leave c.args.floor) led.0 c.requires.for_it c.requires.leads led.1 in
    stands_in t.snapshot t.car (reached t.snapshot t.car c.requires.leads.before) c.args.floor
    (leave_leads_to t.snapshot t.car c.requires.leads.before c.args.floor led.0 there).1

pub halted-stand-requires-clause-stands : goal.halted-stand-requires-clause-stands
halted-stand-requires-clause-stands c =
    let t = c.args.prefix.now in
    let x = c.requires.leads in
    (reached t.snapshot t.car x.before, record { there = x.before; leads = x.leads; stands = c.stand_at.ensures.stands x.before x.leads })

pub value_at-next-requires-clause-same : goal.value_at-next-requires-clause-same
value_at-next-requires-clause-same c = c.requires.for_it.snapshot

pub value_at-next-requires-clause-car : goal.value_at-next-requires-clause-car
value_at-next-requires-clause-car c = c.requires.for_it.car

pub value_at-next-requires-clause-stands : goal.value_at-next-requires-clause-stands
value_at-next-requires-clause-stands c =
    let t = c.args.prefix.now in
    let x = c.requires.leads in
    let p = reached t.snapshot t.car x.before in (
      halted t.snapshot t.car p c.args.floor,
      record { there = x.before; leads = x.leads; stands = c.halted-stand.ensures.stands x.before p x.leads (c.stand_at.ensures.stands x.before x.leads) },
    )

pub value_at-next-requires-clause-paid : goal.value_at-next-requires-clause-paid
value_at-next-requires-clause-paid c =
    let small = c.requires.leads.stands_before.paid_size in
    subst IsPriceSum (sym (stored_paid c.args.sums.now.paid small)) small

pub value_at-next-requires-clause-allowed : goal.value_at-next-requires-clause-allowed
value_at-next-requires-clause-allowed c = c.requires.leads.stands_before.allowed

pub returns : goal.returns
returns c = λ y e.
    let it = c.args.self.now in
    let a = aim_of it in
    let t = c.args.prefix.now in
    let x = c.requires.leads in
    let old = c.args.sums.now in
    let p = reached t.snapshot t.car x.before in
    let next = c.value_at-next.result in
    let same = stored_paid old.paid x.stands_before.paid_size in
    let stand = c.halted-stand.ensures.stands x.before p x.leads (c.stand_at.ensures.stands x.before x.leads) in
    let paid = same ∙ leave_paid a t c.args.floor y old c.requires.for_it x e in
    let idle = leave_idle a t c.args.floor y old c.calls-calls.ensures.accepted it.known c.requires.for_it x e in
    leave_keeps a t c.args.floor y old _ c.requires.for_it x e same (stored_size next.value c.value_at-next.ensures.size)
    (λ can. stored_low next.value _ c.value_at-next.ensures.size
    (c.value_at-next.ensures.value x.before (halted t.snapshot t.car p c.args.floor) x.leads stand paid (idle can)))
    (λ can. c.value_at-next.ensures.idle x.before (halted t.snapshot t.car p c.args.floor) x.leads stand (idle can)) c.value_at-next.ensures.within
