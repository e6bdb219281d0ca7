use Rattle.std.proofs.Common.{None, ◌∙◌, refl, sym}
use Rattle.elevator_model.specs.Partial.{course_start}
use Rattle.partial_tours.specs.Courses.{is_after, reached}
use Rattle.route_bound.specs.ForcedRoute.{route_start}
use Rattle.route_sums.specs.Keeping.{aim_of}
use Rattle.route_sums.proofs.StandLemmas.{route_boarded}
use Rattle.route_sums.proofs.SumsLemmas.{all_idle, start_keeps, start_leads, start_paid, stored_low, stored_size}
use Rattle.route_sums.proofs.sums.RouteSumsTourBound.start.Goals as goal

pub value_at-first-requires-clause-same : goal.value_at-first-requires-clause-same
value_at-first-requires-clause-same c = c.requires.for_it.snapshot

pub value_at-first-requires-clause-car : goal.value_at-first-requires-clause-car
value_at-first-requires-clause-car c = c.requires.for_it.car

pub value_at-first-requires-clause-stands : goal.value_at-first-requires-clause-stands
value_at-first-requires-clause-stands c =
    let t = c.args.prefix.now in
    let x = course_start t.snapshot t.car in
    let leads = start_leads t c.requires.empty in
    let p = reached t.snapshot t.car x in (
      route_start t.snapshot t.car p,
      record { there = x; leads = leads; stands = c.route_start-start.ensures x p leads (c.stand_at-stand.ensures.stands x leads) },
    )

pub route_start-start-requires-clause-same : goal.route_start-start-requires-clause-same
route_start-start-requires-clause-same c = c.requires.for_it.snapshot

pub route_start-start-requires-clause-car : goal.route_start-start-requires-clause-car
route_start-start-requires-clause-car c = c.requires.for_it.car

pub route_start-start-requires-clause-stands : goal.route_start-start-requires-clause-stands
route_start-start-requires-clause-stands c =
    let t = c.args.prefix.now in
    let x = course_start t.snapshot t.car in
    let leads = start_leads t c.requires.empty in
    (reached t.snapshot t.car x, record { there = x; leads = leads; stands = c.stand_at-stand.ensures.stands x leads })

pub returns : goal.returns
returns c = λ x e.
    let it = c.args.self.now in
    let a = aim_of it in
    let t = c.args.prefix.now in
    let p = reached t.snapshot t.car x in
    let q = route_start t.snapshot t.car p in
    let first = c.value_at-first.result in
    let stand = c.route_start-start.ensures x p e (c.stand_at-stand.ensures.stands x e) in
    let idle = all_idle t.snapshot t.car a.price a.required (is_after None) q it.allowed in
    let low = c.value_at-first.ensures.value x q e stand (start_paid t x a.price c.requires.empty e ∙ sym (route_boarded t.snapshot t.car p a.price)) idle in
    start_keeps a t x _ c.requires.for_it c.requires.empty e refl (stored_size first.value c.value_at-first.ensures.size)
    (stored_low first.value _ c.value_at-first.ensures.size low) (c.value_at-first.ensures.idle x q e stand idle) c.value_at-first.ensures.within
