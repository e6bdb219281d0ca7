use Rattle.std.proofs.Common.{◌≡◌, ◌∙◌, true, ap, sym, subst}
use Rattle.std.specs.Prelude.{ℤ, ◌-ℤ◌}
use Rattle.elevator_model.specs.Partial.{settled_of}
use Rattle.partial_tours.specs.PartialTour.{course}
use Rattle.price_scale.specs.Scale.{IsPriceSum}
use Rattle.search_model.specs.Prices.{scaled}
use Rattle.pricing_bound.proofs.CarriedLemmas.{one_course}
use Rattle.pricing_bound.proofs.RateLemmas.{stored_paid}
use Rattle.pricing_bound.proofs.RunningLemmas.{aimed_at, aimed_course}
use Rattle.route_sums.specs.Keeping.{AreRouteSums, aim_of}
use Rattle.route_sums.proofs.KeepingLemmas.{tour_is}
use Rattle.route_sums.proofs.SizeLemmas.{stored_bound}
use Rattle.route_sums.proofs.SumsLemmas.{stored_size}
use Rattle.route_sums.proofs.sums.RouteSumsTourBound.tour_value.Goals as goal

pub value_of-requires-clause-paid : goal.value_of-requires-clause-paid
value_of-requires-clause-paid c =
    let small = c.requires.ended.stands_there.paid_size in
    subst IsPriceSum (sym (stored_paid c.args.sums.now.paid small)) small

pub returns-clause-size : goal.returns-clause-size
returns-clause-size c = stored_size c.value_of.result c.value_of.ensures.size

pub returns-clause-value : goal.returns-clause-value
returns-clause-value c = λ x e.
    let a = aim_of c.args.self.now in
    let t = c.args.prefix.now in
    let sums = c.args.sums.now in
    let at = c.requires.ended in
    let ended = one_course (course t) at.end x (λ z. z.ended ≡ true) at.leads e at.ended in
    let stand = one_course (course t) at.end x (AreRouteSums a sums) at.leads e at.stands_there in
    let settled = aimed_at a t (λ s k. c.settled.result ≡ settled_of s k x) c.requires.for_it (c.settled.ensures.value x e) in
    let same = stored_paid sums.paid stand.paid_size in
    stored_bound c.value_of.result c.value_of.ensures.size ∙ c.value_of.ensures.value ∙ ap (λ (z : ℤ). scaled c.settled.result -ℤ z) same
    ∙ tour_is a t.moves x c.settled.result sums.paid (aimed_course a t t.moves c.requires.for_it ∙ e) ended settled stand.paid
