use Rattle.std.proofs.Common.{◌≡◌, ◌∙◌, true, ap, arith}
use Rattle.std.specs.Prelude.{ℤ, ◌-ℤ◌}
use Rattle.std.proofs.lemmas.Int.{ints}
use Rattle.partial_tours.specs.PartialTour.{course}
use Rattle.pricing_bound.specs.Rates.{aim_at}
use Rattle.pricing_bound.specs.Running.{StandFor}
use Rattle.pricing_bound.proofs.CarriedLemmas.{one_course}
use Rattle.pricing_bound.proofs.RateLemmas.{stored_less}
use Rattle.pricing_bound.proofs.RunningLemmas.{tour_worth}
use Rattle.pricing_bound.proofs.straight.StraightRidesTourBound.tour_value.Goals as goal

pub returns-clause-value : goal.returns-clause-value
returns-clause-value c = λ x e.
    let it = c.args.self.now in
    let a = aim_at it.rates.now it.car it.allowed it.required in
    let t = c.args.prefix.now in
    let sums = c.args.sums.now in
    let at = c.requires.ended in
    let ended = one_course (course t) at.end x (λ z. z.ended ≡ true) at.leads e at.ended in
    let stand = one_course (course t) at.end x (StandFor a sums) at.leads e at.stands_there in
    let bounded = c.settled.ensures.bounded in
    let is = c.scaled.ensures in
    tour_worth a t sums x c.settled.result _ c.requires.for_it e ended stand (c.settled.ensures.value x e)
    (stored_less c.scaled.result sums.paid (omega (arith, ints, is)) (omega (arith, ints, is, bounded)) at.stands_there.paid_small
    ∙ ap (λ (z : ℤ). z -ℤ sums.paid) is)
