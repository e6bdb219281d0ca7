use Rattle.std.proofs.Common.{◌∙◌, ◌&&◌, ◌<◌, ℕ, Bool, ap, sym, subst, arith}
use Rattle.std.specs.Prelude.{ℤ, ◌+ℤ◌}
use Rattle.std.proofs.lemmas.Int.{ints}
use Rattle.call_sets.specs.Counting.{has}
use Rattle.elevator_model.specs.Snapshot.{car_count}
use Rattle.pricing_bound.specs.Rates.{aim_at, counts_at}
use Rattle.pricing_bound.specs.declared.waiting.Waiting.{Waiting}
use Rattle.pricing_bound.specs.Running.{AreEven}
use Rattle.pricing_bound.proofs.RateLemmas.{stored}
use Rattle.pricing_bound.proofs.SteadyLemmas.{adds_of}
use Rattle.partial_tours.specs.Courses.{reached}
use Rattle.pricing_bound.proofs.RunningLemmas.{aimed_at, start_sums}
use Rattle.pricing_bound.proofs.straight.StraightRidesTourBound.start.Goals as goal

pub returns : goal.returns
returns c = λ x e.
    let it = c.args.self.now in
    let a = aim_at it.rates.now it.car it.allowed it.required in
    let t = c.args.prefix.now in
    let calls = c.intersection-calls.result in
    let here = subst (λ (n : ℕ). n < car_count t.snapshot) c.car-car.ensures.value c.car-car.ensures.car in
    let car = aimed_at a t (λ s c. c < car_count s) c.requires.for_it here in
    let opened = c.opened.ensures.value x e in
    let low = c.groups_part-groups.ensures.low in
    let high = c.groups_part-groups.ensures.high in
    let known = c.waiting.ensures in
    let waiting = adds_of a (reached t.snapshot t.car x).opened calls c.waiting.result known.are (known.moment ∙ opened)
    (λ k. known.counted k ∙ ap (λ (m : ℕ). has calls k && counts_at a m k) opened) in
    let waits = c.sums_at_start.ensures.waiting in
    let bound = c.sums_at_start.ensures.bound
    ∙ ap (λ (z : ℤ). z +ℤ c.waiting.result.sum) (stored c.groups_part-groups.result (omega (arith, ints, low)) (omega (arith, ints, high))) in
    start_sums a t c.sums_at_start.result x calls c.groups_part-groups.result c.waiting.result.sum c.requires.for_it c.requires.empty
    c.snapshot.ensures.accepted car c.snapshot.ensures.prices e (c.groups_part-groups.ensures.sum x e) waiting
    (λ k. c.intersection-calls.ensures k ∙ ap (λ (b : Bool). has it.allowed k && b) (c.calls.ensures k)) bound c.sums_at_start.ensures.paid
    (λ k. ap (λ (w : Waiting). has w.counted k) waits ∙ c.waiting.ensures.counted k ∙ ap (λ (m : ℕ). has calls k && counts_at a m k) opened)
    (subst (AreEven a) (sym waits) c.waiting.ensures.are) (ap (λ (w : Waiting). w.moment) waits ∙ c.waiting.ensures.moment ∙ opened)
