use Rattle.std.proofs.Common.{◌≡◌, ◌<◌, ◌+◌, ◌-◌, ◌*◌, ℕ, List, length, take, drop, sym, subst, refl, arith, ℤ}
use Rattle.std.specs.Prelude.{Some, slice_get}
use Rattle.std.proofs.lemmas.Option.{slice_get_read}
use Rattle.elevator_model.specs.Snapshot.{car_count}
use Rattle.node_search.specs.Searches.{IsPricingOf}
use Rattle.node_search.proofs.RoundLaws.{HasTakenFrom, taken_none, taken_more, next_pricing}
use Rattle.node_search.proofs.search.Search.settle_all.Goals as goal

pub loop-index-init : goal.loop-index-init
loop-index-init g c = taken_none (g.P.Pricer.snapshot c.args.pricer.now) c.args.limits.most_tours c.args.chosen.now c.args.self.now c.requires.way

pub settle-requires-clause-way : goal.settle-requires-clause-way
settle-requires-clause-way g c κs within = c.loop-index.invariant.way

pub settle-requires-clause-pricing : goal.settle-requires-clause-pricing
settle-requires-clause-pricing g c κs within =
    let s = g.P.Pricer.snapshot c.args.pricer.now in
    let chosen = c.args.chosen.now in
    let answers = c.args.answers.now in
    let k = c.loop-index.index - 1 in
    let mid = c.loop-index.self in
    let it = c.index-chosen-index.result in
    let below : k < length chosen = omega arith in
    let next : c.loop-index.index ≡ k + 1 = omega arith in
    let at : slice_get chosen k ≡ Some it = slice_get_read chosen (length chosen) k it refl below c.index-chosen-index.is in
    let so_far : HasTakenFrom s c.args.limits.most_tours chosen (k + 1) c.args.self.now mid =
    subst (λ (n : ℕ). HasTakenFrom s c.args.limits.most_tours chosen n c.args.self.now mid) next c.loop-index.invariant in
    let is = next_pricing s c.args.limits.most_tours chosen answers c.args.self.now c.requires.priced k it at mid so_far in
    let width : (k * c.args.cars + c.args.cars) - k * c.args.cars ≡ c.args.cars = omega arith in
    let prices : c.deref.result.now ≡ it.prices.items = c.deref.ensures.value in
    subst (λ (n : ℕ). IsPricingOf s c.args.limits.most_tours mid it.place c.deref.result.now (take n (drop (k * c.args.cars) answers))) (sym width)
    (subst (λ (n : ℕ). IsPricingOf s c.args.limits.most_tours mid it.place c.deref.result.now (take n (drop (k * n) answers))) (sym c.requires.cars)
    (subst (λ (ps : List ℤ). IsPricingOf s c.args.limits.most_tours mid it.place ps (take (car_count s) (drop (k * car_count s) answers))) (sym prices) is))

pub loop-index-preserved : goal.loop-index-preserved
loop-index-preserved g c =
    let s = g.P.Pricer.snapshot c.args.pricer.now in
    let chosen = c.args.chosen.now in
    let k = c.loop-index.index - 1 in
    let mid = c.loop-index.self in
    let it = c.index-chosen-index.result in
    let below : k < length chosen = omega arith in
    let next : c.loop-index.index ≡ k + 1 = omega arith in
    let at : slice_get chosen k ≡ Some it = slice_get_read chosen (length chosen) k it refl below c.index-chosen-index.is in
    let so_far : HasTakenFrom s c.args.limits.most_tours chosen (k + 1) c.args.self.now mid =
    subst (λ (n : ℕ). HasTakenFrom s c.args.limits.most_tours chosen n c.args.self.now mid) next c.loop-index.invariant in
    taken_more s c.args.limits.most_tours chosen c.args.answers.now c.args.self.now c.requires.priced k it at mid so_far c.settle.new.self
    c.in_ok-settle.ensures.way
    c.in_ok-settle.ensures.settled

pub returns-clause-way : goal.returns-clause-way
returns-clause-way g c =
    let h = c.loop-index.invariant in
    h.way

pub returns-clause-advanced : goal.returns-clause-advanced
returns-clause-advanced g c = c.loop-index.invariant.advanced (length c.args.chosen.now) (omega arith)
