use Rattle.std.proofs.Common.{◌<◌, ℕ, subst}
use Rattle.elevator_model.specs.Snapshot.{car_count}
use Rattle.pricing_bound.specs.Rates.{aim_at}
use Rattle.pricing_bound.proofs.RunningLemmas.{aimed_at, stands_departs_there}
use Rattle.pricing_bound.proofs.straight.StraightRides.after_leave.Goals as goal

pub after_departure-requires-clause-leads : goal.after_departure-requires-clause-leads
after_departure-requires-clause-leads c =
    let it = c.args.self.now in
    let a = aim_at it.rates.now it.car it.allowed it.required in
    let t = c.args.prefix.now in
    let x = c.requires.leads in
    let here = subst (λ (n : ℕ). n < car_count t.snapshot) c.car-car.ensures.value c.car-car.ensures.car in
    let car = aimed_at a t (λ s c. c < car_count s) c.requires.for_it here in
    record {
      before = x.before;
      leads = x.leads;
      stands_before =
          stands_departs_there a t c.args.sums.now x.before c.requires.for_it c.snapshot-accepted.ensures.accepted car x.leads x.stands_before;
      lawful =
          x.lawful;
      may = x.may;
    }
