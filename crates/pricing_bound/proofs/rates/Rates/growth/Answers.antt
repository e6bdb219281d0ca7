use Rattle.std.proofs.Common.{◌≡◌, ◌+◌, ◌*◌, ◌-◌, ◌<◌, subst, sym}
use Rattle.elevator_model.specs.Snapshot.{call_count}
use Rattle.search_model.specs.Bounds.{cost_if_alone}
use Rattle.pricing_bound.specs.Rates.{Rated, rise_at}
use Rattle.pricing_bound.proofs.RateLemmas.{rate_read, alone_even, alone_rise}
use Rattle.pricing_bound.proofs.rates.Rates.growth.Goals as goal

pub returns-clause-even : goal.returns-clause-even
returns-clause-even c = λ k later most.
    let s = c.self.inside.snapshot.now in
    let j = c.args.call in
    let lt = subst (λ (r : Rated). j < call_count r.snapshot) (sym c.self.view_is) c.requires in
    let rate = rate_read s c.self.inside.rates.items j c.index.result.now c.self.invariant.1 lt c.index.ensures in
    subst (λ (r : Rated). cost_if_alone r.snapshot j k ≡ cost_if_alone r.snapshot j c.args.moment + c.growth.result.slope * (k - c.args.moment)) c.self.view_is
    (alone_even s j c.index.result.now c.args.moment k c.growth.result.slope rate (c.growth.ensures.even k later most))

pub returns-clause-slope : goal.returns-clause-slope
returns-clause-slope c =
    let s = c.self.inside.snapshot.now in
    let j = c.args.call in
    let lt = subst (λ (r : Rated). j < call_count r.snapshot) (sym c.self.view_is) c.requires in
    let rate = rate_read s c.self.inside.rates.items j c.index.result.now c.self.invariant.1 lt c.index.ensures in
    subst (λ (r : Rated). c.growth.result.slope ≡ rise_at r.snapshot c.args.moment j) c.self.view_is
    (alone_rise s j c.index.result.now c.args.moment c.growth.result.slope rate c.growth.ensures.slope)
