use Rattle.std.proofs.Common.{◌∙◌, ℕ, ap, sym, subst}
use Rattle.call_sets.specs.Counting.{members}
use Rattle.tour_rules.proofs.Stops.{most_calls_few}
use Rattle.pricing_bound.specs.Rates.{aim_at}
use Rattle.pricing_bound.proofs.SteadyLemmas.{AreSifted, none_sifted}
use Rattle.pricing_bound.proofs.straight.StraightRides.sift.Goals as goal

pub loop-call-init : goal.loop-call-init
loop-call-init c =
    let it = c.args.self.now in
    let a = aim_at it.rates.now it.car it.allowed it.required in
    let w = c.args.waiting.now in
    let left = ap (λ it. it.left) c.into_iter-call-iterator.ensures.into_iter_gives ∙ c.iter-call-items.ensures in
    subst (λ (set : ℕ). AreSifted a w c.args.due (members 128 set) w) (sym left)
    (none_sifted a w c.args.due c.requires.are (most_calls_few it.rates.now.snapshot c.snapshot-accepted.ensures.accepted) c.requires.due)
