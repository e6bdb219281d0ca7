use Rattle.pricing_bound.proofs.NearLemmas.{nearest_more}
use Rattle.pricing_bound.proofs.rates.nearest_of_all.Goals as goal

pub loop-floor-preserved : goal.loop-floor-preserved
loop-floor-preserved c =
    nearest_more c.args.travel.now c.loop-floor.floor c.nearest_of.result c.loop-floor.nearest.items c.push.new.self.items c.loop-floor.invariant
    c.nearest_of.ensures.nearest c.nearest_of.ensures.small c.in_ok-push.ensures.items
