use Rattle.std.proofs.Common.{arith}
use Rattle.route_sums.proofs.OriginLemmas.{between_is}
use Rattle.route_sums.proofs.parts.RouteSums.between.Goals as goal

pub below-below_high-requires : goal.below-below_high-requires
below-below_high-requires c =
    let size = c.args.self.now.laid.origins.below_are.size in
    let within = c.requires.high in
    omega (arith, size, within)

pub below-below_low-requires : goal.below-below_low-requires
below-below_low-requires c =
    let size = c.args.self.now.laid.origins.below_are.size in
    let within = c.requires.low in
    omega (arith, size, within)

pub returns : goal.returns
returns c = λ j.
    let it = c.args.self.now in
    between_is it.snapshot.now it.rates.now.upward it.rates.now.below c.args.calls c.args.low c.args.high c.below-below_low.result c.below-below_high.result
    c.intersection.result c.minus.result j it.laid.origins c.requires.within c.requires.low c.requires.high c.below-below_low.ensures
    c.below-below_high.ensures (c.intersection.ensures j) (c.minus.ensures j)
