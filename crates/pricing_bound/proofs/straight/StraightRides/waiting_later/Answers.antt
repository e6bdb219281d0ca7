use Rattle.pricing_bound.specs.Rates.{aim_at}
use Rattle.pricing_bound.proofs.SteadyLemmas.{even_on}
use Rattle.pricing_bound.proofs.straight.StraightRides.waiting_later.Goals as goal

pub sifted-requires-clause-are : goal.sifted-requires-clause-are
sifted-requires-clause-are c =
    let it = c.args.self.now in
    let a = aim_at it.rates.now it.car it.allowed it.required in
    let known = c.snapshot-accepted.ensures in
    let later = c.later.ensures in
    even_on a c.args.moment c.args.waiting.now c.later.result c.requires.are c.requires.later c.if-moment-waiting.true known.accepted known.prices
    c.requires.early later.counted later.sum later.moment later.growth
