use Rattle.std.proofs.Common.{◌∙◌, sym}
use Rattle.pricing_bound.specs.Rates.{aim_at}
use Rattle.pricing_bound.proofs.RateLemmas.{stored_term}
use Rattle.pricing_bound.proofs.SteadyLemmas.{even_less, slope_within}
use Rattle.pricing_bound.proofs.straight.StraightRides.waiting_without.Goals as goal

pub without-requires-clause-less : goal.without-requires-clause-less
without-requires-clause-less c =
    let it = c.args.self.now in
    let a = aim_at it.rates.now it.car it.allowed it.required in
    slope_within a c.args.call c.args.waiting.now _ c.requires.are (sym c.if-not-contains.ensures) c.growth-slope.ensures.slope

pub returns-clause-are : goal.returns-clause-are
returns-clause-are c =
    let it = c.args.self.now in
    let a = aim_at it.rates.now it.car it.allowed it.required in
    let known = c.snapshot-accepted.ensures in
    let less = c.without.ensures in
    let is = stored_term c.term-term.result c.term-term.ensures.low c.term-term.ensures.high in
    even_less a c.args.call c.args.waiting.now c.without.result _ _ c.requires.are (sym c.if-not-contains.ensures) known.accepted known.prices c.requires.early
    (is ∙ c.term-term.ensures.value) c.growth-slope.ensures.slope less.counted less.sum less.moment less.slope less.told
