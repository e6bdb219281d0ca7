use Rattle.std.proofs.Common.{◌≡◌, ◌∙◌, false, true, ap, sym, arith}
use Rattle.std.specs.Prelude.{ℤ, pos, int_lt}
use Rattle.std.specs.Int.Signed.{le_z}
use mir.Syntax.{w128}
use mir.Val.{to_z, of_z}
use Rattle.std.proofs.lemmas.Int.{ints}
use Rattle.pricing_bound.specs.Rates.{aim_at}
use Rattle.pricing_bound.proofs.RateLemmas.{stored_term}
use Rattle.pricing_bound.proofs.SteadyLemmas.{even_less, one_goes, one_stays, slope_within}
use Rattle.pricing_bound.proofs.straight.StraightRides.sift_one.Goals as goal

pub without-requires-clause-less : goal.without-requires-clause-less
without-requires-clause-less c =
    let it = c.args.self.now in
    let a = aim_at it.rates.now it.car it.allowed it.required in
    slope_within a c.args.call c.args.waiting.now _ c.requires.are c.requires.call c.growth-slope.ensures.slope

pub returns-then-term-ge0-clause-counted : goal.returns-then-term-ge0-clause-counted
returns-then-term-ge0-clause-counted c =
    let it = c.args.self.now in
    let a = aim_at it.rates.now it.car it.allowed it.required in
    let is = stored_term c.term-term.result c.term-term.ensures.low c.term-term.ensures.high in
    one_goes a c.args.waiting.now c.args.call c.without.result.counted
    (ap (λ (z : ℤ). int_lt z (pos 0)) (sym (is ∙ c.term-term.ensures.value)) ∙ not_below (to_z w128 (of_z w128 c.term-term.result)) c.if-term-ge0.true)
    c.without.ensures.counted
  where
    not_below : (z : ℤ) → le_z (pos 0) z ≡ true → int_lt z (pos 0) ≡ false
    not_below z h = grind (arith, ints, h)

pub returns-then-term-ge0-clause-are : goal.returns-then-term-ge0-clause-are
returns-then-term-ge0-clause-are c =
    let it = c.args.self.now in
    let a = aim_at it.rates.now it.car it.allowed it.required in
    let known = c.snapshot-accepted.ensures in
    let less = c.without.ensures in
    let is = stored_term c.term-term.result c.term-term.ensures.low c.term-term.ensures.high in
    even_less a c.args.call c.args.waiting.now c.without.result _ _ c.requires.are c.requires.call known.accepted known.prices c.requires.early
    (is ∙ c.term-term.ensures.value) c.growth-slope.ensures.slope less.counted less.sum less.moment less.slope less.told

pub returns-else-term-ge0-clause-counted : goal.returns-else-term-ge0-clause-counted
returns-else-term-ge0-clause-counted c =
    let it = c.args.self.now in
    let a = aim_at it.rates.now it.car it.allowed it.required in
    let is = stored_term c.term-term.result c.term-term.ensures.low c.term-term.ensures.high in
    one_stays a c.args.waiting.now c.args.call
    (ap (λ (z : ℤ). int_lt z (pos 0)) (sym (is ∙ c.term-term.ensures.value)) ∙ below (to_z w128 (of_z w128 c.term-term.result)) c.if-term-ge0.false)
  where
    below : (z : ℤ) → le_z (pos 0) z ≡ false → int_lt z (pos 0) ≡ true
    below z h = grind (arith, ints, h)
