use Rattle.std.proofs.Common.{◌∙◌, arith}
use Rattle.std.proofs.lemmas.Int.{ints}
use Rattle.pricing_bound.proofs.RateLemmas.{stored}
use Rattle.pricing_bound.proofs.straight.StraightRides.waiting.Goals as goal

pub sifted-requires-clause-are : goal.sifted-requires-clause-are
sifted-requires-clause-are c =
    let terms = c.terms.ensures in
    let low = terms.low in
    let high = terms.high in
    let is = stored c.terms.result (omega (arith, ints, low)) (omega (arith, ints, high)) in
    let growth = c.growth.ensures in
    record {
      calls = c.requires.within;
      sum = is
          ∙ terms.sum;
      low = omega (arith, ints, is, low);
      high = omega (arith, ints, is, high);
      slope = growth.slope;
      gentle = growth.gentle;
      even = growth.even;
    }
