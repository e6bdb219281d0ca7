use Rattle.std.proofs.Common.{arith}
use Rattle.std.proofs.lemmas.Int.{ints, clamps}
use Rattle.partition_relaxation.proofs.relaxing.price_near.Goals as goal

pub returns : goal.returns
returns c =
    let low = c.value-centre.ensures.range.0 in
    let high = c.value-centre.ensures.range.1 in
    record {
      high = omega (
        arith,
        ints,
        clamps,
        c.nearest.ensures,
        low,
        high,
        c.value-centre.ensures.value,
        c.from-reach.ensures,
        c.min.ensures.value,
        c.max.ensures.value,
        c.ranges.reach,
      );
      low = omega (
        arith,
        ints,
        clamps,
        c.nearest.ensures,
        low,
        high,
        c.value-centre.ensures.value,
        c.from-reach.ensures,
        c.min.ensures.value,
        c.max.ensures.value,
        c.ranges.reach,
      );
    }
