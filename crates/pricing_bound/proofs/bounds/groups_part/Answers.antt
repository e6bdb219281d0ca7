use Rattle.std.proofs.Common.{ap, arith, length}
use Rattle.std.proofs.lemmas.Int.{ints}
use Rattle.partial_tours.specs.Courses.{reached}
use Rattle.pricing_bound.specs.Parts.{group_part}
use Rattle.pricing_bound.proofs.PartLemmas.{groups_few, int_sum-more}
use Rattle.pricing_bound.proofs.bounds.groups_part.Goals as goal

pub overflow_cast-group : goal.overflow_cast-group
overflow_cast-group c =
    let few = groups_few c.args.snapshot.now c.aboard-group-end.ensures.accepted in
    let same = ap length c.aboard-group-end.ensures.value in
    omega (arith, few, same)

pub loop-group-preserved : goal.loop-group-preserved
loop-group-preserved c =
    let t = c.args.prefix.now in
    let group = c.loop-group.group in
    record {
      sum = λ x e. let here = c.group_part-sum.ensures.part x e in let more = int_sum-more group (group_part t.snapshot (reached t.snapshot t.car x)) in
          let so_far = c.loop-group.invariant.sum x e in omega (arith, ints, so_far, here, more);
      low = omega (arith, ints);
      high = omega (arith, ints);
    }

pub returns-clause-high : goal.returns-clause-high
returns-clause-high c =
    let few = groups_few c.args.snapshot.now c.aboard-group-end.ensures.accepted in
    let same = ap length c.aboard-group-end.ensures.value in
    omega (arith, ints, few, same)
