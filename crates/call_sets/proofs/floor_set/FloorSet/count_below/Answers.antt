use Rattle.std.proofs.Common.{arith}
use Rattle.std.proofs.lemmas.Grind.{common_steps}
use Rattle.call_sets.specs.Counting.{has}
use Rattle.call_sets.proofs.Sums.{sum_where-more}
use Rattle.call_sets.proofs.floor_set.FloorSet.count_below.Goals as goal

pub loop-floor-preserved : goal.loop-floor-preserved
loop-floor-preserved c =
    let more = sum_where-more c.loop-floor.floor (has c.args.self) (λ _. 1) in
    grind (arith, common_steps)
