use Rattle.std.proofs.Common.{refl, ℤ, pos, arith}
use Rattle.search_tree.proofs.SumLemmas.{sums_more}
use Rattle.search_tree.proofs.sheets.sum_worths.Goals as goal

pub loop-car-preserved : goal.loop-car-preserved
loop-car-preserved c =
    sums_more (λ (worth : ℤ). worth) c.args.worths.now c.loop-car.car _ _ (pos 0) (omega arith) (omega arith) c.loop-car.invariant refl
    (c.requires.sizes c.loop-car.car (omega arith))
