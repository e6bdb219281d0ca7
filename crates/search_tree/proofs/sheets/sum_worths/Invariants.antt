use Rattle.std.proofs.Common.{ℤ}
use Rattle.search_tree.proofs.SumLemmas.{SumsTo}
use Rattle.search_tree.proofs.sheets.sum_worths.Given as goal

abbrev pub invariant-loop-car : goal.invariant-loop-car
invariant-loop-car l = SumsTo (λ (worth : ℤ). worth) l.worths l.car l.sum
