use Rattle.search_tree.proofs.SumLemmas.{keeps_stored}
use Rattle.search_tree.proofs.sheets.Sheet.new.Goals as goal

pub invariant_of-result : goal.invariant_of-result
invariant_of-result c = keeps_stored _ _ _ _ c.sum_all-sum.result c.deref.ensures.value c.deref-2.ensures.value c.sum_all-sum.ensures
