use Rattle.search_model.specs.declared.TurnOf.{TurnOf}
use Rattle.search_tree.proofs.SumLemmas.{SumsTo}
use Rattle.search_tree.proofs.sheets.sum_turn.Given as goal

abbrev pub invariant-loop-car : goal.invariant-loop-car
invariant-loop-car l = SumsTo (λ (t : TurnOf). t.priced.worth) l.cars l.car l.sum
