use Rattle.std.proofs.Common.{◌∙◌, sym, get_or, arith}
use Rattle.std.proofs.lemmas.List.{get_or_default}
use Rattle.search_model.specs.declared.TurnOf.{TurnOf}
use Rattle.search_model.specs.Solving.{no_turn}
use Rattle.search_tree.proofs.SumLemmas.{sums_more, sums_to_all, sums_within, turn_sum}
use Rattle.search_tree.proofs.sheets.sum_turn.Goals as goal

pub loop-car-preserved : goal.loop-car-preserved
loop-car-preserved c =
    let d = c.index-cars-car.result in
    let x = get_or c.args.cars.now c.loop-car.car d in
    sums_more (λ (t : TurnOf). t.priced.worth) c.args.cars.now c.loop-car.car _ x no_turn (omega arith) (omega arith) c.loop-car.invariant
    (get_or_default c.args.cars.now c.loop-car.car d no_turn (omega arith)) (c.requires.sizes c.loop-car.car (omega arith))

pub returns : goal.returns
returns c = record {
  sum = sums_to_all (λ (t : TurnOf). t.priced.worth) c.args.cars.now c.loop-car.car _ c.loop-car.invariant (omega arith) ∙ sym (turn_sum c.args.cars.now);
  range = sums_within (λ (t : TurnOf). t.priced.worth) c.args.cars.now c.loop-car.car _ c.loop-car.invariant (omega arith);
}
