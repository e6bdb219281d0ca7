use Rattle.std.proofs.Common.{◌≤◌, ◌-◌, length, drop, sym, ◌∙◌, arith, length-drop}
use Rattle.call_state.proofs.BuildingLemmas.{is_rising-short}
use Rattle.call_state.proofs.buildings.are_rising.Goals as goal

pub returns : goal.returns
returns c =
    let xs = c.args.numbers.now in
    let rest = drop (c.loop-k.k - 1) xs in
    let long = length-drop (c.loop-k.k - 1) xs in
    let short : length rest ≤ 1 = omega arith in
    sym (c.loop-k.invariant ∙ is_rising-short rest short)
