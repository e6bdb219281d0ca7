use Rattle.std.proofs.Common.{◌≡◌, pos, subst, get_or, rules, to_z, of_z}
use Rattle.std.specs.Int.{w128}
use Rattle.std.specs.List.{All}
use Rattle.std.proofs.lemmas.List.{take_all}
use Rattle.std.proofs.lemmas.List.Elements.{All-more}
use Rattle.assign_branch.specs.Pricings.{IsWorthSize}
use Rattle.kept_tours.specs.Leaves.{HasWorthSize}
use Rattle.library_tests.proofs.texts.sized.are_sized.Goals as goal

pub loop-entry-preserved : goal.loop-entry-preserved
loop-entry-preserved c =
    let worth = (get_or c.args.worths.now c.loop-entry.entry-index (record { car = 0; worth = pos 0; claim = 0 })).worth in
    let stored : to_z w128 (of_z w128 worth) ≡ worth = search rules in
    All-more HasWorthSize c.args.worths.now c.loop-entry.entry-index
    (record { car = 0; worth = pos 0; claim = 0 }) c.loop-entry-test.true c.loop-entry.invariant
    (subst IsWorthSize stored (c.is_sized.ensures c.if-not-is_sized.false))

pub returns : goal.returns
returns c e =
    subst (All HasWorthSize) (take_all c.loop-entry.entry-index c.args.worths.now c.loop-entry-test.false) c.loop-entry.invariant
