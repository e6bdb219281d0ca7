use Rattle.std.proofs.Common.{sym, length, arith}
use Rattle.std.proofs.lemmas.Bool.{and_from}
use Rattle.tour_rules.specs.Places.{group_heads}
use Rattle.call_sets.proofs.BelowTests.{any_below-at}
use Rattle.tour_rules.proofs.places.any_group_heads.Goals as goal

pub returns-then-includes : goal.returns-then-includes
returns-then-includes c =
    sym (any_below-at (length c.args.groups.now) (group_heads c.args.groups.now c.args.car c.args.visited c.args.heading) c.loop-group.group-index
    (omega arith) (and_from _ _ (sym c.if-is_carried.ensures) (sym c.if-includes.ensures)))
