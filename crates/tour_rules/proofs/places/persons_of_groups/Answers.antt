use Rattle.std.proofs.Common.{◌==◌, sym, length, arith}
use Rattle.std.proofs.lemmas.Bool.{and_from, and_parts}
use Rattle.tour_rules.specs.Places.{group_heads, group_in}
use Rattle.call_sets.proofs.Sums.{sum_where-up, sum_where-step}
use Rattle.tour_rules.proofs.places.persons_of_groups.Goals as goal

pub overflow_add-persons : goal.overflow_add-persons
overflow_add-persons c =
    let gs = c.args.groups.now in
    let step = sum_where-step (length gs) c.loop-group.group-index (group_heads gs c.args.car c.args.visited c.args.heading)
    (λ k. (group_in gs k).car == c.args.car) (λ k. (group_in gs k).persons) (omega arith)
    (and_from _ _ (sym c.if-is_carried.ensures) (sym c.if-includes.ensures)) (λ k h. (and_parts _ _ (and_parts _ _ h).0).0) in
    omega (arith, step)

pub returns-clause-small : goal.returns-clause-small
returns-clause-small c =
    let gs = c.args.groups.now in
    let up = sum_where-up (length gs) c.loop-group.group-index (group_heads gs c.args.car c.args.visited c.args.heading)
    (λ k. (group_in gs k).car == c.args.car) (λ k. (group_in gs k).persons) (omega arith) (λ k h. (and_parts _ _ (and_parts _ _ h).0).0) in
    omega (arith, up)
