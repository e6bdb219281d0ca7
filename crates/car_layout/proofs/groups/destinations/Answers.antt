use Rattle.std.proofs.Common.{◌∙◌, ap, eqb, List, get_or}
use Rattle.elevator_model.specs.declared.Aboard.{Aboard}
use Rattle.elevator_model.specs.Snapshot.{no_group}
use Rattle.car_layout.specs.Layouts.{is_group_to}
use Rattle.car_layout.proofs.ScanLemmas.{any_more, either_way}
use Rattle.car_layout.proofs.groups.destinations.Goals as goal

pub loop-k-preserved : goal.loop-k-preserved
loop-k-preserved c = λ g.
    let k = c.loop-k.k in
    let car = c.args.car in
    let groups = c.aboard-groups.result.now in
    let group = get_or groups k no_group in
    any_more c.loop-k.set c.with_if-set.result g group.destination k (eqb group.car car)
    (is_group_to c.args.snapshot.now.aboard car) c.loop-k.invariant c.with_if-set.ensures
    (λ f. either_way (eqb group.car car) f group.destination ∙ ap (λ (gs : List Aboard). is_group_to gs car f k) c.aboard-groups.ensures.value)
