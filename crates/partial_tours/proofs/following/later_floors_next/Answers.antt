use Rattle.std.proofs.Common.{◌&&◌, ◌∙◌, Bool, not, ap, sym, eqb}
use Rattle.call_sets.specs.Counting.{has}
use Rattle.partial_tours.proofs.NextSets.{later_same, served_low}
use Rattle.partial_tours.proofs.following.later_floors_next.Goals as goal

pub returns : goal.returns
returns c = λ x t begun g.
    let s = c.args.layout.now.snapshot in
    let car = c.args.layout.now.car in
    let point = c.args.point.now in
    c.without.ensures g ∙ ap (λ (z : Bool). z && not (eqb g point.place.floor)) (c.intersection.ensures g)
    ∙ later_same s car point x g (has c.floors_on_way.result g) (has c.served.result g) t begun (c.served.ensures g)
    (λ h. c.floors_on_way.ensures.on_way g h)
    (λ served way. c.floors_on_way.ensures.all g (served_low s car g c.snapshot-accepted.ensures.accepted (sym (c.served.ensures g) ∙ served)) way)
