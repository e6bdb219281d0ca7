use Rattle.std.proofs.Common.{◌&&◌, ◌∙◌, Bool, true, ap, sym, refl}
use Rattle.std.proofs.lemmas.Bool.{both_ways}
use Rattle.call_sets.specs.Counting.{has}
use Rattle.partial_tours.proofs.NextSets.{first_same, served_low, and_true}
use Rattle.partial_tours.proofs.following.first_floors_next.Goals as goal

pub returns-then-is_coming : goal.returns-then-is_coming
returns-then-is_coming c = λ x t begun g.
    let s = c.args.layout.now.snapshot in
    let car = c.args.layout.now.car in
    let coming = sym c.is_coming.ensures ∙ c.if-is_coming.true in
    c.intersection-floors.ensures g ∙ and_true (has c.served.result g && has c.first_floors.result g)
    ∙ first_same s car c.args.point.now x g true (has c.served.result g) (has c.first_floors.result g) t begun (c.served.ensures g)
    (λ served. c.first_floors.ensures g (served_low s car g c.snapshot-accepted.ensures.accepted (sym (c.served.ensures g) ∙ served)))
    (λ idle. absurd (both_ways _ idle coming)) (λ served way. refl)

pub returns-else-is_coming : goal.returns-else-is_coming
returns-else-is_coming c = λ x t begun g.
    let s = c.args.layout.now.snapshot in
    let car = c.args.layout.now.car in
    let away = sym c.is_coming.ensures ∙ c.if-is_coming.false in
    c.intersection.ensures g ∙ ap (λ (z : Bool). z && has c.floors_on_way.result g) (c.intersection-floors.ensures g)
    ∙ first_same s car c.args.point.now x g (has c.floors_on_way.result g) (has c.served.result g) (has c.first_floors.result g) t begun
    (c.served.ensures g) (λ served. c.first_floors.ensures g (served_low s car g c.snapshot-accepted.ensures.accepted (sym (c.served.ensures g) ∙ served)))
    (λ idle h. c.floors_on_way.ensures.on_way g h)
    (λ served way. c.floors_on_way.ensures.all g (served_low s car g c.snapshot-accepted.ensures.accepted (sym (c.served.ensures g) ∙ served)) (way away))
