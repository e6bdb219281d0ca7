use Rattle.std.proofs.Common.{◌≡◌, ◌∙◌, ◌+◌, ℕ, List, [], rules, length, ap, subst, sym, arith}
use Rattle.elevator_model.specs.Building.{Building}
use Rattle.elevator_model.specs.Snapshot.{car_count}
use Rattle.what_if.specs.declared.extras.Extra.{Extra}
use Rattle.what_if.specs.Ends.{AreExtrasBelow}
use Rattle.what_if.proofs.ExtraLists.{extras-more, extras-none}
use Rattle.what_if.proofs.asking.extras_of.Goals as goal

pub loop-car-init : goal.loop-car-init
loop-car-init g c =
    let none : c.new-extras.result.items ≡ [] = search rules in
    subst (AreExtrasBelow c.args.snapshot.now c.args.limits.rounds c.args.limits.most_tours c.args.before 0) (sym none)
    (extras-none c.args.snapshot.now c.args.limits.rounds c.args.limits.most_tours c.args.before)

pub loop-car-preserved : goal.loop-car-preserved
loop-car-preserved g c =
    let Are : List Extra → Type 0 = AreExtrasBelow c.args.snapshot.now c.args.limits.rounds c.args.limits.most_tours c.args.before (c.loop-car.car + 1) in
    subst Are (sym c.in_ok-push.ensures.items)
    (extras-more c.args.snapshot.now c.args.limits.rounds c.args.limits.most_tours c.args.before c.loop-car.car c.loop-car.extras.items c.in_ok-extra.extra
    c.loop-car.invariant c.in_ok-extra.ensures.told c.in_ok-extra.ensures.ranged)

pub returns : goal.returns
returns g c =
    let counted = ap length c.cars.ensures.value ∙ ap (λ (b : Building). length b.cars) c.building.ensures.value in
    let all : c.loop-car.car ≡ car_count c.args.snapshot.now = omega (arith, counted, c.loop-car-test.false, c.loop-car.auto.car-end) in
    subst (λ (n : ℕ). AreExtrasBelow c.args.snapshot.now c.args.limits.rounds c.args.limits.most_tours c.args.before n c.loop-car.extras.items) all
    c.loop-car.invariant
