use Rattle.std.proofs.Common.{◌≡◌, ◌&&◌, not, ℕ, ap, subst}
use Rattle.call_sets.specs.Counting.{has}
use Rattle.elevator_model.specs.Snapshot.{Snapshot}
use Rattle.tour_extension.proofs.LeaveLemmas.{any_from, useful_told, useful_before, useless_shut}
use Rattle.tour_extension.proofs.leaves.useful.Goals as goal

pub returns-then-not-point-clause-value : goal.returns-then-not-point-clause-value
returns-then-not-point-clause-value c = λ x leads are.
    let t = c.args.prefix.now in
    useful_before t.snapshot t.car (has c.args.demand.now.allowed) c.point-point.result.now x c.args.followers
    (c.point-point.ensures x leads) c.if-not-point.true are

pub returns-then-not-point-clause-shut : goal.returns-then-not-point-clause-shut
returns-then-not-point-clause-shut c = λ x y m leads moved out.
    let t = c.args.prefix.now in
    useless_shut t.snapshot t.car (has c.args.demand.now.allowed) (has c.args.demand.now.required) x y m moved out

pub returns-clause-value : goal.returns-clause-value
returns-clause-value c = λ x leads are.
    let t = c.args.prefix.now in
    let waiting = c.waiting_later.result in
    let useless = subst (λ (s : Snapshot). (g : ℕ) → has c.floors_without-useless.result g ≡ (has c.minus-floors.result g && not (any_from s waiting g)))
    (ap (λ (l : _). l.snapshot) c.layout.ensures) c.floors_without-useless.ensures in
    let floors = subst (λ (set : ℕ). (g : ℕ) → has c.minus-floors.result g ≡ (has set g && not (has c.point-point.result.now.bound_for g))) c.leaves.ensures
    c.minus-floors.ensures in
    let kept = c.without_leaves.ensures in
    useful_told t.snapshot t.car (has c.args.demand.now.allowed)
    (has c.args.demand.now.required) c.point-point.result.now x waiting c.minus-floors.result c.floors_without-useless.result c.args.followers
    c.without_leaves.result c.requires
    (c.point-point.ensures x leads) c.if-not-point.false are c.waiting_later.ensures floors useless kept.boards kept.leaves kept.ends

pub returns-clause-shut : goal.returns-clause-shut
returns-clause-shut c = λ x y m leads moved out.
    let t = c.args.prefix.now in
    useless_shut t.snapshot t.car (has c.args.demand.now.allowed) (has c.args.demand.now.required) x y m moved out
