use Rattle.std.proofs.Common.{List, sym, subst}
use Rattle.elevator_model.specs.Snapshot.{car_count}
use Rattle.what_if.specs.declared.extras.Extra.{Extra}
use Rattle.what_if.specs.WhatIf.{HasEnds, IsNearest, extra_at}
use Rattle.what_if.specs.Ends.{IsRanged}
use Rattle.what_if.proofs.ExtraLists.{all-ranged, all-settled, extras-of}
use Rattle.what_if.proofs.RegretLaws.{regret-is}
use Rattle.what_if.proofs.asking.what_if.Goals as goal

pub regret_of-nearest-requires-clause-ranged : goal.regret_of-nearest-requires-clause-ranged
regret_of-nearest-requires-clause-ranged g c k =
    let s = c.args.snapshot.now in
    subst (λ (xs : List Extra). IsRanged (extra_at xs k)) (sym c.deref.ensures.value)
    (all-ranged s c.args.limits.rounds c.args.limits.most_tours c.in_ok-before.before (car_count s) c.in_ok-extras.extras.items c.in_ok-extras.ensures k)

pub returns-clause-nearest : goal.returns-clause-nearest
returns-clause-nearest g c =
    let s = c.args.snapshot.now in
    let extras = c.in_ok-extras.extras.items in
    let regret = c.regret_of-nearest.result in
    let are = extras-of s c.args.limits.rounds c.args.limits.most_tours c.in_ok-before.before extras c.in_ok-before.ensures c.in_ok-extras.ensures in
    regret-is s c.args.limits.rounds c.args.limits.most_tours extras regret are
    (subst (IsNearest s) (sym c.regret_of-nearest.ensures.car) c.nearest_car.ensures)
    (subst (λ (xs : List Extra). HasEnds xs regret) c.deref.ensures.value c.regret_of-nearest.ensures.ends)

pub returns-clause-enough : goal.returns-clause-enough
returns-clause-enough g c enough =
    let s = c.args.snapshot.now in
    all-settled s c.args.limits.rounds c.args.limits.most_tours c.in_ok-before.before c.in_ok-extras.extras.items c.in_ok-before.ensures c.in_ok-extras.ensures
    enough
