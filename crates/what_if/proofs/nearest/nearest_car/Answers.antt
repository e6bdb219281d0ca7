use Rattle.std.proofs.Common.{subst}
use Rattle.elevator_model.specs.Snapshot.{car_count}
use Rattle.what_if.specs.WhatIf.{takes_asked}
use Rattle.what_if.specs.Ends.{IsFirstLeast, distance_key}
use Rattle.what_if.proofs.NearestLaws.{nearest-is, some-takes}
use Rattle.what_if.proofs.nearest.nearest_car.Goals as goal

pub unreachable-requires : goal.unreachable-requires
unreachable-requires c =
    let s = c.args.snapshot.now in
    some-takes s c.requires c.first_nearest.ensures.accepted
    (subst (IsFirstLeast (takes_asked s) (distance_key s) (car_count s)) c.in-None.is c.first_nearest.ensures.first)

pub returns : goal.returns
returns c =
    let s = c.args.snapshot.now in
    nearest-is s c.in-Some.car (subst (IsFirstLeast (takes_asked s) (distance_key s) (car_count s)) c.in-Some.is c.first_nearest.ensures.first)
