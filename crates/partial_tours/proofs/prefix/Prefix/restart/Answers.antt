use Rattle.std.proofs.Common.{◌<◌, subst, sym, arith}
use Rattle.elevator_model.specs.Snapshot.{IsAccepted, car_count}
use Rattle.car_layout.specs.Layouts.{LaidOut}
use Rattle.partial_tours.specs.PartialTour.{PartialTour}
use Rattle.partial_tours.proofs.Prefixes.{IsPrefix-new}
use Rattle.partial_tours.proofs.Tallied.{IsTallied-again}
use Rattle.partial_tours.proofs.prefix.Prefix.restart.Goals as goal

pub invariant_of-self : goal.invariant_of-self
invariant_of-self c =
    let f = c.self.inside in
    let new = c.restart.new.self in
    let accepted = subst (λ (l : LaidOut). IsAccepted l.snapshot) (sym c.restart.ensures) c.self.invariant.0.accepted in
    let below = subst (λ (p : PartialTour). c.args.car < car_count p.snapshot) (sym c.self.view_is) c.requires in
    let car = subst (λ (l : LaidOut). l.car < car_count l.snapshot) (sym c.restart.ensures) below in
    let room = c.self.invariant.1 in
    let more = c.self.invariant.2 in
    let cleared = c.clear.ensures.capacity in
    let also = c.clear-2.ensures.capacity in
    let pushed = c.push_reserved.ensures.capacity in (
      IsPrefix-new new.snapshot new.car _ _ _ c.start.result accepted car c.start.ensures.point c.clear.ensures.items c.clear-2.ensures.items
          c.push_reserved.ensures.items,
      omega (arith, room, cleared),
      omega (arith, more, also, pushed),
      IsTallied-again new.snapshot new.car _ _ _ c.start.result _ c.start.ensures.tally c.clear.ensures.items c.clear-2.ensures.items
          c.push_reserved.ensures.items c.self.invariant.3.room c.self.invariant.3.low,
    )
