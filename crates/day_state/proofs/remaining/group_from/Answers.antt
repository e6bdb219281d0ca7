use Rattle.std.proofs.Common.{◌∙◌, List, get_or, ap}
use Rattle.elevator_model.specs.declared.Aboard.{Aboard}
use Rattle.elevator_model.specs.declared.Call.{Call}
use Rattle.elevator_model.specs.Snapshot.{no_call}
use Rattle.day_state.proofs.CarsReached.{new-group}
use Rattle.day_state.proofs.remaining.group_from.Goals as goal

pub returns : goal.returns
returns c = λ p riders r.
    let s = c.args.snapshot.now in
    let made : List Call → Aboard = λ calls. let x = get_or calls c.args.call no_call in
    record { id = x.id; car = c.args.car; destination = x.destination; persons = x.persons; boarded = c.boarded-boarded.result } in
    ap made c.calls.ensures.value ∙ new-group s c.args.car c.args.ride.now p riders c.args.call c.boarded-boarded.result r c.requires c.boarded-boarded.ensures
