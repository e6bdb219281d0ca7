use Rattle.std.proofs.Common.{◌≤◌, sym, ap, subst}
use Rattle.elevator_model.specs.Snapshot.{Snapshot, call_count}
use Rattle.partial_tours.specs.PartialTour.{PartialTour}
use Rattle.partial_tours.proofs.Search.{few_calls}
use Rattle.partial_tours.proofs.Listed.{all_tours}
use Rattle.plain_solver.proofs.tours.feasible_tours.Goals as goal

pub add_tours-requires : goal.add_tours-requires
add_tours-requires c =
    let few = few_calls c.args.snapshot.now c.calls.ensures.accepted in
    subst (λ (s : Snapshot). call_count s ≤ 128) (sym (ap (λ (p : PartialTour). p.snapshot) c.in_ok-prefix.ensures)) few

pub returns : goal.returns
returns c =
    all_tours c.in_ok-prefix.prefix c.args.snapshot.now c.args.car c.new-found.result.items c.add_tours.new.found.items c.in_ok-prefix.ensures
    c.new-found.ensures.items c.in_ok-add_tours.ensures.found
