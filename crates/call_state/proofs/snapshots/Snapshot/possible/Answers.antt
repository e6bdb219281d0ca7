use Rattle.std.proofs.Common.{ap}
use Rattle.elevator_model.specs.Snapshot.{Snapshot}
use Rattle.call_state.proofs.PossibleLemmas.{possible_at}
use Rattle.call_state.proofs.snapshots.Snapshot.possible.Goals as goal

pub returns-clause-cars : goal.returns-clause-cars
returns-clause-cars c =
    let parts = c.self.inside.parts in
    possible_at parts.building parts.calls.items c.self.inside.possible.items c.args.self.now c.args.call c.index.result.now c.self.invariant.2
    (ap (λ (s : Snapshot). s.building) c.self.view_is) (ap (λ (s : Snapshot). s.calls) c.self.view_is) c.requires c.index.ensures
