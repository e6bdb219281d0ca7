use Rattle.std.proofs.Common.{◌≡◌, ℕ, map, None, ◌∙◌, ap}
use Rattle.elevator_model.specs.declared.Call.{Call}
use Rattle.elevator_model.specs.Snapshot.{Snapshot, no_call}
use Rattle.call_state.proofs.IdLemmas.{item_place}
use Rattle.call_state.proofs.snapshots.Snapshot.call_of.Goals as goal

pub returns-in-None-clause-call : goal.returns-in-None-clause-call
returns-in-None-clause-call c =
    let id : Call → ℕ = λ x. x.id in
    let same : c.self.inside.ids ≡ map id c.args.self.now.calls = c.self.invariant.1 ∙ ap (λ (s : Snapshot). map id s.calls) c.self.view_is in
    item_place id c.args.self.now.calls no_call c.self.inside.ids c.args.id None same c.in-None.ensures
