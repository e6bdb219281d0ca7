use Rattle.std.proofs.Common.{ℕ, map, List, subst, sym, ap, ◌∙◌}
use Rattle.elevator_model.specs.declared.Call.{Call}
use Rattle.call_state.specs.SnapshotParts.{snapshot_of}
use Rattle.call_state.specs.Ids.{AreDifferent}
use Rattle.call_state.specs.Possible.{ArePossible}
use Rattle.call_state.proofs.Accepted.{ids-IsAccepted}
use Rattle.call_state.proofs.snapshots.Snapshot.of_accepted.Goals as goal

pub of_calls-requires : goal.of_calls-requires
of_calls-requires c =
    let P : List Call → Type 0 = λ calls. AreDifferent (map (λ (x : Call). x.id) calls) in
    subst P (sym c.deref.ensures.value) (ids-IsAccepted (snapshot_of c.args.parts) c.requires)

pub invariant_of-result : goal.invariant_of-result
invariant_of-result c =
    let f : List Call → List ℕ = map (λ x. x.id) in (
      c.requires,
      c.in_ok-ids.ensures ∙ ap f c.deref.ensures.value,
      subst (λ (calls : List Call). ArePossible c.args.parts.building calls c.in_ok-possible.possible.items) c.deref-2.ensures.value c.in_ok-possible.ensures,
    )
