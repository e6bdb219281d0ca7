use Rattle.std.proofs.Common.{◌+◌, ◌*◌, ℕ, ap, ◌∙◌, refl, List, slice_index_or}
use Rattle.elevator_model.specs.declared.CarSpec.{CarSpec}
use Rattle.elevator_model.specs.declared.Call.{Call}
use Rattle.elevator_model.specs.Snapshot.{Snapshot, no_call, spec_of}
use Rattle.partial_tours.proofs.Tallied.{counts_board}
use Rattle.partial_tours.proofs.tally.Tally.after_board.Goals as goal

pub returns-clause-counts : goal.returns-clause-counts
returns-clause-counts c = λ p stop kept rises stands counts.
    let s = c.args.layout.now.snapshot in
    let car = c.args.layout.now.car in
    let leaves = c.args.self.now.leaves in
    let spec = c.spec.ensures.value ∙ ap (λ (n : ℕ). spec_of c.snapshot-snapshot.result.now n) c.car.ensures.value
    ∙ ap (λ (u : Snapshot). spec_of u car) c.snapshot-snapshot.ensures.value in
    let calls = c.calls.ensures.value ∙ ap (λ (u : Snapshot). u.calls) c.snapshot-snapshot.ensures.value in
    let same = ap (λ (x : CarSpec). leaves + x.boarding * (slice_index_or c.calls.result.now c.args.call no_call).persons) spec
    ∙ ap (λ (xs : List Call). leaves + (spec_of s car).boarding * (slice_index_or xs c.args.call no_call).persons) calls in
    counts_board s car p stop c.args.call c.args.self.now _ c.requires.call kept rises stands counts refl same refl
