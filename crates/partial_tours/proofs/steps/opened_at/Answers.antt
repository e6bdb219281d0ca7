use Rattle.std.proofs.Common.{◌∙◌, ℕ, ap, arith}
use Rattle.elevator_model.specs.Snapshot.{Snapshot, spec_of}
use Rattle.elevator_model.specs.Tours.{arrival}
use Rattle.partial_tours.proofs.steps.opened_at.Goals as goal

pub returns-clause-value : goal.returns-clause-value
returns-clause-value c = λ p t leaves.
    let s = c.snapshot-snapshot.result.now in
    let car = c.args.layout.now.car in
    let arrives = c.arrival.ensures.value p t.begun t.floor leaves ∙ ap (λ (n : ℕ). arrival s n p c.args.floor) c.car-car.ensures.value
    ∙ ap (λ (u : Snapshot). arrival u car p c.args.floor) c.snapshot-snapshot.ensures.value in
    let opening = c.opening_of.ensures.value ∙ ap (λ (n : ℕ). (spec_of s n).opening) c.car-car.ensures.value
    ∙ ap (λ (u : Snapshot). (spec_of u car).opening) c.snapshot-snapshot.ensures.value in
    omega (arith, arrives, opening)
