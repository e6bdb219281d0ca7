use Rattle.std.proofs.Common.{◌∙◌, ◌+◌, ◌≤◌, ap, subst, arith}
use Rattle.elevator_model.specs.Snapshot.{Snapshot, IsAccepted, spec_of}
use Rattle.car_layout.specs.Layouts.{LaidOut, persons_to, moments_to}
use Rattle.pricing_bound.proofs.CarriedLemmas.{ridden_fits}
use Rattle.pricing_bound.proofs.carried.ridden_to.Goals as goal

pub overflow_sub-result : goal.overflow_sub-result
overflow_sub-result c =
    let t = c.args.prefix.now in
    let g = c.args.to in
    let late = subst (λ (s : Snapshot). s.moment + (spec_of s t.car).opening ≤ c.args.opened) c.requires.same c.requires.late in
    let arrival = c.arrival_from.ensures.value in
    let persons = c.persons_to.ensures.value ∙ ap (λ (l : LaidOut). persons_to l.snapshot.aboard l.car g) c.layout-layout.ensures in
    let moments = c.moments_to.ensures ∙ ap (λ (l : LaidOut). moments_to l.snapshot.aboard l.car g) c.layout-layout.ensures in
    ridden_fits t.snapshot t.car g c.persons_to.result c.moments_to.result c.arrival_from.result
    (subst IsAccepted c.requires.same c.requires.accepted) persons moments (omega (arith, late, arrival))
