use Rattle.std.proofs.Common.{◌≡◌, ◌<◌, ◌∙◌, sym, subst, Some}
use Rattle.std.proofs.lemmas.Bool.{false≢true}
use Rattle.call_sets.specs.Counting.{has}
use Rattle.elevator_model.specs.Snapshot.{IsAccepted, car_count}
use Rattle.elevator_model.specs.Partial.{Course, course_start, course_of}
use Rattle.partial_tours.specs.PartialTour.{course}
use Rattle.partial_tours.proofs.Follow.{is_some_has}
use Rattle.car_layout.specs.Layouts.{LaidOut}
use Rattle.search_model.specs.Extending.{IsDemand, can_be_extended}
use Rattle.tour_extension.specs.Points.{StandsFor}
use Rattle.tour_extension.proofs.Extended.{ended_none, extending_holds}
use Rattle.tour_extension.proofs.Standing.{stands_for}
use Rattle.tour_extension.proofs.extending.can_be_extended.Goals as goal

pub passes_test-requires : goal.passes_test-requires
passes_test-requires c =
    subst (λ (l : LaidOut). IsDemand l.snapshot l.car (has c.args.demand.now.allowed) (has c.args.demand.now.required)) (sym c.layout-layout.ensures) c.requires

told : (c : goal.After-passes_test) (x : Course) → course c.args.prefix.now ≡ Some x
    → c.passes_test.result ≡ can_be_extended c.args.prefix.now.snapshot c.args.prefix.now.car (has c.args.demand.now.allowed) (has c.args.demand.now.required) x
told c x leads =
    let s = c.args.prefix.now.snapshot in
    let car = c.args.prefix.now.car in
    let point = c.point.result.now in
    let stands = stands_for s car point x (c.point.ensures x leads)
    (ended_none s car (course_start s car) c.args.prefix.now.moves x (λ never. absurd (false≢true never)) leads) in
    subst (λ (l : LaidOut). c.passes_test.result ≡ can_be_extended l.snapshot l.car (has c.args.demand.now.allowed) (has c.args.demand.now.required) x)
    c.layout-layout.ensures (c.passes_test.ensures x (subst (λ (l : LaidOut). StandsFor l.snapshot l.car point x) (sym c.layout-layout.ensures) stands))

pub returns-clause-test : goal.returns-clause-test
returns-clause-test c = λ x leads. told c x leads

pub returns-clause-tour : goal.returns-clause-tour
returns-clause-tour c = λ may.
    let s = c.args.prefix.now.snapshot in
    let car = c.args.prefix.now.car in
    let x = is_some_has (course_of s car c.args.prefix.now.moves) c.moves-lawful.ensures.lawful in
    let same = told c x.0 x.1 in
    let exact = extending_holds s car (has c.args.demand.now.allowed) (has c.args.demand.now.required) c.args.prefix.now.moves x.0
    (subst (λ (l : LaidOut). IsAccepted l.snapshot) c.layout-layout.ensures c.snapshot-accepted.ensures.accepted)
    (subst (λ (l : LaidOut). l.car < car_count l.snapshot) c.layout-layout.ensures c.car-car.ensures.car) c.requires may x.1 in
    ((λ e. exact.sound (sym same ∙ e)), (λ e. same ∙ exact.complete e))
