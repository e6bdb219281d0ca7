use Rattle.std.proofs.Common.{◌≡◌, ◌<◌, ◌*◌, ◌∙◌, ◌||◌, eqb, ℕ, List, ap, refl, subst, arith}
use Rattle.call_sets.specs.Counting.{has}
use Rattle.elevator_model.specs.declared.Call.{Call}
use Rattle.elevator_model.specs.declared.CarSpec.{CarSpec}
use Rattle.elevator_model.specs.Snapshot.{IsAccepted, Snapshot, car_count, spec_of}
use Rattle.car_layout.specs.Layouts.{LaidOut}
use Rattle.tour_rules.specs.Places.{call_in}
use Rattle.pricing_bound.specs.Standing.{course_standing}
use Rattle.route_sums.proofs.StandLemmas.{board_stands}
use Rattle.route_sums.proofs.stands.Stand.with_board.Goals as goal

pub returns-clause-stands : goal.returns-clause-stands
returns-clause-stands c = λ x y new e h same is_call is_moment leads.
    let t = c.args.prefix.now in
    let s = t.snapshot in
    let j = c.args.call in
    let snap : c.snapshot-snapshot.result.now ≡ s = c.snapshot-snapshot.ensures.value ∙ ap (λ (l : LaidOut). l.snapshot) c.layout-layout.ensures in
    let accepted = subst (λ (l : LaidOut). IsAccepted l.snapshot) c.layout-layout.ensures c.snapshot-snapshot.ensures.accepted in
    let known = subst (λ (n : ℕ). n < car_count s) c.car-car.ensures.value c.car-car.ensures.car in
    let car : c.car.result ≡ t.car = c.car.ensures.value ∙ ap (λ (l : LaidOut). l.car) c.layout-layout.ensures in
    let calls = c.calls.ensures.value ∙ ap (λ (u : Snapshot). u.calls) snap in
    let spec = c.spec.ensures.value ∙ ap (λ (n : ℕ). spec_of c.snapshot-snapshot.result.now n) car ∙ ap (λ (u : Snapshot). spec_of u t.car) snap in
    let time = ap (λ (z : CarSpec). z.boarding * (call_in c.calls.result.now j).persons) spec
    ∙ ap (λ (xs : List Call). (spec_of s t.car).boarding * (call_in xs j).persons) calls in
    let cut = c.min.ensures in
    board_stands s t.car x y j new c.args.self.now _ (course_standing s t.car t.moves x accepted known e) leads is_call (is_moment ∙ same) h (record {
      begun = c.with_board.ensures.begun;
      floor = c.with_board.ensures.floor;
      visited = c.with_board.ensures.visited;
      boarded = c.with_board.ensures.boarded;
      carried = c.with_board.ensures.carried;
      bound_for = λ f. c.with.ensures f ∙ ap (λ (xs : List Call). has c.args.self.now.bound_for f || eqb f (call_in xs j).destination) calls;
      opened = refl;
      leaves = omega (arith, cut, time);
      settled = refl;
    })
