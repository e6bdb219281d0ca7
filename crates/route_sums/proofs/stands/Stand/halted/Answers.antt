use Rattle.std.proofs.Common.{◌≡◌, ◌+◌, ◌*◌, ◌∙◌, ℕ, ap, refl, subst, arith}
use Rattle.call_sets.specs.Counting.{has}
use Rattle.elevator_model.specs.Snapshot.{Snapshot, spec_of}
use Rattle.elevator_model.specs.Tours.{arrival}
use Rattle.car_layout.specs.Layouts.{LaidOut, ends_at}
use Rattle.route_bound.specs.ForcedRoute.{halted}
use Rattle.partial_tours.specs.Courses.{reached}
use Rattle.partial_tours.proofs.Follow.{no_boards_at}
use Rattle.route_sums.proofs.StandLemmas.{halts, leaves_low, leaving_from, opened_low}
use Rattle.route_sums.proofs.stands.Stand.halted.Goals as goal

pub returns-clause-stands : goal.returns-clause-stands
returns-clause-stands c = λ x p e h.
    let t = c.args.prefix.now in
    let s = t.snapshot in
    let old = c.args.self.now in
    let f = c.args.floor in
    let q = leaving_from p old.leaves in
    let snap : c.snapshot-snapshot.result.now ≡ s = c.snapshot-snapshot.ensures.value ∙ ap (λ (l : LaidOut). l.snapshot) c.layout-layout.ensures in
    let car : c.car-car.result ≡ t.car = c.car-car.ensures.value ∙ ap (λ (l : LaidOut). l.car) c.layout-layout.ensures in
    let arrives : c.arrival-arrives.result ≡ arrival s t.car q f = c.arrival-arrives.ensures.value q h.place.begun h.place.floor refl
    ∙ ap (λ (n : ℕ). arrival c.snapshot-snapshot.result.now n q f) car ∙ ap (λ (u : Snapshot). arrival u t.car q f) snap in
    let opening : c.opening_of.result ≡ (spec_of s t.car).opening = c.opening_of.ensures.value
    ∙ ap (λ (n : ℕ). (spec_of c.snapshot-snapshot.result.now n).opening) car ∙ ap (λ (u : Snapshot). (spec_of u t.car).opening) snap in
    let opened = opened_low s t.car p old.leaves f c.arrival-arrives.result c.opening_of.result c.min-opened.result 99000000000 h.leaves arrives opening
    c.min-opened.ensures in
    let persons = c.leaving_at-leaving.ensures.persons x p e h in
    let cost = c.leaving_at-leaving.ensures.cost x p (halted s t.car p f).opened e h opened in
    let n = c.leaving_at-leaving.result.persons in
    let dwell = c.dwell_of-dwell.ensures.value
    ∙ ap (λ (k : ℕ). (spec_of c.snapshot-snapshot.result.now k).alighting * n + (spec_of c.snapshot-snapshot.result.now k).boarding * 0 +
    (spec_of c.snapshot-snapshot.result.now k).closing) car
    ∙ ap (λ (u : Snapshot). (spec_of u t.car).alighting * n + (spec_of u t.car).boarding * 0 + (spec_of u t.car).closing) snap in
    let leaves = leaves_low s t.car p f n c.dwell_of-dwell.result c.min-opened.result c.min.result 99000000000 opened persons
    (no_boards_at s f) dwell c.min.ensures in
    let place = c.with_stop.ensures.tracks s t.car p h.place
    (λ j. subst (λ (l : LaidOut). has c.ending.result j ≡ ends_at l.snapshot f j) c.layout-layout.ensures (c.ending.ensures j)) in
    let most = c.min-2.ensures in
    halts s t.car c.args.newest (reached s t.car x) old _ p f c.leaving_at-leaving.result.cost h c.requires.to place c.without.ensures opened leaves
    (omega (arith, most)) cost
