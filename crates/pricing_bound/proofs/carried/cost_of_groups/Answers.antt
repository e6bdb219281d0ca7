use Rattle.std.proofs.Common.{◌∙◌, ◌*◌, ◌+◌, ◌&&◌, ◌<◌, ◌≤◌, not, ℕ, Bool, ap, sym, subst}
use Rattle.call_sets.specs.Counting.{has}
use Rattle.std.proofs.lemmas.Bool.{and_parts}
use Rattle.elevator_model.specs.Building.{Building, floor_count}
use Rattle.elevator_model.specs.Snapshot.{Snapshot, IsAccepted, car_count, spec_of}
use Rattle.car_layout.specs.Layouts.{LaidOut, any_group_to}
use Rattle.partial_tours.specs.Courses.{reached}
use Rattle.tour_rules.proofs.Riders.{riders_carried}
use Rattle.pricing_bound.specs.Running.{standing_at}
use Rattle.pricing_bound.proofs.CarriedLemmas.{groups_by_floor, goes_within, placed_standing, carried_standing}
use Rattle.pricing_bound.proofs.PartLemmas.{placed_at}
use Rattle.pricing_bound.proofs.carried.cost_of_groups.Goals as goal

pub ridden_to_all-requires-clause-within : goal.ridden_to_all-requires-clause-within
ridden_to_all-requires-clause-within c = λ g h.
    let t = c.args.prefix.now in
    let goes = (and_parts (has c.destinations.result g) _ (sym (c.minus-floors.ensures g) ∙ h)).0 in
    let some = sym (ap (λ (l : LaidOut). any_group_to l.snapshot.aboard l.car g) c.layout.ensures) ∙ sym (c.destinations.ensures g) ∙ goes in
    subst (λ (s : Snapshot). g < floor_count s.building) (sym c.requires.same)
    (goes_within t.snapshot t.car g (subst IsAccepted c.requires.same c.requires.accepted) some)

pub returns-clause-cost : goal.returns-clause-cost
returns-clause-cost c = λ x e.
    let t = c.args.prefix.now in
    let s = t.snapshot in
    let p = reached s t.car x in
    let to = subst (λ (s : Snapshot). c.args.floor < floor_count s.building) c.requires.same c.requires.floor in
    let a = subst IsAccepted c.requires.same c.requires.accepted in
    let b = subst (λ (s : Snapshot). t.car < car_count s) c.requires.same c.requires.car in
    let late = subst (λ (s : Snapshot). s.moment + (spec_of s t.car).opening ≤ c.args.opened) c.requires.same c.requires.late in
    let place = c.point.result.now.place in
    let weight = c.travel_weight.ensures.value ∙ ap (λ (b : Building). b.travel_weight) c.building.ensures.value
    ∙ ap (λ (s : Snapshot). s.building.travel_weight) c.requires.same in
    let ridden = c.ridden_to_all.ensures.ridden x e in
    let are = riders_carried s t.car place p (c.point.ensures x e).place in
    let groups = groups_by_floor s t.car (standing_at p c.args.floor c.args.opened) place.carried place.visited c.minus-floors.result a
    (placed_standing s t.car p c.args.floor c.args.opened (placed_at t x a b e) to) late
    (carried_standing s t.car place.carried place.visited p c.args.floor c.args.opened are)
    (λ g. c.minus-floors.ensures g
    ∙ ap (λ (b : Bool). b && not (has place.visited g))
    (c.destinations.ensures g ∙ ap (λ (l : LaidOut). any_group_to l.snapshot.aboard l.car g) c.layout.ensures)) in
    ap (λ (w : ℕ). w * c.ridden_to_all.result) weight ∙ ap (λ (r : ℕ). s.building.travel_weight * r) ridden ∙ groups

pub ridden_to_all-requires-clause-same : goal.ridden_to_all-requires-clause-same
ridden_to_all-requires-clause-same c = c.requires.same

pub ridden_to_all-requires-clause-accepted : goal.ridden_to_all-requires-clause-accepted
ridden_to_all-requires-clause-accepted c = c.requires.accepted

pub ridden_to_all-requires-clause-car : goal.ridden_to_all-requires-clause-car
ridden_to_all-requires-clause-car c = c.requires.car

pub ridden_to_all-requires-clause-floor : goal.ridden_to_all-requires-clause-floor
ridden_to_all-requires-clause-floor c = c.requires.floor

pub ridden_to_all-requires-clause-early : goal.ridden_to_all-requires-clause-early
ridden_to_all-requires-clause-early c = c.requires.early

pub ridden_to_all-requires-clause-late : goal.ridden_to_all-requires-clause-late
ridden_to_all-requires-clause-late c = c.requires.late
