use Rattle.std.proofs.Common.{◌∙◌, ℕ, List, ap, sym}
use Rattle.elevator_model.specs.declared.Aboard.{Aboard}
use Rattle.elevator_model.specs.Snapshot.{Snapshot}
use Rattle.tour_rules.specs.Places.{group_carried}
use Rattle.partial_tours.specs.Courses.{reached}
use Rattle.partial_tours.specs.PartialTour.{PartialTour}
use Rattle.tour_rules.proofs.Riders.{riders_carried}
use Rattle.partial_tours.proofs.prefix.Prefix.carries_group.Goals as goal

pub returns : goal.returns
returns c = λ x h.
    let s = c.args.self.now.snapshot in
    let car = c.args.self.now.car in
    let place = c.last_step.result.now.point.place in
    let stands = c.last_step.ensures.stands x h in
    let carried = (riders_carried s car place (reached s car x) stands.tracks.place).groups c.args.group c.requires in
    let aboard = c.aboard.ensures.value ∙ ap (λ (u : Snapshot). u.aboard) (c.snapshot.ensures.value ∙ ap (λ (p : PartialTour). p.snapshot) c.self.view_is) in
    let same = c.car.ensures.value ∙ ap (λ (p : PartialTour). p.car) c.self.view_is in
    c.is_carried.ensures ∙ ap (λ (groups : List Aboard). group_carried groups c.car.result place.visited c.args.group) aboard
    ∙ ap (λ (n : ℕ). group_carried s.aboard n place.visited c.args.group) same ∙ sym carried
