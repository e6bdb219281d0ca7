use Rattle.std.proofs.Common.{◌∙◌, ap, Bool, ◌&&◌, ltb}
use Rattle.elevator_model.specs.Tours.{make_stop}
use Rattle.partial_tours.specs.Courses.{any_goes_to}
use Rattle.call_sets.specs.Counting.{has}
use Rattle.tour_extension.proofs.SetTests.{above_told, below_told}
use Rattle.tour_extension.proofs.sides.Sides.of.Goals as goal

pub returns : goal.returns
returns c = λ s car q stop at.
    let f = c.args.point.now.place.floor in
    let p = make_stop s car q stop in
    record {
      above = above_told s p f c.above-above.result c.any_floor.result at.floor
          (λ g. c.above-above.ensures g ∙ ap (λ (b : Bool). b && ltb f g) (at.bound_for g)) c.any_floor.ensures.some c.any_floor.ensures.none;
      below = below_told s p f c.intersection-below.result c.any_floor-2.result at.floor
          (λ g. c.intersection-below.ensures g ∙ ap (λ (b : Bool). b && has c.lowest.result g) (at.bound_for g)
          ∙ ap (λ (b : Bool). any_goes_to s p g && b) (c.lowest.ensures.each g)) c.any_floor-2.ensures.some c.any_floor-2.ensures.none;
    }
