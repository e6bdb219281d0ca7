use Rattle.std.proofs.Common.{◌≡◌, ◌∙◌, ◌<◌, ◌+◌, ℕ, List, Some, slice_get, length, sym, ap, subst, arith}
use Rattle.std.proofs.lemmas.List.{length_push}
use Rattle.elevator_model.specs.Snapshot.{Snapshot}
use Rattle.elevator_model.specs.Tours.{start_of}
use Rattle.search_model.specs.Advancing.{done_from, done_by}
use Rattle.day_state.specs.declared.rides.Reached.{Reached}
use Rattle.day_state.specs.Reaching.{IsReached}
use Rattle.day_state.proofs.CarsReached.{tour-is, car-here, each-more, events-here}
use Rattle.day_state.proofs.worlds.World.reached.Goals as goal

pub loop-car-preserved : goal.loop-car-preserved
loop-car-preserved c =
    let w = c.args.self.now in
    let t = c.args.t in
    let car = c.loop-car.car in
    let one = c.in_ok-one.one in
    let s = c.snapshot-snapshot.result.now in
    let tour = c.index-tours-car.result in
    let snapshot = c.snapshot-snapshot.ensures.value in
    let tours = c.tours-tours.ensures ∙ c.plan.ensures in
    let below : car < length w.plan = (let long = ap length tours in omega (arith, long, c.loop-car-test.true)) in
    let tour_is = tour-is w.plan c.tours-tours.result.now car tour tours below c.index-tours-car.is in
    let here = car-here w t car s tour one snapshot tour_is c.in_ok-one.ensures.done c.in_ok-one.ensures.within c.in_ok-one.ensures.rides
    c.in_ok-one.ensures.floor c.in_ok-one.ensures.early in
    let before = c.loop-car.reached.items in
    let pushed = c.in_ok-push.ensures.items in
    let stops = ap (λ (x : Snapshot). done_from x car t (start_of x car) tour) snapshot ∙ ap (done_from w.snapshot car t (start_of w.snapshot car)) tour_is in
    record {
      count = ap length pushed ∙ length_push before one ∙ ap (λ (n : ℕ). n + 1) c.loop-car.invariant.count;
      each = λ k y e.
          each-more (IsReached w t) before one c.loop-car.invariant.each (subst (λ (n : ℕ). IsReached w t n one) (sym c.loop-car.invariant.count) here) k y
          (subst (λ (xs : List Reached). slice_get xs k ≡ Some y) pushed e);
      events = events-here w car s (done_by w t)
          (done_from s car t (start_of s car) tour) c.args.events.now.items c.loop-car.events.items c.ride_until.new.events.items snapshot stops
          c.loop-car.invariant.events c.in_ok-one.ensures.events;
    }
