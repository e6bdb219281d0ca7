-- What a point tells the test.
use Rattle.std.proofs.Common.{◌≡◌, ℕ, ◌+◌, true, not, ◌&&◌, ltb, sym, ap, ◌∙◌, subst, Option, Some, None}
use Rattle.std.specs.List.{list_all}
use Rattle.elevator_model.specs.declared.Stop.{Stop}
use Rattle.elevator_model.specs.Snapshot.{Snapshot, spec_of}
use Rattle.elevator_model.specs.Tours.{Progress, make_stop, overtakes, is_call_for, persons_where}
use Rattle.elevator_model.specs.Partial.{Course, progress_after}
use Rattle.partial_tours.specs.declared.points.Point.{Point}
use Rattle.partial_tours.specs.Courses.{TracksCourse, GoesOn, Stands, reached, boards_of, is_passed, may_leave, any_goes_to}
use Rattle.tour_extension.specs.Points.{IsAtStop, StandsFor}

at_stop : (s : Snapshot) (c : ℕ) (point : Point) (x : Course) (stop : Stop) → TracksCourse s c point x → GoesOn s c point x → x.present ≡ Some stop
    → IsAtStop s c point x.before stop
at_stop s c point x stop tracks goes at =
    let here : reached s c x ≡ make_stop s c x.before stop = ap (progress_after s c x.before) at in
    record {
      stands = subst (Stands s c x.before) at goes.stands;
      floor = tracks.place.floor ∙ ap (λ (p : Progress). p.floor) here;
      useful = goes.useful ∙ ap (may_leave s c x.before) at;
      last = λ j. ap (λ (o : Option Stop). list_all (λ i. ltb i j) (boards_of o)) (sym at) ∙ goes.last j;
      room = subst (λ (p : Progress). point.room + persons_where s p.carried ≡ (spec_of s c).capacity) here tracks.room;
      boarded = λ j lt. tracks.place.boarded j lt ∙ ap (λ (p : Progress). p.boarded j) here;
      waiting = λ j. goes.waiting j ∙ ap (λ (p : Progress). (is_call_for s c j && not (p.boarded j)) && not (overtakes s x.before j)) here;
      passed = λ j lt. goes.passed j lt ∙ ap (λ (o : Option Stop). is_passed s o j) at;
      bound_for = λ g. tracks.bound_for g ∙ ap (λ (p : Progress). any_goes_to s p g) here;
    }

pub stands_for : (s : Snapshot) (c : ℕ) (point : Point) (x : Course) → TracksCourse s c point x → (x.ended ≡ true → x.present ≡ None) → StandsFor s c point x
stands_for s c point x tracks none = record {
  ended = tracks.ended;
  begun = λ running. (tracks.goes_on running).started;
  at_end = λ over j lt. tracks.place.boarded j lt ∙ ap (λ (o : Option Stop). (progress_after s c x.before o).boarded j) (none over);
  at_stop = λ stop running at. at_stop s c point x stop tracks (tracks.goes_on running) at;
}
