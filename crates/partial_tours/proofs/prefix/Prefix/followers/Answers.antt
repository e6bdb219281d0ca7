use Rattle.std.proofs.Common.{sym, subst}
use Rattle.call_sets.specs.Counting.{has}
use Rattle.partial_tours.specs.Courses.{TracksCourse}
use Rattle.partial_tours.specs.Followers.{AreFollowers}
use Rattle.partial_tours.specs.PartialTour.{PartialTour}
use Rattle.partial_tours.proofs.prefix.Prefix.followers.Goals as goal

pub returns-clause-value : goal.returns-clause-value
returns-clause-value c = λ x there.
    let tracks = subst (λ (p : PartialTour). TracksCourse p.snapshot p.car c.last_step.result.now.point x) (sym c.self.view_is)
    (c.last_step.ensures.stands x there).tracks in
    subst (λ (p : PartialTour). AreFollowers p.snapshot p.car x (has c.args.allowed) c.followers_at.result) c.self.view_is (c.followers_at.ensures x tracks)

pub returns-clause-course : goal.returns-clause-course
returns-clause-course c = c.last_step.ensures.course
