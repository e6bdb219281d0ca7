use Rattle.partial_tours.specs.PartialTour.{course}
use Rattle.pricing_bound.proofs.CarriedLemmas.{one_course}
use Rattle.route_sums.specs.Keeping.{AreRouteSums, aim_of}
use Rattle.route_sums.proofs.sums.RouteSumsTourBound.depart.Goals as goal

pub returns : goal.returns
returns c = λ x e.
    let a = aim_of c.args.self.now in
    let sums = c.args.sums.now in
    let at = c.requires.reached in
    one_course (course c.args._prefix.now) at.there x (AreRouteSums a sums) at.leads e at.stands_there
