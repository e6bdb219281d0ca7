use Rattle.std.proofs.Common.{subst}
use Rattle.std.proofs.lemmas.Int.{to_z-of_z}
use mir.Syntax.{w128}
use Rattle.kept_tours.proofs.WalkingLemmas.{walking_at, standing}
use Rattle.kept_tours.proofs.Below.{LeavesInVain, left_below}
use Rattle.kept_tours.proofs.steps.followers_below.Goals as goal

pub returns : goal.returns
returns g c = λ x leads.
    let a = g.B.TourBound.aim c.args.bound.now in
    let departs = g.B.TourBound.departs c.args.bound.now c.args.departure.now in
    let bounds = g.B.TourBound.bounds c.args.bound.now in
    let t = c.args.prefix.now in
    let whole = to_z-of_z w128 c.args.worth c.ranges.worth in
    left_below a departs c.leaves_in_vain-no_leaves.result t c.args.demand.now bounds c.args.worth x c.followers_left.result
    (walking_at a c.args.demand.now t c.requires.walking) leads (standing departs c.args.demand.now t x c.requires.departs leads)
    (λ told. subst (LeavesInVain a departs bounds) whole (c.leaves_in_vain-no_leaves.ensures told)) (c.followers_left.ensures x leads)
