use Rattle.std.proofs.Common.{◌≡◌, subst, rules}
use Rattle.std.specs.Prelude.{ℤ}
use mir.Val.{to_z, of_z}
use mir.Syntax.{w128}
use Rattle.kept_tours.specs.Visiting.{Visited}
use Rattle.kept_tours.proofs.ScanLemmas.{walking_first, aims_first, open_first, scanned}
use Rattle.kept_tours.proofs.scan.scan.Goals as goal

pub start-sums-requires-clause-for_it : goal.start-sums-requires-clause-for_it
start-sums-requires-clause-for_it g c = aims_first (g.B.TourBound.aim c.args.bound.now) c.args.demand.now c.args.prefix.now c.requires.aim

pub visit-requires-clause-walking : goal.visit-requires-clause-walking
visit-requires-clause-walking g c =
    walking_first (g.B.TourBound.aim c.args.bound.now) c.args.demand.now c.args.prefix.now c.requires.accepted c.requires.car c.requires.empty
    c.requires.aim c.requires.demands

pub visit-requires-clause-stands : goal.visit-requires-clause-stands
visit-requires-clause-stands g c =
    open_first (g.B.TourBound.stands c.args.bound.now c.start-sums.result) c.args.demand.now c.args.prefix.now c.requires.empty c.start-sums.ensures

pub returns-clause-scanned : goal.returns-clause-scanned
returns-clause-scanned g c =
    let a = g.B.TourBound.aim c.args.bound.now in
    let bound = g.B.CompletionBound.bound c.args.bound.now in
    let worth : to_z w128 (of_z w128 c.args.worth) ≡ c.args.worth = search rules in
    let visited = subst
    (λ (w : ℤ). Visited c.args.prefix.now c.args.demand.now a.price bound w c.args.limit c.visit.new.prefix c.visit.result) worth c.visit.ensures.visited in
    scanned c.args.prefix.now c.args.demand.now a.price bound c.args.worth c.args.limit c.visit.new.prefix c.visit.result c.requires.empty visited
