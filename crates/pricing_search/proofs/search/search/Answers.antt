use Rattle.std.proofs.Common.{◌≡◌, ◌∙◌, sym, ap, subst, arith, rules}
use Rattle.std.specs.Prelude.{ℤ, nat_eq}
use Rattle.std.specs.Int.{int_max}
use Rattle.std.proofs.lemmas.Int.{to_z-of_z}
use Rattle.std.proofs.lemmas.Bool.{eqb-true, eq-eqb}
use mir.Val.{to_z, of_z}
use mir.Syntax.{w128}
use Rattle.partial_tours.specs.PartialTour.{PartialTour}
use Rattle.pricing_bound.specs.Aims.{Aim}
use Rattle.kept_tours.specs.Walking.{aim_at, IsWalking, IsOpen}
use Rattle.pricing_search.specs.Walks.{Begins, HasFound, Visited}
use Rattle.pricing_search.proofs.SearchLemmas.{walking_first, aim_too, aims_first, open_first, open_worth, searched}
use Rattle.pricing_search.proofs.search.search.Goals as goal

pub start-begun-requires-clause-for_it : goal.start-begun-requires-clause-for_it
start-begun-requires-clause-for_it g c =
    let first = g.D.TourBound.aim c.args.dive_bound.now in
    aims_first first c.args.demand.now c.args.prefix.now
    (aim_too first (g.W.TourBound.aim c.args.walk_bound.now) c.args.demand.now c.args.prefix.now c.requires.same c.requires.aim)

pub start-sums-requires-clause-for_it : goal.start-sums-requires-clause-for_it
start-sums-requires-clause-for_it g c = aims_first (g.W.TourBound.aim c.args.walk_bound.now) c.args.demand.now c.args.prefix.now c.requires.aim

pub dive-requires-clause-walking : goal.dive-requires-clause-walking
dive-requires-clause-walking g c =
    let first = g.D.TourBound.aim c.args.dive_bound.now in
    walking_first first c.args.demand.now c.args.prefix.now c.requires.accepted c.requires.car c.requires.empty
    (aim_too first (g.W.TourBound.aim c.args.walk_bound.now) c.args.demand.now c.args.prefix.now c.requires.same c.requires.aim) c.requires.demands

pub dive-requires-clause-stands : goal.dive-requires-clause-stands
dive-requires-clause-stands g c =
    open_first (g.D.TourBound.stands c.args.dive_bound.now c.start-begun.result) c.args.demand.now c.args.prefix.now c.requires.empty c.start-begun.ensures

pub visit-requires-clause-walking : goal.visit-requires-clause-walking
visit-requires-clause-walking g c =
    let a = g.W.TourBound.aim c.args.walk_bound.now in
    subst (λ (q : PartialTour). IsWalking a c.args.demand.now q) (sym c.dive.ensures.prefix)
    (walking_first a c.args.demand.now c.args.prefix.now c.requires.accepted c.requires.car c.requires.empty c.requires.aim c.requires.demands)

pub visit-requires-clause-stands : goal.visit-requires-clause-stands
visit-requires-clause-stands g c =
    subst (λ (q : PartialTour). IsOpen (g.W.TourBound.stands c.args.walk_bound.now c.start-sums.result) c.args.demand.now q) (sym c.dive.ensures.prefix)
    (open_first (g.W.TourBound.stands c.args.walk_bound.now c.start-sums.result) c.args.demand.now c.args.prefix.now c.requires.empty c.start-sums.ensures)

pub visit-requires-clause-most_tours : goal.visit-requires-clause-most_tours
visit-requires-clause-most_tours g c = let none = c.dive.ensures.begins.visits in omega (arith, none)

pub visit-requires-clause-found : goal.visit-requires-clause-found
visit-requires-clause-found g c =
    let a = g.W.TourBound.aim c.args.walk_bound.now in
    let begins = subst (λ (b : Aim). Begins (aim_at c.args.prefix.now c.args.demand.now b.price) c.dive.new.progress) c.requires.same c.dive.ensures.begins in
    subst (λ (q : PartialTour). HasFound (aim_at q c.args.demand.now a.price) c.dive.new.progress) (sym c.dive.ensures.prefix) begins.found

pub returns-clause-searched : goal.returns-clause-searched
returns-clause-searched g c =
    let a = g.W.TourBound.aim c.args.walk_bound.now in
    let p = c.args.prefix.now in
    let worth = to_z w128 (of_z w128 c.max.result) in
    let stored : worth ≡ c.max.result = search rules in
    let told : to_z w128 (of_z w128 c.worth.result) ≡ c.worth.result = search rules in
    let least : to_z w128 (of_z w128 c.args.least) ≡ c.args.least = to_z-of_z w128 c.args.least c.ranges.least in
    let worth_is = stored ∙ c.max.ensures.value ∙ ap (λ (z : ℤ). int_max z (to_z w128 (of_z w128 c.args.least))) (told ∙ c.worth.ensures)
    ∙ ap (λ (z : ℤ). int_max (open_worth c.visit.new.progress) z) least in
    let begins = subst (λ (b : Aim). Begins (aim_at p c.args.demand.now b.price) c.dive.new.progress) c.requires.same c.dive.ensures.begins in
    let walked = subst (λ (q : PartialTour). Visited q c.args.demand.now a.price c.args.most_tours c.dive.new.progress c.visit.new.progress)
    c.dive.ensures.prefix
    c.visit.ensures.visited in
    let walking = walking_first a c.args.demand.now p c.requires.accepted c.requires.car c.requires.empty c.requires.aim c.requires.demands in
    searched a c.args.demand.now p c.args.least c.args.most_tours c.dive.new.progress c.visit.new.progress
    (record { worth = worth; visits = c.visits-visits.result; spent = nat_eq c.visits-visits.result c.args.most_tours }) walking c.requires.least
    c.requires.empty begins walked c.requires.most_tours c.requires.size worth_is c.visits-visits.ensures
    (λ e. eqb-true c.visits-visits.result c.args.most_tours e, λ is. eq-eqb c.visits-visits.result c.args.most_tours is)
