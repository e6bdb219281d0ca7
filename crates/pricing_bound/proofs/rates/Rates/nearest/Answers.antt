use Rattle.std.proofs.Common.{◌∙◌, ◌<◌, subst, sym, arith}
use Rattle.std.proofs.lemmas.List.{get_or_default}
use Rattle.elevator_model.specs.Building.{floor_count}
use Rattle.pricing_bound.specs.Rates.{IsNearest, Rated}
use Rattle.pricing_bound.proofs.rates.Rates.nearest.Goals as goal

pub returns-clause-nearest : goal.returns-clause-nearest
returns-clause-nearest c =
    let s = c.self.inside.snapshot.now in
    let floors = c.self.invariant.0.building.travel_floors in
    let inside = subst (λ (r : Rated). c.args.floor < floor_count r.snapshot.building) (sym c.self.view_is) c.requires in
    let near = c.self.invariant.5 in
    let size = near.size in
    let read = c.index.ensures ∙ get_or_default c.self.inside.nearest.items c.args.floor c.index.result.now 0 (omega (arith, inside, floors, size)) in
    subst (λ (r : Rated). IsNearest r.snapshot.building.travel c.args.floor c.index.result.now) c.self.view_is
    (subst (IsNearest s.building.travel c.args.floor) (sym read) (near.each c.args.floor (omega (arith, inside, floors))))
