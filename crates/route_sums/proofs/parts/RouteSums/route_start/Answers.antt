use Rattle.std.proofs.Common.{◌∙◌, ℕ, sym, subst}
use Rattle.elevator_model.specs.Tours.{Progress}
use Rattle.route_bound.specs.ForcedRoute.{halted}
use Rattle.partial_tours.specs.Courses.{reached}
use Rattle.route_sums.specs.Stands.{IsStand}
use Rattle.route_sums.proofs.StandLemmas.{starts_at}
use Rattle.route_sums.proofs.parts.RouteSums.route_start.Goals as goal

pub returns-then-has_leg : goal.returns-then-has_leg
returns-then-has_leg c = λ x p e h.
    let it = c.args.self.now in
    let t = c.args.prefix.now in
    let same = starts_at t.snapshot it.snapshot.now t.car it.car p _ c.requires.same c.requires.car
    (sym (c.has_leg.ensures p h.place.begun) ∙ c.if-has_leg.true) in
    subst (λ (q : Progress). IsStand t.snapshot t.car c.args.newest (reached t.snapshot t.car x) c.args.at.now q) (sym same) h

pub returns-else-has_leg : goal.returns-else-has_leg
returns-else-has_leg c = λ x p e h.
    let it = c.args.self.now in
    let t = c.args.prefix.now in
    let same = starts_at t.snapshot it.snapshot.now t.car it.car p _ c.requires.same c.requires.car
    (sym (c.has_leg.ensures p h.place.begun) ∙ c.if-has_leg.false) in
    let there = subst (λ (f : ℕ). IsStand t.snapshot t.car c.args.newest (reached t.snapshot t.car x) c.halted.result (halted t.snapshot t.car p f))
    h.place.floor (c.halted.ensures.stands x p e h) in
    subst (λ (q : Progress). IsStand t.snapshot t.car c.args.newest (reached t.snapshot t.car x) c.halted.result q) (sym same) there
