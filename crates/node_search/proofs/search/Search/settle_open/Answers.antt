use Rattle.std.proofs.Common.{refl, arith}
use Rattle.tour_cost.proofs.Served.{cars-le}
use Rattle.tour_cost.proofs.Short.{calls-le}
use Rattle.node_search.specs.declared.search.Search.{Search}
use Rattle.node_search.proofs.SettleLaws.{pricing_calls, pricing_cars, pricing_sizes, part_after, within_after, rests_open, rests_way, rests_settled, grown_way}
use Rattle.node_search.proofs.SettleLaws.{grown_settled}
use Rattle.node_search.proofs.search.Search.settle_open.Goals as goal

pub take_in-requires-clause-place : goal.take_in-requires-clause-place
take_in-requires-clause-place g c = c.requires.pricing.within

pub take_in-requires-clause-sizes : goal.take_in-requires-clause-sizes
take_in-requires-clause-sizes g c =
    pricing_sizes (g.P.Pricer.snapshot c.args.pricer.now) c.args.limits.most_tours c.args.self.now c.args.place c.args.prices.now c.args.cars.now c.requires.way
    c.requires.pricing

pub take_in-requires-clause-rounds : goal.take_in-requires-clause-rounds
take_in-requires-clause-rounds g c = c.requires.pricing.few

pub take_in-requires-clause-calls : goal.take_in-requires-clause-calls
take_in-requires-clause-calls g c =
    pricing_calls (g.P.Pricer.snapshot c.args.pricer.now) c.args.limits.most_tours c.args.self.now c.args.place c.args.prices.now c.args.cars.now c.requires.way
    c.requires.pricing

pub take_in-requires-clause-cars : goal.take_in-requires-clause-cars
take_in-requires-clause-cars g c =
    pricing_cars (g.P.Pricer.snapshot c.args.pricer.now) c.args.limits.most_tours c.args.self.now c.args.place c.args.prices.now c.args.cars.now c.requires.way
    c.requires.pricing

pub is_due-requires : goal.is_due-requires
is_due-requires g c = within_after c.args.self.now.tree.branches c.take_in.new.tree.branches c.args.place c.args.prices.now c.args.cars.now
    c.requires.pricing.within c.in_ok-take_in.ensures

pub split-requires-clause-place : goal.split-requires-clause-place
split-requires-clause-place g c =
    within_after c.args.self.now.tree.branches c.take_in.new.tree.branches c.args.place c.args.prices.now c.args.cars.now c.requires.pricing.within
    c.in_ok-take_in.ensures

pub split-requires-clause-calls : goal.split-requires-clause-calls
split-requires-clause-calls g c =
    let count = c.requires.pricing.answers.calls in
    let few = calls-le (g.P.Pricer.snapshot c.args.pricer.now) c.requires.accepted in
    omega (arith, count, few)

pub split-requires-clause-part : goal.split-requires-clause-part
split-requires-clause-part g c =
    part_after c.args.self.now.tree.branches c.take_in.new.tree.branches c.args.place c.args.prices.now c.args.cars.now c.requires.pricing.within
    c.in_ok-take_in.ensures c.args.first.call c.args.first.part c.requires.part

pub returns-in_ok-split-clause-way : goal.returns-in_ok-split-clause-way
returns-in_ok-split-clause-way g c =
    let s = g.P.Pricer.snapshot c.args.pricer.now in
    let old = c.args.self.now in
    let new : Search = record { tree = c.split.new.tree; best = old.best; done = old.done } in
    grown_way s c.args.limits.most_tours
    (cars-le s c.requires.accepted) old new c.args.place c.args.prices.now c.args.cars.now c.requires.way c.requires.pricing c.requires.way.best
    (omega arith) refl c.take_in.new.tree.branches c.in_ok-take_in.ensures c.in_ok-split.ensures

pub returns-in_ok-split-clause-settled : goal.returns-in_ok-split-clause-settled
returns-in_ok-split-clause-settled g c =
    let s = g.P.Pricer.snapshot c.args.pricer.now in
    let old = c.args.self.now in
    let new : Search = record { tree = c.split.new.tree; best = old.best; done = old.done } in
    grown_settled s c.args.limits.most_tours
    (cars-le s c.requires.accepted) old new c.args.place c.args.prices.now c.args.cars.now c.requires.way c.requires.pricing c.requires.way.best
    (omega arith) refl c.take_in.new.tree.branches c.in_ok-take_in.ensures c.in_ok-split.ensures

pub returns-else-is_due-clause-way : goal.returns-else-is_due-clause-way
returns-else-is_due-clause-way g c =
    let s = g.P.Pricer.snapshot c.args.pricer.now in
    let old = c.args.self.now in
    let new : Search = record { tree = c.take_in.new.tree; best = old.best; done = old.done } in
    let few = cars-le s c.requires.accepted in
    let rests = rests_open s c.args.limits.most_tours few old new c.args.place c.args.prices.now c.args.cars.now c.requires.way c.requires.pricing
    c.requires.way.best
    (omega arith) refl c.take_in.new.tree.branches c.in_ok-take_in.ensures c.args.first.call c.args.first.part c.requires.call c.requires.part
    (c.is_due.ensures.most c.if-is_due.false) in
    rests_way s c.args.limits.most_tours few old new c.args.place c.args.prices.now c.args.cars.now c.requires.way c.requires.pricing c.requires.way.best
    (omega arith) refl c.in_ok-take_in.ensures rests

pub returns-else-is_due-clause-settled : goal.returns-else-is_due-clause-settled
returns-else-is_due-clause-settled g c =
    let s = g.P.Pricer.snapshot c.args.pricer.now in
    let old = c.args.self.now in
    let new : Search = record { tree = c.take_in.new.tree; best = old.best; done = old.done } in
    let few = cars-le s c.requires.accepted in
    let rests = rests_open s c.args.limits.most_tours few old new c.args.place c.args.prices.now c.args.cars.now c.requires.way c.requires.pricing
    c.requires.way.best
    (omega arith) refl c.take_in.new.tree.branches c.in_ok-take_in.ensures c.args.first.call c.args.first.part c.requires.call c.requires.part
    (c.is_due.ensures.most c.if-is_due.false) in
    rests_settled s c.args.limits.most_tours few old new c.args.place c.args.prices.now c.args.cars.now c.requires.way c.requires.pricing c.requires.way.best
    (omega arith) refl c.in_ok-take_in.ensures rests
