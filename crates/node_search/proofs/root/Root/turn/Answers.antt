use Rattle.tour_cost.proofs.Served.{cars-le}
use Rattle.root_turns.proofs.SeriesLaws.{series_count}
use Rattle.node_search.proofs.RootLaws.{root-step}
use Rattle.node_search.proofs.RootTurns.{has_one_turn, has_turned}
use Rattle.std.proofs.lemmas.Result.{err_from_is_err_and}
use Rattle.pricing_rounds.proofs.Interruptions.{passed_memory}
use Rattle.node_search.proofs.root.Root.turn.Goals as goal

pub returns-clause-first : goal.returns-clause-first
returns-clause-first g c =
    has_one_turn (g.P.Pricer.snapshot c.args.pricer.now) c.args.limits.most_tours c.args.self.now c.take.new.self c.in_ok-cars.cars.items c.requires.root
    c.in_ok-cars.ensures.answers c.in_ok-take.ensures

pub price-requires-clause-accepted : goal.price-requires-clause-accepted
price-requires-clause-accepted g c κs within = c.requires.accepted

pub price-requires-clause-root : goal.price-requires-clause-root
price-requires-clause-root g c κs within = c.requires.root

pub price-requires-clause-desks : goal.price-requires-clause-desks
price-requires-clause-desks g c κs within = c.requires.desks

pub take-requires-clause-accepted : goal.take-requires-clause-accepted
take-requires-clause-accepted g c κs within = c.requires.accepted

pub take-requires-clause-root : goal.take-requires-clause-root
take-requires-clause-root g c κs within = c.requires.root

pub take-requires-clause-turns : goal.take-requires-clause-turns
take-requires-clause-turns g c κs within = c.requires.turns

pub take-requires-clause-answers : goal.take-requires-clause-answers
take-requires-clause-answers g c κs within = c.in_ok-cars.ensures.answers

pub returns-clause-root : goal.returns-clause-root
returns-clause-root g c =
    let s = g.P.Pricer.snapshot c.args.pricer.now in
    root-step s c.args.limits.most_tours
    (cars-le s c.requires.accepted) c.args.self.now c.take.new.self c.in_ok-cars.cars.items c.requires.root c.requires.turns
    c.in_ok-cars.ensures.answers c.in_ok-take.ensures

pub returns-clause-turned : goal.returns-clause-turned
returns-clause-turned g c =
    has_turned (g.P.Pricer.snapshot c.args.pricer.now) c.args.limits.most_tours c.args.self.now c.take.new.self c.in_ok-cars.cars.items c.requires.root
    c.in_ok-cars.ensures.answers c.in_ok-take.ensures

pub returns-clause-turns : goal.returns-clause-turns
returns-clause-turns g c = series_count c.args.self.now.series c.take.new.self.series c.in_ok-cars.cars.items c.in_ok-take.ensures.pushed

pub returns-clause-desks : goal.returns-clause-desks
returns-clause-desks g c = c.price.ensures.desks

pub returns-in_err-cars-clause-goes_on : goal.returns-in_err-cars-clause-goes_on
returns-in_err-cars-clause-goes_on g c going =
    let passed = err_from_is_err_and c.from_residual.result c.from_residual.ensures.1 in
    passed_memory c.from_residual.result c.in_err-cars.field-0.0 passed.0 passed.1 passed.2 (c.in_err-cars.ensures.goes_on going)
