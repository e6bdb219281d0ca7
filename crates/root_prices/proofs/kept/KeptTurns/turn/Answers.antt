use Rattle.root_turns.proofs.SeriesLaws.{series_count}
use Rattle.root_prices.proofs.KeptLaws.{can_take, kept_step}
use Rattle.std.proofs.lemmas.Result.{err_from_is_err_and}
use Rattle.pricing_rounds.proofs.Interruptions.{passed_memory}
use Rattle.root_prices.proofs.kept.KeptTurns.turn.Goals as goal

pub take-requires : goal.take-requires
take-requires g c =
    can_take (g.P.Pricer.snapshot c.args.pricer.now) c.args.limits.most_tours c.requires.kept.0 c.args.self.now c.in_ok-cars.cars.items c.requires.accepted
    c.requires.kept.1 c.in_ok-cars.ensures.answers

pub returns-clause-kept : goal.returns-clause-kept
returns-clause-kept g c first is =
    kept_step (g.P.Pricer.snapshot c.args.pricer.now) c.args.limits.most_tours first c.args.self.now c.take.new.self c.in_ok-cars.cars.items is c.requires.few
    c.in_ok-cars.ensures.answers c.in_ok-take.ensures

pub returns-clause-turns : goal.returns-clause-turns
returns-clause-turns g c = series_count c.args.self.now.series c.take.new.self.series c.in_ok-cars.cars.items c.in_ok-take.ensures.pushed

pub returns-clause-start : goal.returns-clause-start
returns-clause-start g c = c.in_ok-take.ensures.start

pub returns-clause-desks : goal.returns-clause-desks
returns-clause-desks g c = c.price.ensures.desks

pub price-requires-clause-accepted : goal.price-requires-clause-accepted
price-requires-clause-accepted g c κs within = c.requires.accepted

pub price-requires-clause-kept : goal.price-requires-clause-kept
price-requires-clause-kept g c κs within = c.requires.kept

pub price-requires-clause-root : goal.price-requires-clause-root
price-requires-clause-root g c κs within = c.requires.root

pub price-requires-clause-is_node : goal.price-requires-clause-is_node
price-requires-clause-is_node g c κs within = c.requires.is_node

pub price-requires-clause-desks : goal.price-requires-clause-desks
price-requires-clause-desks g c κs within = c.requires.desks

pub returns-in_err-cars-clause-goes_on : goal.returns-in_err-cars-clause-goes_on
returns-in_err-cars-clause-goes_on g c going =
    let passed = err_from_is_err_and c.from_residual.result c.from_residual.ensures.1 in
    passed_memory c.from_residual.result c.in_err-cars.field-0.0 passed.0 passed.1 passed.2 (c.in_err-cars.ensures.goes_on going)
