use Rattle.root_prices.proofs.kept.KeptTurns.price.Goals as goal

pub price-requires-clause-accepted : goal.price-requires-clause-accepted
price-requires-clause-accepted g c κs within = c.requires.accepted

pub price-requires-clause-root : goal.price-requires-clause-root
price-requires-clause-root g c κs within = c.requires.root

pub price-requires-clause-is_node : goal.price-requires-clause-is_node
price-requires-clause-is_node g c κs within = c.requires.is_node

pub price-requires-clause-calls : goal.price-requires-clause-calls
price-requires-clause-calls g c κs within = c.requires.kept.1.series.calls

pub price-requires-clause-desks : goal.price-requires-clause-desks
price-requires-clause-desks g c κs within = c.requires.desks
