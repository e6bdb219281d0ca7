use Rattle.std.proofs.Common.{rules, ◌≡◌, get_or}
use Rattle.search_model.specs.Nodes.{root_of}
use Rattle.node_search.proofs.RootTurns.{root_calls, root_node}
use Rattle.node_search.proofs.root.Root.price.Goals as goal

pub price-requires-clause-accepted : goal.price-requires-clause-accepted
price-requires-clause-accepted g c κs within = c.requires.accepted

pub price-requires-clause-root : goal.price-requires-clause-root
price-requires-clause-root g c κs within =
    let node : (get_or c.branches.result.now 0 c.index-branches-0.result).node ≡ root_of (g.P.Pricer.snapshot c.args.pricer.now) = search rules in
    node

pub price-requires-clause-is_node : goal.price-requires-clause-is_node
price-requires-clause-is_node g c κs within =
    root_node (g.P.Pricer.snapshot c.args.pricer.now) c.args.limits.most_tours c.args.self.now c.requires.root

pub price-requires-clause-calls : goal.price-requires-clause-calls
price-requires-clause-calls g c κs within =
    root_calls (g.P.Pricer.snapshot c.args.pricer.now) c.args.limits.most_tours c.args.self.now c.requires.root

pub price-requires-clause-desks : goal.price-requires-clause-desks
price-requires-clause-desks g c κs within = c.requires.desks
