use Rattle.node_search.proofs.RoundLaws.{ArePricedTo}
use Rattle.node_search.proofs.search.Search.choose.Given as goal

abbrev pub invariant-loop-index : goal.invariant-loop-index
invariant-loop-index l = ArePricedTo l.self l.places.items l.index l.chosen.items
