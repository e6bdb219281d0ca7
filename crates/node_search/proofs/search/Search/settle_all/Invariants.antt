use Rattle.node_search.proofs.RoundLaws.{HasTakenFrom}
use Rattle.node_search.proofs.search.Search.settle_all.Given as goal

abbrev pub invariant-loop-index : goal.invariant-loop-index
invariant-loop-index g l = HasTakenFrom (g.P.Pricer.snapshot l.pricer) l.limits.most_tours l.chosen l.index l.fn.self l.self
