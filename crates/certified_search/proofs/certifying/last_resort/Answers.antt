use Rattle.kept_tours.proofs.LeafLemmas.{whole_few}
use Rattle.certified_search.proofs.certifying.last_resort.Goals as goal

pub sum_of_leaf-requires-clause-prices : goal.sum_of_leaf-requires-clause-prices
sum_of_leaf-requires-clause-prices c = (whole_few c.args.snapshot.now c.in_ok-leaf.leaf c.calls-calls.ensures.accepted c.in_ok-leaf.ensures.whole).0

pub sum_of_leaf-requires-clause-worths : goal.sum_of_leaf-requires-clause-worths
sum_of_leaf-requires-clause-worths c = (whole_few c.args.snapshot.now c.in_ok-leaf.leaf c.calls-calls.ensures.accepted c.in_ok-leaf.ensures.whole).1
