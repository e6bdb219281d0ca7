use Rattle.cert_claims.proofs.LoweringLemmas.{share_by}
use Rattle.cert_claims.proofs.lowering.lowered_leaf.Goals as goal

pub lowered_worths-requires-clause-by : goal.lowered_worths-requires-clause-by
lowered_worths-requires-clause-by c = share_by c.args.bound c.args.leaf.now c.share-by.result c.requires.wide c.ranges.bound.fits c.share-by.ensures
