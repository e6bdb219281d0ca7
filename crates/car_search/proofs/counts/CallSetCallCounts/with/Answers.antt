use Rattle.call_sets.specs.Counting.{has}
use Rattle.car_search.proofs.CountLemmas.{one-more}
use Rattle.car_search.proofs.counts.CallSetCallCounts.with.Goals as goal

pub returns : goal.returns
returns c = one-more (has c.args.self.now) (has c.args.more.now) (has c.union.result) c.requires c.union.ensures
