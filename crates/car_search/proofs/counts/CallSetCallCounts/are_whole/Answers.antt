use Rattle.call_sets.specs.Counting.{has}
use Rattle.car_search.proofs.CountLemmas.{one-true, true-one}
use Rattle.car_search.proofs.counts.CallSetCallCounts.are_whole.Goals as goal

pub returns : goal.returns
returns c = (
  λ h j every. true-one (has c.args.self.now j) (c.contains_all.ensures.0 h j every),
  λ all. c.contains_all.ensures.1 (λ j every. one-true (has c.args.self.now j) (all j every)),
)
