use Rattle.call_sets.specs.Counting.{has}
use Rattle.car_search.proofs.CountLemmas.{false-none}
use Rattle.car_search.proofs.counts.CallSetCallCounts.calls.Goals as goal

pub returns : goal.returns
returns c = λ j h. false-none (has c.args.self.now j) h
