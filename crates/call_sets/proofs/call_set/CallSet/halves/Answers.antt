use Rattle.call_sets.proofs.Halves.{has_low, has_high}
use Rattle.call_sets.proofs.call_set.CallSet.halves.Goals as goal

pub returns-clause-low : goal.returns-clause-low
returns-clause-low c = λ k lt. let e = has_low c.self.inside.bits k lt in cc

pub returns-clause-high : goal.returns-clause-high
returns-clause-high c = λ k. let e = has_high c.self.inside.bits k in cc
