use Rattle.call_sets.proofs.Bits.{has_and}
use Rattle.call_sets.proofs.car_set.CarSet.intersection.Goals as goal

pub returns : goal.returns
returns c = λ k. let e = has_and c.self.inside.bits c.other.inside.bits k in cc
