use Rattle.std.proofs.Common.{◌≡◌, ◌+◌, ltb, leb, arith}
use Rattle.std.proofs.lemmas.Bool.Decides.{nat_tests}
use Rattle.call_sets.proofs.Bits.{has_past, has_from, has_zero}
use Rattle.call_sets.proofs.car_set.CarSet.above.Goals as goal

pub returns-then-index-ge15 : goal.returns-then-index-ge15
returns-then-index-ge15 c = λ k. let e = has_past 16 c.self.inside.bits c.args.index k c.self.invariant (omega arith) in let z = has_zero k in cc

pub returns : goal.returns
returns c = λ k.
    let e = has_from 16 c.self.inside.bits (c.args.index + 1) k c.self.invariant (omega arith) in
    let t : leb (c.args.index + 1) k ≡ ltb c.args.index k = grind (arith, nat_tests) in
    cc
