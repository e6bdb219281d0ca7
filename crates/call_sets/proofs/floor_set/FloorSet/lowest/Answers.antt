use Rattle.std.proofs.Common.{◌-◌, ◌∙◌, ap, ◌^◌, ◌≡◌, ℕ, arith}
use Rattle.std.proofs.lemmas.Nat.Bits.{ones_shr}
use Rattle.call_sets.proofs.Bits.{has_lowest}
use Rattle.call_sets.proofs.floor_set.FloorSet.lowest.Goals as goal

pub returns-clause-set : goal.returns-clause-set
returns-clause-set c =
    let n = c.args.floors in
    let e : 64 - (64 - n) ≡ n = omega arith in
    ones_shr 64 (64 - n) (omega arith) ∙ ap (λ (k : ℕ). 2 ^ k - 1) e

pub returns-clause-each : goal.returns-clause-each
returns-clause-each c = λ k. let e = returns-clause-set c in let t = has_lowest c.args.floors k in cc
