use Rattle.std.proofs.Common.{◌^◌, ℕ, arith}
use Rattle.std.specs.Prelude.{ℤ, ◌≤ℤ◌, neg_ℤ, pos}
use Rattle.std.proofs.lemmas.Int.{ints}
use Rattle.route_sums.specs.Keeping.{aim_of}
use Rattle.route_sums.proofs.SumsLemmas.{least_of_all}
use Rattle.route_sums.proofs.sums.RouteSumsTourBound.least_value.Goals as goal

no_more : (z : ℤ) → z ≤ℤ z
no_more z = omega (arith, ints)

crosses : (n : ℕ) → neg_ℤ (pos n) ≤ℤ pos n
crosses n = omega (arith, ints)

pub returns-clause-least : goal.returns-clause-least
returns-clause-least c = λ x y floor there moved.
    (neg_ℤ (pos (10 ^ 27)), no_more (neg_ℤ (pos (10 ^ 27))), least_of_all (aim_of c.args.self.now) y c.args.self.now.worth)

pub returns-clause-size : goal.returns-clause-size
returns-clause-size c = λ x there. (no_more (neg_ℤ (pos (10 ^ 27))), crosses (10 ^ 27))
