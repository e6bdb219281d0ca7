use Rattle.std.proofs.Common.{◌≡◌, ◌≤ℤ◌, rules, arith}
use Rattle.std.proofs.lemmas.Int.{ints, to_z-of_z}
use Rattle.std.specs.Int.Signed.{le_z_yes}
use Rattle.std.proofs.lemmas.Float.{T_from_true}
use mir.Val.{to_z, of_z}
use mir.Syntax.{w128}
use Rattle.kept_tours.proofs.steps.leaves_in_vain.Goals as goal

pub returns : goal.returns
returns g c = λ high x y floor departs moved.
    let least : to_z w128 (of_z w128 c.least_value.result) ≡ c.least_value.result = search rules in
    let worth = to_z-of_z w128 c.args.worth c.ranges.worth in
    let le : to_z w128 (of_z w128 c.args.worth) ≤ℤ to_z w128 (of_z w128 c.least_value.result) = le_z_yes (T_from_true _ high) in
    let up = c.least_value.ensures.least x y floor departs moved in
    let low = up.1 in
    (up.0, omega (arith, ints, worth, least, le, low), up.2)
