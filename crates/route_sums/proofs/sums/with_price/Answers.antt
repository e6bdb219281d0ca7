use Rattle.std.proofs.Common.{arith}
use Rattle.std.proofs.lemmas.Int.{ints}
use Rattle.route_sums.proofs.SizeLemmas.{stored_sum}
use Rattle.route_sums.proofs.sums.with_price.Goals as goal

pub returns : goal.returns
returns c =
    let paid_low = c.requires.paid.0 in
    let paid_high = c.requires.paid.1 in
    let low = c.requires.price.0 in
    let high = c.requires.price.1 in
    stored_sum c.args.paid c.args.price (omega (arith, ints, paid_low)) (omega (arith, ints, paid_high)) (omega (arith, ints, low)) (omega (arith, ints, high))
