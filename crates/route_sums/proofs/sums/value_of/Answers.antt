use Rattle.std.proofs.Common.{◌∙◌, ap, sym, subst, arith}
use Rattle.std.specs.Prelude.{ℤ, ◌-ℤ◌}
use Rattle.std.proofs.lemmas.Int.{ints}
use Rattle.pricing_bound.specs.Aims.{IsBoundSize}
use Rattle.pricing_bound.proofs.RateLemmas.{stored_less}
use Rattle.route_sums.proofs.sums.value_of.Goals as goal

pub returns-clause-value : goal.returns-clause-value
returns-clause-value c =
    let is = c.scaled.ensures in
    let small = c.requires.settled in
    stored_less c.scaled.result c.args.paid (omega (arith, ints, is)) (omega (arith, ints, is, small)) c.requires.paid ∙ ap (λ (z : ℤ). z -ℤ c.args.paid) is

pub returns-clause-size : goal.returns-clause-size
returns-clause-size c =
    let small = c.requires.settled in
    let low = c.requires.paid.0 in
    let high = c.requires.paid.1 in
    subst IsBoundSize (sym (returns-clause-value c)) (omega (arith, ints, high), omega (arith, ints, small, low))
