use Rattle.std.proofs.Common.{◌≡◌, ◌*◌, ◌<◌, ℕ, zero, suc, refl, arith}
use Rattle.std.specs.Prelude.{◌-ℤ◌}
use mir.Val.{to_z, of_z}
use mir.Syntax.{w128}
use Rattle.route_sums.proofs.CallRateLemmas.{enough_at}
use Rattle.route_sums.proofs.SizeLemmas.{term_stored}
use Rattle.route_sums.proofs.rates.enough_of.Goals as goal

some : (wait : ℕ) → (wait ≡ 0 → ⊥) → 0 < 1000 * wait
some zero h = absurd (h refl)
some (suc wait) h = omega arith

pub returns : goal.returns
returns c = λ k early le.
    let term = to_z w128 (of_z w128 (to_z w128 (of_z w128 c.scaled.result) -ℤ to_z w128 (of_z w128 c.args.price))) in
    let small = c.requires.ride in
    let is = term_stored c.scaled.result c.args.price c.args.ride c.scaled.ensures (omega (arith, small)) c.requires.price in (
      c.if-is_required.false,
      enough_at c.args.wait c.args.released c.args.ride k c.depth_of.result c.args.price term (some c.args.wait c.if-wait-eq0.false) c.depth_of.ensures is le,
    )
