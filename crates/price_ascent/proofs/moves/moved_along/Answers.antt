use Rattle.std.proofs.Common.{◌≡◌, pos, ◌+ℤ◌, ◌*ℤ◌, rules}
use Rattle.std.specs.Prelude.{SomeIff, unwrap_or}
use Rattle.std.specs.Int.{w128, saturate_signed, CanDivide}
use Rattle.std.specs.Int.RustNames.{int_div}
use Rattle.price_scale.specs.Scale.{IsPrice, cut}
use Rattle.price_ascent.proofs.StepLemmas.{follows}
use Rattle.price_ascent.proofs.moves.moved_along.Goals as goal

pub returns : goal.returns
returns c = λ way square.
    let product : c.saturating_mul.result ≡ saturate_signed w128 (c.args.way *ℤ c.args.part) = search rules in
    let quotient : SomeIff c.checked_div.result (CanDivide w128 c.saturating_mul.result c.args.square) (int_div c.saturating_mul.result c.args.square) =
    search rules in
    let to : c.nearest.result ≡ cut (saturate_signed w128 (c.args.from +ℤ unwrap_or c.checked_div.result (pos 0))) = search rules in
    let price : IsPrice c.args.from = c.value.ensures.range in
    follows c.args.from c.args.way c.args.part c.args.square c.saturating_mul.result c.nearest.result c.checked_div.result price way square product quotient to
