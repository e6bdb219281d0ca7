use Rattle.std.proofs.Common.{arith}
use Rattle.std.specs.Int.{w64}
use Rattle.std.proofs.lemmas.Nat.Bits.{bit_at-trailing_zeros}
use Rattle.call_sets.proofs.Halves.{least_there, none_before, least_up, none_before_up, none_in_both, empty_is_zero}
use Rattle.call_sets.proofs.call_set.CallSet.least.Goals as goal

pub returns-then-low-ne0-clause-member : goal.returns-then-low-ne0-clause-member
returns-then-low-ne0-clause-member c =
    let place = bit_at-trailing_zeros w64 c.halves-low.result.0 (omega arith) (omega arith) in
    (least_there c.args.self c.halves-low.result.0 _ c.halves-low.ensures.low place.0 place.1, omega (arith, place.0))

pub returns-then-low-ne0-clause-least : goal.returns-then-low-ne0-clause-least
returns-then-low-ne0-clause-least c =
    let place = bit_at-trailing_zeros w64 c.halves-low.result.0 (omega arith) (omega arith) in
    none_before c.args.self c.halves-low.result.0 _ c.halves-low.ensures.low place.0 place.2

pub returns-then-high-ne0-clause-member : goal.returns-then-high-ne0-clause-member
returns-then-high-ne0-clause-member c =
    let place = bit_at-trailing_zeros w64 c.halves-low.result.1 (omega arith) (omega arith) in
    (least_up c.args.self c.halves-low.result.1 _ c.halves-low.ensures.high place.1, omega (arith, place.0))

pub returns-then-high-ne0-clause-least : goal.returns-then-high-ne0-clause-least
returns-then-high-ne0-clause-least c =
    let place = bit_at-trailing_zeros w64 c.halves-low.result.1 (omega arith) (omega arith) in
    none_before_up c.args.self c.halves-low.result.0 c.halves-low.result.1 _ (omega arith) c.halves-low.ensures.low c.halves-low.ensures.high place.2

pub returns-else-high-ne0-clause-member : goal.returns-else-high-ne0-clause-member
returns-else-high-ne0-clause-member c =
    none_in_both c.args.self c.halves-low.result.0 c.halves-low.result.1 (omega arith) (omega arith) c.halves-low.ensures.low c.halves-low.ensures.high

pub returns-else-high-ne0-clause-least : goal.returns-else-high-ne0-clause-least
returns-else-high-ne0-clause-least c =
    empty_is_zero c.args.self
    (none_in_both c.args.self c.halves-low.result.0 c.halves-low.result.1 (omega arith) (omega arith) c.halves-low.ensures.low c.halves-low.ensures.high)
