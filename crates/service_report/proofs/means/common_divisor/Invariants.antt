use Rattle.std.proofs.Common.{ℕ, ◌+◌, ◌<◌}
use Rattle.std.specs.Int.{IsGcd}
use Rattle.service_report.proofs.means.common_divisor.Given as goal

abbrev pub invariant-loop-smaller : goal.invariant-loop-smaller
invariant-loop-smaller l = ((g : ℕ) → IsGcd l.larger l.smaller g → IsGcd l.fn.a l.fn.b g) × (0 < l.larger + l.smaller)

abbrev pub decreases-loop-smaller : goal.decreases-loop-smaller
decreases-loop-smaller l = l.smaller
