use Rattle.std.proofs.Common.{arith}
use Rattle.library_tests.proofs.DayLemmas.{small_day}
use Rattle.library_tests.proofs.values.reports.calls.Goals as goal

pub returns : goal.returns
returns c = small_day c.loop-released.served.items c.loop-released.invariant.0 (omega (arith, c.requires, c.loop-released.invariant.1))
