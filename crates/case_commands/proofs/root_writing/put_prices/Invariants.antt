use Rattle.std.proofs.Common.{◌≡◌, ◌++◌}
use Rattle.case_commands.specs.RootTexts.{price_lines}
use Rattle.case_commands.proofs.root_writing.put_prices.Given as goal

abbrev pub invariant-loop-call : goal.invariant-loop-call
invariant-loop-call l = l.out.items ≡ l.initial.out.items ++ price_lines l.snapshot l.prices l.call
