use Rattle.std.proofs.Common.{◌≡◌, fold, drop}
use Rattle.clap.specs.Words.{app_of}
use Rattle.lift_words.specs.Table.{with_number}
use Rattle.lift_words.proofs.parsing.with_numbers.Given as goal

abbrev pub invariant-loop-option : goal.invariant-loop-option
invariant-loop-option l = fold with_number (app_of l.command) (drop l.option-index l.options) ≡ fold with_number (app_of l.fn.command) l.options
