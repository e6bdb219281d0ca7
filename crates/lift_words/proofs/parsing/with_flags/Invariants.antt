use Rattle.std.proofs.Common.{◌≡◌, fold, drop}
use Rattle.clap.specs.Words.{app_of}
use Rattle.option_words.specs.Options.{texts, with_flag}
use Rattle.lift_words.proofs.parsing.with_flags.Given as goal

abbrev pub invariant-loop-flag : goal.invariant-loop-flag
invariant-loop-flag l = fold with_flag (app_of l.command) (texts (drop l.flag-index l.flags)) ≡ fold with_flag (app_of l.fn.command) (texts l.flags)
