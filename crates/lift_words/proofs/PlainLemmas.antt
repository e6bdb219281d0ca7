-- The commands of the table are plain ones.
use Rattle.std.proofs.Common.{refl}
use Rattle.clap.proofs.OnLiterals.{clap_on_literals}
use Rattle.option_words.specs.Options.{IsPlain}
use Rattle.lift_words.specs.Table.{app}
use Rattle.lift_words.specs.declared.table.CommandWord.{CommandWord}
use Rattle.lift_words.specs.declared.table.CommandWord.TheVariants.{Solve, Check, Day, Report, Make, Table, WhatIf, Banks, Root, Audit}

pub plain : (command : CommandWord) → IsPlain (app command)
unfolding clap_on_literals
plain Solve = record { simple = refl; simple_and_free = refl; no_subcommand = refl; defaults_pass = refl; free = refl }
plain Check = record { simple = refl; simple_and_free = refl; no_subcommand = refl; defaults_pass = refl; free = refl }
plain Day = record { simple = refl; simple_and_free = refl; no_subcommand = refl; defaults_pass = refl; free = refl }
plain Report = record { simple = refl; simple_and_free = refl; no_subcommand = refl; defaults_pass = refl; free = refl }
plain Make = record { simple = refl; simple_and_free = refl; no_subcommand = refl; defaults_pass = refl; free = refl }
plain Table = record { simple = refl; simple_and_free = refl; no_subcommand = refl; defaults_pass = refl; free = refl }
plain WhatIf = record { simple = refl; simple_and_free = refl; no_subcommand = refl; defaults_pass = refl; free = refl }
plain Banks = record { simple = refl; simple_and_free = refl; no_subcommand = refl; defaults_pass = refl; free = refl }
plain Root = record { simple = refl; simple_and_free = refl; no_subcommand = refl; defaults_pass = refl; free = refl }
plain Audit = record { simple = refl; simple_and_free = refl; no_subcommand = refl; defaults_pass = refl; free = refl }
