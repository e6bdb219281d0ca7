use Rattle.std.proofs.Common.{refl}
use Rattle.std.specs.Fmt.{digits}
use Rattle.lift_text.specs.Text.{word, words, line}
use Rattle.day_commands.specs.BanksOutcome.{bank_parts}
use Rattle.day_commands.proofs.worked_banks.worked_texts.Goals as goal

pub returns : goal.returns
unfolding word words line bank_parts digits
returns c = record { two = refl; none = refl }
