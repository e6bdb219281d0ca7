use Rattle.std.proofs.Common.{refl}
use Rattle.std.specs.Fmt.{digits}
use Rattle.lift_text.specs.Text.{word, words, line}
use Rattle.day_commands.proofs.worked_audits.worked_texts.Goals as goal

pub returns : goal.returns
unfolding word words line digits
returns c = record { yes = refl; differs = refl; row = refl }
