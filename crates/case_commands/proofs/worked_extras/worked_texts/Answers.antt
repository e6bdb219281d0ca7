use Rattle.std.proofs.Common.{refl}
use Rattle.std.specs.Fmt.{digits}
use Rattle.lift_text.specs.Text.{word, words, line}
use Rattle.case_commands.specs.WhatIfOutcome.{car_lines}
use Rattle.case_commands.proofs.worked_extras.worked_texts.Goals as goal

pub returns : goal.returns
unfolding word words line car_lines digits
returns c = record { unsettled = refl; settled = refl }
