use Rattle.std.proofs.Common.{refl}
use Rattle.std.specs.Fmt.{digits}
use Rattle.lift_text.specs.Text.{word, words, line}
use Rattle.answer_text.specs.Texts.{stops_text}
use Rattle.case_commands.specs.RootTexts.{price_lines, worth_lines}
use Rattle.case_commands.proofs.worked_roots.worked_texts.Goals as goal

pub returns : goal.returns
unfolding word words line price_lines worth_lines stops_text digits
returns c = record { best = refl; moves = refl; gap = refl; pairs = refl }
