use Rattle.std.proofs.Common.{◌≡◌, take}
use Rattle.lift_text.specs.LineReader.{words}
use Rattle.day_audit.specs.Words.{due_words}
use Rattle.day_audit.proofs.words.says.Given as goal

abbrev pub invariant-loop-k : goal.invariant-loop-k
invariant-loop-k g l = take l.k (words l.fn.lines) ≡ due_words (take l.k l.fn.due)
