use Rattle.std.proofs.Common.{◌≡◌, ◌++◌, take}
use Rattle.std.specs.List.{flat_map}
use Rattle.lift_text.specs.Text.{word}
use Rattle.lift_text.proofs.writers.put_words.Given as goal

-- the name and the words so far
abbrev pub invariant-loop-number : goal.invariant-loop-number
invariant-loop-number l = l.out.items ≡ l.fn.out.items ++ (l.name ++ flat_map word (take l.number-index l.numbers))
