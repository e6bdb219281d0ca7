use Rattle.lift_text.specs.LineReader.{words}
use Rattle.text_sections.proofs.NumberListLemmas.{ReadSome}
use Rattle.text_sections.proofs.number_lists.numbers.Given as goal

abbrev pub invariant-loop-k : goal.invariant-loop-k
invariant-loop-k g l = ReadSome (words l.lines) l.from l.low l.high l.k l.initial.out.items l.out.items
