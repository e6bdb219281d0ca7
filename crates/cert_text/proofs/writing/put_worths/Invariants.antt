use Rattle.std.proofs.Common.{◌≡◌, ◌++◌, take}
use Rattle.std.specs.List.{flat_map}
use Rattle.text_sections.specs.Canonical.{line_text}
use Rattle.cert_text.specs.Texts.{worth_words}
use Rattle.cert_text.proofs.writing.put_worths.Given as goal

abbrev pub invariant-loop-worth : goal.invariant-loop-worth
invariant-loop-worth l = l.out.items ≡ l.fn.out.items ++ flat_map (λ x. line_text (worth_words l.snapshot x)) (take l.worth-index l.worths)
