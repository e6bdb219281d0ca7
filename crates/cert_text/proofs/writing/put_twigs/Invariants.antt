use Rattle.std.proofs.Common.{◌≡◌, ◌++◌, take}
use Rattle.std.specs.List.{flat_map}
use Rattle.text_sections.specs.Canonical.{lines_text}
use Rattle.cert_text.specs.Texts.{twig_lines}
use Rattle.cert_text.proofs.writing.put_twigs.Given as goal

abbrev pub invariant-loop-twig : goal.invariant-loop-twig
invariant-loop-twig l = l.out.items ≡ l.fn.out.items ++ flat_map (λ twig. lines_text (twig_lines l.snapshot twig)) (take l.twig-index l.tree)
