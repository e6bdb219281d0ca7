use Rattle.std.proofs.Common.{take}
use Rattle.std.specs.List.{All}
use Rattle.cert_checker.specs.Judging.{HasWorthSizes}
use Rattle.library_tests.proofs.texts.sized.have_sized_worths.Given as goal

abbrev pub invariant-loop-twig : goal.invariant-loop-twig
invariant-loop-twig l = All HasWorthSizes (take l.twig-index l.twigs)
