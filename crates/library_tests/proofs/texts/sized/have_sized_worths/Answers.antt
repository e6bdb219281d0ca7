use Rattle.std.proofs.Common.{subst}
use Rattle.std.specs.List.{All}
use Rattle.std.proofs.lemmas.List.{take_all}
use Rattle.std.proofs.lemmas.List.Elements.{All-more}
use Rattle.cert_checker.specs.Judging.{HasWorthSizes}
use Rattle.library_tests.proofs.texts.sized.have_sized_worths.Goals as goal

pub loop-twig-preserved : goal.loop-twig-preserved
loop-twig-preserved c =
    All-more HasWorthSizes c.args.twigs.now c.loop-twig.twig-index c.twig-item.result c.loop-twig-test.true c.loop-twig.invariant
    (subst HasWorthSizes c.twig-item.is (c.has_sized_worths.ensures c.if-not-has_sized_worths.false))

pub returns : goal.returns
returns c e =
    subst (All HasWorthSizes) (take_all c.loop-twig.twig-index c.args.twigs.now c.loop-twig-test.false) c.loop-twig.invariant
