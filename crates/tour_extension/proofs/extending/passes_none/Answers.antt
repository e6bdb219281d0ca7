use Rattle.tour_extension.proofs.SetTests.{passes_none_told}
use Rattle.tour_extension.proofs.extending.passes_none.Goals as goal

pub returns : goal.returns
returns c =
    passes_none_told c.args.layout.now.snapshot c.args.missing c.args.call c.earlier.result c.intersection.result c.any_call.result c.earlier.ensures
    c.intersection.ensures c.any_call.ensures
