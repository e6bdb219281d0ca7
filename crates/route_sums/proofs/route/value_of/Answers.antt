use Rattle.std.proofs.Common.{sym, subst}
use Rattle.pricing_bound.specs.Aims.{IsBoundSize}
use Rattle.route_sums.proofs.SizeLemmas.{value_size, value_stored}
use Rattle.route_sums.proofs.route.value_of.Goals as goal

pub returns-clause-value : goal.returns-clause-value
returns-clause-value c =
    value_stored c.scaled.result c.args.added c.args.paid c.args.settled c.scaled.ensures c.requires.settled c.requires.low c.requires.high c.requires.paid

pub returns-clause-size : goal.returns-clause-size
returns-clause-size c =
    subst IsBoundSize (sym (returns-clause-value c))
    (value_size c.args.settled c.args.added c.args.paid c.requires.settled c.requires.low c.requires.high c.requires.paid)
