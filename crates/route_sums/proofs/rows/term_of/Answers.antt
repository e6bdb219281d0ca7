use Rattle.std.proofs.Common.{refl}
use Rattle.route_sums.proofs.RowLemmas.{term_is}
use Rattle.route_sums.proofs.rows.term_of.Goals as goal

pub returns : goal.returns
returns c = term_is c.args.rate.now c.args.way _ c.requires.wait c.requires.ride c.requires.released c.requires.price c.requires.way refl
