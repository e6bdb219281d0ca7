use Rattle.route_sums.proofs.OriginLemmas.{not_passed_is}
use Rattle.route_sums.proofs.parts.RouteSums.not_passed.Goals as goal

pub returns : goal.returns
returns c = λ j. not_passed_is c.args.self.now.snapshot.now c.args.calls c.args.floor c.args.last c.between-here.result c.minus.result c.above.result
    c.union.result j (c.between-here.ensures j) (c.minus.ensures j) (c.above.ensures j) (c.union.ensures j)
