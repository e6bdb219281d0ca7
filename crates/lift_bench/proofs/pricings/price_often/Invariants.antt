use Rattle.lift_bench.proofs.pricings.price_often.Given as goal

abbrev pub invariant-loop-round : goal.invariant-loop-round
invariant-loop-round g l = g.P.Pricer.owns l.pricer l.desk
