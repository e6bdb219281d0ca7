use Rattle.lift_bench.proofs.lists.pricings.answers.compare.Given as goal

abbrev pub invariant-loop-limit : goal.invariant-loop-limit
invariant-loop-limit g l = g.P.Pricer.owns l.pricer l.desk
