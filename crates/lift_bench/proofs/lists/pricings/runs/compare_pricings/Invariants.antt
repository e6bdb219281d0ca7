use Rattle.lift_bench.proofs.lists.pricings.runs.compare_pricings.Given as goal

abbrev pub invariant-loop-pricing : goal.invariant-loop-pricing
invariant-loop-pricing g l = g.P.Pricer.owns l.pricer l.desk
