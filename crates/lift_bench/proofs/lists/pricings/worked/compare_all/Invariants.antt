use Rattle.lift_bench.proofs.lists.pricings.worked.compare_all.Given as goal

abbrev pub invariant-loop-due : goal.invariant-loop-due
invariant-loop-due g l = g.P.Pricer.owns l.pricer l.desk
