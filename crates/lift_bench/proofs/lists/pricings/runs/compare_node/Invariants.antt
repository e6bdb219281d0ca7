use Rattle.lift_bench.proofs.lists.pricings.runs.compare_node.Given as goal

abbrev pub invariant-loop-car : goal.invariant-loop-car
invariant-loop-car g l = g.P.Pricer.owns l.pricer l.desk
