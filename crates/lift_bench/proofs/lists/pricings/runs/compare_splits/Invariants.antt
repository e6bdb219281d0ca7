use Rattle.search_model.specs.Nodes.{IsNodeOf}
use Rattle.lift_bench.proofs.lists.pricings.runs.compare_splits.Given as goal

abbrev pub invariant-loop-half : goal.invariant-loop-half
invariant-loop-half g l = record {
  node : IsNodeOf l.snapshot l.node;
  own : g.P.Pricer.owns l.pricer l.desk;
}
