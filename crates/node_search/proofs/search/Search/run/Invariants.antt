use Rattle.std.proofs.Common.{◌-◌, ◌≤◌, ℤ}
use Rattle.work_fan.specs.Work.{Serving}
use Rattle.search_tree.specs.Standing.{AllInTree, IsAtLeast}
use Rattle.node_search.specs.Searches.{IsSearching}
use Rattle.node_search.proofs.search.Search.run.Given as goal

abbrev pub invariant-loop-self : goal.invariant-loop-self
invariant-loop-self g l =
    record {
      searching : IsSearching (g.P.Pricer.snapshot l.pricer) l.limits.most_tours l.self;
      cheaper : l.self.best.cost ≤ l.fn.self.best.cost;
      few : l.self.done ≤ l.limits.rounds;
      sums : (z : ℤ) → AllInTree (IsAtLeast z) (g.P.Pricer.snapshot l.pricer) l.fn.self.tree.branches
          → AllInTree (IsAtLeast z) (g.P.Pricer.snapshot l.pricer) l.self.tree.branches;
      desks : Serving (g.P.Pricer.owns l.pricer) l.desks;
    }

abbrev pub decreases-loop-self : goal.decreases-loop-self
decreases-loop-self g l = l.rounds - l.self.done
