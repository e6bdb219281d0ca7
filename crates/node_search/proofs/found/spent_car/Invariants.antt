use Rattle.std.proofs.Common.{◌≡◌, ◌<◌, ℕ, None}
use Rattle.search_tree.specs.Branches.{at_place}
use Rattle.node_search.specs.Found.{IsBelow}
use Rattle.node_search.proofs.found.spent_car.Given as goal

abbrev pub invariant-loop-place : goal.invariant-loop-place
invariant-loop-place l =
    record {
      none : (k : ℕ) → k < l.place → IsBelow l.cost l.branches k → (at_place l.branches k).spent ≡ None;
    }
