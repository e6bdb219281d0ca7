-- The bound that a search answers.
use Rattle.std.proofs.Common.{◌≡◌, ℕ, ◌≤◌, List, arith}
use Rattle.std.specs.Prelude.{pos, ◌≤ℤ◌}
use Rattle.std.proofs.lemmas.Int.{ints}
use Rattle.elevator_model.specs.declared.Stop.{Stop}
use Rattle.elevator_model.specs.Snapshot.{Snapshot}
use Rattle.search_model.specs.declared.Twig.{Twig}
use Rattle.search_model.specs.declared.Turn.{Turn}
use Rattle.search_model.specs.declared.StopReason.{StopReason}
use Rattle.search_model.specs.Solving.{IsSolveAnswer, least_bound}
use Rattle.node_search.proofs.SearchEnd.{least-cost}

-- the bound of a search is at most its cost
pub bound_low : (s : Snapshot) (rounds most_tours : ℕ) (plan : List (List Stop)) (cost bound : ℕ) (tree : List Twig) (turns : List Turn) (why : StopReason)
    → IsSolveAnswer s rounds most_tours plan cost bound tree turns why → bound ≤ cost
bound_low s rounds most_tours plan cost bound tree turns why answer =
    let least : least_bound cost tree ≤ℤ pos cost = least-cost cost tree in
    let same : pos bound ≡ least_bound cost tree = answer.best_bound in
    omega (arith, ints, least, same)
