use Rattle.std.proofs.Common.{◌≡◌, ◌^◌, take, pos, ◌≤ℤ◌}
use Rattle.search_model.specs.Solving.{greatest_price}
use Rattle.root_turns.proofs.turns.greatest_of.Given as goal

abbrev pub invariant-loop-place : goal.invariant-loop-place
invariant-loop-place l =
    record {
      value : l.greatest ≡ pos (greatest_price (take l.place l.prices));
      high : l.greatest ≤ℤ pos (10 ^ 24);
    }
