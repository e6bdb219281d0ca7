use Rattle.std.proofs.Common.{◌≡◌, ◌≤◌, take, vec_capacity}
use Rattle.std.specs.Vec.{vec_len}
use Rattle.pricing_search.proofs.found.BestMoves.take.Given as goal

abbrev pub invariant-loop-next : goal.invariant-loop-next
invariant-loop-next l = record {
  items : l.self-inside.moves.items ≡ take l.next-index l.next-items;
  len : vec_len l.self-inside.moves ≡ l.next-index;
  room : 450 ≤ vec_capacity l.self-inside.moves;
}
