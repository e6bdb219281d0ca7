-- All that are there are ends, and there is room.
use Rattle.std.proofs.Common.{◌≡◌, ◌-◌, ◌+◌, length, vec_capacity}
use Rattle.std.specs.Vec.{vec_len}
use Rattle.pricing_bound.specs.Rates.{AreEnds}
use Rattle.pricing_bound.proofs.rates.lay_out_ends.Given as goal

abbrev pub invariant-loop-early : goal.invariant-loop-early
invariant-loop-early l = record {
  ends : AreEnds l.rates l.ends.items;
  room : vec_capacity l.ends ≡ vec_capacity l.fn.ends;
}

abbrev pub decreases-loop-early : goal.decreases-loop-early
decreases-loop-early l = length l.rates + 1 - vec_len l.ends
