use Rattle.std.proofs.Common.{ℤ, pos, ◌≤ℤ◌, ◌≡◌, ◌^◌, to_z, of_z, sym, subst}
use Rattle.std.specs.Int.{w128}
use Rattle.std.proofs.lemmas.Int.{to_z-of_z}
use Rattle.root_turns.proofs.turns.prices_after.Goals as goal

pub boards_counts-requires-clause-calls : goal.boards_counts-requires-clause-calls
boards_counts-requires-clause-calls c = c.requires.calls

pub boards_counts-requires-clause-cars : goal.boards_counts-requires-clause-cars
boards_counts-requires-clause-cars c = c.requires.cars

pub boards_counts-requires-clause-tours : goal.boards_counts-requires-clause-tours
boards_counts-requires-clause-tours c = c.requires.tours

pub adjust-requires-clause-low : goal.adjust-requires-clause-low
adjust-requires-clause-low c = let same : to_z w128 (of_z w128 c.args.step) ≡ c.args.step = to_z-of_z w128 c.args.step c.ranges.step in
    subst (λ (z : ℤ). pos 0 ≤ℤ z) (sym same) c.requires.low

pub adjust-requires-clause-high : goal.adjust-requires-clause-high
adjust-requires-clause-high c = let same : to_z w128 (of_z w128 c.args.step) ≡ c.args.step = to_z-of_z w128 c.args.step c.ranges.step in
    subst (λ (z : ℤ). z ≤ℤ pos (10 ^ 24)) (sym same) c.requires.high
