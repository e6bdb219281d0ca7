-- The pairs so far.
use Rattle.std.proofs.Common.{◌≡◌, ◌+◌, length}
use Rattle.half_plans.specs.PairPlans.{pair_count}
use Rattle.half_plans.specs.Priced.{AreMade}
use Rattle.half_plans.proofs.candidates.push_pairs.Given as goal

abbrev pub invariant-loop-first : goal.invariant-loop-first
invariant-loop-first l = record {
  made : AreMade l.least l.tours l.candidates.items;
  counted : length l.candidates.items ≡ pair_count l.second + l.first;
}
