-- The pairs of the places so far.
use Rattle.std.proofs.Common.{◌≡◌, length}
use Rattle.half_plans.specs.PairPlans.{pair_count}
use Rattle.half_plans.specs.Priced.{AreMade}
use Rattle.half_plans.proofs.candidates.candidates_of.Given as goal

abbrev pub invariant-loop-second : goal.invariant-loop-second
invariant-loop-second l = record {
  made : AreMade l.least l.tours l.candidates.items;
  counted : length l.candidates.items ≡ pair_count l.second;
}
