-- So far those below this call.
use Rattle.std.proofs.Common.{◌≡◌, ◌<◌, ℕ, true, not, nat_lt, slice_index_or}
use Rattle.call_sets.specs.Counting.{has}
use Rattle.pricing_bound.specs.declared.rates.Rate.{Rate}
use Rattle.pricing_bound.proofs.rates.ended_by.Given as goal

abbrev pub invariant-loop-call : goal.invariant-loop-call
invariant-loop-call l = record {
  within : (j : ℕ) → has l.ended j ≡ true → j < l.call;
  ended : (j : ℕ) (d : Rate) → j < l.call → has l.ended j ≡ not (nat_lt l.moment (slice_index_or l.rates j d).below);
}
