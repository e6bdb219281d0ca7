-- The pairs of a car's tours as candidates of the search over the cars.
use Rattle.std.specs.Prelude.{ℕ, ◌+◌, List, pos, slice_index_or}
use Rattle.call_sets.specs.Counting.{has}
use Rattle.car_search.specs.declared.candidates.Candidate.{Candidate}
use Rattle.car_search.specs.declared.candidates.CarChoice.{CarChoice}
use Rattle.car_search.specs.Counts.{one_if}
use Rattle.half_plans.specs.declared.Pair.{Pair}
use Rattle.half_plans.specs.declared.two_sets.TwoSets.{TwoSets}

-- how often the call is taken
abbrev pub times_of : TwoSets → ℕ → ℕ
times_of calls j = one_if (has calls.first j) + one_if (has calls.second j)

abbrev pub PairCandidate : Type 0
PairCandidate = Candidate Pair TwoSets

abbrev pub CarPairs : Type 0
CarPairs = CarChoice Pair TwoSets

abbrev pub no_candidate : PairCandidate
no_candidate =
    record { item = record { first = 0; second = 0 }; cost = 0; calls = record { first = 0; second = 0 }; excess = pos 0 }

abbrev pub candidate_at : List PairCandidate → ℕ → PairCandidate
candidate_at xs k = slice_index_or xs k no_candidate
