-- The columns of a car as candidates of the search over the cars: each stands for the place of a column.
use Rattle.std.specs.Prelude.{ℕ, List, pos, slice_index_or}
use Rattle.car_search.specs.declared.candidates.Candidate.{Candidate}
use Rattle.car_search.specs.declared.candidates.CarChoice.{CarChoice}

abbrev pub PlacedColumn : Type 0
PlacedColumn = Candidate ℕ ℕ

abbrev pub CarColumns : Type 0
CarColumns = CarChoice ℕ ℕ

abbrev pub no_candidate : PlacedColumn
no_candidate = record { item = 0; cost = 0; calls = 0; excess = pos 0 }

abbrev pub candidate_at : List PlacedColumn → ℕ → PlacedColumn
candidate_at xs k = slice_index_or xs k no_candidate
