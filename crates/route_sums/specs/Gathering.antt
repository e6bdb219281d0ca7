-- The calls that have not boarded, gathered along the forced route: those that board on a leg at its moments, and at its
-- end the others.
use Rattle.std.specs.Prelude.{ℕ, ℤ, neg_ℤ, pos, ◌+ℤ◌, ◌*◌, ◌^◌, ◌&&◌, not, Bool, List, [], ◌∷◌}
use Rattle.elevator_model.specs.Snapshot.{Snapshot, call_count, call_of}
use Rattle.elevator_model.specs.Tours.{Progress}
use Rattle.route_bound.specs.ForcedRoute.{halted, is_before, next_open, part_if_boarded}
use Rattle.search_model.specs.Sums.{int_sum_where}

-- the call boards on the leg to floor f
abbrev pub boards_before : Snapshot → (up : Bool) → Progress → (f : ℕ) → (along rest : ℕ → Bool) → (j : ℕ) → Bool
boards_before s up p f along rest j = rest j && (along j && is_before up p.floor f (call_of s j).origin)

-- what the calls add that pass the test, where each boards as soon as the doors can be open from here
abbrev pub added_from : Snapshot → ℕ → (price : ℕ → ℤ) → (required test : ℕ → Bool) → Progress → ℤ
added_from s c price required test p = int_sum_where (call_count s) test (λ j. part_if_boarded s c price required j (next_open s c p (call_of s j).origin))

-- what the rest of the calls adds along the forced stops; those can board on a leg that go along
abbrev pub gathered : Snapshot → ℕ → (price : ℕ → ℤ) → (required along : ℕ → Bool) → (up : Bool) → Progress → List ℕ → (rest : ℕ → Bool) → ℤ
gathered s c price required along up p [] rest = added_from s c price required rest p
gathered s c price required along up p (f ∷ fs) rest =
    added_from s c price required (boards_before s up p f along rest) p +ℤ gathered s c price required along up (halted s c p f) fs
    (λ j. rest j && not (along j && is_before up p.floor f (call_of s j).origin))

-- no call adds less, and none more
abbrev pub lowest : ℕ → ℤ
lowest j = neg_ℤ (pos (2 * 10 ^ 24))

abbrev pub highest : ℕ → ℤ
highest j = pos (2 * 10 ^ 24)
