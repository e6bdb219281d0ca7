-- The lowest number that fails a test.
use Rattle.std.specs.Prelude.{ℕ, zero, suc, Bool, if◌then◌else◌, Option, Some, None}
use Rattle.elevator_model.specs.Plans.{first_of}

-- the lowest number below n that fails the test
abbrev pub first_without : (ℕ → Bool) → ℕ → Option ℕ
first_without test zero = None
first_without test (suc n) = first_of (first_without test n) (if test n then None else Some n)
