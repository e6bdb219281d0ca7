-- How often calls are taken.
use Rattle.std.specs.Prelude.{◌≡◌, ℕ, ◌+◌, ◌≤◌, Bool, true, if◌then◌else◌}
use Rattle.call_sets.specs.Counting.{has}

abbrev pub one_if : Bool → ℕ
one_if test = if test then 1 else 0

-- how often a set of calls takes a call
abbrev pub times_in_set : (calls : ℕ) → ℕ → ℕ
times_in_set calls j = one_if (has calls j)

-- no call is taken
abbrev pub no_times : ℕ → ℕ
no_times j = 0

abbrev pub and_also : (taken more : ℕ → ℕ) → ℕ → ℕ
and_also taken more j = taken j + more j

-- with these more no call is taken too often
abbrev pub HasRoom : (whole : ℕ) (taken more : ℕ → ℕ) → Type 0
HasRoom whole taken more = (j : ℕ) → taken j + more j ≤ whole

-- each of the calls is taken as often as it has to be
abbrev pub AreWhole : (whole : ℕ) (calls : ℕ → Bool) (taken : ℕ → ℕ) → Type 0
AreWhole whole calls taken = (j : ℕ) → calls j ≡ true → taken j ≡ whole
