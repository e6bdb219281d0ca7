-- Lists of ids.
use Rattle.std.specs.Prelude.{◌≡◌, ℕ, ◌<◌, List, length, slice_index}

-- no id stands at two places
abbrev pub AreDifferent : List ℕ → Type 0
AreDifferent ids = (j k : ℕ) → j < k → k < length ids → slice_index ids j ≡ slice_index ids k → ⊥
