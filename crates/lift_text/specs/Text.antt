-- The words and lines that are written, and what stands where writing ended early.
use Rattle.std.specs.Prelude.{◌≡◌, ℕ, ◌≤◌, List, [], ◌∷◌, ◌++◌, length, take, decimal}
use Rattle.std.specs.List.{flat_map}

abbrev pub newline : List ℕ
newline = 10 ∷ []

-- a number after a space
unfoldable pub word : ℕ → List ℕ
word n = 32 ∷ decimal n

-- a name, and numbers after it
unfoldable pub words : List ℕ → List ℕ → List ℕ
words name numbers = name ++ flat_map word numbers

unfoldable pub line : List ℕ → List ℕ → List ℕ
line name numbers = words name numbers ++ newline

-- behind what stood before, the new text has a front of this text and nothing else
pub record BeginsAfter (old new text : List ℕ) : Type 0 where
  pub count : ℕ
  pub within : count ≤ length text
  pub items : new ≡ old ++ take count text
