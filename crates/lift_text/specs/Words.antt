-- The words that spans of a line stand for.
use Rattle.std.specs.Prelude.{ℕ, List, [], ◌∷◌, map, nat_lt, slice_range, if◌then◌else◌}
use Rattle.lift_text.specs.declared.words.Span.{Span}

abbrev pub part_of : List ℕ → Span → List ℕ
part_of line span = slice_range line span.start span.end

abbrev pub parts_of : List ℕ → List Span → List (List ℕ)
parts_of line spans = map (part_of line) spans

-- the word from start up to end, if it has a byte
abbrev pub word_span : ℕ → ℕ → List Span
word_span start end = if nat_lt start end then record { start = start; end = end } ∷ [] else []
