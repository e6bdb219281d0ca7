-- The rows that the lines of a text bring.
use Rattle.std.specs.Prelude.{ℕ, nat_lt, List, [], ◌∷◌, ◌++◌, length, Option, None, if◌then◌else◌}
use Rattle.search_model.specs.Days.{Row}
use Rattle.lift_text.specs.Lines.{line_of}
use Rattle.lift_text.specs.Reading.{line_limit}
use Rattle.day_text.specs.Records.{row_of_line}

-- A line of no bytes is no row. What a row says is `None` where it has not four numbers.
abbrev pub rows_of_short : List ℕ → List (Option Row)
rows_of_short [] = []
rows_of_short (b ∷ line) = row_of_line (b ∷ line) ∷ []

-- the row of a line without its end, if it is one; an over-long one says nothing
abbrev pub rows_of_line : List ℕ → List (Option Row)
rows_of_line line = if nat_lt line_limit (length line) then None ∷ [] else rows_of_short line

-- The rows of lines with their ends.
abbrev pub rows_of : List (List ℕ) → List (Option Row)
rows_of [] = []
rows_of (piece ∷ pieces) = rows_of_line (line_of piece) ++ rows_of pieces
