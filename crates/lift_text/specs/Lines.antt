-- The lines of a text, and the words of a line.
use Rattle.std.specs.Prelude.{◌≡◌, ℕ, Bool, ◌&&◌, ◌||◌, ◌==◌, nat_le, nat_lt, List, [], ◌∷◌, ◌++◌, length, drop, filter, Contains, if◌then◌else◌}
use Rattle.std.specs.List.{list_all, before_first, onto_first, slice_split}
use Rattle.std.specs.Io.BufRead.{ends_with_byte, strip_last}

-- the lines of a text with their ends: each ends with LF, but for the last, which may lack it
abbrev pub pieces_of : List ℕ → List (List ℕ)
pieces_of [] = []
pieces_of (b ∷ bs) = if b == 10 then (b ∷ []) ∷ pieces_of bs else onto_first b (pieces_of bs)

-- bytes have an LF, with which a line ends
abbrev pub HasWholeLine : List ℕ → Type 0
HasWholeLine bytes = Contains bytes 10

-- this many whole lines
abbrev pub AreLines : List ℕ → ℕ → Type 0
AreLines front count = (tail : List ℕ) → drop count (pieces_of (front ++ tail)) ≡ pieces_of tail

-- a line without its end, which is LF or CR LF
abbrev pub line_of : List ℕ → List ℕ
line_of piece = if ends_with_byte 10 piece then strip_last 13 (strip_last 10 piece) else piece

-- what stands before a line's comment
abbrev pub before_comment : List ℕ → List ℕ
before_comment line = before_first (λ b. b == 35) line

-- a space or a tab
abbrev pub is_blank : ℕ → Bool
is_blank b = b == 32 || b == 9

-- a byte from the space to `~`, or a tab
abbrev pub is_allowed : ℕ → Bool
is_allowed b = (nat_le 32 b && nat_le b 126) || b == 9

-- the parts between blanks that are not empty
abbrev pub words_in : List ℕ → List (List ℕ)
words_in bytes = filter (λ word. nat_lt 0 (length word)) (slice_split is_blank bytes)

-- the words of a line
abbrev pub words_of : List ℕ → List (List ℕ)
words_of line = words_in (before_comment line)

-- a line without a byte that is not allowed before its comment
abbrev pub is_clean : List ℕ → Bool
is_clean line = list_all is_allowed (before_comment line)
