-- What is read of a text, line by line.
use Rattle.std.specs.Prelude.{◌≡◌, ℕ, ◌+◌, ◌-◌, ◌≤◌, ◌<◌, Bool, true, false, nat_lt, List, [], ◌∷◌, ◌++◌, length, take, drop, All, slice_index_or, ◌⊎◌, IsTrue}
use Rattle.std.specs.Prelude.{Option, None, Some, IfSome, IsSomeAnd, Result, Ok, Err, if◌then◌else◌}
use Rattle.std.specs.List.{concat}
use Rattle.std.specs.Io.KnownBytes.{IsAtEnd}
use Rattle.std.specs.Io.BufRead.{ends_with_byte}
use Rattle.lift_text.specs.Lines.{pieces_of, line_of, words_of, is_clean, AreLines, HasWholeLine}
use Rattle.lift_text.specs.declared.codes.TextCode.{TextCode}
use Rattle.lift_text.specs.declared.codes.TextCode.TheVariants.{ForbiddenByte, OverLong}
use Rattle.lift_text.specs.declared.faults.TextFault.{TextFault}
use Rattle.lift_text.specs.declared.faults.TextFault.TheVariants.{Read, TooLong, Bad, NoMemory}
use Rattle.lift_text.specs.declared.faults.RawLine.{RawLine}
use Rattle.lift_text.specs.declared.faults.RawLine.TheVariants.{Line, Long, End}

-- the most bytes of a line without its end
abbrev pub line_limit : ℕ
line_limit = 4096

-- the lines of a text that have a word, each with its number and its words, and then what ends them: the
-- end of the text, with the number of its lines; a bad line, with its number and its code; or the most
-- bytes that may be read
pub data Reading : Type 0 where
  line_with : ℕ → List (List ℕ) → Reading → Reading
  finished : ℕ → Reading
  bad_line : ℕ → TextCode → Reading
  past_limit : Reading

-- a line with this number and text, and what comes after it
abbrev pub judged : ℕ → List ℕ → Reading → Reading
judged line text after =
    if nat_lt line_limit (length text) then bad_line line OverLong
    else (if is_clean text then (if nat_lt 0 (length (words_of text)) then line_with line (words_of text) after else after)
    else bad_line line ForbiddenByte)

-- a line that goes past the most bytes that may be read, of which `limit` are left: it is over long where
-- that many bytes show it
abbrev pub cut_short : ℕ → ℕ → Reading
cut_short line limit = if nat_lt (line_limit + 1) limit then bad_line line OverLong else past_limit

-- what is read of lines with their ends, after this many lines, where at most `limit` bytes may be read
abbrev pub reading_of : ℕ → ℕ → List (List ℕ) → Reading
reading_of line limit [] = finished line
reading_of line limit (piece ∷ pieces) =
    if nat_lt limit (length piece) then cut_short (line + 1) limit
    else judged (line + 1) (line_of piece) (reading_of (line + 1) (limit - length piece) pieces)

-- how many lines of a text were read, how many bytes may still be read, and the bytes that are left
pub record TextState : Type 0 where
  pub line : ℕ
  pub limit : ℕ
  pub bytes : List ℕ

-- a text before its first line
abbrev pub whole_text : List ℕ → TextState
whole_text bytes = record { line = 0; limit = 67108864; bytes = bytes }

abbrev pub reading : TextState → Reading
reading text = reading_of text.line text.limit (pieces_of text.bytes)

-- from one state to a later one: the lines between were read, and nothing else
pub record Passed (before after : TextState) : Type 0 where
  pub lines : before.line ≤ after.line
  pub pieces : pieces_of after.bytes ≡ drop (after.line - before.line) (pieces_of before.bytes)
  pub limit : after.limit + length before.bytes ≡ before.limit + length after.bytes

-- what the next line with a word is, by the answer, the words and the number of lines after it
abbrev pub NextLine : Option TextState → Result Bool TextFault → List (List ℕ) → ℕ → Option TextState → Type 0
NextLine None answer words line after = Unit {0}
NextLine (Some before) (Ok true) words line after =
    IsSomeAnd after (λ text. (reading before ≡ line_with line words (reading text)) × (text.line ≡ line) × Passed before text)
NextLine (Some before) (Ok false) words line after = (reading before ≡ finished line)
    × IsSomeAnd after (λ text. (text.bytes ≡ []) × (text.line ≡ line) × Passed before text)
NextLine (Some before) (Err (Bad number code)) words line after = (reading before ≡ bad_line number code) × (line ≡ number)
NextLine (Some before) (Err TooLong) words line after = reading before ≡ past_limit
NextLine (Some before) (Err Read) words line after = Unit {0}
NextLine (Some before) (Err NoMemory) words line after = ⊥

-- what the next line is as it stands, by the answer and the line after it
abbrev pub NextRaw : Option TextState → Result RawLine TextFault → List ℕ → Option TextState → Type 0
NextRaw None answer raw after = Unit {0}
NextRaw (Some before) (Ok Line) raw after = IsSomeAnd after (λ text.
    (piece : List ℕ) × (pieces_of before.bytes ≡ piece ∷ pieces_of text.bytes) × (length piece ≤ before.limit) × (line_of piece ≡ raw)
    × (length raw ≤ line_limit)
    × (text.line ≡ before.line + 1) × Passed before text)
NextRaw (Some before) (Ok Long) raw after = IsSomeAnd after (λ text.
    (piece : List ℕ) × (pieces_of before.bytes ≡ piece ∷ pieces_of text.bytes) × (length piece ≤ before.limit) × (line_limit < length (line_of piece))
    × (text.line ≡ before.line + 1) × Passed before text)
NextRaw (Some before) (Ok End) raw after = (before.bytes ≡ []) × (after ≡ Some before)
NextRaw (Some before) (Err TooLong) raw after = (piece : List ℕ) × (pieces : List (List ℕ)) × (pieces_of before.bytes ≡ piece ∷ pieces)
    × (before.limit < length piece)
NextRaw (Some before) (Err Read) raw after = Unit {0}
NextRaw (Some before) (Err (Bad line code)) raw after = ⊥
NextRaw (Some before) (Err NoMemory) raw after = ⊥

-- a line that may stand in a text and has no word
pub record IsBlankLine (line : List ℕ) : Type 0 where
  pub short : length line ≤ line_limit
  pub clean : is_clean line ≡ true
  pub wordless : words_of line ≡ []

-- one line with its end that is passed over on the way to a line with a word
pub record IsPassedOver (piece : List ℕ) : Type 0 where
  pub one : pieces_of piece ≡ piece ∷ []
  pub blank : IsBlankLine (line_of piece)

-- the first of these lines that has a word or is bad is whole, and so are those before it
abbrev pub HasWholeAnswer : List (List ℕ) → Type 0
HasWholeAnswer [] = ⊥
HasWholeAnswer (piece ∷ pieces) = IsTrue (ends_with_byte 10 piece) × (IsBlankLine (line_of piece) → HasWholeAnswer pieces)

-- bytes that were taken before a read failed: lines that were passed over, each counted and with its LF, and
-- then no whole line
pub record StoppedBehind (lines lines' : ℕ) (bytes : List ℕ) : Type 0 where
  pub passed : List (List ℕ)
  pub rest : List ℕ
  pub held : bytes ≡ concat passed ++ rest
  pub each : All IsPassedOver passed
  pub whole : AreLines (concat passed) (length passed)
  pub line_feeds : All HasWholeLine passed
  pub line : lines' ≡ lines + length passed
  pub none : ¬ HasWholeLine rest

-- the next lines of a text, this many, have their LF each, or its reader has ended
abbrev pub HaveLineFeeds : Option TextState → ℕ → (ended : Bool) → Type 0
HaveLineFeeds before count ended = IfSome before (λ text. All HasWholeLine (take count (pieces_of text.bytes))) ⊎ (ended ≡ true)

-- how many lines are counted with an answer
abbrev pub lines_counted : Result RawLine TextFault → ℕ
lines_counted (Ok Line) = 1
lines_counted (Ok Long) = 1
lines_counted (Ok End) = 0
lines_counted (Err fault) = 0

-- how many bytes a call takes past the quota, by the fault that was answered before it and by its answer: one
-- where it is the first to answer that the text is too long
abbrev pub past_quota : {A : Type 0} → Option TextFault → Result A TextFault → ℕ
past_quota None (Ok answer) = 0
past_quota None (Err TooLong) = 1
past_quota None (Err Read) = 0
past_quota None (Err (Bad line code)) = 0
past_quota None (Err NoMemory) = 0
past_quota (Some fault) answer = 0

-- the end of a line shows in those of its bytes that were taken: they have its LF, or the source is at its
-- end, or they are more than 4,097, which a line of allowed length and a CR have
abbrev pub EndShows : List ℕ → Option (List ℕ) → Type 0
EndShows piece left = IsTrue (ends_with_byte 10 piece) ⊎ (IsAtEnd left ⊎ (line_limit + 1 < length piece))

-- where the answer is the first error and says that a line is bad, that line's end shows in the bytes that
-- were taken behind this many lines; `left` is what the source has left behind them
abbrev pub BadLineShows : Option TextFault → Result Bool TextFault → ℕ → List ℕ → Option (List ℕ) → Type 0
BadLineShows None (Ok answer) lines bytes left = Unit {0}
BadLineShows None (Err (Bad number code)) lines bytes left = (lines < number) × EndShows (slice_index_or (pieces_of bytes) (number - (lines + 1)) []) left
BadLineShows None (Err TooLong) lines bytes left = Unit {0}
BadLineShows None (Err Read) lines bytes left = Unit {0}
BadLineShows None (Err NoMemory) lines bytes left = Unit {0}
BadLineShows (Some fault) answer lines bytes left = Unit {0}
