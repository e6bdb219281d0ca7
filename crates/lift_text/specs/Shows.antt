-- Where the end of a line shows among the bytes that were taken.
use Rattle.std.specs.Prelude.{◌≡◌, ℕ, ◌+◌, ◌-◌, ◌<◌, Bool, true, false, List, [], ◌++◌, slice_index_or, Option, None, Some, IsSomeAnd, Result, Ok, Err}
use Rattle.lift_text.specs.Lines.{pieces_of}
use Rattle.lift_text.specs.Reading.{TextState, EndShows, Passed}
use Rattle.lift_text.specs.declared.faults.TextFault.{TextFault}
use Rattle.lift_text.specs.declared.faults.TextFault.TheVariants.{Read, TooLong, Bad, NoMemory}
use Rattle.lift_text.specs.declared.faults.RawLine.{RawLine}
use Rattle.lift_text.specs.declared.faults.RawLine.TheVariants.{Line, Long, End}

-- Of a text all but these last bytes were taken, and the end of its line with this number shows in those that were.
pub record IsShown (text : TextState) (number : ℕ) (rest : List ℕ) : Type 0 where
  pub taken : List ℕ
  pub split : text.bytes ≡ taken ++ rest
  pub later : text.line < number
  pub shows : EndShows (slice_index_or (pieces_of taken) (number - (text.line + 1)) []) (Some rest)

-- the same, where the source tells what it has left
abbrev pub ShowsEnd : Option TextState → ℕ → Option (List ℕ) → Type 0
ShowsEnd None number left = Unit {0}
ShowsEnd (Some text) number left = IsSomeAnd left (λ rest. IsShown text number rest)

-- the end of a line that is said to be bad shows
abbrev pub FaultShows : Option TextState → TextFault → Option (List ℕ) → Type 0
FaultShows before (Bad number code) left = ShowsEnd before number left
FaultShows before TooLong left = Unit {0}
FaultShows before Read left = Unit {0}
FaultShows before NoMemory left = Unit {0}

-- the end of the last line that was read shows, or that of the line that is said to be bad
abbrev pub AnswerShows : {A : Type 0} → Option TextState → Result A TextFault → ℕ → Option (List ℕ) → Type 0
AnswerShows before (Ok answer) line left = ShowsEnd before line left
AnswerShows before (Err fault) line left = FaultShows before fault left

-- the end of the next line with a word shows, by the answer and the number of lines after it; at the end of the text
-- nothing is left
abbrev pub LineShows : Option TextState → Result Bool TextFault → ℕ → Option (List ℕ) → Type 0
LineShows before (Ok true) line left = ShowsEnd before line left
LineShows before (Ok false) line left = ShowsEnd before (line + 1) left
LineShows before (Err fault) line left = FaultShows before fault left

-- the same of a line that is read as it stands
abbrev pub RawShows : Option TextState → Result RawLine TextFault → ℕ → Option (List ℕ) → Type 0
RawShows before (Ok Line) line left = ShowsEnd before line left
RawShows before (Ok Long) line left = ShowsEnd before line left
RawShows before (Ok End) line left = ShowsEnd before (line + 1) left
RawShows before (Err fault) line left = FaultShows before fault left

-- a text went on to a later state, where the source tells what it has left
abbrev pub WentOn : Option TextState → Option TextState → Type 0
WentOn None after = Unit {0}
WentOn (Some before) after = IsSomeAnd after (λ text. Passed before text)
