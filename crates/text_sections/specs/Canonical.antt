-- The lines of a text as they are written: words with one space between them, and an LF at the end.
use Rattle.std.specs.Prelude.{◌≡◌, ◌≢◌, ℕ, ◌+◌, ◌-◌, ◌<◌, ◌≤◌, List, [], ◌∷◌, ◌++◌, length, Option, IfSome, IsSomeAnd, Result, Ok, Err}
use Rattle.std.specs.List.{flat_map, AllByRecursion}
use Rattle.lift_text.specs.Reading.{TextState, Reading, reading, line_with, line_limit}
use Rattle.lift_text.specs.declared.faults.TextFault.{TextFault}
use Rattle.lift_text.specs.declared.faults.TextFault.TheVariants.{Read, TooLong, Bad, NoMemory}
use Rattle.text_sections.specs.Sections.{Line, Step, goes_on, is_whole}

-- a byte of a word: from `!` to `~`, but no `#`
abbrev pub IsWordByte : ℕ → Type 0
IsWordByte b = (33 ≤ b) × (b ≤ 126) × (b ≢ 35)

-- a word has a byte at least
pub record IsWord (word : List ℕ) : Type 0 where
  pub some : 0 < length word
  pub bytes : AllByRecursion IsWordByte word

-- words with one space between them
abbrev pub joined : Line → List ℕ
joined [] = []
joined (word ∷ words) = word ++ flat_map (λ later. 32 ∷ later) words

-- words that make a line: there are some, and the line is not over long
pub record IsLineOfWords (words : Line) : Type 0 where
  pub some : 0 < length words
  pub each : AllByRecursion IsWord words
  pub short : length (joined words) ≤ line_limit

-- the text of a line, and of lines
abbrev pub line_text : Line → List ℕ
line_text words = joined words ++ 10 ∷ []

abbrev pub lines_text : List Line → List ℕ
lines_text lines = flat_map line_text lines

-- what is read begins with these lines, and this comes after them
abbrev pub BeginsWith : List Line → Reading → Reading → Type 0
BeginsWith [] read rest = read ≡ rest
BeginsWith (words ∷ lines) read rest = (number : ℕ) × (after : Reading) × (read ≡ line_with number words after) × BeginsWith lines after rest

-- a section goes on over these lines, from one state to another
abbrev pub Goes : {A : Type 0} → (A → Line → Step A) → List Line → A → A → Type 0
Goes after [] state end = state ≡ end
Goes {A} after (words ∷ lines) state end = (next : A) × (after state words ≡ goes_on next) × Goes after lines next end

-- these lines make a whole section: it goes on over all but the last, and is whole with that
pub record Makes {A : Type 0} (after : A → Line → Step A) (lines : List Line) (state end : A) : Type 0 where
  pub front : List Line
  pub last : Line
  pub before : A
  pub lines_are : lines ≡ front ++ last ∷ []
  pub goes : Goes after front state before
  pub whole : after before last ≡ is_whole end

-- some lines make it
abbrev pub IsMade : {A : Type 0} → (A → Line → Step A) → A → A → Type 0
IsMade after state end = (lines : List Line) × Makes after lines state end

-- the section that was read is this one, and this is what is left; only a failed read and want of memory
-- come in its place
abbrev pub ReadBack : {A : Type 0} → A → Reading → Result Unit TextFault → A → Option TextState → Type 0
ReadBack end rest (Ok done) new now = (new ≡ end) × IsSomeAnd now (λ behind. reading behind ≡ rest)
ReadBack end rest (Err (Bad line code)) new now = ⊥
ReadBack end rest (Err TooLong) new now = ⊥
ReadBack end rest (Err Read) new now = Unit {0}
ReadBack end rest (Err NoMemory) new now = Unit {0}

-- where a text begins with the written lines of a section, that section is read, whatever follows
abbrev pub ReadsWritten : {A : Type 0} → (A → Line → Step A) → Option TextState → A → Result Unit TextFault → A → Option TextState → Type 0
ReadsWritten {A} after before state answer new now = (lines : List Line) (tail : List ℕ) (end : A) → AllByRecursion IsLineOfWords lines
    → Makes after lines state end
    → IfSome before (λ text. text.bytes ≡ lines_text lines ++ tail → length (lines_text lines) ≤ text.limit
    → ReadBack end (reading (record { line = text.line + length lines; limit = text.limit - length (lines_text lines); bytes = tail })) answer new now)
