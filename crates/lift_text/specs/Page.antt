-- What clauses see of the lines that are read and their place in the text. No public clause cites this
-- module.
use Rattle.std.specs.Prelude.{◌≡◌, ℕ, Bool, true, false, ◌+◌, ◌*◌, ◌<◌, ◌≤◌, List, [], ◌∷◌, ◌++◌, length, take, drop, All, ◌⊎◌, Option, None, Some, option_map}
use Rattle.std.specs.Prelude.{IfSome, IsSomeAnd, Result, Ok, Err}
use Rattle.std.specs.List.{concat}
use Rattle.std.specs.Io.KnownBytes.{prepend_known}
use Rattle.lift_text.specs.Lines.{pieces_of, line_of, HasWholeLine}
use Rattle.lift_text.specs.Window.{WindowState}
use Rattle.byte_streams.specs.Streams.{Took}
use Rattle.lift_text.specs.Front.{Gathered, IsOneLine, IsWholeLine, NoLineFeed}
use Rattle.byte_streams.specs.declared.sources.SourceFault.{SourceFault}
use Rattle.lift_text.specs.declared.words.Span.{Span}
use Rattle.lift_text.specs.declared.judge.Flaw.{Flaw}
use Rattle.lift_text.specs.declared.judge.Flaw.TheVariants.{OverLong as IsOverLong, ForbiddenByte as HasForbiddenByte}
use Rattle.lift_text.specs.declared.codes.TextCode.TheVariants.{ForbiddenByte, OverLong}
use Rattle.lift_text.specs.declared.page.Step.{Step}
use Rattle.lift_text.specs.declared.page.Step.TheVariants.{WithWords, Blank, AtEnd}
use Rattle.lift_text.specs.Reading.{TextState, Reading, reading, judged, line_with, bad_line, past_limit, Passed, IsBlankLine, IsPassedOver}
use Rattle.lift_text.specs.declared.faults.TextFault.{TextFault}
use Rattle.lift_text.specs.declared.faults.TextFault.TheVariants.{Read, TooLong, Bad, NoMemory}
use Rattle.lift_text.specs.declared.faults.RawLine.{RawLine}
use Rattle.lift_text.specs.declared.faults.RawLine.TheVariants.{Line as LineRaw, Long as LongRaw, End as EndRaw}
use Rattle.lift_text.specs.declared.window.Front.{Front}
use Rattle.lift_text.specs.declared.window.Front.TheVariants.{Line, Long, Cut, End}

-- the bytes of the current line with its end, the bytes behind it, how many more may be taken, the number of
-- lines read, the words and the raw text of the current line, the fault that is answered from now on, and
-- whether the source has said that it is at its end
pub record PageState : Type 0 where
  pub current : List ℕ
  pub unread : List ℕ
  pub quota : ℕ
  pub line : ℕ
  pub words : List (List ℕ)
  pub raw : List ℕ
  pub failure : Option TextFault
  pub ended : Bool

-- what a page keeps: the current line at the front of the window, its raw text and its words in it, room for
-- the words of a longest line, and no more lines than bytes
pub record IsPage (window : WindowState) (size raw line count capacity : ℕ) (spans : List Span) : Type 0 where
  pub size_within : size ≤ length window.unread
  pub raw_within : raw ≤ size
  pub words_within : All (λ span. (span.start ≤ span.end) × (span.end ≤ size)) spans
  pub few : count ≤ 4096
  pub room : 4096 < 2 * capacity
  pub counted : line + (window.quota + length (drop size window.unread)) ≤ 67108864

-- how many bytes may still be read
abbrev pub limit_of : PageState → ℕ
limit_of page = page.quota + length page.unread

-- the state of the text, where the source tells what it has left
abbrev pub text_at : PageState → Option (List ℕ) → Option TextState
text_at page left = option_map (λ bytes. record { line = page.line; limit = limit_of page; bytes = bytes }) (prepend_known page.unread left)

-- a text begins with this piece, whose line has this length, and was read up to behind it
pub record IsLine (before after : TextState) (piece : List ℕ) (line : ℕ) : Type 0 where
  pub pieces : pieces_of before.bytes ≡ piece ∷ pieces_of after.bytes
  pub content : line_of piece ≡ take line piece
  pub within : length piece ≤ before.limit
  pub limit : after.limit + length piece ≡ before.limit
  pub number : after.line ≡ before.line + 1
  pub passed : Passed before after

-- a text begins with a piece for which a fact holds
abbrev pub FirstPiece : TextState → (List ℕ → Type 0) → Type 0
FirstPiece text holds = (piece : List ℕ) × (pieces : List (List ℕ)) × (pieces_of text.bytes ≡ piece ∷ pieces) × holds piece

-- what was found of the next line, by the state before, the line and the state after
abbrev pub Advanced : Front → Option TextState → List ℕ → Option TextState → Type 0
Advanced (Line line size) before current after = IfSome before (λ text. IsSomeAnd after (λ rest. IsLine text rest current line))
Advanced Long before current after = IfSome before (λ text. FirstPiece text (λ piece. (4097 < text.limit) × (4096 < length (line_of piece)))) × (after ≡ before)
Advanced Cut before current after = IfSome before (λ text. FirstPiece text (λ piece. (text.limit ≤ 4097) × (text.limit < length piece)))
Advanced End before current after = IfSome before (λ text. text.bytes ≡ []) × (after ≡ before)

-- the line is counted, and there is less to read
abbrev pub Forward : Front → PageState → PageState → Type 0
Forward (Line line size) old new = (line ≤ length new.current) × (new.line ≡ old.line + 1) × (limit_of new < limit_of old)
Forward Long old new = (new.line ≡ old.line) × (new.current ≡ []) × (4097 < length new.unread)
Forward Cut old new = new.line ≡ old.line
Forward End old new = new.line ≡ old.line

-- bytes were taken behind those that were unread, and the current line stands at their front
abbrev pub PageTook : ℕ → PageState → PageState → List ℕ → Option (List ℕ) → Option (List ℕ) → Type 0
PageTook past old new taken left left' = Gathered past old.quota new.quota old.unread (new.current ++ new.unread) taken left left'

-- how the end of the line that was found shows, by the state after it
abbrev pub LineEnds : Front → PageState → Type 0
LineEnds (Line line size) page = IsWholeLine page.current ⊎ (page.ended ≡ true)
LineEnds Long page = NoLineFeed page.unread × (4097 < length page.unread)
LineEnds Cut page = Unit {0}
LineEnds End page = Unit {0}

-- a line was found that has its LF, and it is the current one
abbrev pub CurrentWhole : Result Front SourceFault → List ℕ → Type 0
CurrentWhole (Ok (Line line size)) current = IsWholeLine current
CurrentWhole (Ok Long) current = ⊥
CurrentWhole (Ok Cut) current = ⊥
CurrentWhole (Ok End) current = ⊥
CurrentWhole (Err fault) current = ⊥

-- the line that was found is the current one
abbrev pub CurrentOne : Front → List ℕ → Type 0
CurrentOne (Line line size) current = IsOneLine current line
CurrentOne Long current = Unit {0}
CurrentOne Cut current = Unit {0}
CurrentOne End current = Unit {0}

-- the step that a judgement makes of the line with this number
abbrev pub step_of : ℕ → Result Bool Flaw → Result Step TextFault
step_of line (Ok true) = Ok WithWords
step_of line (Ok false) = Ok Blank
step_of line (Err IsOverLong) = Err (Bad line OverLong)
step_of line (Err HasForbiddenByte) = Err (Bad line ForbiddenByte)

-- what the current line was judged to be
abbrev pub JudgedAs : ℕ → List ℕ → Result Step TextFault → List (List ℕ) → Type 0
JudgedAs line text (Ok WithWords) words = (after : Reading) → judged line text after ≡ line_with line words after
JudgedAs line text (Ok Blank) words = ((after : Reading) → judged line text after ≡ after) × (words ≡ []) × IsBlankLine text
JudgedAs line text (Ok AtEnd) words = ⊥
JudgedAs line text (Err (Bad number code)) words = ((after : Reading) → judged line text after ≡ bad_line number code) × (words ≡ [])
JudgedAs line text (Err TooLong) words = ⊥
JudgedAs line text (Err Read) words = ⊥
JudgedAs line text (Err NoMemory) words = ⊥

-- a fact of the number of a bad line
abbrev pub IfBad : TextFault → (ℕ → Type 0) → Type 0
IfBad (Bad line code) P = P line
IfBad Read P = Unit {0}
IfBad TooLong P = Unit {0}
IfBad NoMemory P = Unit {0}

-- what one line turned out to be: one with words, one without, or the end
abbrev pub ReadLine : Option TextState → Result Step TextFault → List (List ℕ) → Option TextState → Type 0
ReadLine None answer words after = Unit {0}
ReadLine (Some before) (Ok WithWords) words after = IsSomeAnd after (λ text. (reading before ≡ line_with text.line words (reading text)) × Passed before text)
ReadLine (Some before) (Ok Blank) words after = IsSomeAnd after (λ text. (reading before ≡ reading text) × Passed before text)
ReadLine (Some before) (Ok AtEnd) words after = (before.bytes ≡ []) × (after ≡ Some before)
ReadLine (Some before) (Err (Bad line code)) words after = reading before ≡ bad_line line code
ReadLine (Some before) (Err TooLong) words after = reading before ≡ past_limit
ReadLine (Some before) (Err Read) words after = Unit {0}
ReadLine (Some before) (Err NoMemory) words after = ⊥

-- how the end of a line shows, and that it is the next one; and that no line is whole where a read failed
abbrev pub StepEnds : Result Step TextFault → PageState → PageState → Type 0
StepEnds (Ok WithWords) old new = (new.line ≡ old.line + 1) × (IsWholeLine new.current ⊎ (new.ended ≡ true))
StepEnds (Ok Blank) old new = (new.line ≡ old.line + 1) × (IsWholeLine new.current ⊎ (new.ended ≡ true)) × IsPassedOver new.current
StepEnds (Ok AtEnd) old new = Unit {0}
StepEnds (Err (Bad line code)) old new = (line ≡ old.line + 1)
    × (IsWholeLine new.current ⊎ ((new.ended ≡ true) ⊎ (NoLineFeed (new.current ++ new.unread) × (4097 < length (new.current ++ new.unread)))))
StepEnds (Err TooLong) old new = Unit {0}
StepEnds (Err Read) old new = (new.line ≡ old.line) × (¬ HasWholeLine (new.current ++ new.unread)) × (new.ended ≡ false)
StepEnds (Err NoMemory) old new = Unit {0}

-- from one state to a later one, over lines without words
abbrev pub Continues : Option TextState → Option TextState → Type 0
Continues None after = Unit {0}
Continues (Some before) after = IsSomeAnd after (λ text. (reading before ≡ reading text) × Passed before text)

-- from one state to a later one, over lines without words: the bytes that were taken, and the lines that were
-- passed over, which have their LF where the source has not said that it is at its end
pub record Crossed (old new : PageState) (left left' : Option (List ℕ)) : Type 0 where
  pub taken : List ℕ
  pub passed : List (List ℕ)
  pub took : Took 0 old.quota new.quota taken left left'
  pub held : old.unread ++ taken ≡ concat passed ++ new.unread
  pub line : new.line ≡ old.line + length passed
  pub whole : All IsWholeLine passed ⊎ (new.ended ≡ true)
  pub each : All IsPassedOver passed

-- what was passed over of a line, by the answer and the state after it
abbrev pub SkippedLine : Option TextState → Result RawLine TextFault → Option TextState → Type 0
SkippedLine before (Ok LongRaw) after = IfSome before (λ text. IsSomeAnd after (λ rest.
    (piece : List ℕ) × (pieces_of text.bytes ≡ piece ∷ pieces_of rest.bytes) × (length piece ≤ text.limit) × (rest.line ≡ text.line + 1) × Passed text rest))
SkippedLine before (Ok LineRaw) after = ⊥
SkippedLine before (Ok EndRaw) after = ⊥
SkippedLine before (Err TooLong) after = IfSome before (λ text. FirstPiece text (λ piece. text.limit < length piece))
SkippedLine before (Err Read) after = Unit {0}
SkippedLine before (Err (Bad line code)) after = ⊥
SkippedLine before (Err NoMemory) after = ⊥
