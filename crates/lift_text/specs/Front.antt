-- What is found at the front of the bytes that are read and not used yet. No public clause cites this
-- module.
use Rattle.std.specs.Prelude.{◌≡◌, ◌≢◌, ℕ, ◌+◌, ◌<◌, ◌≤◌, Bool, true, List, [], ◌∷◌, ◌++◌, length, take, drop, ◌⊎◌, Option, IfSome, IsSomeAnd, Result, Ok, Err}
use Rattle.std.specs.Prelude.{slice_index}
use Rattle.std.specs.Io.KnownBytes.{prepend_known, IsAtEnd}
use Rattle.lift_text.specs.Lines.{pieces_of, line_of}
use Rattle.byte_streams.specs.Streams.{Took}
use Rattle.byte_streams.specs.declared.sources.SourceFault.{SourceFault}
use Rattle.lift_text.specs.declared.window.Fill.{Fill}
use Rattle.lift_text.specs.declared.window.Fill.TheVariants.{More as MoreBytes, End as NoBytes, Limit}
use Rattle.lift_text.specs.declared.window.Front.{Front}
use Rattle.lift_text.specs.declared.window.Front.TheVariants.{Line, Long, Cut, End}
use Rattle.lift_text.specs.declared.window.Skipped.{Skipped}
use Rattle.lift_text.specs.declared.window.Skipped.TheVariants.{Whole, Cut as CutShort}

-- bytes begin with a line of this length, which takes this size with its end
pub record BeginsWithLine (bytes : List ℕ) (line size : ℕ) : Type 0 where
  pub pieces : pieces_of bytes ≡ take size bytes ∷ pieces_of (drop size bytes)
  pub content : line_of (take size bytes) ≡ take line bytes

-- none of the first n bytes is an LF
abbrev pub NoLineFeedBelow : List ℕ → ℕ → Type 0
NoLineFeedBelow bytes n = (k : ℕ) → k < n → slice_index bytes k ≢ 10

abbrev pub NoLineFeed : List ℕ → Type 0
NoLineFeed bytes = NoLineFeedBelow bytes (length bytes)

-- what was left of a source after it was asked for more than the window has
abbrev pub Filled : Fill → Option (List ℕ) → Option (List ℕ) → Type 0
Filled MoreBytes old new = Unit {0}
Filled NoBytes old new = (new ≡ old) × IsAtEnd new
Filled Limit old new = (b : ℕ) × (old ≡ prepend_known (b ∷ []) new)

-- what stands at the front of what was left before: the unread bytes, and what the source has left
abbrev pub FoundIn : Front → Option (List ℕ) → List ℕ → Option (List ℕ) → ℕ → Type 0
FoundIn (Line line size) before unread left quota =
    (before ≡ prepend_known unread left) × (line ≤ size) × (0 < size) × (size ≤ length unread) × IfSome before (λ bytes. BeginsWithLine bytes line size)
FoundIn Long before unread left quota = (before ≡ prepend_known unread left) × (4097 < length unread) × NoLineFeed unread
FoundIn Cut before unread left quota =
    ((b : ℕ) × (before ≡ prepend_known (unread ++ b ∷ []) left)) × (quota ≡ 0) × (length unread ≤ 4097) × NoLineFeed unread
FoundIn End before unread left quota = (before ≡ prepend_known unread left) × (unread ≡ []) × IsAtEnd left

-- what was passed over of what was left before, of which at most `limit` bytes may be taken
abbrev pub SkippedIn : Skipped → Option (List ℕ) → ℕ → List ℕ → Option (List ℕ) → ℕ → Type 0
SkippedIn Whole before limit unread left quota = IfSome before (λ bytes. IsSomeAnd (prepend_known unread left) (λ rest.
    (piece : List ℕ) × (pieces_of bytes ≡ piece ∷ pieces_of rest) × (quota + length unread + length piece ≡ limit)))
SkippedIn CutShort before limit unread left quota = IfSome before (λ bytes.
    (piece : List ℕ) × (pieces : List (List ℕ)) × (pieces_of bytes ≡ piece ∷ pieces) × (limit < length piece))

-- bytes were taken behind those that were held, but for as many as came past the quota
pub record Gathered (past quota quota' : ℕ) (held held' taken : List ℕ) (left left' : Option (List ℕ)) : Type 0 where
  pub took : Took past quota quota' taken left left'
  pub kept : past ≡ 0 → held ++ taken ≡ held'

-- how many bytes a search takes past the quota
abbrev pub past_found : Result Front SourceFault → ℕ
past_found (Ok (Line line size)) = 0
past_found (Ok Long) = 0
past_found (Ok Cut) = 1
past_found (Ok End) = 0
past_found (Err fault) = 0

-- how many bytes skipping a line takes past the quota
abbrev pub past_skipped : Result Skipped SourceFault → ℕ
past_skipped (Ok Whole) = 0
past_skipped (Ok CutShort) = 1
past_skipped (Err fault) = 0

-- a line with its LF
pub record IsWholeLine (piece : List ℕ) : Type 0 where
  pub front : List ℕ
  pub none : NoLineFeed front
  pub is : piece ≡ front ++ 10 ∷ []

-- one line and nothing else, of this length without its end
pub record IsOneLine (piece : List ℕ) (line : ℕ) : Type 0 where
  pub pieces : pieces_of piece ≡ piece ∷ []
  pub content : line_of piece ≡ take line piece

-- the line that was found, with its end
abbrev pub FoundOne : Front → List ℕ → Type 0
FoundOne (Line line size) unread = IsOneLine (take size unread) line
FoundOne Long unread = Unit {0}
FoundOne Cut unread = Unit {0}
FoundOne End unread = Unit {0}

-- a line was found that has its LF
abbrev pub FoundWhole : Result Front SourceFault → List ℕ → Type 0
FoundWhole (Ok (Line line size)) unread = IsWholeLine (take size unread)
FoundWhole (Ok Long) unread = ⊥
FoundWhole (Ok Cut) unread = ⊥
FoundWhole (Ok End) unread = ⊥
FoundWhole (Err fault) unread = ⊥

-- how the end of the line that was found shows: by its LF, by the end of the source, or by its size
abbrev pub FoundShows : Front → List ℕ → (ended : Bool) → Type 0
FoundShows (Line line size) unread ended = IsWholeLine (take size unread) ⊎ (ended ≡ true)
FoundShows Long unread ended = NoLineFeed unread × (4097 < length unread)
FoundShows Cut unread ended = Unit {0}
FoundShows End unread ended = Unit {0}
