-- The header of a text, line by line.
use Rattle.std.proofs.Common.{◌≡◌, ℕ, suc, ◌+◌, ◌-◌, ◌<◌, ◌≤◌, ◌⊎◌, true, false, List, [], ◌∷◌, length, drop, Option, None, Some, Ok, Err, sym, subst, refl, ap}
use Rattle.std.proofs.Common.{◌∙◌, arith, inl, inr}
use Rattle.std.specs.Prelude.{IsSomeAnd, IfSome, option_map}
use Rattle.std.specs.Io.KnownBytes.{prepend_known}
use Rattle.lift_text.specs.Page.{PageState, text_at, limit_of}
use Rattle.lift_text.specs.declared.faults.RawLine.TheVariants.{Line, Long, End}
use Rattle.day_text.specs.declared.headers.Header.{Header}
use Rattle.day_text.specs.Records.{texts_of_line, header_fields}
use Rattle.day_text.proofs.PieceLemmas.{limit_behind}
use Rattle.lift_text.specs.Lines.{pieces_of}
use Rattle.lift_text.specs.Reading.{TextState, Passed, NextRaw, line_limit}
use Rattle.lift_text.specs.declared.faults.TextFault.{TextFault}
use Rattle.lift_text.specs.declared.faults.TextFault.TheVariants.{Read, TooLong, Bad, NoMemory}
use Rattle.lift_text.specs.declared.codes.TextCode.TheVariants.{NoHeader, CutShort}
use Rattle.day_text.specs.Headers.{IsEmptyLine, IsHeaderLine, IsNoHeader, HeaderFirst, NoHeaderFirst, HeaderInFront, IsHeaderFault, IsHeaderRead, IsPassed}
use Rattle.day_text.specs.Headers.{IsLineRead, IsBehindPiece, HeaderEndsBehind}
use Rattle.lift_text.specs.Shows.{WentOn}
use Rattle.text_sections.specs.Unfinished.{LacksEnd}
use Rattle.text_sections.proofs.UnfinishedLemmas.{lacks_behind, lacks_later}
use Rattle.day_text.proofs.PlaceLemmas.{empty_or_header}

-- ---- one line

passed_line : (holds : List ℕ → Type 0) (before now : TextState) (piece : List ℕ) → pieces_of before.bytes ≡ piece ∷ pieces_of now.bytes
    → length piece ≤ before.limit → now.line ≡ before.line + 1 → Passed before now → holds piece → IsPassed holds before now
passed_line holds before now piece pieces within number passed kind =
    record { piece = piece; pieces = pieces; within = within; line_is = number; limit_is = limit_behind before now piece pieces passed; kind = kind }

pub empty_line : (header : Header) (before now : Option TextState) (raw : List ℕ) → NextRaw before (Ok Line) raw now → raw ≡ []
    → IsLineRead header before (Ok false) now
empty_line header None now raw next none = tt
empty_line header (Some before) None raw next none = absurd next
empty_line header (Some before) (Some now) raw next none =
    passed_line IsEmptyLine before now next.0 next.1 next.2 next.5 next.6 (next.3 ∙ none)

pub header_line : (header : Header) (before now : Option TextState) (raw : List ℕ) → NextRaw before (Ok Line) raw now
    → texts_of_line raw ≡ Some (header_fields header) → IsLineRead header before (Ok true) now
header_line header None now raw next names = tt
header_line header (Some before) None raw next names = absurd next
header_line header (Some before) (Some now) raw next names =
    passed_line (IsHeaderLine header) before now next.0 next.1 next.2 next.5 next.6
    (record { short = subst (λ (xs : List ℕ). length xs ≤ line_limit) (sym next.3) next.4; names = ap texts_of_line next.3 ∙ names })

-- the first line is neither
other_line : (header : Header) (before : TextState) (piece : List ℕ) (pieces : List (List ℕ)) (n : ℕ) → pieces_of before.bytes ≡ piece ∷ pieces
    → length piece ≤ before.limit → IsNoHeader header piece → n ≡ before.line + 1
    → IsHeaderFault header before (Bad n NoHeader)
other_line header before piece pieces n first within other number =
    subst (λ (xs : List (List ℕ)). NoHeaderFirst header before.line before.limit xs (Bad n NoHeader)) (sym first)
    (inr (within, inr (other, ap (λ (k : ℕ). Bad k NoHeader) number)))

pub no_header : (header : Header) (before now : Option TextState) (raw : List ℕ) (old n : ℕ) → NextRaw before (Ok Line) raw now → (raw ≡ [] → ⊥)
    → (texts_of_line raw ≡ Some (header_fields header) → ⊥) → IfSome before (λ text. text.line ≡ old) → n ≡ old + 1
    → IsLineRead header before (Err (Bad n NoHeader)) now
no_header header None now raw old n next some other number counted = tt
no_header header (Some before) None raw old n next some other number counted = absurd next
no_header header (Some before) (Some now) raw old n next some other number counted =
    other_line header before next.0 (pieces_of now.bytes) n next.1 next.2
    (record { some = λ none. some (sym next.3 ∙ none); other = λ is. other (ap texts_of_line (sym next.3) ∙ is.names) })
    (omega (arith, number, counted))

pub long_line : (header : Header) (before now : Option TextState) (raw : List ℕ) (old n : ℕ) → NextRaw before (Ok Long) raw now
    → IfSome before (λ text. text.line ≡ old) → n ≡ old + 1 → IsLineRead header before (Err (Bad n NoHeader)) now
long_line header None now raw old n next number counted = tt
long_line header (Some before) None raw old n next number counted = absurd next
long_line header (Some before) (Some now) raw old n next number counted =
    let long = next.3 in
    other_line header before next.0 (pieces_of now.bytes) n next.1 next.2
    (record { some = λ none. (let size = ap length none in omega (arith, long, size)); other = λ is. (let short = is.short in omega (arith, long, short)) })
    (omega (arith, number, counted))

pub no_line : (header : Header) (before now : Option TextState) (raw : List ℕ) (old n : ℕ) → NextRaw before (Ok End) raw now
    → IfSome before (λ text. text.line ≡ old) → n ≡ old + 1 → IsLineRead header before (Err (Bad n CutShort)) now
no_line header None now raw old n next number counted = tt
no_line header (Some before) now raw old n next number counted =
    subst (λ (xs : List (List ℕ)). NoHeaderFirst header before.line before.limit xs (Bad n CutShort)) (sym (ap pieces_of next.0))
    (ap (λ (k : ℕ). Bad k CutShort) (omega (arith, number, counted)))

pub failed_line : (header : Header) (before now : Option TextState) (raw : List ℕ) (fault : TextFault) → NextRaw before (Err fault) raw now
    → IsLineRead header before (Err fault) now
failed_line header None now raw fault next = tt
failed_line header (Some before) now raw Read next = tt
failed_line header (Some before) now raw NoMemory next = absurd next
failed_line header (Some before) now raw (Bad line code) next = absurd next
failed_line header (Some before) now raw TooLong next =
    subst (λ (xs : List (List ℕ)). NoHeaderFirst header before.line before.limit xs TooLong) (sym next.2) (inl (next.3, refl))

-- ---- from line to line

-- what is in front of a later text is in front of the first, and a header that is in front of the first is in front of it
abbrev pub LeadsOn : Header → Option TextState → Option TextState → Type 0
LeadsOn header None now = Unit {0}
LeadsOn header (Some text) now = IsSomeAnd now (λ here.
    ((behind : TextState) → HeaderInFront header here behind → HeaderInFront header text behind)
    × ((fault : TextFault) → IsHeaderFault header here fault → IsHeaderFault header text fault)
    × ((behind : TextState) → HeaderInFront header text behind → HeaderInFront header here behind))

pub leads_none : (header : Header) (text : Option TextState) → LeadsOn header text text
leads_none header None = tt
leads_none header (Some text) = (λ behind first. first, λ fault first. first, λ behind first. first)

header_before : (header : Header) (here now behind : TextState) → IsPassed IsEmptyLine here now → HeaderInFront header now behind
    → HeaderInFront header here behind
header_before header here now behind is first =
    let size = length is.piece in
    let numbered = subst (λ (n : ℕ). HeaderFirst header n now.limit (pieces_of now.bytes) behind) is.line_is first in
    let later = subst (λ (n : ℕ). HeaderFirst header (here.line + 1) n (pieces_of now.bytes) behind) is.limit_is numbered in
    subst (λ (xs : List (List ℕ)). HeaderFirst header here.line here.limit xs behind) (sym is.pieces) (is.within, inl (is.kind, later))

fault_before : (header : Header) (here now : TextState) (fault : TextFault) → IsPassed IsEmptyLine here now → IsHeaderFault header now fault
    → IsHeaderFault header here fault
fault_before header here now fault is first =
    let numbered = subst (λ (n : ℕ). NoHeaderFirst header n now.limit (pieces_of now.bytes) fault) is.line_is first in
    let later = subst (λ (n : ℕ). NoHeaderFirst header (here.line + 1) n (pieces_of now.bytes) fault) is.limit_is numbered in
    subst (λ (xs : List (List ℕ)). NoHeaderFirst header here.line here.limit xs fault) (sym is.pieces) (inr (is.within, inl (is.kind, later)))

header_after : (header : Header) (here now behind : TextState) → IsPassed IsEmptyLine here now → HeaderInFront header here behind
    → HeaderInFront header now behind
header_after header here now behind is first =
    let lines = subst (λ (xs : List (List ℕ)). HeaderFirst header here.line here.limit xs behind) is.pieces first in
    let numbered = subst (λ (n : ℕ). HeaderFirst header n (here.limit - length is.piece) (pieces_of now.bytes) behind) (sym is.line_is) (by_kind lines.1) in
    subst (λ (n : ℕ). HeaderFirst header now.line n (pieces_of now.bytes) behind) (sym is.limit_is) numbered
  where
    by_kind : ((IsEmptyLine is.piece × HeaderFirst header (here.line + 1) (here.limit - length is.piece) (pieces_of now.bytes) behind)
        ⊎ (IsHeaderLine header is.piece × IsBehindPiece here.line here.limit is.piece (pieces_of now.bytes) behind))
        → HeaderFirst header (here.line + 1) (here.limit - length is.piece) (pieces_of now.bytes) behind
    by_kind (inl empty) = empty.1
    by_kind (inr found) = absurd (empty_or_header header is.piece is.kind found.0)

pub leads_more : (header : Header) (text here now : Option TextState) → LeadsOn header text here → IsLineRead header here (Ok false) now
    → LeadsOn header text now
leads_more header None here now leads line = tt
leads_more header (Some text) None now leads line = absurd leads
leads_more header (Some text) (Some here) None leads line = absurd line
leads_more header (Some text) (Some here) (Some now) leads line = (
  λ behind first. leads.0 behind (header_before header here now behind line first),
  λ fault first. leads.1 fault (fault_before header here now fault line first),
  λ behind first. header_after header here now behind line (leads.2 behind first),
)

header_here : (header : Header) (here now : TextState) → IsPassed (IsHeaderLine header) here now → HeaderInFront header here now
header_here header here now is =
    subst (λ (xs : List (List ℕ)). HeaderFirst header here.line here.limit xs now) (sym is.pieces)
    (is.within, inr (is.kind, record { line_is = is.line_is; limit_is = is.limit_is; pieces_are = refl }))

pub leads_found : (header : Header) (text here now : Option TextState) → LeadsOn header text here → IsLineRead header here (Ok true) now
    → IsHeaderRead header text (Ok tt) now
leads_found header None here now leads line = tt
leads_found header (Some text) None now leads line = absurd leads
leads_found header (Some text) (Some here) None leads line = absurd line
leads_found header (Some text) (Some here) (Some now) leads line = leads.0 now (header_here header here now line)

pub leads_fault : (header : Header) (text here now : Option TextState) (fault : TextFault) → LeadsOn header text here → IsLineRead header here (Err fault) now
    → IsHeaderRead header text (Err fault) now
leads_fault header None here now fault leads line = tt
leads_fault header (Some text) None now fault leads line = absurd leads
leads_fault header (Some text) (Some here) now Read leads line = tt
leads_fault header (Some text) (Some here) now NoMemory leads line = tt
leads_fault header (Some text) (Some here) now TooLong leads line = leads.1 TooLong line
leads_fault header (Some text) (Some here) now (Bad number code) leads line = leads.1 (Bad number code) line

-- ---- where a header ends

-- a header stands behind the lines before it, and the rest behind it
pub record IsBehindHeader (line : ℕ) (pieces : List (List ℕ)) (rows : TextState) : Type 0 where
  pub later : line < rows.line
  pub pieces_are : pieces_of rows.bytes ≡ drop (rows.line - line) pieces

pub header_behind : (header : Header) (line limit : ℕ) (pieces : List (List ℕ)) (rows : TextState) → HeaderFirst header line limit pieces rows
    → IsBehindHeader line pieces rows
header_behind header line limit [] rows first = absurd first
header_behind header line limit (piece ∷ pieces) rows first = by_kind (header_behind header (line + 1) (limit - length piece) pieces rows) first.1
  where
    by_kind : (HeaderFirst header (line + 1) (limit - length piece) pieces rows → IsBehindHeader (line + 1) pieces rows)
        → ((IsEmptyLine piece × HeaderFirst header (line + 1) (limit - length piece) pieces rows)
        ⊎ (IsHeaderLine header piece × IsBehindPiece line limit piece pieces rows)) → IsBehindHeader line (piece ∷ pieces) rows
    by_kind later (inl empty) =
        let rest = later empty.1 in
        let count : suc (rows.line - (line + 1)) ≡ rows.line - line = omega (arith, rest.later) in
        record { later = omega (arith, rest.later); pieces_are = rest.pieces_are ∙ ap (λ (n : ℕ). drop n (piece ∷ pieces)) count }
    by_kind later (inr found) =
        let is = found.1 in
        let count : 1 ≡ rows.line - line = omega (arith, is.line_is) in
        record { later = omega (arith, is.line_is); pieces_are = is.pieces_are ∙ ap (λ (n : ℕ). drop n (piece ∷ pieces)) count }

-- behind a header no more bytes may be read than before it
pub limit_behind_header : (header : Header) (line limit : ℕ) (pieces : List (List ℕ)) (rows : TextState) → HeaderFirst header line limit pieces rows
    → rows.limit ≤ limit
limit_behind_header header line limit [] rows first = absurd first
limit_behind_header header line limit (piece ∷ pieces) rows first =
    elim first.1 [
      | inl empty ↦ (let rest = limit_behind_header header (line + 1) (limit - length piece) pieces rows empty.1 in omega (arith, rest))
      | inr found ↦ (let rest = found.1.limit_is in omega (arith, rest))
    ]

-- a read failed behind the lines so far
pub header_ends : (header : Header) (text here : Option TextState) (line : ℕ) (left : Option (List ℕ)) → LeadsOn header text here → WentOn text here
    → IfSome here (λ (t : TextState). t.line ≡ line) → LacksEnd here (line + 1) left
    → HeaderEndsBehind header text left
header_ends header None here line left leads went number lacks = tt
header_ends header (Some text) None line left leads went number lacks = absurd leads
header_ends header (Some text) (Some here) line left leads went number lacks = λ rows first.
    (let up = (header_behind header here.line here.limit (pieces_of here.bytes) rows (leads.2 rows first)).later in
    lacks_behind (Some text) (Some here) rows.line left went (lacks_later (Some here) (line + 1) rows.line left (omega (arith, up, number)) lacks))

-- ---- the number of lines

number_at : (page : PageState) (known : Option (List ℕ))
    → IfSome (option_map (λ bytes. record { line = page.line; limit = limit_of page; bytes = bytes }) known) (λ (t : TextState). t.line ≡ page.line)
number_at page None = tt
number_at page (Some bytes) = refl

pub number_of : (page : PageState) (left : Option (List ℕ)) → IfSome (text_at page left) (λ (t : TextState). t.line ≡ page.line)
number_of page left = number_at page (prepend_known page.unread left)
