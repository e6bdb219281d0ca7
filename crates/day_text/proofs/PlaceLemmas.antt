-- The place behind given lines of a text is one place.
use Rattle.std.proofs.Common.{◌≡◌, ℕ, suc, ◌+◌, ◌-◌, ◌≤◌, ◌⊎◌, inl, inr, Some, List, [], ◌∷◌, length, drop, sym, subst, refl, ap, ◌∙◌, arith}
use Rattle.lift_text.specs.Lines.{pieces_of}
use Rattle.lift_text.specs.Reading.{TextState, Reading, reading, line_with, finished, bad_line, past_limit}
use Rattle.text_sections.specs.Sections.{Line}
use Rattle.text_sections.specs.Canonical.{BeginsWith}
use Rattle.text_sections.specs.Between.{IsNextLine, AreBetween}
use Rattle.csv.specs.Machine.{next_record}
use Rattle.csv.specs.Reading.{strip_bom}
use Rattle.lift_text.specs.declared.faults.TextFault.{TextFault}
use Rattle.lift_text.specs.declared.faults.TextFault.TheVariants.{Bad}
use Rattle.lift_text.specs.declared.codes.TextCode.TheVariants.{NoHeader}
use Rattle.day_text.specs.declared.headers.Header.{Header}
use Rattle.day_text.specs.declared.headers.Header.TheVariants.{Rows, BankRows}
use Rattle.day_text.specs.Records.{texts_of_line, header_fields}
use Rattle.day_text.specs.Headers.{IsEmptyLine, IsHeaderLine, IsNoHeader, IsBehindPiece, HeaderFirst, NoHeaderFirst}
use Rattle.day_text.proofs.PieceLemmas.{same_bytes}

no_names : (header : Header) → texts_of_line [] ≡ Some (header_fields header) → ⊥
unfolding next_record strip_bom
no_names Rows e = absurd cc
no_names BankRows e = absurd cc

-- an empty line is no header
pub empty_or_header : (header : Header) (piece : List ℕ) → IsEmptyLine piece → IsHeaderLine header piece → ⊥
empty_or_header header piece none is = no_names header (ap texts_of_line (sym none) ∙ is.names)

-- What is read from one place begins with the lines, and goes on as from the other.
pub begins : (text : TextState) (lines : List Line) (behind : TextState) → AreBetween text lines behind → BeginsWith lines (reading text) (reading behind)
begins text [] behind steps = ap reading steps
begins text (words ∷ lines) behind steps = (steps.0.line, reading steps.0, steps.1.reads, begins steps.0 lines behind steps.2)

-- how many lines with a word are read
abbrev line_count : Reading → ℕ
line_count (line_with line words rest) = suc (line_count rest)
line_count (finished lines) = 0
line_count (bad_line line code) = 0
line_count past_limit = 0

counted : (lines : List Line) (read rest : Reading) → BeginsWith lines read rest → line_count read ≡ length lines + line_count rest
counted [] read rest is = let same = ap line_count is in omega (arith, same)
counted (words ∷ lines) read rest is =
    let later = counted lines is.1 rest is.3 in
    let first : line_count read ≡ suc (line_count is.1) = ap line_count is.2 in
    omega (arith, later, first)

-- between a reading and what is left of it stand these lines and no others
pub same_lines : (xs ys : List Line) (read rest : Reading) → BeginsWith xs read rest → BeginsWith ys read rest → xs ≡ ys
same_lines [] [] read rest a b = refl
same_lines [] (y ∷ ys) read rest a b =
    let none = counted [] read rest a in
    let some = counted (y ∷ ys) read rest b in
    absurd (omega (arith, none, some))
same_lines (x ∷ xs) [] read rest a b =
    let some = counted (x ∷ xs) read rest a in
    let none = counted [] read rest b in
    absurd (omega (arith, none, some))
same_lines (x ∷ xs) (y ∷ ys) read rest a b =
    let both : line_with a.0 x a.1 ≡ line_with b.0 y b.1 = sym a.2 ∙ b.2 in
    let first = same_words a.0 b.0 x y a.1 b.1 both in
    let later = same_rest a.0 b.0 x y a.1 b.1 both in
    ap (λ (line : Line). line ∷ xs) first
    ∙ ap (λ (lines : List Line). y ∷ lines) (same_lines xs ys a.1 rest a.3 (subst (λ (r : Reading). BeginsWith ys r rest) (sym later) b.3))
  where
    same_words : (m n : ℕ) (x y : Line) (r s : Reading) → line_with m x r ≡ line_with n y s → x ≡ y
    same_words m n x y r s e = cc

    same_rest : (m n : ℕ) (x y : Line) (r s : Reading) → line_with m x r ≡ line_with n y s → r ≡ s
    same_rest m n x y r s e = cc

abbrev state : ℕ → ℕ → List ℕ → TextState
state line limit bytes = record { line = line; limit = limit; bytes = bytes }

same_state : (x y : TextState) → x.line ≡ y.line → x.limit ≡ y.limit → x.bytes ≡ y.bytes → x ≡ y
same_state x y line limit bytes =
    ap (λ (n : ℕ). state n x.limit x.bytes) line ∙ ap (λ (n : ℕ). state y.line n x.bytes) limit ∙ ap (λ (xs : List ℕ). state y.line y.limit xs) bytes

next_place : (text : TextState) (words : Line) (x y : TextState) → IsNextLine text words x → IsNextLine text words y → x ≡ y
next_place text words x y a b =
    let line = same_number x.line y.line words words (reading x) (reading y) (sym a.reads ∙ b.reads) in
    let bytes = same_bytes x.bytes y.bytes (a.passed.pieces ∙ ap (λ (n : ℕ). drop (n - text.line) (pieces_of text.bytes)) line ∙ sym b.passed.pieces) in
    let size = ap length bytes in
    same_state x y line (omega (arith, size, a.passed.limit, b.passed.limit)) bytes
  where
    same_number : (m n : ℕ) (x y : Line) (r s : Reading) → line_with m x r ≡ line_with n y s → m ≡ n
    same_number m n x y r s e = cc

pub same_place : (text : TextState) (lines : List Line) (x y : TextState) → AreBetween text lines x → AreBetween text lines y → x ≡ y
same_place text [] x y a b = sym a ∙ b
same_place text (words ∷ lines) x y a b =
    let first = next_place text words a.0 b.0 a.1 b.1 in
    same_place a.0 lines x y a.2 (subst (λ (t : TextState). AreBetween t lines y) (sym first) b.2)

-- behind the first line that is the header there is one place
pub same_rows : (header : Header) (line limit : ℕ) (pieces : List (List ℕ)) (x y : TextState) → HeaderFirst header line limit pieces x
    → HeaderFirst header line limit pieces y → x ≡ y
same_rows header line limit [] x y a b = absurd a
same_rows header line limit (piece ∷ pieces) x y a b = by_kind (same_rows header (line + 1) (limit - length piece) pieces x y) a.1 b.1
  where
    by_kind : (HeaderFirst header (line + 1) (limit - length piece) pieces x → HeaderFirst header (line + 1) (limit - length piece) pieces y → x ≡ y)
        → ((IsEmptyLine piece × HeaderFirst header (line + 1) (limit - length piece) pieces x)
        ⊎ (IsHeaderLine header piece × IsBehindPiece line limit piece pieces x))
        → ((IsEmptyLine piece × HeaderFirst header (line + 1) (limit - length piece) pieces y)
        ⊎ (IsHeaderLine header piece × IsBehindPiece line limit piece pieces y)) → x ≡ y
    by_kind later (inl c) (inl d) = later c.1 d.1
    by_kind later (inl c) (inr d) = absurd (empty_or_header header piece c.0 d.0)
    by_kind later (inr c) (inl d) = absurd (empty_or_header header piece d.0 c.0)
    by_kind later (inr c) (inr d) =
        same_state x y (c.1.line_is ∙ sym d.1.line_is) (c.1.limit_is ∙ sym d.1.limit_is) (same_bytes x.bytes y.bytes (c.1.pieces_are ∙ sym d.1.pieces_are))

-- where the header is first there is no fault
pub no_fault : (header : Header) (line limit : ℕ) (pieces : List (List ℕ)) (x : TextState) (fault : TextFault) → HeaderFirst header line limit pieces x
    → NoHeaderFirst header line limit pieces fault → ⊥
no_fault header line limit [] x fault a b = absurd a
no_fault header line limit (piece ∷ pieces) x fault a b = by_kind (no_fault header (line + 1) (limit - length piece) pieces x fault) a.0 a.1 b
  where
    by_line : (HeaderFirst header (line + 1) (limit - length piece) pieces x → NoHeaderFirst header (line + 1) (limit - length piece) pieces fault → ⊥)
        → ((IsEmptyLine piece × HeaderFirst header (line + 1) (limit - length piece) pieces x)
        ⊎ (IsHeaderLine header piece × IsBehindPiece line limit piece pieces x))
        → ((IsEmptyLine piece × NoHeaderFirst header (line + 1) (limit - length piece) pieces fault)
        ⊎ (IsNoHeader header piece × (fault ≡ Bad (line + 1) NoHeader))) → ⊥
    by_line later (inl c) (inl d) = later c.1 d.1
    by_line later (inl c) (inr d) = d.0.some c.0
    by_line later (inr c) (inl d) = empty_or_header header piece d.0 c.0
    by_line later (inr c) (inr d) = d.0.other c.0

    by_kind : (HeaderFirst header (line + 1) (limit - length piece) pieces x → NoHeaderFirst header (line + 1) (limit - length piece) pieces fault → ⊥)
        → length piece ≤ limit
        → ((IsEmptyLine piece × HeaderFirst header (line + 1) (limit - length piece) pieces x)
        ⊎ (IsHeaderLine header piece × IsBehindPiece line limit piece pieces x)) → NoHeaderFirst header line limit (piece ∷ pieces) fault → ⊥
    by_kind later within c (inl d) = let past = d.0 in absurd (omega (arith, within, past))
    by_kind later within c (inr d) = by_line later c d.1

-- a place behind some lines, from which the same is read as from the place behind these, is that place
pub place_of : (text : TextState) (lines others : List Line) (x y : TextState) → AreBetween text lines x → AreBetween text others y → reading y ≡ reading x
    → y ≡ x
place_of text lines others x y a b same =
    let read = subst (λ (r : Reading). BeginsWith others (reading text) r) same (begins text others y b) in
    let lines_same = same_lines others lines (reading text) (reading x) read (begins text lines x a) in
    same_place text lines y x (subst (λ (ls : List Line). AreBetween text ls y) lines_same b) a
