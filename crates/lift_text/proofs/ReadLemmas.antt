-- What one line turns out to be.
use Rattle.std.proofs.Common.{◌≡◌, ℕ, ◌+◌, ◌-◌, ◌<◌, ◌≤◌, Bool, true, false, cond, List, [], ◌∷◌, Option, None, Some, Result, Ok, Err, OnErr, length}
use Rattle.std.proofs.Common.{length-take, take, arith, ap, sym, ◌∙◌, refl}
use Rattle.std.specs.Prelude.{nat_lt}
use Rattle.std.proofs.lemmas.Bool.Decides.{nat_tests}
use Rattle.std.proofs.lemmas.Bool.{false≢true}
use Rattle.std.proofs.lemmas.List.{length-take-le}
use Rattle.lift_text.specs.Lines.{pieces_of, line_of, words_of, is_clean}
use Rattle.lift_text.specs.Judge.{Judged}
use Rattle.lift_text.specs.Reading.{TextState, Reading, reading, reading_of, judged, cut_short, line_with, bad_line, IsBlankLine, NextRaw}
use Rattle.lift_text.specs.declared.faults.RawLine.TheVariants.{Line as RawLine, Long as RawLong}
use Rattle.lift_text.specs.Page.{IsLine, Advanced, JudgedAs, ReadLine, step_of}
use Rattle.lift_text.specs.declared.judge.Flaw.{Flaw}
use Rattle.lift_text.specs.declared.page.Step.{Step}
use Rattle.lift_text.specs.declared.page.Step.TheVariants.{WithWords, Blank, AtEnd}
use Rattle.lift_text.specs.declared.faults.TextFault.{TextFault}
use Rattle.lift_text.specs.declared.faults.TextFault.TheVariants.{Read, TooLong, Bad, NoMemory}
use Rattle.lift_text.specs.declared.window.Front.TheVariants.{Line}
use Rattle.lift_text.proofs.PageLemmas.{state}
use Rattle.lift_text.specs.declared.judge.Flaw.TheVariants.{OverLong as IsOverLong, ForbiddenByte as HasForbiddenByte}
use Rattle.lift_text.specs.declared.codes.TextCode.TheVariants.{ForbiddenByte, OverLong}

not_below : (m n : ℕ) → n ≤ m → nat_lt m n ≡ false
not_below m n le = grind (arith, nat_tests)

below : (m n : ℕ) → m < n → nat_lt m n ≡ true
below m n lt = grind (arith, nat_tests)

-- a line that is not over long
judged_short : (line : ℕ) (text : List ℕ) (after : Reading) → length text ≤ 4096
    → judged line text after
    ≡ cond (is_clean text) (cond (nat_lt 0 (length (words_of text))) (line_with line (words_of text) after) after) (bad_line line ForbiddenByte)
judged_short line text after short =
    ap (λ b. cond b (bad_line line OverLong)
    (cond (is_clean text) (cond (nat_lt 0 (length (words_of text))) (line_with line (words_of text) after) after) (bad_line line ForbiddenByte)))
    (not_below 4096 (length text) short)

judged_clean : (line : ℕ) (text : List ℕ) (after : Reading) (some : Bool) → length text ≤ 4096 → is_clean text ≡ true → some ≡ nat_lt 0 (length (words_of text))
    → judged line text after ≡ cond some (line_with line (words_of text) after) after
judged_clean line text after some short clean words =
    judged_short line text after short
    ∙ ap (λ b. cond b (cond (nat_lt 0 (length (words_of text))) (line_with line (words_of text) after) after) (bad_line line ForbiddenByte)) clean
    ∙ ap (λ b. cond b (line_with line (words_of text) after) after) (sym words)

pub judged_words : (line : ℕ) (text : List ℕ) (words : List (List ℕ)) → Judged text (Ok true) words → (after : Reading)
    → judged line text after ≡ line_with line words after
judged_words line text words h after = judged_clean line text after true h.0 h.1 h.3 ∙ ap (λ w. line_with line w after) (sym h.2)

no_words : (words : List (List ℕ)) → false ≡ nat_lt 0 (length words) → words ≡ []
no_words [] none = refl
no_words (word ∷ words) none = absurd (false≢true (none ∙ below 0 (length (word ∷ words)) (omega arith)))

pub judged_blank : (line : ℕ) (text : List ℕ) (words : List (List ℕ)) → Judged text (Ok false) words → ((after : Reading) → judged line text after ≡ after)
    × (words ≡ []) × IsBlankLine text
judged_blank line text words h =
    let none = no_words (words_of text) h.3 in
    ((λ after. judged_clean line text after false h.0 h.1 h.3), h.2 ∙ none, record { short = h.0; clean = h.1; wordless = none })

pub judged_long : (line : ℕ) (text : List ℕ) → 4096 < length text → (after : Reading) → judged line text after ≡ bad_line line OverLong
judged_long line text long after =
    ap (λ b. cond b (bad_line line OverLong)
    (cond (is_clean text) (cond (nat_lt 0 (length (words_of text))) (line_with line (words_of text) after) after) (bad_line line ForbiddenByte)))
    (below 4096 (length text) long)

pub judged_forbidden : (line : ℕ) (text : List ℕ) → length text ≤ 4096 → is_clean text ≡ false → (after : Reading)
    → judged line text after ≡ bad_line line ForbiddenByte
judged_forbidden line text short dirty after =
    judged_short line text after short
    ∙ ap (λ b. cond b (cond (nat_lt 0 (length (words_of text))) (line_with line (words_of text) after) after) (bad_line line ForbiddenByte)) dirty

-- what a judgement of the current line says
pub judged_as : (line : ℕ) (text : List ℕ) (judgement : Result Bool Flaw) (words : List (List ℕ)) → Judged text judgement words → OnErr judgement (words ≡ [])
    → JudgedAs line text (step_of line judgement) words
judged_as line text (Ok true) words h none = judged_words line text words h
judged_as line text (Ok false) words h none = judged_blank line text words h
judged_as line text (Err IsOverLong) words h none = (judged_long line text h, none)
judged_as line text (Err HasForbiddenByte) words h none = (judged_forbidden line text h.0 h.1, none)

pub on_err_more : {A B : Type 0} (r : Result A B) (P Q : Type 0) → OnErr r P → (P → Q) → OnErr r Q
on_err_more (Ok value) P Q h more = tt
on_err_more (Err error) P Q h more = more h

-- reading on over one piece
pub reading_of-piece : (before after : TextState) (piece : List ℕ) (line : ℕ) → IsLine before after piece line
    → reading before ≡ judged after.line (take line piece) (reading after)
reading_of-piece before after piece line is =
    let left : before.limit - length piece ≡ after.limit = omega (arith, is.limit) in
    ap (reading_of before.line before.limit) is.pieces
    ∙ ap (λ b. cond b (cut_short (before.line + 1) before.limit)
    (judged (before.line + 1) (line_of piece) (reading_of (before.line + 1) (before.limit - length piece) (pieces_of after.bytes))))
    (not_below before.limit (length piece) is.within)
    ∙ ap (λ n. judged n (line_of piece) (reading_of n (before.limit - length piece) (pieces_of after.bytes))) (sym is.number)
    ∙ ap (λ l. judged after.line (line_of piece) (reading_of after.line l (pieces_of after.bytes))) left
    ∙ ap (λ t. judged after.line t (reading after)) is.content

read_one : (before after : TextState) (piece : List ℕ) (line : ℕ) (answer : Result Step TextFault) (words : List (List ℕ)) → IsLine before after piece line
    → JudgedAs after.line (take line piece) answer words → ReadLine (Some before) answer words (Some after)
read_one before after piece line (Ok WithWords) words is judgement = (reading_of-piece before after piece line is ∙ judgement (reading after), is.passed)
read_one before after piece line (Ok Blank) words is judgement = (reading_of-piece before after piece line is ∙ judgement.0 (reading after), is.passed)
read_one before after piece line (Ok AtEnd) words is judgement = absurd judgement
read_one before after piece line (Err (Bad n code)) words is judgement = reading_of-piece before after piece line is ∙ judgement.0 (reading after)
read_one before after piece line (Err TooLong) words is judgement = absurd judgement
read_one before after piece line (Err Read) words is judgement = absurd judgement
read_one before after piece line (Err NoMemory) words is judgement = absurd judgement

-- what is read of a line that was found
pub read_found : (before : Option TextState) (number limit : ℕ) (known : Option (List ℕ)) (piece : List ℕ) (line size : ℕ) (answer : Result Step TextFault)
    (words : List (List ℕ))
    → Advanced (Line line size) before piece (state number limit known) → JudgedAs number (take line piece) answer words
    → ReadLine before answer words (state number limit known)
read_found None number limit known piece line size answer words found judgement = tt
read_found (Some before) number limit None piece line size answer words found judgement = absurd found
read_found (Some before) number limit (Some bytes) piece line size answer words found judgement =
    read_one before (record { line = number; limit = limit; bytes = bytes }) piece line answer words found judgement

-- a line as it stands, and an over-long one
pub raw_line_found : (before after : Option TextState) (current : List ℕ) (line size : ℕ) → line ≤ 4096 → Advanced (Line line size) before current after
    → NextRaw before (Ok RawLine) (take line current) after
raw_line_found None after current line size short found = tt
raw_line_found (Some text) None current line size short found = absurd found
raw_line_found (Some text) (Some rest) current line size short found =
    (current, found.pieces, found.within, found.content, omega (arith, length-take line current), found.number, found.passed)

pub raw_long_found : (before after : Option TextState) (current raw : List ℕ) (line size : ℕ) → line ≤ length current → 4096 < line
    → Advanced (Line line size) before current after
    → NextRaw before (Ok RawLong) raw after
raw_long_found None after current raw line size inside long found = tt
raw_long_found (Some text) None current raw line size inside long found = absurd found
raw_long_found (Some text) (Some rest) current raw line size inside long found =
    (current, found.pieces, found.within, omega (arith, ap length found.content, length-take-le line current inside), found.number, found.passed)
