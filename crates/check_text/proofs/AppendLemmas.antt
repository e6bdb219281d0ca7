-- What is read of a text behind which more lines follow.
use Rattle.std.proofs.Common.{◌≡◌, ℕ, suc, ◌+◌, ◌-◌, Bool, true, false, cond, eqb, List, [], ◌∷◌, ◌++◌, length, get_or, refl, sym, ap, ◌∙◌, subst, arith}
use Rattle.std.specs.Prelude.{nat_lt}
use Rattle.std.specs.List.{onto_first}
use Rattle.std.specs.Io.BufRead.{ends_with_byte}
use Rattle.std.proofs.lemmas.Bool.{and_parts, and_from, false≢true, lt-ltb}
use Rattle.elevator_model.specs.Snapshot.{Snapshot}
use Rattle.lift_text.specs.Lines.{pieces_of, line_of, words_of, is_clean}
use Rattle.lift_text.specs.Reading.{Reading, reading, reading_of, whole_text, line_with, finished, bad_line, past_limit, judged, cut_short, line_limit}
use Rattle.lift_text.proofs.SkipLemmas.{size_of, size_of-pieces}
use Rattle.lift_text.specs.declared.codes.TextCode.TheVariants.{OverLong, ForbiddenByte}
use Rattle.text_sections.specs.Sections.{Line}
use Rattle.text_sections.specs.Canonical.{BeginsWith}
use Rattle.case_text.specs.CaseTexts.{CaseInFront}
use Rattle.check_text.specs.Laws.{AppendLaw}

-- ---- readings one behind the other

-- what is read, and this in place of the end
abbrev pub followed : Reading → Reading → Reading
followed (line_with line words after) more = line_with line words (followed after more)
followed (finished lines) more = more
followed (bad_line line code) more = bad_line line code
followed past_limit more = past_limit

judged_followed : (line : ℕ) (text : List ℕ) (after more : Reading) → followed (judged line text after) more ≡ judged line text (followed after more)
judged_followed line text after more = by_tests (nat_lt line_limit (length text)) (is_clean text) (nat_lt 0 (length (words_of text)))
  where
    by_tests : (long clean some : Bool)
        → followed (cond long (bad_line line OverLong) (cond clean (cond some (line_with line (words_of text) after) after) (bad_line line ForbiddenByte))) more
        ≡ cond long (bad_line line OverLong)
        (cond clean (cond some (line_with line (words_of text) (followed after more)) (followed after more)) (bad_line line ForbiddenByte))
    by_tests true clean some = refl
    by_tests false false some = refl
    by_tests false true true = refl
    by_tests false true false = refl

cut_followed : (line limit : ℕ) (more : Reading) → followed (cut_short line limit) more ≡ cut_short line limit
cut_followed line limit more = by_test (nat_lt (line_limit + 1) limit)
  where
    by_test : (long : Bool) → followed (cond long (bad_line line OverLong) past_limit) more ≡ cond long (bad_line line OverLong) past_limit
    by_test true = refl
    by_test false = refl

one_followed : (past : Bool) (line limit : ℕ) (text : List ℕ) (after more : Reading)
    → followed (cond past (cut_short line limit) (judged line text after)) more ≡ cond past (cut_short line limit) (judged line text (followed after more))
one_followed true line limit text after more = cut_followed line limit more
one_followed false line limit text after more = judged_followed line text after more

pieces_followed : (line limit : ℕ) (pieces later : List (List ℕ))
    → reading_of line limit (pieces ++ later) ≡ followed (reading_of line limit pieces) (reading_of (line + length pieces) (limit - size_of pieces) later)
pieces_followed line limit [] later =
    let number : line ≡ line + 0 = omega arith in
    let left : limit ≡ limit - 0 = omega arith in
    ap (λ (n : ℕ). reading_of n limit later) number ∙ ap (λ (l : ℕ). reading_of (line + 0) l later) left
pieces_followed line limit (piece ∷ pieces) later =
    let more = reading_of ((line + 1) + length pieces) ((limit - length piece) - size_of pieces) later in
    let number : (line + 1) + length pieces ≡ line + suc (length pieces) = omega arith in
    let left : (limit - length piece) - size_of pieces ≡ limit - (length piece + size_of pieces) = omega arith in
    ap (λ (after : Reading). cond (nat_lt limit (length piece)) (cut_short (line + 1) limit) (judged (line + 1) (line_of piece) after))
    (pieces_followed (line + 1) (limit - length piece) pieces later)
    ∙ sym (one_followed (nat_lt limit (length piece)) (line + 1) limit (line_of piece) (reading_of (line + 1) (limit - length piece) pieces) more)
    ∙ ap (λ (n : ℕ). followed (reading_of line limit (piece ∷ pieces)) (reading_of n ((limit - length piece) - size_of pieces) later)) number
    ∙ ap (λ (l : ℕ). followed (reading_of line limit (piece ∷ pieces)) (reading_of (line + suc (length pieces)) l later)) left

-- ---- lines of two texts

some_piece : (b : ℕ) (bytes : List ℕ) → (piece : List ℕ) × (pieces : List (List ℕ)) × (pieces_of (b ∷ bytes) ≡ piece ∷ pieces)
some_piece b bytes = by_end (eqb b 10) (pieces_of bytes)
  where
    by_end : (ends : Bool) (later : List (List ℕ)) → (piece : List ℕ) × (pieces : List (List ℕ))
        × (cond ends ((b ∷ []) ∷ later) (onto_first b later) ≡ piece ∷ pieces)
    by_end true later = (b ∷ [], later, refl)
    by_end false [] = (b ∷ [], [], refl)
    by_end false (piece ∷ pieces) = (b ∷ piece, pieces, refl)

onto_more : (ends : Bool) (b : ℕ) (all later : List (List ℕ)) (piece : List ℕ) (pieces : List (List ℕ)) → all ≡ piece ∷ pieces
    → cond ends ((b ∷ []) ∷ (all ++ later)) (onto_first b (all ++ later)) ≡ cond ends ((b ∷ []) ∷ all) (onto_first b all) ++ later
onto_more true b all later piece pieces same = refl
onto_more false b all later piece pieces same =
    ap (λ (xs : List (List ℕ)). onto_first b (xs ++ later)) same ∙ sym (ap (λ (xs : List (List ℕ)). onto_first b xs ++ later) same)

last_same : (b x : ℕ) (bytes : List ℕ) → ends_with_byte 10 (b ∷ x ∷ bytes) ≡ true → ends_with_byte 10 (x ∷ bytes) ≡ true
last_same b x bytes ends =
    let all = b ∷ x ∷ bytes in
    let parts = and_parts (nat_lt 0 (length all)) (eqb (get_or all (length all - 1) 0) 10) ends in
    let place : suc (length (x ∷ bytes) - 1) ≡ length all - 1 = omega arith in
    and_from (nat_lt 0 (length (x ∷ bytes))) (eqb (get_or (x ∷ bytes) (length (x ∷ bytes) - 1) 0) 10) (lt-ltb 0 (length (x ∷ bytes)) (omega arith))
    (ap (λ (k : ℕ). eqb (get_or all k 0) 10) place ∙ parts.1)

lines_behind : (bytes tail : List ℕ) → ends_with_byte 10 bytes ≡ true → pieces_of (bytes ++ tail) ≡ pieces_of bytes ++ pieces_of tail
lines_behind [] tail ends = absurd (false≢true ends)
lines_behind (b ∷ []) tail ends =
    ap (λ (is : Bool). cond is ((b ∷ []) ∷ pieces_of tail) (onto_first b (pieces_of tail))) ends
    ∙ sym (ap (λ (is : Bool). cond is ((b ∷ []) ∷ []) ((b ∷ []) ∷ []) ++ pieces_of tail) ends)
lines_behind (b ∷ x ∷ bytes) tail ends =
    let some = some_piece x bytes in
    ap (λ (later : List (List ℕ)). cond (eqb b 10) ((b ∷ []) ∷ later) (onto_first b later)) (lines_behind (x ∷ bytes) tail (last_same b x bytes ends))
    ∙ onto_more (eqb b 10) b (pieces_of (x ∷ bytes)) (pieces_of tail) some.0 some.1 some.2

-- ---- a case, and more behind it

begins_followed : (lines : List Line) (read rest more : Reading) → BeginsWith lines read rest → BeginsWith lines (followed read more) (followed rest more)
begins_followed [] read rest more begins = ap (λ (r : Reading). followed r more) begins
begins_followed (words ∷ lines) read rest more begins =
    (begins.0, followed begins.1 more, ap (λ (r : Reading). followed r more) begins.2, begins_followed lines begins.1 rest more begins.3)

case_followed : (read rest more : Reading) (s : Snapshot) → CaseInFront read s rest → CaseInFront (followed read more) s (followed rest more)
case_followed read rest more s case = record {
  between = followed case.between more;
  building = (case.building.0, begins_followed case.building.0 read case.between more case.building.1, case.building.2);
  snapshot = (case.snapshot.0, begins_followed case.snapshot.0 case.between rest more case.snapshot.1, case.snapshot.2);
}

pub append_holds : AppendLaw
append_holds input s tail text ends =
    let more = reading_of (0 + length (pieces_of input)) (67108864 - size_of (pieces_of input)) (pieces_of tail) in
    let whole : reading (whole_text (input ++ tail)) ≡ followed (reading (whole_text input)) more = ap (reading_of 0 67108864) (lines_behind input tail ends)
    ∙ pieces_followed 0 67108864 (pieces_of input) (pieces_of tail) in
    let left = ap (λ (size : ℕ). reading_of (0 + length (pieces_of input)) (67108864 - size) (pieces_of tail)) (size_of-pieces input) in
    let case = case_followed (reading (whole_text input)) (finished text.0) more s text.1 in (
      0 + length (pieces_of input),
      subst (λ (rest : Reading). CaseInFront (reading (whole_text (input ++ tail))) s rest) left
          (subst (λ (read : Reading). CaseInFront read s more) (sym whole) case),
    )
