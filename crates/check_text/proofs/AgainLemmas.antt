-- The texts of a case, an answer and a certificate, one behind the other, and a comment line behind them.
use Rattle.std.proofs.Common.{◌≡◌, ◌≢◌, ℕ, zero, suc, ◌+◌, ◌-◌, ◌<◌, ◌≤◌, Bool, true, false, cond, List, [], ◌∷◌, ◌++◌, length, take, get_or, refl, sym, ap}
use Rattle.std.proofs.Common.{◌∙◌, subst, arith, append_assoc, length-append}
use Rattle.std.specs.Prelude.{nat_lt}
use Rattle.std.specs.Io.BufRead.{ends_with_byte, strip_last}
use Rattle.std.proofs.lemmas.Bool.{ltb-true, false_from_ne_true}
use Rattle.std.proofs.lemmas.List.{take_at, length-take-le}
use Rattle.elevator_model.specs.Snapshot.{Snapshot, IsAccepted}
use Rattle.search_model.specs.declared.Twig.{Twig}
use Rattle.lift_text.specs.Lines.{pieces_of, line_of}
use Rattle.lift_text.specs.Front.{NoLineFeed}
use Rattle.lift_text.specs.Reading.{TextState, Reading, reading, reading_of, whole_text, finished, bad_line, cut_short, judged, line_limit}
use Rattle.lift_text.proofs.PieceLemmas.{pieces_of-append, ends_with_byte-push}
use Rattle.lift_text.specs.declared.codes.TextCode.TheVariants.{OverLong}
use Rattle.text_sections.specs.Canonical.{BeginsWith}
use Rattle.text_sections.proofs.CanonicalLemmas.{lines_again}
use Rattle.answer_text.specs.Texts.{answer_lines, answer_text}
use Rattle.answer_text.specs.Written.{behind as behind_answer}
use Rattle.answer_text.proofs.WrittenLemmas.{text_stands as answer_stands, text_begins as answer_begins}
use Rattle.cert_text.specs.Texts.{cert_lines, cert_text}
use Rattle.cert_text.specs.Written.{HasText as HasTreeText, behind as behind_tree}
use Rattle.cert_text.proofs.WrittenLemmas.{text_stands as tree_stands, text_lines as tree_lines}
use Rattle.case_text.specs.CaseTexts.{CaseInFront}
use Rattle.check_text.specs.Laws.{IsClosing, AgainLaw}
use Rattle.check_text.proofs.AppendLemmas.{append_holds}

-- ---- a comment line

strip_pushed : (b : ℕ) (xs : List ℕ) → strip_last b (xs ++ b ∷ []) ≡ xs
strip_pushed b xs =
    let all = xs ++ b ∷ [] in
    let place : length all - 1 ≡ length xs = omega (arith, length-append xs (b ∷ [])) in
    ap (λ (ends : Bool). cond ends (take (length all - 1) all) all) (ends_with_byte-push b xs) ∙ ap (λ (n : ℕ). take n all) place
    ∙ take_at xs (b ∷ []) (length xs) refl

-- without its end the line still begins with its first byte
record Begins (b : ℕ) (text line : List ℕ) : Type 0 where
  rest : List ℕ
  line_is : line ≡ b ∷ rest
  short : length rest ≤ length text

hashed : (text : List ℕ) → Begins 35 text (strip_last 13 (35 ∷ text))
hashed [] = record { rest = []; line_is = refl; short = omega arith }
hashed (b ∷ bytes) = by_end (ends_with_byte 13 (35 ∷ b ∷ bytes))
  where
    by_end : (ends : Bool) → Begins 35 (b ∷ bytes) (cond ends (take (length (35 ∷ b ∷ bytes) - 1) (35 ∷ b ∷ bytes)) (35 ∷ b ∷ bytes))
    by_end false = record { rest = b ∷ bytes; line_is = refl; short = omega arith }
    by_end true =
        let place : length (35 ∷ b ∷ bytes) - 1 ≡ suc (length bytes) = omega arith in
        let size = length-take-le (length bytes) (b ∷ bytes) (omega arith) in
        record { rest = take (length bytes) (b ∷ bytes); line_is = ap (λ (n : ℕ). take n (35 ∷ b ∷ bytes)) place; short = omega (arith, size) }

comment_judged : (number : ℕ) (text line : List ℕ) (after : Reading) → length text ≤ 100 → Begins 35 text line → judged number line after ≡ after
comment_judged number text line after few begins =
    ap (λ (l : List ℕ). judged number l after) begins.line_is
    ∙ ap (λ (long : Bool). cond long (bad_line number OverLong) after)
    (false_from_ne_true (nat_lt line_limit (length (35 ∷ begins.rest)))
    (λ is. (let long = ltb-true line_limit (length (35 ∷ begins.rest)) is in omega (arith, long, few, begins.short))))

closing_read : (closing : List ℕ) → IsClosing closing → (line limit : ℕ) → 102 ≤ limit
    → reading (record { line = line; limit = limit; bytes = closing }) ≡ finished (line + 1)
closing_read closing is line limit room =
    let front = 35 ∷ is.text in
    let piece = front ++ 10 ∷ [] in
    let pieces : pieces_of closing ≡ piece ∷ [] = ap pieces_of is.closing_is ∙ pieces_of-append front [] (no_feed is.text is.no_line) in
    let size = length-append front (10 ∷ []) in
    let fits = false_from_ne_true (nat_lt limit (length piece))
    (λ past. (let long = ltb-true limit (length piece) past in omega (arith, long, size, is.short, room))) in
    let content : line_of piece ≡ strip_last 13 front =
    ap (λ (ends : Bool). cond ends (strip_last 13 (strip_last 10 piece)) piece) (ends_with_byte-push 10 front)
    ∙ ap (strip_last 13) (strip_pushed 10 front) in
    ap (reading_of line limit) pieces
    ∙ ap (λ (past : Bool). cond past (cut_short (line + 1) limit) (judged (line + 1) (line_of piece) (finished (line + 1)))) fits
    ∙ ap (λ (l : List ℕ). judged (line + 1) l (finished (line + 1))) content
    ∙ comment_judged (line + 1) is.text (strip_last 13 front) (finished (line + 1)) is.short (hashed is.text)
  where
    no_feed : (text : List ℕ) → ((k d : ℕ) → k < length text → get_or text k d ≢ 10) → NoLineFeed (35 ∷ text)
    no_feed text none zero below = λ same. omega (arith, same)
    no_feed text none (suc k) below = none k 0 (omega arith)

-- ---- the whole

tree_begins : (s : Snapshot) (tree : List Twig) → IsAccepted s → HasTreeText s tree → (before : TextState) (tail : List ℕ)
    → before.bytes ≡ cert_text s tree ++ tail → length (cert_text s tree) ≤ before.limit
    → BeginsWith (cert_lines s tree) (reading before) (reading (behind_tree before s tree tail))
unfolding cert_text
tree_begins s tree accepted text before tail same room =
    subst (λ (bytes : List ℕ).
    BeginsWith (cert_lines s tree) (reading (record { line = before.line; limit = before.limit; bytes = bytes }))
    (reading (behind_tree before s tree tail))) (sym same)
    (lines_again (cert_lines s tree) before.line before.limit tail (tree_lines s accepted tree text) room)

pub again_holds : AgainLaw
again_holds input s stated tree closing case ends short answer certificate answer_short tree_short is_closing =
    let accepted = case.1.snapshot.2.accepted in
    let later = cert_text s tree ++ closing in
    let whole : List ℕ = input ++ answer_text s stated ++ cert_text s tree ++ closing in
    let joined : whole ≡ input ++ (answer_text s stated ++ later) = append_assoc (input ++ answer_text s stated) (cert_text s tree) closing
    ∙ append_assoc input (answer_text s stated) later in
    let front = append_holds input s (answer_text s stated ++ later) case ends in
    let first : TextState = record { line = front.0; limit = 67108864 - length input; bytes = answer_text s stated ++ later } in
    let second = behind_answer first s stated later in
    let third = behind_tree second s tree closing in
    let end = closing_read closing is_closing third.line third.limit (omega (arith, short, answer_short, tree_short)) in
    let said = answer_begins s accepted stated answer first later refl (omega (arith, short, answer_short)) in
    let proved = tree_begins s tree accepted certificate second closing refl (omega (arith, short, answer_short, tree_short)) in (
      third.line + 1,
      record {
        behind_case = reading first;
        behind_answer = reading second;
        case = subst (λ (bytes : List ℕ). CaseInFront (reading (whole_text bytes)) s (reading first)) (sym joined) front.1;
        answer = (answer_lines s stated, said, answer_stands s accepted stated answer);
        certificate = (
          cert_lines s tree,
          subst (λ (r : Reading). BeginsWith (cert_lines s tree) (reading second) r) end proved,
          tree_stands s accepted tree certificate,
        );
      },
    )
