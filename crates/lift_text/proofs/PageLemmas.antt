-- Going on to the next line of a text.
use Rattle.std.proofs.Common.{◌≡◌, ◌≢◌, ℕ, ◌+◌, ◌-◌, ◌<◌, ◌≤◌, List, [], ◌∷◌, ◌++◌, Option, None, Some, Ok, length, take, drop, arith, ap, sym, ◌∙◌, refl}
use Rattle.std.proofs.Common.{subst, append_assoc, append-nil, length-append, length-drop, IfSome}
use Rattle.std.specs.Prelude.{option_map}
use Rattle.std.specs.Io.KnownBytes.{prepend_known, IsAtEnd}
use Rattle.std.proofs.lemmas.List.{take-append-le, drop-append-le, take-take, length-take-le}
use Rattle.lift_text.specs.Lines.{pieces_of, line_of}
use Rattle.lift_text.specs.Front.{BeginsWithLine, NoLineFeed, FoundIn, FoundWhole}
use Rattle.lift_text.specs.Reading.{TextState}
use Rattle.lift_text.specs.Page.{PageState, IsLine, Advanced, FirstPiece, Forward, CurrentOne}
use Rattle.lift_text.specs.Words.{parts_of}
use Rattle.lift_text.specs.declared.words.Span.{Span}
use Rattle.lift_text.specs.declared.window.Front.{Front}
use Rattle.lift_text.specs.declared.window.Front.TheVariants.{Line, Long, Cut, End}
use Rattle.lift_text.proofs.PieceLemmas.{pieces_of-last, pieces_of-front, length-line_of, line_of-last}

-- the state of a text of which this is known
abbrev pub state : ℕ → ℕ → Option (List ℕ) → Option TextState
state line limit known = option_map (λ bytes. record { line = line; limit = limit; bytes = bytes }) known

is_line : (number limit limit' : ℕ) (unread rest : List ℕ) (line size : ℕ) → line ≤ size → size ≤ length unread → size ≤ limit → limit' + size ≡ limit
    → BeginsWithLine (unread ++ rest) line size
    → IsLine (record { line = number; limit = limit; bytes = unread ++ rest }) (record { line = number + 1; limit = limit'; bytes = drop size unread ++ rest })
    (take size unread) line
is_line number limit limit' unread rest line size ordered inside fits used begins =
    let front = take-append-le size unread rest inside in
    let back = drop-append-le size unread rest inside in
    let whole = length-take-le size unread inside in
    let pieces = begins.pieces ∙ ap (λ p. p ∷ pieces_of (drop size (unread ++ rest))) front ∙ ap (λ t. take size unread ∷ pieces_of t) back in
    let one : number + 1 - number ≡ 1 = omega arith in
    record {
      pieces = pieces;
      content = ap line_of (sym front) ∙ begins.content ∙ take-append-le line unread rest (omega arith) ∙ sym (take-take line size unread ordered);
      within = omega arith;
      limit = omega arith;
      number = refl;
      passed = record {
        lines = omega arith;
        pieces = sym (ap (λ n. drop n (pieces_of (unread ++ rest))) one ∙ ap (drop 1) pieces);
        limit = omega (arith, length-append unread rest, length-append (drop size unread) rest, length-drop size unread);
      };
    }

pub advanced_line : (number quota quota' : ℕ) (start unread : List ℕ) (left left' : Option (List ℕ)) (line size : ℕ)
    → FoundIn (Line line size) (prepend_known start left) unread left' quota' → quota' + length unread ≡ quota + length start
    → Advanced (Line line size) (state number (quota + length start) (prepend_known start left)) (take size unread)
    (state (number + 1) (quota' + length (drop size unread)) (prepend_known (drop size unread) left'))
advanced_line number quota quota' start unread left None line size found used =
    subst (λ known. Advanced (Line line size) (state number (quota + length start) known) (take size unread) None) (sym found.0) tt
advanced_line number quota quota' start unread left (Some rest) line size found used =
    let begins = subst (λ known. IfSome known (λ bytes. BeginsWithLine bytes line size)) found.0 found.4 in
    subst (λ known. Advanced (Line line size) (state number (quota + length start) known) (take size unread)
    (state (number + 1) (quota' + length (drop size unread)) (Some (drop size unread ++ rest)))) (sym found.0)
    (is_line number (quota + length start) (quota' + length (drop size unread)) unread rest line size found.1 found.3 (omega (arith, found.3))
    (omega (arith, found.3, length-drop size unread)) begins)

first_long : (unread rest : List ℕ) → 4097 < length unread → NoLineFeed unread → (piece : List ℕ) × (pieces : List (List ℕ))
    × (pieces_of (unread ++ rest) ≡ piece ∷ pieces) × (4096 < length (line_of piece))
first_long [] rest long none = absurd (omega arith)
first_long (x ∷ unread) [] long none = (
  x ∷ unread,
  [],
  ap pieces_of (append-nil (x ∷ unread)) ∙ pieces_of-last x unread none,
  subst (λ n. 4096 < n) (sym (ap length (line_of-last (x ∷ unread) none))) (omega arith),
)
first_long (x ∷ unread) (b ∷ rest) long none =
    let front = x ∷ unread in
    let first = pieces_of-front front b rest none in
    (front ++ b ∷ first.0, first.1, first.2, omega (arith, length-line_of (front ++ b ∷ first.0), length-append front (b ∷ first.0)))

advanced_long : (number limit limit' : ℕ) (known left : Option (List ℕ)) (unread : List ℕ) (quota : ℕ) → FoundIn Long known unread left quota
    → length unread ≤ limit → limit' ≡ limit
    → (current : List ℕ) → Advanced Long (state number limit known) current (state number limit' (prepend_known unread left))
advanced_long number limit limit' known None unread quota found within same current = (
  subst (λ k. IfSome (state number limit k) (λ text. FirstPiece text (λ piece. (4097 < text.limit) × (4096 < length (line_of piece))))) (sym found.0) tt,
  ap (λ n. state number n (prepend_known unread None)) same ∙ ap (state number limit) (sym found.0),
)
advanced_long number limit limit' known (Some rest) unread quota found within same current =
    let first = first_long unread rest found.1 found.2 in (
      subst (λ k. IfSome (state number limit k) (λ text. FirstPiece text (λ piece. (4097 < text.limit) × (4096 < length (line_of piece))))) (sym found.0)
          (first.0, first.1, first.2, (omega (arith, found.1), first.3)),
      ap (λ n. state number n (prepend_known unread (Some rest))) same ∙ ap (state number limit) (sym found.0),
    )

advanced_cut : (number limit : ℕ) (known left : Option (List ℕ)) (unread : List ℕ) (quota : ℕ) → FoundIn Cut known unread left quota
    → limit ≡ quota + length unread
    → (current : List ℕ) (after : Option TextState) → Advanced Cut (state number limit known) current after
advanced_cut number limit known None unread quota found whole current after =
    subst (λ k. Advanced Cut (state number limit k) current after) (sym found.0.1) tt
advanced_cut number limit known (Some rest) unread quota found whole current after =
    let b = found.0.0 in
    let first = pieces_of-front unread b rest found.3 in
    let piece = unread ++ b ∷ first.0 in
    subst (λ k. Advanced Cut (state number limit k) current after) (sym found.0.1) (
      piece,
      first.1,
      ap pieces_of (append_assoc unread (b ∷ []) rest) ∙ first.2,
      (omega (arith, found.1, found.2), omega (arith, found.1, length-append unread (b ∷ first.0))),
    )

advanced_end : (number limit limit' : ℕ) (known left : Option (List ℕ)) (unread : List ℕ) (quota : ℕ) → FoundIn End known unread left quota → limit' ≡ limit
    → (current : List ℕ) → Advanced End (state number limit known) current (state number limit' (prepend_known unread left))
advanced_end number limit limit' known None unread quota found same current = (
  subst (λ k. IfSome (state number limit k) (λ text. text.bytes ≡ [])) (sym found.0) tt,
  ap (λ n. state number n (prepend_known unread None)) same ∙ ap (state number limit) (sym found.0),
)
advanced_end number limit limit' known (Some rest) unread quota found same current = (
  subst (λ k. IfSome (state number limit k) (λ text. text.bytes ≡ [])) (sym found.0) (ap (λ u. u ++ rest) found.1 ∙ found.2),
  ap (λ n. state number n (prepend_known unread (Some rest))) same ∙ ap (state number limit) (sym found.0),
)

-- where no line was found
pub advanced_other : (found : Front) (number quota quota' : ℕ) (start unread : List ℕ) (left left' : Option (List ℕ))
    → ((line size : ℕ) → found ≢ Line line size)
    → FoundIn found (prepend_known start left) unread left' quota' → quota' + length unread ≡ quota + length start
    → (current : List ℕ)
    → Advanced found (state number (quota + length start) (prepend_known start left)) current
    (state number (quota' + length unread) (prepend_known unread left'))
advanced_other (Line line size) number quota quota' start unread left left' other found used current = absurd (other line size refl)
advanced_other Long number quota quota' start unread left left' other found used current =
    advanced_long number (quota + length start) (quota' + length unread) (prepend_known start left) left' unread quota' found (omega arith) used current
advanced_other Cut number quota quota' start unread left left' other found used current =
    advanced_cut number (quota + length start) (prepend_known start left) left' unread quota' found (omega arith) current
    (state number (quota' + length unread) (prepend_known unread left'))
advanced_other End number quota quota' start unread left left' other found used current =
    advanced_end number (quota + length start) (quota' + length unread) (prepend_known start left) left' unread quota' found used current

pub empty_front : (n : ℕ) (xs : List ℕ) → n ≤ length xs → take n xs ≡ [] → n ≡ 0
empty_front n xs inside empty = omega (arith, length-take-le n xs inside, ap length empty)

pub no_parts : (bytes : List ℕ) (spans : List Span) → parts_of bytes spans ≡ [] → spans ≡ []
no_parts bytes [] none = refl
no_parts bytes (span ∷ spans) none = cc

-- the state before, where nothing of the window is left behind
pub nothing_behind : (found : Front) (number quota size : ℕ) (unread : List ℕ) (left : Option (List ℕ)) (current : List ℕ) (after : Option TextState) → size ≡ 0
    → Advanced found (state number (quota + length unread) (prepend_known unread left)) current after
    → Advanced found (state number (quota + length (drop size unread)) (prepend_known (drop size unread) left)) current after
nothing_behind found number quota size unread left current after zero known =
    subst (λ n. Advanced found (state number (quota + length (drop n unread)) (prepend_known (drop n unread) left)) current after) (sym zero) known

pub forward_other : (found : Front) (old new : PageState) (known left : Option (List ℕ)) (quota : ℕ) → ((line size : ℕ) → found ≢ Line line size)
    → new.line ≡ old.line → new.current ≡ []
    → FoundIn found known new.unread left quota → Forward found old new
forward_other (Line line size) old new known left quota other same current found = absurd (other line size refl)
forward_other Long old new known left quota other same current found = (same, current, found.1)
forward_other Cut old new known left quota other same current found = same
forward_other End old new known left quota other same current found = same

pub at_end : (found : Front) (known left : Option (List ℕ)) (unread : List ℕ) (quota : ℕ) → FoundIn found known unread left quota → found ≡ End → IsAtEnd left
at_end (Line line size) known left unread quota found is = absurd cc
at_end Long known left unread quota found is = absurd cc
at_end Cut known left unread quota found is = absurd cc
at_end End known left unread quota found is = found.2

-- no line was found, so none that is whole
pub no_other_whole : (found : Front) (unread : List ℕ) → ((line size : ℕ) → found ≢ Line line size) → FoundWhole (Ok found) unread → ⊥
no_other_whole (Line line size) unread other whole = other line size refl
no_other_whole Long unread other whole = whole
no_other_whole Cut unread other whole = whole
no_other_whole End unread other whole = whole

pub current_one_other : (found : Front) (current : List ℕ) → ((line size : ℕ) → found ≢ Line line size) → CurrentOne found current
current_one_other (Line line size) current other = absurd (other line size refl)
current_one_other Long current other = tt
current_one_other Cut current other = tt
current_one_other End current other = tt
