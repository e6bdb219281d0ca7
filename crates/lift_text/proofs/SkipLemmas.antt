-- Passing over a line of any length.
use Rattle.std.proofs.Common.{◌≡◌, Bool, true, false, cond, eqb, Ok, Err, ℕ, suc, ◌+◌, ◌-◌, ◌<◌, ◌≤◌, List, [], ◌∷◌, ◌++◌, Option, None, Some, length, take}
use Rattle.std.proofs.Common.{drop, get_or, arith, ap, sym, ◌∙◌, refl, subst, append_assoc, append-nil, length-append, length-drop, drop-cons, add-one, inl}
use Rattle.std.proofs.Common.{inr, IfSome}
use Rattle.std.specs.Prelude.{IsSomeAnd}
use Rattle.std.specs.List.{onto_first}
use Rattle.std.specs.Io.KnownBytes.{prepend_known, IsAtEnd}
use Rattle.std.proofs.lemmas.List.{take-append-drop, length-take-le, get_or-take, get_or-append_right, get_or_append_left}
use Rattle.std.proofs.lemmas.List.Elements.{Contains-append_left, Contains-append_right}
use Rattle.std.proofs.lemmas.Bool.{cases_lt}
use Rattle.lift_text.specs.Lines.{pieces_of, HasWholeLine}
use Rattle.lift_text.specs.Front.{NoLineFeed, NoLineFeedBelow, SkippedIn}
use Rattle.lift_text.specs.Reading.{TextState}
use Rattle.lift_text.specs.Page.{SkippedLine}
use Rattle.lift_text.specs.declared.faults.TextFault.TheVariants.{TooLong}
use Rattle.lift_text.specs.declared.faults.RawLine.TheVariants.{Long}
use Rattle.lift_text.proofs.PageLemmas.{state}
use Rattle.lift_text.specs.declared.window.Skipped.TheVariants.{Whole, Cut}
use Rattle.lift_text.proofs.PieceLemmas.{pieces_of-append, pieces_of-last, pieces_of-front}

pub no_line_feed-append : (xs ys : List ℕ) → NoLineFeed xs → NoLineFeed ys → NoLineFeed (xs ++ ys)
no_line_feed-append xs ys first second k below is =
    elim (cases_lt k (length xs)) [
      | inl before ↦ first k before (sym (get_or_append_left xs ys 0 k before) ∙ is)
      | inr after ↦ second (k - length xs) (omega (arith, length-append xs ys)) (sym (get_or-append_right xs ys (length xs) k 0 refl after) ∙ is)
    ]

no_line_feed-take : (place : ℕ) (unread : List ℕ) → place ≤ length unread → NoLineFeedBelow unread place → NoLineFeed (take place unread)
no_line_feed-take place unread inside none k below is =
    let size = length-take-le place unread inside in
    none k (omega arith) (sym (get_or-take place unread k 0 (omega arith)) ∙ is)

split_at : (front unread rest : List ℕ) (place : ℕ) → place < length unread → get_or unread place 0 ≡ 10
    → (front ++ unread) ++ rest ≡ (front ++ take place unread) ++ 10 ∷ (drop (place + 1) unread ++ rest)
split_at front unread rest place inside here =
    let split = sym (take-append-drop place unread)
    ∙ ap (λ l. take place unread ++ l)
    (drop-cons unread place 0 inside ∙ ap (λ b. b ∷ drop (suc place) unread) here ∙ ap (λ n. 10 ∷ drop n unread) (sym (add-one place))) in
    ap (λ l. l ++ rest) (ap (λ l. front ++ l) split ∙ sym (append_assoc front (take place unread) (10 ∷ drop (place + 1) unread)))
    ∙ append_assoc (front ++ take place unread) (10 ∷ drop (place + 1) unread) rest

pub skipped_line : (before left : Option (List ℕ)) (front unread : List ℕ) (place quota limit : ℕ) → NoLineFeed front → place < length unread
    → NoLineFeedBelow unread place → get_or unread place 0 ≡ 10
    → before ≡ prepend_known (front ++ unread) left → quota + length unread + length front ≡ limit
    → SkippedIn Whole before limit (drop (place + 1) unread) left quota
skipped_line before None front unread place quota limit none inside below here known used =
    subst (λ b. SkippedIn Whole b limit (drop (place + 1) unread) None quota) (sym known) tt
skipped_line before (Some rest) front unread place quota limit none inside below here known used =
    let line = front ++ take place unread in
    let tail = drop (place + 1) unread ++ rest in
    let none_in_line = no_line_feed-append front (take place unread) none (no_line_feed-take place unread (omega arith) below) in
    let size = length-append line (10 ∷ []) in
    let line_size = length-append front (take place unread) in
    let taken = length-take-le place unread (omega arith) in
    subst (λ b. SkippedIn Whole b limit (drop (place + 1) unread) (Some rest) quota) (sym known) (
      line ++ 10 ∷ [],
      ap pieces_of (split_at front unread rest place inside here) ∙ pieces_of-append line tail none_in_line,
      omega (arith, length-drop (place + 1) unread),
    )

pub skipped_end : (before left : Option (List ℕ)) (front : List ℕ) (quota limit : ℕ) → NoLineFeed front → 0 < length front → before ≡ prepend_known front left
    → IsAtEnd left
    → quota + length front ≡ limit → SkippedIn Whole before limit [] left quota
skipped_end before None front quota limit none some known end used = subst (λ b. SkippedIn Whole b limit [] None quota) (sym known) tt
skipped_end before (Some rest) [] quota limit none some known end used = absurd (omega arith)
skipped_end before (Some rest) (x ∷ front) quota limit none some known end used =
    let all = x ∷ front in
    subst (λ b. SkippedIn Whole b limit [] (Some rest) quota) (sym known) (
      all,
      ap (λ r. pieces_of (all ++ r)) end ∙ ap pieces_of (append-nil all) ∙ pieces_of-last x front none ∙ ap (λ r. all ∷ pieces_of r) (sym end),
      omega (arith, used),
    )

pub skipped_cut : (before left : Option (List ℕ)) (front : List ℕ) (b quota limit : ℕ) → NoLineFeed front
    → before ≡ prepend_known front (prepend_known (b ∷ []) left)
    → length front ≡ limit → (unread : List ℕ) → SkippedIn Cut before limit unread left quota
skipped_cut before None front b quota limit none known used unread = subst (λ k. SkippedIn Cut k limit unread None quota) (sym known) tt
skipped_cut before (Some rest) front b quota limit none known used unread =
    let first = pieces_of-front front b rest none in
    subst (λ k. SkippedIn Cut k limit unread (Some rest) quota) (sym known)
    (front ++ b ∷ first.0, first.1, first.2, omega (arith, length-append front (b ∷ first.0)))

-- an LF behind a front
pub has_in_known : (before left : Option (List ℕ)) (front unread : List ℕ) → before ≡ prepend_known (front ++ unread) left → HasWholeLine unread
    → IfSome before HasWholeLine
has_in_known before None front unread known has = subst (λ b. IfSome b HasWholeLine) (sym known) tt
has_in_known before (Some rest) front unread known has =
    subst (λ b. IfSome b HasWholeLine) (sym known) (Contains-append_left (front ++ unread) rest 10 (Contains-append_right front unread 10 has))

-- a search that finds nothing went over all
pub all_searched : (place len size : ℕ) → len ≤ place → place ≤ size → len ≡ size → place ≡ size
all_searched place len size past within whole = omega arith

abbrev pub size_of : List (List ℕ) → ℕ
size_of [] = 0
size_of (piece ∷ pieces) = length piece + size_of pieces

size_of-step : (ends : Bool) (b : ℕ) (later : List (List ℕ)) → size_of (cond ends ((b ∷ []) ∷ later) (onto_first b later)) ≡ 1 + size_of later
size_of-step true b later = refl
size_of-step false b [] = refl
size_of-step false b (piece ∷ pieces) = omega arith

-- the lines with their ends have all bytes
pub size_of-pieces : (bytes : List ℕ) → size_of (pieces_of bytes) ≡ length bytes
size_of-pieces [] = refl
size_of-pieces (b ∷ bytes) = omega (arith, size_of-step (eqb b 10) b (pieces_of bytes), size_of-pieces bytes)

skipped_rest : (number limit limit' : ℕ) (bytes : List ℕ) (known : Option (List ℕ))
    → IsSomeAnd known (λ rest. (piece : List ℕ) × (pieces_of bytes ≡ piece ∷ pieces_of rest) × (limit' + length piece ≡ limit))
    → SkippedLine (Some (record { line = number; limit = limit; bytes = bytes })) (Ok Long) (state (number + 1) limit' known)
skipped_rest number limit limit' bytes None skipped = absurd skipped
skipped_rest number limit limit' bytes (Some rest) skipped =
    let one : number + 1 - number ≡ 1 = omega arith in
    let size = ap size_of skipped.1 in (
      skipped.0,
      skipped.1,
      omega (arith, skipped.2),
      refl,
      record {
        lines = omega arith;
        pieces = sym (ap (λ n. drop n (pieces_of bytes)) one ∙ ap (drop 1) skipped.1);
        limit = omega (arith, skipped.2, size, size_of-pieces bytes, size_of-pieces rest);
      },
    )

pub skipped_text : (number limit quota : ℕ) (known : Option (List ℕ)) (unread : List ℕ) (left : Option (List ℕ)) → SkippedIn Whole known limit unread left quota
    → SkippedLine (state number limit known) (Ok Long) (state (number + 1) (quota + length unread) (prepend_known unread left))
skipped_text number limit quota None unread left skipped = tt
skipped_text number limit quota (Some bytes) unread left skipped = skipped_rest number limit (quota + length unread) bytes (prepend_known unread left) skipped

pub cut_text : (number limit quota : ℕ) (known : Option (List ℕ)) (unread : List ℕ) (left : Option (List ℕ)) (after : Option TextState)
    → SkippedIn Cut known limit unread left quota
    → SkippedLine (state number limit known) (Err TooLong) after
cut_text number limit quota None unread left after skipped = tt
cut_text number limit quota (Some bytes) unread left after skipped = (skipped.0, skipped.1, skipped.2, skipped.3)
