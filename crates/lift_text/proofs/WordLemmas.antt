-- The words of a line, found from the front.
use Rattle.std.proofs.Common.{◌≡◌, ℕ, suc, not, ◌==◌, ◌+◌, ◌-◌, ◌<◌, ◌≤◌, Bool, true, false, cond, List, [], ◌∷◌, ◌++◌, length, take, drop, get_or, arith, ap}
use Rattle.std.proofs.Common.{sym, ◌∙◌, refl, subst, drop-cons, add-one, ◌⊎◌, inl, inr, append_assoc, append-nil}
use Rattle.std.specs.Prelude.{All, filter, nat_lt, slice_range}
use Rattle.std.proofs.lemmas.List.{take-append-drop, drop-drop, take_rest, take-take, get_or_default, map-append, length-map}
use Rattle.std.proofs.lemmas.Slice.{between_is}
use Rattle.std.proofs.lemmas.List.Edits.{length-between, get_or-between}
use Rattle.lift_text.specs.declared.words.Span.{Span}
use Rattle.std.proofs.lemmas.List.Elements.{All-push, All-append}
use Rattle.std.proofs.lemmas.List.Splits.{slice_split_at, slice_split_none}
use Rattle.std.proofs.lemmas.Bool.{cases_lt}
use Rattle.std.proofs.lemmas.Bool.Decides.{nat_tests}
use Rattle.lift_text.specs.Lines.{is_blank, words_in}
use Rattle.lift_text.specs.Words.{part_of, parts_of, word_span}

abbrev pub NoBlank : List ℕ → ℕ → ℕ → Type 0
NoBlank text start end = (k : ℕ) → start ≤ k → k < end → is_blank (get_or text k 0) ≡ false

no_blank_part : (text : List ℕ) (start end : ℕ) → start ≤ end → end ≤ length text → NoBlank text start end
    → All (λ b. is_blank b ≡ false) (slice_range text start end)
no_blank_part text start end ordered inside none k d below =
    let size = length-between text start end inside in
    let in_text : start + k < length text = omega arith in
    let same = get_or-between text start end k d (omega arith) ∙ get_or_default text (start + k) d 0 in_text in
    ap is_blank same ∙ none (start + k) (omega arith) (omega arith)

drop_at : (text : List ℕ) (start i : ℕ) → start ≤ i → i < length text → drop start text ≡ slice_range text start i ++ get_or text i 0 ∷ drop (i + 1) text
drop_at text start i ordered inside =
    let place : start + (i - start) ≡ i = omega arith in
    sym (take-append-drop (i - start) (drop start text))
    ∙ ap (λ rest. slice_range text start i ++ rest)
    (drop-drop (i - start) start text ∙ ap (λ n. drop n text) place ∙ drop-cons text i 0 inside ∙ ap (λ n. get_or text i 0 ∷ drop n text) (sym (add-one i)))

words_in_first : (part : List ℕ) (b : ℕ) (rest : List ℕ) → All (λ x. is_blank x ≡ false) part → is_blank b ≡ true
    → words_in (part ++ b ∷ rest) ≡ cond (nat_lt 0 (length part)) (part ∷ words_in rest) (words_in rest)
words_in_first part b rest none blank = ap (filter (λ word. nat_lt 0 (length word))) (slice_split_at is_blank part b rest none blank)

words_in_last : (part : List ℕ) → All (λ x. is_blank x ≡ false) part → words_in part ≡ cond (nat_lt 0 (length part)) (part ∷ []) []
words_in_last part none = ap (filter (λ word. nat_lt 0 (length word))) (slice_split_none is_blank part none)

-- what a span adds: the part, if it has a byte
parts_of-word : (text : List ℕ) (start end : ℕ) (rest : List (List ℕ)) → start ≤ end → end ≤ length text
    → cond (nat_lt 0 (length (slice_range text start end))) (slice_range text start end ∷ rest) rest ≡ parts_of text (word_span start end) ++ rest
parts_of-word text start end rest ordered inside = by_case (cases_lt start end)
  where
    by_case : (start < end) ⊎ (end ≤ start)
        → cond (nat_lt 0 (length (slice_range text start end))) (slice_range text start end ∷ rest) rest ≡ parts_of text (word_span start end) ++ rest
    by_case (inl below) = grind (arith, nat_tests, length-between text start end inside)
    by_case (inr none) = grind (arith, nat_tests, length-between text start end inside)

-- a blank ends a word
pub words_in-drop : (text : List ℕ) (start i : ℕ) → start ≤ i → i < length text → NoBlank text start i → is_blank (get_or text i 0) ≡ true
    → words_in (drop start text) ≡ parts_of text (word_span start i) ++ words_in (drop (i + 1) text)
words_in-drop text start i ordered inside none blank =
    ap words_in (drop_at text start i ordered inside)
    ∙ words_in_first (slice_range text start i) (get_or text i 0) (drop (i + 1) text) (no_blank_part text start i ordered (omega arith) none) blank
    ∙ parts_of-word text start i (words_in (drop (i + 1) text)) ordered (omega arith)

-- and so does the end of the text
pub words_in-drop_last : (text : List ℕ) (start : ℕ) → start ≤ length text → NoBlank text start (length text)
    → words_in (drop start text) ≡ parts_of text (word_span start (length text)) ++ []
words_in-drop_last text start inside none =
    ap words_in (sym (take_rest text start))
    ∙ words_in_last (slice_range text start (length text)) (no_blank_part text start (length text) inside (omega arith) none)
    ∙ parts_of-word text start (length text) [] inside (omega arith)

pub parts_of-append : (text : List ℕ) (xs ys : List Span) → parts_of text (xs ++ ys) ≡ parts_of text xs ++ parts_of text ys
parts_of-append text xs ys = map-append (part_of text) xs ys

-- the words so far and those of the rest are all words, one blank on
pub words_more : (text : List ℕ) (spans spans' : List Span) (start i : ℕ) → start ≤ i → i < length text → NoBlank text start i
    → is_blank (get_or text i 0) ≡ true
    → spans' ≡ spans ++ word_span start i → parts_of text spans ++ words_in (drop start text) ≡ words_in text
    → parts_of text spans' ++ words_in (drop (i + 1) text) ≡ words_in text
words_more text spans spans' start i ordered inside none blank added before =
    ap (λ s. parts_of text s ++ words_in (drop (i + 1) text)) added
    ∙ ap (λ s. s ++ words_in (drop (i + 1) text)) (parts_of-append text spans (word_span start i))
    ∙ append_assoc (parts_of text spans) (parts_of text (word_span start i)) (words_in (drop (i + 1) text))
    ∙ ap (λ s. parts_of text spans ++ s) (sym (words_in-drop text start i ordered inside none blank))
    ∙ before

-- and at the end of the text
pub words_all : (text : List ℕ) (spans spans' : List Span) (start : ℕ) → start ≤ length text → NoBlank text start (length text)
    → spans' ≡ spans ++ word_span start (length text) → parts_of text spans ++ words_in (drop start text) ≡ words_in text
    → parts_of text spans' ≡ words_in text
words_all text spans spans' start inside none added before =
    ap (parts_of text) added ∙ parts_of-append text spans (word_span start (length text))
    ∙ ap (λ s. parts_of text spans ++ s) (sym (append-nil _) ∙ sym (words_in-drop_last text start inside none))
    ∙ before

abbrev IsWithin : ℕ → Span → Type 0
IsWithin end span = (span.start ≤ span.end) × (span.end ≤ end)

within_one : (size : ℕ) (has_byte : Bool) (span : Span) → IsWithin size span → All (IsWithin size) (cond has_byte (span ∷ []) [])
within_one size true span within = All-push (IsWithin size) [] span (λ k d below. absurd (omega arith)) within
within_one size false span within = λ k d below. absurd (omega arith)

pub within_more : (size : ℕ) (spans spans' : List Span) (start end : ℕ) → start ≤ end → end ≤ size
    → spans' ≡ spans ++ word_span start end → All (IsWithin size) spans → All (IsWithin size) spans'
within_more size spans spans' start end ordered inside added before =
    subst (All (IsWithin size)) (sym added)
    (All-append (IsWithin size) spans (word_span start end) before (within_one size (nat_lt start end) (record { start = start; end = end }) (ordered, inside)))

pub no_blank_more : (text : List ℕ) (start i : ℕ) → NoBlank text start i → is_blank (get_or text i 0) ≡ false → NoBlank text start (i + 1)
no_blank_more text start i none here k low high = elim (cases_lt k i) [
  | inl below ↦ none k low below
  | inr above ↦ (let same : k ≡ i = omega arith in ap (λ n. is_blank (get_or text n 0)) same ∙ here)
]

within_tail : (size : ℕ) (span : Span) (spans : List Span) → All (IsWithin size) (span ∷ spans) → All (IsWithin size) spans
within_tail size span spans within = λ k d below. within (suc k) d (omega arith)

-- spans of a front stand for the same words in the whole
pub parts_of-take : (n : ℕ) (line : List ℕ) (spans : List Span) → All (IsWithin n) spans → parts_of (take n line) spans ≡ parts_of line spans
parts_of-take n line [] within = refl
parts_of-take n line (span ∷ spans) within =
    let inside : span.end ≤ n = (within 0 span (omega arith)).1 in
    let same = between_is (take n line) span.start span.end ∙ ap (drop span.start) (take-take span.end n line inside)
    ∙ sym (between_is line span.start span.end) in
    ap (λ part. part ∷ parts_of (take n line) spans) same
    ∙ ap (λ parts. part_of line span ∷ parts) (parts_of-take n line spans (within_tail n span spans within))

pub within_le : (size n : ℕ) (spans : List Span) → size ≤ n → All (IsWithin size) spans → All (IsWithin n) spans
within_le size n spans le within = λ k d below. (let one = within k d below in (one.0, omega (arith, one.1)))

-- a line has a word exactly where there is a span
pub some_words : (text : List ℕ) (spans : List Span) (words : List (List ℕ)) (count : ℕ) (is_empty : Bool) → parts_of text spans ≡ words → count ≡ length spans
    → is_empty ≡ (count == 0)
    → not is_empty ≡ nat_lt 0 (length words)
some_words text spans words count is_empty same whole empty =
    let size = ap length (sym same) ∙ length-map spans (part_of text) in
    grind (arith, nat_tests)
