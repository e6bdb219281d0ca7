-- The first line of a text.
use Rattle.std.proofs.Common.{◌≡◌, ◌≢◌, ℕ, suc, ◌+◌, ◌-◌, ◌<◌, ◌≤◌, Bool, true, false, cond, eqb, List, [], ◌∷◌, ◌++◌, Option, None, Some, length, take, drop}
use Rattle.std.proofs.Common.{get_or, arith, ap, sym, ◌∙◌, refl, subst, append_assoc, append-nil, length-append, IfSome, drop-cons, add-one, inl, inr}
use Rattle.std.specs.Prelude.{◌==◌}
use Rattle.std.specs.List.{onto_first, position_or_len}
use Rattle.std.specs.Io.KnownBytes.{prepend_known, IsAtEnd}
use Rattle.std.specs.Io.BufRead.{ends_with_byte, strip_last}
use Rattle.std.proofs.lemmas.Bool.Decides.{nat_tests}
use Rattle.std.proofs.lemmas.List.{take-append-le, take-append-drop, length-take-le, take_at, take_rest, get_or_at, get_or_append_left, get_or-drop}
use Rattle.std.proofs.lemmas.List.{get_or-take, get_or_default, length-drop, length-take, take_more}
use Rattle.std.proofs.lemmas.List.Elements.{Contains-append_left}
use Rattle.std.proofs.lemmas.List.Sums.{fails_before_first, passes_at_first}
use Rattle.std.proofs.lemmas.Bool.{cases_lt, false≢true, eqb-true}
use Rattle.std.proofs.Math.Seq.{take-append-add, drop-append-add, take-length, drop-length}
use Rattle.lift_text.specs.Lines.{pieces_of, line_of, HasWholeLine}
use Rattle.lift_text.specs.Front.{BeginsWithLine, NoLineFeed, FoundIn, FoundOne, IsOneLine, IsWholeLine}
use Rattle.lift_text.specs.declared.window.Front.{Front}
use Rattle.lift_text.specs.declared.window.Front.TheVariants.{Line, End}

not_equal : (a b : ℕ) → a ≢ b → eqb a b ≡ false
not_equal a b differ = grind (arith, nat_tests)

empty_list : (xs : List ℕ) → length xs ≤ 0 → xs ≡ []
empty_list [] none = refl
empty_list (x ∷ xs) none = absurd (omega arith)

no_line_feed-tail : (x : ℕ) (xs : List ℕ) → NoLineFeed (x ∷ xs) → NoLineFeed xs
no_line_feed-tail x xs none k below = none (suc k) (omega arith)

pub pieces_of-append : (front tail : List ℕ) → NoLineFeed front → pieces_of (front ++ 10 ∷ tail) ≡ (front ++ 10 ∷ []) ∷ pieces_of tail
pieces_of-append [] tail none = refl
pieces_of-append (x ∷ front) tail none =
    ap (λ b. cond b ((x ∷ []) ∷ pieces_of (front ++ 10 ∷ tail)) (onto_first x (pieces_of (front ++ 10 ∷ tail)))) (not_equal x 10 (none 0 (omega arith)))
    ∙ ap (onto_first x) (pieces_of-append front tail (no_line_feed-tail x front none))

pub pieces_of-last : (x : ℕ) (bytes : List ℕ) → NoLineFeed (x ∷ bytes) → pieces_of (x ∷ bytes) ≡ (x ∷ bytes) ∷ []
pieces_of-last x [] none = ap (λ b. cond b ((x ∷ []) ∷ []) ((x ∷ []) ∷ [])) (not_equal x 10 (none 0 (omega arith)))
pieces_of-last x (y ∷ bytes) none =
    ap (λ b. cond b ((x ∷ []) ∷ pieces_of (y ∷ bytes)) (onto_first x (pieces_of (y ∷ bytes)))) (not_equal x 10 (none 0 (omega arith)))
    ∙ ap (onto_first x) (pieces_of-last y bytes (no_line_feed-tail x (y ∷ bytes) none))

last_place : (b : ℕ) (xs : List ℕ) → length (xs ++ b ∷ []) - 1 ≡ length xs
last_place b xs = omega (arith, length-append xs (b ∷ []))

pub ends_with_byte-none : (x : ℕ) (bytes : List ℕ) → NoLineFeed (x ∷ bytes) → ends_with_byte 10 (x ∷ bytes) ≡ false
ends_with_byte-none x bytes none =
    let last = not_equal (get_or (x ∷ bytes) (length (x ∷ bytes) - 1) 0) 10 (none (length (x ∷ bytes) - 1) (omega arith)) in
    grind (arith, nat_tests)

pub ends_with_byte-push : (b : ℕ) (xs : List ℕ) → ends_with_byte b (xs ++ b ∷ []) ≡ true
ends_with_byte-push b xs =
    let last = last_place b xs in
    let size = length-append xs (b ∷ []) in
    let here : get_or (xs ++ b ∷ []) (length (xs ++ b ∷ []) - 1) 0 ≡ b = ap (λ i. get_or (xs ++ b ∷ []) i 0) last ∙ get_or_at xs b [] 0 (length xs) refl in
    grind (arith, nat_tests)

strip_last-push : (b : ℕ) (xs : List ℕ) → strip_last b (xs ++ b ∷ []) ≡ xs
strip_last-push b xs =
    let all = xs ++ b ∷ [] in
    ap (λ e. cond e (take (length all - 1) all) all) (ends_with_byte-push b xs) ∙ ap (λ n. take n all) (last_place b xs) ∙ take_at xs (b ∷ []) (length xs) refl

line_of-push : (xs : List ℕ) → line_of (xs ++ 10 ∷ []) ≡ strip_last 13 xs
line_of-push xs =
    let all = xs ++ 10 ∷ [] in
    ap (λ e. cond e (strip_last 13 (strip_last 10 all)) all) (ends_with_byte-push 10 xs) ∙ ap (strip_last 13) (strip_last-push 10 xs)

pub line_of-last : (bytes : List ℕ) → NoLineFeed bytes → line_of bytes ≡ bytes
line_of-last [] none = refl
line_of-last (x ∷ bytes) none =
    let all = x ∷ bytes in
    ap (λ e. cond e (strip_last 13 (strip_last 10 all)) all) (ends_with_byte-none x bytes none)

pub begins_at : (front tail : List ℕ) (line : ℕ) → NoLineFeed front → line ≤ length front → take line front ≡ strip_last 13 front
    → BeginsWithLine (front ++ 10 ∷ tail) line (length front + 1)
begins_at front tail line none within stripped =
    let piece : take (length front + 1) (front ++ 10 ∷ tail) ≡ front ++ 10 ∷ [] = take-append-add front (10 ∷ tail) 1 in
    let rest : drop (length front + 1) (front ++ 10 ∷ tail) ≡ tail = drop-append-add front (10 ∷ tail) 1 in
    record {
      pieces = pieces_of-append front tail none ∙ ap (λ p. p ∷ pieces_of tail) (sym piece)
          ∙ ap (λ t. take (length front + 1) (front ++ 10 ∷ tail) ∷ pieces_of t) (sym rest);
      content = ap line_of piece ∙ line_of-push front ∙ sym stripped ∙ sym (take-append-le line front (10 ∷ tail) within);
    }

-- the line before an LF, and a last line
pub one_line_at : (unread : List ℕ) (place line : ℕ) → place < length unread → ((k : ℕ) → k < place → get_or unread k 0 ≢ 10) → get_or unread place 0 ≡ 10
    → take line (take place unread) ≡ strip_last 13 (take place unread) → line ≤ place → IsOneLine (take (place + 1) unread) line
one_line_at unread place line inside none here stripped within =
    let front = take place unread in
    let size = length-take-le place unread (omega arith) in
    let none_in_front : NoLineFeed front = λ k below is. none k (omega arith) (sym (get_or-take place unread k 0 (omega arith)) ∙ is) in
    let whole : take (place + 1) unread ≡ front ++ 10 ∷ [] = take_more unread place 0 inside ∙ ap (λ b. front ++ b ∷ []) here in
    subst (λ piece. IsOneLine piece line) (sym whole) (record {
      pieces = pieces_of-append front [] none_in_front;
      content = line_of-push front ∙ sym stripped ∙ sym (take-append-le line front (10 ∷ []) (omega arith));
    })

one_line_last : (bytes : List ℕ) → NoLineFeed bytes → 0 < length bytes → IsOneLine (take (length bytes) bytes) (length bytes)
one_line_last [] none some = absurd (omega arith)
one_line_last (x ∷ bytes) none some =
    let all = x ∷ bytes in
    subst (λ piece. IsOneLine piece (length all)) (sym (take-length all))
    (record { pieces = pieces_of-last x bytes none; content = line_of-last all none ∙ sym (take-length all) })

pub found_one_last : (found : Front) (unread : List ℕ) (size : ℕ) → (size ≡ 0 → found ≡ End) → (0 < size → found ≡ Line size size) → size ≡ length unread
    → NoLineFeed unread
    → FoundOne found unread
found_one_last found unread size is_end is_line whole none = elim (cases_lt 0 size) [
  | inl some ↦ subst (λ f. FoundOne f unread) (sym (is_line some))
      (subst (λ n. FoundOne (Line n n) unread) (sym whole) (one_line_last unread none (omega arith)))
  | inr nothing ↦ subst (λ f. FoundOne f unread) (sym (is_end (omega arith))) tt
]

pub whole_line_at : (unread : List ℕ) (place : ℕ) → place < length unread → ((k : ℕ) → k < place → get_or unread k 0 ≢ 10) → get_or unread place 0 ≡ 10
    → IsWholeLine (take (place + 1) unread)
whole_line_at unread place inside none here =
    let size = length-take-le place unread (omega arith) in
    record {
      front = take place unread;
      none = λ k below is. none k (omega arith) (sym (get_or-take place unread k 0 (omega arith)) ∙ is);
      is = take_more unread place 0 inside ∙ ap (λ b. take place unread ++ b ∷ []) here;
    }

-- nothing changes at the front where more comes behind it
pub none_more : (bytes more both : List ℕ) (place : ℕ) → both ≡ bytes ++ more → place ≤ length bytes → ((k : ℕ) → k < place → get_or bytes k 0 ≢ 10) → (k : ℕ)
    → k < place → get_or both k 0 ≢ 10
none_more bytes more both place joined within none k below is =
    none k below (sym (get_or_append_left bytes more 0 k (omega arith)) ∙ ap (λ l. get_or l k 0) (sym joined) ∙ is)

-- no line ends where there is no LF
pub no_whole_line : (bytes : List ℕ) → NoLineFeed bytes → ¬ HasWholeLine bytes
no_whole_line bytes none has = none has.0 has.1 (sym (get_or_default bytes has.0 10 0 has.1) ∙ has.2)

-- nor in the front of what was searched
pub no_whole_front : (front more bytes : List ℕ) (place : ℕ) → front ++ more ≡ bytes → length bytes ≤ place → ((k : ℕ) → k < place → get_or bytes k 0 ≢ 10)
    → ¬ HasWholeLine front
no_whole_front front more bytes place joined past none has =
    no_whole_line bytes (λ k below. none k (omega arith)) (subst HasWholeLine joined (Contains-append_left front more 10 has))

pub begins_last : (bytes : List ℕ) → NoLineFeed bytes → 0 < length bytes → BeginsWithLine bytes (length bytes) (length bytes)
begins_last [] none some = absurd (omega arith)
begins_last (x ∷ bytes) none some =
    let all = x ∷ bytes in
    record {
      pieces = pieces_of-last x bytes none ∙ ap (λ p. p ∷ []) (sym (take-length all)) ∙ ap (λ t. take (length all) all ∷ pieces_of t) (sym (drop-length all));
      content = ap line_of (take-length all) ∙ line_of-last all none ∙ sym (take-length all);
    }

pub begins_found : (before left : Option (List ℕ)) (unread : List ℕ) (line size : ℕ) → before ≡ prepend_known unread left
    → ((rest : List ℕ) → BeginsWithLine (unread ++ rest) line size) → IfSome before (λ bytes. BeginsWithLine bytes line size)
begins_found before None unread line size known begins = subst (λ b. IfSome b (λ bytes. BeginsWithLine bytes line size)) (sym known) tt
begins_found before (Some rest) unread line size known begins = subst (λ b. IfSome b (λ bytes. BeginsWithLine bytes line size)) (sym known) (begins rest)

pub begins_found_last : (before left : Option (List ℕ)) (unread : List ℕ) → before ≡ prepend_known unread left → IsAtEnd left → NoLineFeed unread
    → 0 < length unread
    → IfSome before (λ bytes. BeginsWithLine bytes (length unread) (length unread))
begins_found_last before None unread known end none some = subst (λ b. IfSome b (λ bytes. BeginsWithLine bytes (length unread) (length unread))) (sym known) tt
begins_found_last before (Some rest) unread known end none some =
    subst (λ b. IfSome b (λ bytes. BeginsWithLine bytes (length unread) (length unread)))
    (sym (known ∙ ap (λ r. Some (unread ++ r)) end ∙ ap Some (append-nil unread))) (begins_last unread none some)

-- a search from a place on, where there was no LF before
abbrev rest_from : List ℕ → ℕ → List ℕ
rest_from bytes from = take (length bytes - from) (drop from bytes)

same_byte : (bytes : List ℕ) (from k : ℕ) → get_or (rest_from bytes from) k 0 ≡ get_or bytes (from + k) 0
same_byte bytes from k = ap (λ l. get_or l k 0) (take_rest bytes from) ∙ get_or-drop from bytes k 0

pub none_until : (bytes : List ℕ) (from place : ℕ) → ((k : ℕ) → k < from → get_or bytes k 0 ≢ 10)
    → place ≡ position_or_len (λ b. b == 10) (rest_from bytes from) → (k : ℕ) → k < from + place → get_or bytes k 0 ≢ 10
none_until bytes from place none found k below is = elim (cases_lt k from) [
  | inl before ↦ none k before is
  | inr after ↦ false≢true (sym (differs after) ∙ same after)
]
  where
    differs : from ≤ k → (get_or (rest_from bytes from) (k - from) 0 == 10) ≡ false
    differs after = fails_before_first (λ b. b == 10) (rest_from bytes from) (k - from) 0 (omega arith)

    same : from ≤ k → (get_or (rest_from bytes from) (k - from) 0 == 10) ≡ true
    same after =
        let place_is : from + (k - from) ≡ k = omega arith in
        ap (λ b. b == 10) (same_byte bytes from (k - from) ∙ ap (λ i. get_or bytes i 0) place_is ∙ is)

pub found_at : (bytes : List ℕ) (from place : ℕ) → place ≡ position_or_len (λ b. b == 10) (rest_from bytes from) → from + place < length bytes
    → get_or bytes (from + place) 0 ≡ 10
found_at bytes from place found inside =
    let size = ap length (take_rest bytes from) ∙ length-drop from bytes in
    let passes = passes_at_first (λ b. b == 10) (rest_from bytes from) 0 (omega arith) in
    let here = ap (λ i. get_or (rest_from bytes from) i 0 == 10) found ∙ passes in
    sym (same_byte bytes from place) ∙ eqb-true _ 10 here

pub begins_in_window : (unread rest : List ℕ) (place line : ℕ) → place < length unread → ((k : ℕ) → k < place → get_or unread k 0 ≢ 10)
    → get_or unread place 0 ≡ 10
    → take line (take place unread) ≡ strip_last 13 (take place unread) → line ≤ place → BeginsWithLine (unread ++ rest) line (place + 1)
begins_in_window unread rest place line inside none here stripped within =
    let front = take place unread in
    let tail = drop (place + 1) unread ++ rest in
    let size = length-take-le place unread (omega arith) in
    let split : unread ++ rest ≡ front ++ 10 ∷ tail =
    ap (λ l. l ++ rest)
    (sym (take-append-drop place unread)
    ∙ ap (λ l. front ++ l) (drop-cons unread place 0 inside ∙ ap (λ b. b ∷ drop (suc place) unread) here
    ∙ ap (λ n. 10 ∷ drop n unread) (sym (add-one place))))
    ∙ append_assoc front (10 ∷ drop (place + 1) unread) rest in
    let none_in_front : NoLineFeed front = λ k below is. none k (omega arith) (sym (get_or-take place unread k 0 (omega arith)) ∙ is) in
    subst (λ l. BeginsWithLine l line (place + 1)) (sym split)
    (subst (λ n. BeginsWithLine (front ++ 10 ∷ tail) line (n + 1)) size (begins_at front tail line none_in_front (omega arith) stripped))

-- the end of the input: nothing, or a last line
pub found_last : (found : Front) (before left : Option (List ℕ)) (unread : List ℕ) (size quota : ℕ) → (size ≡ 0 → found ≡ End)
    → (0 < size → found ≡ Line size size)
    → size ≡ length unread → before ≡ prepend_known unread left → IsAtEnd left → NoLineFeed unread → FoundIn found before unread left quota
found_last found before left unread size quota is_end is_line whole known end none = elim (cases_lt 0 size) [
  | inl some ↦ with_line some
  | inr nothing ↦ without nothing
]
  where
    with_line : 0 < size → FoundIn found before unread left quota
    with_line some =
        subst (λ f. FoundIn f before unread left quota) (sym (is_line some))
        (subst (λ n. FoundIn (Line n n) before unread left quota) (sym whole)
        (known, omega arith, omega arith, omega arith, begins_found_last before left unread known end none (omega arith)))

    without : size ≤ 0 → FoundIn found before unread left quota
    without nothing = subst (λ f. FoundIn f before unread left quota) (sym (is_end (omega arith))) (known, empty_list unread (omega arith), end)

-- the first piece of what goes on behind bytes without an LF
pub pieces_of-front : (front : List ℕ) (b : ℕ) (bytes : List ℕ) → NoLineFeed front → (piece : List ℕ) × (pieces : List (List ℕ))
    × (pieces_of (front ++ b ∷ bytes) ≡ (front ++ b ∷ piece) ∷ pieces)
pieces_of-front [] b bytes none = first_of (eqb b 10) (pieces_of bytes)
  where
    first_of : (ends : Bool) (later : List (List ℕ)) → (piece : List ℕ) × (pieces : List (List ℕ))
        × (cond ends ((b ∷ []) ∷ later) (onto_first b later) ≡ (b ∷ piece) ∷ pieces)
    first_of true later = ([], later, refl)
    first_of false [] = ([], [], refl)
    first_of false (piece ∷ pieces) = (piece, pieces, refl)
pieces_of-front (x ∷ front) b bytes none =
    let later = pieces_of-front front b bytes (no_line_feed-tail x front none) in (
      later.0,
      later.1,
      ap (λ e. cond e ((x ∷ []) ∷ pieces_of (front ++ b ∷ bytes)) (onto_first x (pieces_of (front ++ b ∷ bytes))))
          (not_equal x 10 (none 0 (omega arith))) ∙ ap (onto_first x) later.2,
    )

length-strip_last : (b : ℕ) (xs : List ℕ) → length xs ≤ length (strip_last b xs) + 1
length-strip_last b xs = by_case (ends_with_byte b xs)
  where
    by_case : (ends : Bool) → length xs ≤ length (cond ends (take (length xs - 1) xs) xs) + 1
    by_case true = omega (arith, length-take (length xs - 1) xs)
    by_case false = omega arith

-- the end of a line takes two bytes at most
pub length-line_of : (piece : List ℕ) → length piece ≤ length (line_of piece) + 2
length-line_of piece = by_case (ends_with_byte 10 piece)
  where
    by_case : (ends : Bool) → length piece ≤ length (cond ends (strip_last 13 (strip_last 10 piece)) piece) + 2
    by_case true = omega (arith, length-strip_last 10 piece, length-strip_last 13 (strip_last 10 piece))
    by_case false = omega arith
