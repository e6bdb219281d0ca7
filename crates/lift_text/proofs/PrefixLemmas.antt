-- The lines in the front of a text, and what a bad line's answer says of all bytes that were taken.
use Rattle.std.proofs.Common.{◌≡◌, ℕ, zero, suc, ◌+◌, ◌-◌, ◌<◌, Bool, true, false, cond, eqb, List, [], ◌∷◌, ◌++◌, Option, None, Some, length, take, drop}
use Rattle.std.proofs.Common.{get_or, arith, ap, sym, ◌∙◌, refl, subst, append_assoc, length-append, take-append-drop}
use Rattle.std.specs.List.{onto_first}
use Rattle.std.specs.Io.KnownBytes.{prepend_known}
use Rattle.std.proofs.Math.Seq.{take-add}
use Rattle.std.proofs.lemmas.List.{get_or-drop, take_at}
use Rattle.lift_text.specs.Lines.{pieces_of}
use Rattle.lift_text.specs.Reading.{TextState, Passed, EndShows, whole_text}
use Rattle.lift_text.proofs.SkipLemmas.{size_of, size_of-pieces}

take-nil : (n : ℕ) → take {A = ℕ} n [] ≡ []
take-nil zero = refl
take-nil (suc n) = refl

pub size_of-append : (xs ys : List (List ℕ)) → size_of (xs ++ ys) ≡ size_of xs + size_of ys
size_of-append [] ys = omega arith
size_of-append (x ∷ xs) ys = omega (arith, size_of-append xs ys)

-- of the n-th piece, what m bytes have
abbrev cut_piece : ℕ → ℕ → List (List ℕ) → List ℕ
cut_piece m n pieces = take (m - size_of (take n pieces)) (get_or pieces n [])

first_cut : (m : ℕ) (piece : List ℕ) (pieces : List (List ℕ)) → take m piece ≡ cut_piece m 0 (piece ∷ pieces)
first_cut m piece pieces =
    let none : m ≡ m - 0 = omega arith in
    ap (λ k. take k piece) none

-- one byte more in front of the first of the pieces
onto_first-cut : (b m n : ℕ) (short whole : List (List ℕ)) → ((k : ℕ) → get_or short k [] ≡ cut_piece m k whole)
    → get_or (onto_first b short) n [] ≡ cut_piece (suc m) n (onto_first b whole)
onto_first-cut b m zero [] [] same = ap (λ l. b ∷ l) (sym (take-nil m)) ∙ first_cut (suc m) (b ∷ []) []
onto_first-cut b m zero [] (q ∷ whole) same = ap (λ l. b ∷ l) (same 0 ∙ sym (first_cut m q whole)) ∙ first_cut (suc m) (b ∷ q) whole
onto_first-cut b m zero (p ∷ short) [] same = ap (λ l. b ∷ l) (same 0 ∙ take-nil (m - 0) ∙ sym (take-nil m)) ∙ first_cut (suc m) (b ∷ []) []
onto_first-cut b m zero (p ∷ short) (q ∷ whole) same = ap (λ l. b ∷ l) (same 0 ∙ sym (first_cut m q whole)) ∙ first_cut (suc m) (b ∷ q) whole
onto_first-cut b m (suc n) short whole same = later short ∙ same (suc n) ∙ rest whole
  where
    later : (pieces : List (List ℕ)) → get_or (onto_first b pieces) (suc n) [] ≡ get_or pieces (suc n) []
    later [] = refl
    later (p ∷ pieces) = refl

    rest : (pieces : List (List ℕ)) → cut_piece m (suc n) pieces ≡ cut_piece (suc m) (suc n) (onto_first b pieces)
    rest [] = take-nil _ ∙ sym (take-nil _)
    rest (q ∷ pieces) =
        let count : m - (length q + size_of (take n pieces)) ≡ suc m - (length (b ∷ q) + size_of (take n pieces)) = omega arith in
        ap (λ k. take k (get_or pieces n [])) count

one_more : (ends : Bool) (b m n : ℕ) (short whole : List (List ℕ)) → ((k : ℕ) → get_or short k [] ≡ cut_piece m k whole)
    → get_or (cond ends ((b ∷ []) ∷ short) (onto_first b short)) n [] ≡ cut_piece (suc m) n (cond ends ((b ∷ []) ∷ whole) (onto_first b whole))
one_more true b m zero short whole same = ap (λ l. b ∷ l) (sym (take-nil m)) ∙ first_cut (suc m) (b ∷ []) whole
one_more true b m (suc n) short whole same =
    let count : m - size_of (take n whole) ≡ suc m - (length (b ∷ []) + size_of (take n whole)) = omega arith in
    same n ∙ ap (λ k. take k (get_or whole n [])) count
one_more false b m n short whole same = onto_first-cut b m n short whole same

-- a line in the front of a text is a front of that line
pub pieces_of-take : (bytes : List ℕ) (m n : ℕ) → get_or (pieces_of (take m bytes)) n [] ≡ cut_piece m n (pieces_of bytes)
pieces_of-take [] m n = ap (λ l. get_or (pieces_of l) n []) (take-nil m) ∙ sym (take-nil _)
pieces_of-take (b ∷ bytes) zero n =
    let none : 0 - size_of (take n (pieces_of (b ∷ bytes))) ≡ 0 = omega arith in
    sym (ap (λ k. take k (get_or (pieces_of (b ∷ bytes)) n [])) none)
pieces_of-take (b ∷ bytes) (suc m) n = one_more (eqb b 10) b m n (pieces_of (take m bytes)) (pieces_of bytes) (λ k. pieces_of-take bytes m k)

-- the same line in the front of a text and in the front of what is left of it
pub same_piece : (all unread rest taken : List ℕ) (before : List ℕ) (line k : ℕ) → all ≡ before ++ (taken ++ rest)
    → pieces_of (unread ++ (taken ++ rest)) ≡ drop line (pieces_of all)
    → get_or (pieces_of (before ++ taken)) (line + k) [] ≡ get_or (pieces_of (unread ++ taken)) k []
same_piece all unread rest taken before line k whole passed =
    let bytes = unread ++ (taken ++ rest) in
    let lines = pieces_of all in
    let front : take (length (before ++ taken)) all ≡ before ++ taken = ap (take (length (before ++ taken))) (whole ∙ sym (append_assoc before taken rest))
    ∙ take_at (before ++ taken) rest _ refl in
    let later : take (length (unread ++ taken)) bytes ≡ unread ++ taken = ap (take (length (unread ++ taken))) (sym (append_assoc unread taken rest))
    ∙ take_at (unread ++ taken) rest _ refl in
    let split = ap size_of (take-append-drop line lines) in
    let count : length (before ++ taken) - size_of (take (line + k) lines) ≡ length (unread ++ taken) - size_of (take k (pieces_of bytes)) = omega (
      arith,
      ap size_of (take-add line k lines),
      size_of-append (take line lines) (take k (drop line lines)),
      size_of-append (take line lines) (drop line lines),
      split,
      size_of-pieces all,
      size_of-pieces bytes,
      ap size_of passed,
      ap (λ l. size_of (take k l)) passed,
      ap length whole,
      length-append before (taken ++ rest),
      length-append unread (taken ++ rest),
      length-append before taken,
      length-append unread taken,
    ) in
    ap (λ l. get_or (pieces_of l) (line + k) []) (sym front) ∙ pieces_of-take all (length (before ++ taken)) (line + k)
    ∙ ap (λ n. take n (get_or lines (line + k) [])) count
    ∙ ap (take (length (unread ++ taken) - size_of (take k (pieces_of bytes)))) (sym (get_or-drop line lines k []) ∙ ap (λ l. get_or l k []) (sym passed))
    ∙ sym (pieces_of-take bytes (length (unread ++ taken)) k) ∙ ap (λ l. get_or (pieces_of l) k []) later

-- of a whole text of which a front was taken by the calls before, and more by the last: the bad line's end shows
-- in all that was taken
pub bad_line_shows_in_all : (all before unread taken : List ℕ) (left left' : Option (List ℕ)) (text : TextState) (number : ℕ)
    → Some all ≡ prepend_known before left → left ≡ prepend_known taken left'
    → Some text.bytes ≡ prepend_known unread left → Passed (whole_text all) text → text.line < number
    → EndShows (get_or (pieces_of (unread ++ taken)) (number - (text.line + 1)) []) left'
    → EndShows (get_or (pieces_of (before ++ taken)) (number - 1) []) left'
bad_line_shows_in_all all before unread taken left None text number given more known passed later shows =
    let none : Some all ≡ None = given ∙ ap (prepend_known before) more in
    absurd cc
bad_line_shows_in_all all before unread taken left (Some rest) text number given more known passed later shows =
    let whole : Some all ≡ Some (before ++ (taken ++ rest)) = given ∙ ap (prepend_known before) more in
    let bytes : Some text.bytes ≡ Some (unread ++ (taken ++ rest)) = known ∙ ap (prepend_known unread) more in
    let bytes_are : text.bytes ≡ unread ++ (taken ++ rest) = cc in
    let all_is : all ≡ before ++ (taken ++ rest) = cc in
    let none : text.line - 0 ≡ text.line = omega arith in
    let lines = ap pieces_of (sym bytes_are) ∙ passed.pieces ∙ ap (λ n. drop n (pieces_of all)) none in
    let same = same_piece all unread rest taken before text.line (number - (text.line + 1)) all_is lines in
    let index : text.line + (number - (text.line + 1)) ≡ number - 1 = omega arith in
    subst (λ n. EndShows (get_or (pieces_of (before ++ taken)) n []) (Some rest)) index (subst (λ piece. EndShows piece (Some rest)) (sym same) shows)
