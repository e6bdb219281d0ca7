-- The text of a building, piece by piece.
use Rattle.std.specs.Prelude.{OnOk, Result, Ok, Err}
use Rattle.std.proofs.Common.{◌≡◌, ℕ, ◌+◌, Bool, true, false, cond, List, [], ◌∷◌, ◌++◌, map, refl, sym, ap, ◌∙◌, append_assoc, append-nil, arith}
use Rattle.std.specs.Prelude.{decimal}
use Rattle.std.specs.List.{flat_map, filter, range_with_len}
use Rattle.std.proofs.lemmas.List.{map-id, flat_map_more}
use Rattle.std.proofs.lemmas.List.FromFn.{map-range_with_len_more, filter_of_map_range_with_len_more}
use Rattle.lift_text.specs.Text.{word, words}
use Rattle.text_sections.specs.Sections.{Line}
use Rattle.text_sections.specs.Canonical.{line_text, lines_text}
use Rattle.building_text.specs.Written.{named}

abbrev pub later_words : Line → List ℕ
later_words words = flat_map (λ later. 32 ∷ later) words

pub words_of : (ns : List ℕ) → flat_map word ns ≡ later_words (map decimal ns)
unfolding word
words_of [] = refl
words_of (n ∷ ns) = ap (λ rest. (32 ∷ decimal n) ++ rest) (words_of ns)

pub later_append : (xs ys : Line) → later_words (xs ++ ys) ≡ later_words xs ++ later_words ys
later_append [] ys = refl
later_append (x ∷ xs) ys = ap (λ rest. (32 ∷ x) ++ rest) (later_append xs ys) ∙ sym (append_assoc (32 ∷ x) (later_words xs) (later_words ys))

pub lines_append : (xs ys : List Line) → lines_text (xs ++ ys) ≡ lines_text xs ++ lines_text ys
lines_append [] ys = refl
lines_append (x ∷ xs) ys = ap (λ rest. line_text x ++ rest) (lines_append xs ys) ∙ sym (append_assoc (line_text x) (lines_text xs) (lines_text ys))

pub lines_map : {X : Type 0} (f : X → Line) (xs : List X) → lines_text (map f xs) ≡ flat_map (λ x. line_text (f x)) xs
lines_map f [] = refl
lines_map f (x ∷ xs) = ap (λ rest. line_text (f x) ++ rest) (lines_map f xs)

pub words_map : (f : ℕ → ℕ) (xs : List ℕ) → flat_map (λ x. word (f x)) xs ≡ later_words (map decimal (map f xs))
unfolding word
words_map f [] = refl
words_map f (x ∷ xs) = ap (λ rest. (32 ∷ decimal (f x)) ++ rest) (words_map f xs)

range_more : (n : ℕ) → range_with_len 0 (n + 1) ≡ range_with_len 0 n ++ n ∷ []
range_more n =
    sym (map-id (range_with_len 0 (n + 1))) ∙ map-range_with_len_more (λ (x : ℕ). x) 0 n n (omega arith)
    ∙ ap (λ (xs : List ℕ). xs ++ n ∷ []) (map-id (range_with_len 0 n))

flat_map_range_more : (f : ℕ → List ℕ) (bs : List ℕ) (n : ℕ) → (bs ++ flat_map f (range_with_len 0 n)) ++ f n ≡ bs ++ flat_map f (range_with_len 0 (n + 1))
flat_map_range_more f bs n = flat_map_more f bs (range_with_len 0 n) n ∙ ap (λ (xs : List ℕ). bs ++ flat_map f xs) (sym (range_more n))

pub filter_range_more : (test : ℕ → Bool) (n : ℕ) → filter test (range_with_len 0 (n + 1)) ≡ filter test (range_with_len 0 n) ++ cond (test n) (n ∷ []) []
filter_range_more test n =
    ap (filter test) (sym (map-id (range_with_len 0 (n + 1)))) ∙ filter_of_map_range_with_len_more test (λ (x : ℕ). x) 0 n n (omega arith)
    ∙ ap (λ (xs : List ℕ). filter test xs ++ cond (test n) (n ∷ []) []) (map-id (range_with_len 0 n))

text_of_passed : (test : ℕ → Bool) (f : ℕ → List ℕ) (bs : List ℕ) (n : ℕ) → test n ≡ true
    → (bs ++ flat_map f (filter test (range_with_len 0 n))) ++ f n ≡ bs ++ flat_map f (filter test (range_with_len 0 (n + 1)))
text_of_passed test f bs n passes =
    flat_map_more f bs (filter test (range_with_len 0 n)) n
    ∙ ap (λ (xs : List ℕ). bs ++ flat_map f xs)
    (sym (filter_range_more test n ∙ ap (λ (b : Bool). filter test (range_with_len 0 n) ++ cond b (n ∷ []) []) passes))

pub text_of_failed : (test : ℕ → Bool) (f : ℕ → List ℕ) (bs : List ℕ) (n : ℕ) → test n ≡ false
    → bs ++ flat_map f (filter test (range_with_len 0 n)) ≡ bs ++ flat_map f (filter test (range_with_len 0 (n + 1)))
text_of_failed test f bs n fails =
    ap (λ (xs : List ℕ). bs ++ flat_map f xs)
    (sym (filter_range_more test n ∙ ap (λ (b : Bool). filter test (range_with_len 0 n) ++ cond b (n ∷ []) []) fails
    ∙ append-nil (filter test (range_with_len 0 n))))

-- ---- the steps of loops that write the text of each number of a range

pub wrote_one : (f : ℕ → List ℕ) (old out new piece : List ℕ) (n : ℕ) → out ≡ old ++ flat_map f (range_with_len 0 n) → new ≡ out ++ piece → piece ≡ f n
    → new ≡ old ++ flat_map f (range_with_len 0 (n + 1))
wrote_one f old out new piece n so_far one same =
    one ∙ ap (λ (x : List ℕ). x ++ piece) so_far ∙ ap (λ (x : List ℕ). (old ++ flat_map f (range_with_len 0 n)) ++ x) same ∙ flat_map_range_more f old n

pub wrote_passed : (test : ℕ → Bool) (f : ℕ → List ℕ) (old out new : List ℕ) (n : ℕ) → out ≡ old ++ flat_map f (filter test (range_with_len 0 n))
    → new ≡ out ++ f n → test n ≡ true → new ≡ old ++ flat_map f (filter test (range_with_len 0 (n + 1)))
wrote_passed test f old out new n so_far one passes = one ∙ ap (λ (x : List ℕ). x ++ f n) so_far ∙ text_of_passed test f old n passes

-- ---- lines from their pieces

pub row_text : (old name : List ℕ) (f : ℕ → ℕ) (xs out new : List ℕ) → out ≡ (old ++ name) ++ flat_map (λ g. word (f g)) xs → new ≡ out ++ 10 ∷ []
    → new ≡ old ++ line_text (named name (map f xs))
row_text old name f xs out new so_far last =
    last ∙ ap (λ o. o ++ 10 ∷ []) (so_far ∙ ap (λ later. (old ++ name) ++ later) (words_map f xs)) ∙ simp append_assoc

pub car_text : (old name ns : List ℕ) (served : Line) (o1 o2 new : List ℕ) → o1 ≡ old ++ words name ns → o2 ≡ o1 ++ later_words served → new ≡ o2 ++ 10 ∷ []
    → new ≡ old ++ line_text (named name ns ++ served)
unfolding words
car_text old name ns served o1 o2 new first second last =
    let numbers : o1 ≡ old ++ (name ++ later_words (map decimal ns)) = first ∙ ap (λ later. old ++ (name ++ later)) (words_of ns) in
    let wrote : new ≡ ((old ++ (name ++ later_words (map decimal ns))) ++ later_words served) ++ 10 ∷ [] = last
    ∙ ap (λ o. o ++ 10 ∷ []) (second ∙ ap (λ o. o ++ later_words served) numbers) in
    let joined : ((old ++ (name ++ later_words (map decimal ns))) ++ later_words served) ++ 10 ∷ [] ≡ old
    ++ ((name ++ (later_words (map decimal ns) ++ later_words served)) ++ 10 ∷ []) = simp append_assoc in
    wrote ∙ joined ∙ sym (ap (λ later. old ++ ((name ++ later) ++ 10 ∷ [])) (later_append (map decimal ns) served))

pub on_ok : {A E P Q : Type 0} (answer : Result A E) → (P → Q) → OnOk answer P → OnOk answer Q
on_ok (Ok x) more known = more known
on_ok (Err e) more known = tt

-- the pieces of a building, one behind another
pub pieces : (l1 l2 l3 l4 l6 l9 : Line) (patience times cars : List Line) (old o1 o2 o3 o4 o5 o6 o7 o8 new : List ℕ)
    → o1 ≡ old ++ line_text l1 → o2 ≡ o1 ++ line_text l2 → o3 ≡ o2 ++ line_text l3 → o4 ≡ o3 ++ line_text l4 → o5 ≡ o4 ++ lines_text patience
    → o6 ≡ o5 ++ line_text l6 → o7 ≡ o6 ++ lines_text times → o8 ≡ o7 ++ lines_text cars → new ≡ o8 ++ line_text l9
    → new ≡ old ++ lines_text (l1 ∷ l2 ∷ l3 ∷ l4 ∷ (patience ++ l6 ∷ (times ++ (cars ++ l9 ∷ []))))
pieces l1 l2 l3 l4 l6 l9 patience times cars old o1 o2 o3 o4 o5 o6 o7 o8 new e1 e2 e3 e4 e5 e6 e7 e8 e9 =
    let end = lines_append cars (l9 ∷ []) in
    let middle = lines_append times (cars ++ l9 ∷ []) ∙ ap (λ t. lines_text times ++ t) end in
    let all = lines_append patience (l6 ∷ (times ++ (cars ++ l9 ∷ []))) ∙ ap (λ t. lines_text patience ++ (line_text l6 ++ t)) middle in
    let wrote : new ≡ ((((((((old ++ line_text l1) ++ line_text l2) ++ line_text l3) ++ line_text l4) ++ lines_text patience) ++ line_text l6)
    ++ lines_text times) ++ lines_text cars) ++ line_text l9 = cc in
    wrote ∙ regroup old (line_text l1) (line_text l2) (line_text l3) (line_text l4) (lines_text patience) (line_text l6) (lines_text times) (lines_text cars)
    (line_text l9)
    ∙ ap (λ t. old ++ (line_text l1 ++ (line_text l2 ++ (line_text l3 ++ (line_text l4 ++ t))))) (sym all)
  where
    regroup : (old a b c d e f g h i : List ℕ)
        → ((((((((old ++ a) ++ b) ++ c) ++ d) ++ e) ++ f) ++ g) ++ h) ++ i ≡ old ++ (a ++ (b ++ (c ++ (d ++ (e ++ (f ++ (g ++ (h ++ (i ++ [])))))))))
    regroup old a b c d e f g h i = simp (append_assoc, append-nil)
