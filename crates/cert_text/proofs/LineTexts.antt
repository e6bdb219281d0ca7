-- The text of a certificate, part by part.
use Rattle.std.proofs.Common.{◌≡◌, ℕ, List, [], ◌∷◌, ◌++◌, map, sym, ap, ◌∙◌, append_assoc, append-nil, refl}
use Rattle.std.specs.Prelude.{ℤ, codes, decimal, Result, Ok, Err, OnOk, OnErr}
use Rattle.std.specs.List.{flat_map}
use Rattle.std.specs.Fmt.{signed_decimal}
use Rattle.std.proofs.lemmas.Grind.{flat_map-append}
use Rattle.std.proofs.lemmas.List.Folds.{flat_map-map}
use Rattle.std.proofs.lemmas.List.Prefix.{front_rest}
use Rattle.call_sets.specs.Counting.{members}
use Rattle.elevator_model.specs.Snapshot.{Snapshot, spec_of, call_of}
use Rattle.search_model.specs.declared.PriceOf.{PriceOf}
use Rattle.search_model.specs.declared.WorthOf.{WorthOf}
use Rattle.search_model.specs.declared.Leaf.{Leaf}
use Rattle.search_model.specs.declared.Twig.{Twig}
use Rattle.lift_text.specs.Text.{word, words, line}
use Rattle.text_sections.specs.Canonical.{line_text, lines_text}
use Rattle.text_sections.proofs.CanonicalLemmas.{line_of_numbers}
use Rattle.cert_text.specs.Texts.{head_words, split_words, leaf_words, price_words, worth_words, end_words, item_lines, twig_lines, cert_lines, cert_text}
use Rattle.cert_text.specs.Texts.{BeginsWith}

-- ---- lines

ids_in_words : (id : ℕ → ℕ) (cars : List ℕ) → flat_map (λ c. word (id c)) cars ≡ flat_map (λ later. 32 ∷ later) (map (λ c. decimal (id c)) cars)
unfolding word
ids_in_words id cars = sym (flat_map-map (λ later. 32 ∷ later) (λ c. decimal (id c)) cars)

pub wrote_split : (s : Snapshot) (j part id : ℕ) (old front all new : List ℕ) → id ≡ (call_of s j).id → front ≡ old ++ words (codes "split") (id ∷ [])
    → all ≡ front ++ flat_map (λ c. word (spec_of s c).id) (members 16 part) → new ≡ all ++ 10 ∷ []
    → new ≡ old ++ line_text (split_words s j part)
unfolding words word
wrote_split s j part id old front all new own first second third =
    let name = codes "split" in
    let call = 32 ∷ decimal (call_of s j).id in
    let ids = flat_map (λ later. 32 ∷ later) (map (λ c. decimal (spec_of s c).id) (members 16 part)) in
    let ids_are = ids_in_words (λ c. (spec_of s c).id) (members 16 part) in
    third ∙ ap (λ (xs : List ℕ). xs ++ 10 ∷ [])
    (second ∙ ap (λ (xs : List ℕ). front ++ xs) ids_are
    ∙ ap (λ (xs : List ℕ). xs ++ ids)
    (first ∙ ap (λ (n : ℕ). old ++ (name ++ ((32 ∷ decimal n) ++ []))) own ∙ ap (λ (xs : List ℕ). old ++ (name ++ xs)) (append-nil call)))
    ∙ regroup old name call ids
  where
    regroup : (a b c d : List ℕ) → ((a ++ (b ++ c)) ++ d) ++ 10 ∷ [] ≡ a ++ ((b ++ (c ++ d)) ++ 10 ∷ [])
    regroup a b c d = simp append_assoc

pub wrote_price : (s : Snapshot) (p : PriceOf) (id : ℕ) (value : ℤ) (old front all new : List ℕ) → id ≡ (call_of s p.call).id → value ≡ p.price
    → front ≡ old ++ words (codes "price") (id ∷ []) → all ≡ front ++ 32 ∷ signed_decimal value → new ≡ all ++ 10 ∷ []
    → new ≡ old ++ line_text (price_words s p)
unfolding words word
wrote_price s p id value old front all new own same first second third =
    let name = codes "price" in
    let call = 32 ∷ decimal (call_of s p.call).id in
    let price = 32 ∷ signed_decimal p.price in
    third ∙ ap (λ (xs : List ℕ). xs ++ 10 ∷ [])
    (second ∙ ap (λ (z : ℤ). front ++ 32 ∷ signed_decimal z) same
    ∙ ap (λ (xs : List ℕ). xs ++ price)
    (first ∙ ap (λ (n : ℕ). old ++ (name ++ ((32 ∷ decimal n) ++ []))) own ∙ ap (λ (xs : List ℕ). old ++ (name ++ xs)) (append-nil call)))
    ∙ regroup old name call price ∙ ap (λ (xs : List ℕ). old ++ ((name ++ (call ++ xs)) ++ 10 ∷ [])) (sym (append-nil price))
  where
    regroup : (a b c d : List ℕ) → ((a ++ (b ++ c)) ++ d) ++ 10 ∷ [] ≡ a ++ ((b ++ (c ++ d)) ++ 10 ∷ [])
    regroup a b c d = simp append_assoc

pub wrote_worth : (s : Snapshot) (w : WorthOf) (id : ℕ) (old front middle all new : List ℕ) → id ≡ (spec_of s w.car).id
    → front ≡ old ++ words (codes "worth") (id ∷ []) → middle ≡ front ++ 32 ∷ signed_decimal w.worth → all ≡ middle ++ word w.claim → new ≡ all ++ 10 ∷ []
    → new ≡ old ++ line_text (worth_words s w)
unfolding words word
wrote_worth s w id old front middle all new own first second third fourth =
    let name = codes "worth" in
    let car = 32 ∷ decimal (spec_of s w.car).id in
    let worth = 32 ∷ signed_decimal w.worth in
    let claim = 32 ∷ decimal w.claim in
    fourth ∙ ap (λ (xs : List ℕ). xs ++ 10 ∷ [])
    (third ∙ ap (λ (xs : List ℕ). xs ++ claim)
    (second ∙ ap (λ (xs : List ℕ). xs ++ worth)
    (first ∙ ap (λ (n : ℕ). old ++ (name ++ ((32 ∷ decimal n) ++ []))) own ∙ ap (λ (xs : List ℕ). old ++ (name ++ xs)) (append-nil car))))
    ∙ regroup old name car worth claim ∙ ap (λ (xs : List ℕ). old ++ ((name ++ (car ++ (worth ++ xs))) ++ 10 ∷ [])) (sym (append-nil claim))
  where
    regroup : (a b c d e : List ℕ) → (((a ++ (b ++ c)) ++ d) ++ e) ++ 10 ∷ [] ≡ a ++ ((b ++ (c ++ (d ++ e))) ++ 10 ∷ [])
    regroup a b c d e = simp append_assoc

-- ---- several lines

pub prices_are : (s : Snapshot) (prices : List PriceOf) → flat_map (λ p. line_text (price_words s p)) prices ≡ lines_text (map (price_words s) prices)
prices_are s prices = sym (flat_map-map line_text (price_words s) prices)

pub worths_are : (s : Snapshot) (worths : List WorthOf) → flat_map (λ w. line_text (worth_words s w)) worths ≡ lines_text (map (worth_words s) worths)
worths_are s worths = sym (flat_map-map line_text (worth_words s) worths)

pub wrote_leaf : (s : Snapshot) (leaf : Leaf) (old first second new : List ℕ) → first ≡ old ++ line (codes "leaf") []
    → second ≡ first ++ lines_text (map (price_words s) leaf.prices) → new ≡ second ++ lines_text (map (worth_words s) leaf.worths)
    → new ≡ old ++ lines_text (leaf_words ∷ item_lines s leaf)
wrote_leaf s leaf old first second new one two three =
    let head = line_text leaf_words in
    let prices = lines_text (map (price_words s) leaf.prices) in
    let worths = lines_text (map (worth_words s) leaf.worths) in
    three ∙ ap (λ (xs : List ℕ). xs ++ worths)
    (two ∙ ap (λ (xs : List ℕ). xs ++ prices) (one ∙ ap (λ (xs : List ℕ). old ++ xs) (line_of_numbers (codes "leaf") [])))
    ∙ regroup old head prices worths
    ∙ ap (λ (xs : List ℕ). old ++ (head ++ xs)) (sym (flat_map-append line_text (map (price_words s) leaf.prices) (map (worth_words s) leaf.worths)))
  where
    regroup : (a b c d : List ℕ) → ((a ++ b) ++ c) ++ d ≡ a ++ (b ++ (c ++ d))
    regroup a b c d = simp append_assoc

twigs_are : (s : Snapshot) (tree : List Twig) → flat_map (λ twig. lines_text (twig_lines s twig)) tree ≡ lines_text (flat_map (twig_lines s) tree)
twigs_are s [] = refl
twigs_are s (twig ∷ tree) = ap (λ (xs : List ℕ). lines_text (twig_lines s twig) ++ xs) (twigs_are s tree)
    ∙ sym (flat_map-append line_text (twig_lines s twig) (flat_map (twig_lines s) tree))

pub wrote_cert : (s : Snapshot) (tree : List Twig) (old head body new : List ℕ) → head ≡ old ++ line (codes "certificate") (1 ∷ [])
    → body ≡ head ++ flat_map (λ twig. lines_text (twig_lines s twig)) tree → new ≡ body ++ line (codes "end") []
    → new ≡ old ++ cert_text s tree
unfolding cert_text cert_lines
wrote_cert s tree old head body new put_head put_body put_end =
    let first = line_text head_words in
    let twigs = flat_map (twig_lines s) tree in
    let last : List ℕ = line_text end_words in
    put_end ∙ ap (λ (xs : List ℕ). body ++ xs) (line_of_numbers (codes "end") [])
    ∙ ap (λ (xs : List ℕ). xs ++ last)
    (put_body ∙ ap (λ (xs : List ℕ). head ++ xs) (twigs_are s tree)
    ∙ ap (λ (xs : List ℕ). xs ++ lines_text twigs) (put_head ∙ ap (λ (xs : List ℕ). old ++ xs) (line_of_numbers (codes "certificate") (1 ∷ []))))
    ∙ regroup old first (lines_text twigs) last ∙ ap (λ (xs : List ℕ). old ++ (first ++ xs)) (sym (flat_map-append line_text twigs (end_words ∷ [])))
  where
    regroup : (a b c d : List ℕ) → ((a ++ b) ++ c) ++ d ≡ a ++ (b ++ (c ++ d))
    regroup a b c d = simp append_assoc

-- ---- what is said of an answer

pub ok_then : {X E P Q : Type 0} (answer : Result X E) → OnOk answer P → (P → Q) → OnOk answer Q
ok_then (Ok x) told more = more told
ok_then (Err e) told more = tt

pub err_then : {X E P Q : Type 0} (answer : Result X E) → OnErr answer P → (P → Q) → OnErr answer Q
err_then (Ok x) told more = tt
err_then (Err e) told more = more told

-- ---- where writing ended early

-- something was written behind what stood before
pub begins : (old new rest : List ℕ) → new ≡ old ++ rest → BeginsWith new old
begins old new rest is = is ∙ ap (λ (xs : List ℕ). old ++ xs) (sym (front_rest new old rest is))

-- and then more
pub begins_behind : (old mid new first rest : List ℕ) → mid ≡ old ++ first → new ≡ mid ++ rest → BeginsWith new old
begins_behind old mid new first rest one two =
    begins old new (first ++ rest) (two ∙ ap (λ (xs : List ℕ). xs ++ rest) one ∙ append_assoc old first rest)

-- ---- what is still to come

-- one more is written of those that are still to come
pub next_written : (w : ℕ → List ℕ) (out new whole : List ℕ) (left rest : List ℕ) (x : ℕ) → out ++ flat_map w left ≡ whole → left ≡ x ∷ rest → new ≡ out ++ w x
    → new ++ flat_map w rest ≡ whole
next_written w out new whole left rest x so_far first is =
    ap (λ (xs : List ℕ). xs ++ flat_map w rest) is ∙ append_assoc out (w x) (flat_map w rest) ∙ sym (ap (λ (xs : List ℕ). out ++ flat_map w xs) first) ∙ so_far
