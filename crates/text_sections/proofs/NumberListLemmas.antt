-- Several numbers of a line.
use Rattle.std.proofs.Common.{◌≡◌, ℕ, ◌+◌, ◌<◌, ◌≤◌, List, [], ◌∷◌, ◌++◌, length, drop, get_or, Result, Ok, Err, ap, refl, arith, ◌∙◌, sym, subst, append_assoc}
use Rattle.std.proofs.Common.{append-nil, drop-cons, add-one}
use Rattle.std.specs.Prelude.{All}
use Rattle.std.proofs.lemmas.List.{drop_all}
use Rattle.lift_text.specs.Numbers.{digits_number}
use Rattle.lift_text.specs.declared.codes.TextCode.{TextCode}
use Rattle.text_sections.specs.declared.faults.LineFault.{LineFault}
use Rattle.text_sections.specs.declared.faults.LineFault.TheVariants.{Bad}
use Rattle.text_sections.specs.Judging.{Judged, ◌>>=◌}
use Rattle.text_sections.specs.Words.{within, number}
use Rattle.text_sections.specs.NumberLists.{numbers_of, numbers, Appends}
use Rattle.text_sections.proofs.NumberLemmas.{within_high}
use Rattle.text_sections.proofs.StepLemmas.{then-inv}
use Rattle.text_sections.proofs.EachLemmas.{all_more}

-- items in front of others
abbrev pub with_front : List ℕ → Judged (List ℕ) → Judged (List ℕ)
with_front front judged = judged >>= λ rest. Ok (front ++ rest)

-- some items were read, and they stand behind what there was
pub record ReadSome (words : List (List ℕ)) (from low high k : ℕ) (old now : List ℕ) : Type 0 where
  pub front : List ℕ
  pub behind : now ≡ old ++ front
  pub rest : numbers words from low high ≡ with_front front (numbers words k low high)

with_none : (judged : Judged (List ℕ)) → judged ≡ with_front [] judged
with_none (Ok items) = refl
with_none (Err code) = refl

pub read_none : (words : List (List ℕ)) (from low high : ℕ) (old : List ℕ) → ReadSome words from low high from old old
read_none words from low high old = record { front = []; behind = sym (append-nil old); rest = with_none (numbers words from low high) }

front_append : (front : List ℕ) (n : ℕ) (judged : Judged (List ℕ)) → with_front front (judged >>= λ ns. Ok (n ∷ ns)) ≡ with_front (front ++ n ∷ []) judged
front_append front n (Ok items) = ap Ok (sym (append_assoc front (n ∷ []) items))
front_append front n (Err code) = refl

next_number : (words : List (List ℕ)) (k low high : ℕ) → k < length words
    → numbers words k low high ≡ (number words k low high >>= λ n. (numbers words (k + 1) low high >>= λ ns. Ok (n ∷ ns)))
next_number words k low high inside =
    ap (numbers_of low high) (drop-cons words k [] inside)
    ∙ ap (λ i. within low high (digits_number (get_or words k [])) >>= λ n. (numbers words i low high >>= λ ns. Ok (n ∷ ns))) (sym (add-one k))

pub read_more : (words : List (List ℕ)) (from low high k n : ℕ) (old now new : List ℕ) → k < length words → ReadSome words from low high k old now
    → Ok n ≡ number words k low high → new ≡ now ++ n ∷ []
    → ReadSome words from low high (k + 1) old new
read_more words from low high k n old now new inside so_far is pushed = record {
  front = so_far.front ++ n ∷ [];
  behind = pushed ∙ ap (λ l. l ++ n ∷ []) so_far.behind ∙ append_assoc old so_far.front (n ∷ []);
  rest = so_far.rest ∙ ap (with_front so_far.front) (next_number words k low high inside)
      ∙ ap (λ j. with_front so_far.front (j >>= λ m. (numbers words (k + 1) low high >>= λ ns. Ok (m ∷ ns)))) (sym is)
      ∙ front_append so_far.front n (numbers words (k + 1) low high);
}

pub read_bad : (words : List (List ℕ)) (from low high k : ℕ) (old now : List ℕ) (code : TextCode) → k < length words → ReadSome words from low high k old now
    → Err code ≡ number words k low high
    → numbers words from low high ≡ Err code
read_bad words from low high k old now code inside so_far is =
    so_far.rest ∙ ap (with_front so_far.front) (next_number words k low high inside)
    ∙ ap (λ j. with_front so_far.front (j >>= λ m. (numbers words (k + 1) low high >>= λ ns. Ok (m ∷ ns)))) (sym is)

none_left : (words : List (List ℕ)) (k : ℕ) → length words ≤ k → drop k words ≡ []
none_left words k past = drop_all k words past

pub read_all : (words : List (List ℕ)) (from low high k : ℕ) (old now : List ℕ) → length words ≤ k → ReadSome words from low high k old now
    → (items : List ℕ) × (numbers words from low high ≡ Ok items) × (now ≡ old ++ items)
read_all words from low high k old now past so_far = (
  so_far.front,
  so_far.rest ∙ ap (λ ws. with_front so_far.front (numbers_of low high ws)) (none_left words k past) ∙ ap Ok (append-nil so_far.front),
  so_far.behind,
)

pub appends_bad : (judged : Judged (List ℕ)) (old new : List ℕ) (answer : Result Unit LineFault) (fault : LineFault) (code : TextCode) → answer ≡ Err fault
    → fault ≡ Bad code → judged ≡ Err code
    → Appends judged old answer new
appends_bad judged old new answer fault code failed is bad = subst (λ (a : Result Unit LineFault). Appends judged old a new) (sym (failed ∙ ap Err is)) bad

pub numbers_high : (words : List (List ℕ)) (low high : ℕ) (items : List ℕ) → numbers_of low high words ≡ Ok items → All (λ n. n ≤ high) items
numbers_high [] low high [] is = λ k d below. absurd (omega arith)
numbers_high [] low high (n ∷ items) is = absurd cc
numbers_high (word ∷ words) low high items is =
    let first = then-inv (within low high (digits_number word)) (λ n. numbers_of low high words >>= λ ns. Ok (n ∷ ns)) items is in
    let later = then-inv (numbers_of low high words) (λ ns. Ok (first.0 ∷ ns)) items first.2 in
    let same : first.0 ∷ later.0 ≡ items = cc in
    subst (All (λ n. n ≤ high)) same
    (all_more (λ n. n ≤ high) first.0 later.0 (within_high low high first.0 (digits_number word) first.1) (numbers_high words low high later.0 later.1))
