-- What is known of a line where a step is known, and of an item that an id names.
use Rattle.std.proofs.Common.{◌≡◌, ℕ, ◌<◌, Bool, true, false, cond, ltb, List, length, get_or, None, Some, Result, Ok, Err, refl, ap, ◌∙◌, sym, subst, arith}
use Rattle.std.specs.Prelude.{nat_lt, if◌then◌else◌}
use Rattle.std.specs.List.{position, position_or_len}
use Rattle.std.proofs.lemmas.Bool.{ltb-true, lt-ltb, le-ltb}
use Rattle.std.proofs.lemmas.List.Sums.{position_or_len_is}
use Rattle.lift_text.specs.declared.codes.TextCode.{TextCode}
use Rattle.lift_text.specs.declared.codes.TextCode.TheVariants.{NoLineWord, UnknownId}
use Rattle.text_sections.specs.declared.faults.LineFault.{LineFault}
use Rattle.text_sections.specs.declared.faults.LineFault.TheVariants.{Bad}
use Rattle.text_sections.specs.Judging.{Judged, ◌>>=◌, in_order, known, Gives}
use Rattle.text_sections.specs.Words.{is_word, named}
use Rattle.text_sections.specs.Sections.{Line}

-- ---- steps of a chain

pub then-inv : {A B : Type 0} (j : Judged A) (f : A → Judged B) (y : B) → (j >>= f) ≡ Ok y → (x : A) × (j ≡ Ok x) × (f x ≡ Ok y)
then-inv (Ok x) f y e = (x, refl, e)
then-inv (Err code) f y e = absurd cc

pub then-ok : {A B : Type 0} (j : Judged A) (f : A → Judged B) (x : A) (y : B) → j ≡ Ok x → f x ≡ Ok y → (j >>= f) ≡ Ok y
then-ok j f x y e more = ap (λ judged. judged >>= f) e ∙ more

pub in_order-inv : (b : Bool) (u : Unit {0}) → in_order b ≡ Ok u → b ≡ true
in_order-inv true u e = refl
in_order-inv false u e = absurd cc

pub in_order-ok : (b : Bool) → b ≡ true → in_order b ≡ Ok tt
in_order-ok b e = ap in_order e

pub gives_bad : {X : Type 0} (judged : Judged X) (answer : Result X LineFault) (fault : LineFault) (code : TextCode) → answer ≡ Err fault → fault ≡ Bad code
    → judged ≡ Err code → Gives judged answer
gives_bad {X} judged answer fault code failed is bad = subst (λ (a : Result X LineFault). Gives judged a) (sym (failed ∙ ap Err is)) bad

-- ---- the first word

pub named-inv : (b : Bool) (u : Unit {0}) → (if b then Ok tt else Err NoLineWord) ≡ Ok u → b ≡ true
named-inv true u e = refl
named-inv false u e = absurd cc

pub named-ok : (words : Line) (name : List ℕ) → is_word words 0 name ≡ true → named name words ≡ Ok tt
named-ok words name is = ap (λ (e : Bool). if e then Ok tt else Err NoLineWord) is

-- one more word among those that a line may begin with
pub picked : {K : Type 0} (text_of : K → List ℕ) (words : Line) (b : Bool) (this word : K) (rest : Judged K)
    → (b ≡ true → is_word words 0 (text_of this) ≡ true) → (rest ≡ Ok word → is_word words 0 (text_of word) ≡ true)
    → (if b then Ok this else rest) ≡ Ok word → is_word words 0 (text_of word) ≡ true
picked {K} text_of words true this word rest here later e = let same : this ≡ word = cc in
    subst (λ (k : K). is_word words 0 (text_of k) ≡ true) same (here refl)
picked text_of words false this word rest here later e = later e

-- ---- items with ids

pub known-below : {X : Type 0} (p : X → Bool) (xs : List X) (k : ℕ) → known (position p xs) ≡ Ok k → k < length xs
known-below p xs k e = below (position_or_len p xs) (length xs) k e
  where
    cases : (is : Bool) (at count c : ℕ) → (is ≡ true → at < count) → known (if is then Some at else None) ≡ Ok c → c < count
    cases true at count c small same = let equal : at ≡ c = cc in omega (arith, small refl)
    cases false at count c small same = absurd cc

    below : (at count c : ℕ) → known (if nat_lt at count then Some at else None) ≡ Ok c → c < count
    below at count c same = cases (nat_lt at count) at count c (ltb-true at count) same

pub known-at : {X : Type 0} (p : X → Bool) (xs : List X) (k : ℕ) (d : X) → k < length xs → ((j : ℕ) → j < k → p (get_or xs j d) ≡ false)
    → p (get_or xs k d) ≡ true → Ok k ≡ known (position p xs)
known-at p xs k d below before here =
    let first = position_or_len_is p xs k d (omega arith) before (λ _. here) in
    let within : ltb (position_or_len p xs) (length xs) ≡ true = lt-ltb _ _ (omega (arith, first, below)) in
    ap known (sym (ap (λ is. cond is (Some (position_or_len p xs)) None) within ∙ ap Some first))

pub known-none : {X : Type 0} (p : X → Bool) (xs : List X) (d : X) → ((j : ℕ) → j < length xs → p (get_or xs j d) ≡ false)
    → Err UnknownId ≡ known (position p xs)
known-none p xs d none =
    let last = position_or_len_is p xs (length xs) d (omega arith) none (λ past. absurd (omega arith)) in
    let past : ltb (position_or_len p xs) (length xs) ≡ false = le-ltb _ _ (omega (arith, last)) in
    ap known (sym (ap (λ is. cond is (Some (position_or_len p xs)) None) past))
