-- The text of what turns at the root tell, part by part.
use Rattle.std.proofs.Common.{◌≡◌, ℕ, suc, ◌+◌, List, [], ◌∷◌, ◌++◌, sym, ap, ◌∙◌, append_assoc, append-nil, add-one, refl}
use Rattle.std.specs.Prelude.{ℤ, pos, slice_index_or}
use Rattle.std.specs.Fmt.{signed_decimal}
use Rattle.lift_text.specs.Text.{words}
use Rattle.elevator_model.specs.Snapshot.{Snapshot}
use Rattle.search_model.specs.Prices.{price_at}
use Rattle.case_commands.specs.RootTexts.{price_line, price_lines, signed_line, worth_line, worth_lines}

-- ---- the lines of the calls

pub no_prices : (s : Snapshot) (prices : List ℤ) (text : List ℕ) → text ≡ text ++ price_lines s prices 0
unfolding price_lines
no_prices s prices text = sym (append-nil text)

next_price : (s : Snapshot) (prices : List ℤ) (j : ℕ) → price_lines s prices j ++ price_line s j (price_at prices j) ≡ price_lines s prices (suc j)
unfolding price_lines
next_price s prices j = refl

-- one line more
pub more_prices : (s : Snapshot) (prices : List ℤ) (j : ℕ) (price : ℤ) (old text new : List ℕ) → price ≡ price_at prices j
    → text ≡ old ++ price_lines s prices j → new ≡ text ++ price_line s j price → new ≡ old ++ price_lines s prices (j + 1)
more_prices s prices j price old text new at so_far is =
    is ∙ ap (λ (z : ℤ). text ++ price_line s j z) at ∙ ap (λ (xs : List ℕ). xs ++ price_line s j (price_at prices j)) so_far
    ∙ append_assoc old (price_lines s prices j) (price_line s j (price_at prices j)) ∙ ap (λ (xs : List ℕ). old ++ xs) (next_price s prices j)
    ∙ ap (λ (n : ℕ). old ++ price_lines s prices n) (sym (add-one j))

-- ---- the lines of the cars

pub no_worths : (s : Snapshot) (worths : List ℤ) (text : List ℕ) → text ≡ text ++ worth_lines s worths 0
unfolding worth_lines
no_worths s worths text = sym (append-nil text)

next_worth : (s : Snapshot) (worths : List ℤ) (c : ℕ)
    → worth_lines s worths c ++ worth_line s c (slice_index_or worths c (pos 0)) ≡ worth_lines s worths (suc c)
unfolding worth_lines
next_worth s worths c = refl

pub more_worths : (s : Snapshot) (worths : List ℤ) (c : ℕ) (worth : ℤ) (old text new : List ℕ) → worth ≡ slice_index_or worths c (pos 0)
    → text ≡ old ++ worth_lines s worths c → new ≡ text ++ worth_line s c worth → new ≡ old ++ worth_lines s worths (c + 1)
more_worths s worths c worth old text new at so_far is =
    is ∙ ap (λ (z : ℤ). text ++ worth_line s c z) at ∙ ap (λ (xs : List ℕ). xs ++ worth_line s c (slice_index_or worths c (pos 0))) so_far
    ∙ append_assoc old (worth_lines s worths c) (worth_line s c (slice_index_or worths c (pos 0)))
    ∙ ap (λ (xs : List ℕ). old ++ xs) (next_worth s worths c) ∙ ap (λ (n : ℕ). old ++ worth_lines s worths n) (sym (add-one c))

-- ---- parts one after another

pub wrote_signed : (name numbers : List ℕ) (z z' : ℤ) (old first second third new : List ℕ) → z' ≡ z → first ≡ old ++ words name numbers
    → second ≡ first ++ 32 ∷ [] → third ≡ second ++ signed_decimal z' → new ≡ third ++ 10 ∷ [] → new ≡ old ++ signed_line name numbers z
wrote_signed name numbers z z' old first second third new same one two three four =
    four ∙ ap (λ (xs : List ℕ). xs ++ 10 ∷ [])
    (three ∙ ap (λ (y : ℤ). second ++ signed_decimal y) same
    ∙ ap (λ (xs : List ℕ). xs ++ signed_decimal z) (two ∙ ap (λ (xs : List ℕ). xs ++ 32 ∷ []) one)) ∙ regroup old (words name numbers) (signed_decimal z)
  where
    regroup : (a b c : List ℕ) → (((a ++ b) ++ 32 ∷ []) ++ c) ++ 10 ∷ [] ≡ a ++ ((b ++ (32 ∷ c)) ++ 10 ∷ [])
    regroup a b c = simp append_assoc

pub two_parts : (old a b first new : List ℕ) → first ≡ old ++ a → new ≡ first ++ b → new ≡ old ++ (a ++ b)
two_parts old a b first new one two = two ∙ ap (λ (xs : List ℕ). xs ++ b) one ∙ append_assoc old a b

pub three_parts : (old a b c first second new : List ℕ) → first ≡ old ++ a → second ≡ first ++ b → new ≡ second ++ c → new ≡ old ++ ((a ++ b) ++ c)
three_parts old a b c first second new one two three = two_parts old (a ++ b) c second new (two_parts old a b first second one two) three

pub four_parts : (old a b c d first second third new : List ℕ) → first ≡ old ++ a → second ≡ first ++ b → third ≡ second ++ c → new ≡ third ++ d
    → new ≡ old ++ (((a ++ b) ++ c) ++ d)
four_parts old a b c d first second third new one two three four =
    two_parts old ((a ++ b) ++ c) d third new (three_parts old a b c first second third one two three) four
