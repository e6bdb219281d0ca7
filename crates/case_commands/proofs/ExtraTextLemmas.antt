-- The text of what one more call costs, part by part.
use Rattle.std.proofs.Common.{◌≡◌, ℕ, suc, ◌+◌, List, [], ◌∷◌, ◌++◌, sym, ap, ◌∙◌, append_assoc, append-nil, add-one, refl}
use Rattle.std.specs.Prelude.{ℤ, codes}
use Rattle.std.specs.Fmt.{signed_decimal}
use Rattle.elevator_model.specs.Snapshot.{Snapshot, spec_of}
use Rattle.lift_text.specs.Text.{words}
use Rattle.what_if.specs.declared.extras.Extra.{Extra}
use Rattle.what_if.specs.declared.regrets.Regret.{Regret}
use Rattle.what_if.specs.WhatIf.{extra_at}
use Rattle.case_commands.specs.WhatIfOutcome.{car_line, car_lines, nearest_line}

-- ---- the lines of the cars

pub no_lines : (s : Snapshot) (extras : List Extra) (text : List ℕ) → text ≡ text ++ car_lines s extras 0
unfolding car_lines
no_lines s extras text = sym (append-nil text)

next_line : (s : Snapshot) (extras : List Extra) (c : ℕ) → car_lines s extras c ++ car_line s c (extra_at extras c) ≡ car_lines s extras (suc c)
unfolding car_lines
next_line s extras c = refl

-- one line more
pub more_lines : (s : Snapshot) (extras : List Extra) (c : ℕ) (old text new : List ℕ) → text ≡ old ++ car_lines s extras c
    → new ≡ text ++ car_line s c (extra_at extras c) → new ≡ old ++ car_lines s extras (c + 1)
more_lines s extras c old text new so_far is =
    is ∙ ap (λ (xs : List ℕ). xs ++ car_line s c (extra_at extras c)) so_far ∙ append_assoc old (car_lines s extras c) (car_line s c (extra_at extras c))
    ∙ ap (λ (xs : List ℕ). old ++ xs) (next_line s extras c) ∙ ap (λ (n : ℕ). old ++ car_lines s extras n) (sym (add-one c))

-- ---- the line of the nearest car

pub wrote_nearest : (s : Snapshot) (regret : Regret) (id : ℕ) (low high : ℤ) (old front middle new : List ℕ) → id ≡ (spec_of s regret.car).id
    → low ≡ regret.low → high ≡ regret.high → front ≡ old ++ words (codes "nearest") (id ∷ [])
    → middle ≡ front ++ codes " regret " ++ signed_decimal low ++ (32 ∷ signed_decimal high) → new ≡ middle ++ 10 ∷ [] → new ≡ old ++ nearest_line s regret
wrote_nearest s regret id low high old front middle new own low_is high_is first second third =
    third ∙ ap (λ (xs : List ℕ). xs ++ 10 ∷ [])
    (second ∙ ap (λ (z : ℤ). front ++ codes " regret " ++ signed_decimal z ++ (32 ∷ signed_decimal high)) low_is
    ∙ ap (λ (z : ℤ). front ++ codes " regret " ++ signed_decimal regret.low ++ (32 ∷ signed_decimal z)) high_is
    ∙ ap (λ (xs : List ℕ). xs ++ codes " regret " ++ signed_decimal regret.low ++ (32 ∷ signed_decimal regret.high))
    (first ∙ ap (λ (n : ℕ). old ++ words (codes "nearest") (n ∷ [])) own))
    ∙ regroup old (words (codes "nearest") ((spec_of s regret.car).id ∷ [])) (codes " regret ") (signed_decimal regret.low) (32 ∷ signed_decimal regret.high)
  where
    regroup : (a b c d e : List ℕ) → ((((a ++ b) ++ c) ++ d) ++ e) ++ 10 ∷ [] ≡ a ++ ((((b ++ c) ++ d) ++ e) ++ 10 ∷ [])
    regroup a b c d e = simp append_assoc
