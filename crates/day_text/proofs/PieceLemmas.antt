-- The lines of a text, joined again, are the text.
use Rattle.std.proofs.Common.{◌≡◌, ℕ, ◌+◌, ◌-◌, Bool, true, false, cond, eqb, List, [], ◌∷◌, ◌++◌, length, sym, refl, ap, ◌∙◌, arith, length-append}
use Rattle.std.proofs.lemmas.Bool.{eqb-true}
use Rattle.std.specs.List.{concat, onto_first}
use Rattle.lift_text.specs.Lines.{pieces_of}
use Rattle.lift_text.specs.Reading.{TextState, Passed}

joined_onto : (b : ℕ) (pieces : List (List ℕ)) → concat (onto_first b pieces) ≡ b ∷ concat pieces
joined_onto b [] = refl
joined_onto b (piece ∷ pieces) = refl

pub joined_again : (bytes : List ℕ) → concat (pieces_of bytes) ≡ bytes
joined_again [] = refl
joined_again (b ∷ bytes) = at (joined_again bytes) (eqb b 10)
  where
    at : concat (pieces_of bytes) ≡ bytes → (x : Bool)
        → concat (cond {A = List (List ℕ)} x ((b ∷ []) ∷ pieces_of bytes) (onto_first b (pieces_of bytes))) ≡ b ∷ bytes
    at again true = ap (λ (xs : List ℕ). b ∷ xs) again
    at again false = joined_onto b (pieces_of bytes) ∙ ap (λ (xs : List ℕ). b ∷ xs) again

-- texts with the same lines are the same
pub same_bytes : (xs ys : List ℕ) → pieces_of xs ≡ pieces_of ys → xs ≡ ys
same_bytes xs ys same = sym (joined_again xs) ∙ ap concat same ∙ joined_again ys

-- behind a line as many bytes less may be read as it has
pub limit_behind : (before now : TextState) (piece : List ℕ) → pieces_of before.bytes ≡ piece ∷ pieces_of now.bytes → Passed before now
    → now.limit ≡ before.limit - length piece
limit_behind before now piece pieces passed =
    let bytes : before.bytes ≡ piece ++ now.bytes = sym (joined_again before.bytes) ∙ ap concat pieces
    ∙ ap (λ (xs : List ℕ). piece ++ xs) (joined_again now.bytes) in
    let size : length before.bytes ≡ length piece + length now.bytes = ap length bytes ∙ length-append piece now.bytes in
    omega (arith, size, passed.limit)

pub no_bytes : (bytes : List ℕ) → eqb (length bytes) 0 ≡ true → bytes ≡ []
no_bytes [] none = refl
no_bytes (b ∷ bytes) none = let e = eqb-true (length (b ∷ bytes)) 0 none in absurd (omega (arith, e))
