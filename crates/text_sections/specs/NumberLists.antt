-- Several numbers of a line.
use Rattle.std.specs.Prelude.{◌≡◌, ℕ, List, [], ◌∷◌, ◌++◌, drop, Result, Ok, Err}
use Rattle.lift_text.specs.Numbers.{digits_number}
use Rattle.text_sections.specs.declared.faults.LineFault.{LineFault}
use Rattle.text_sections.specs.declared.faults.LineFault.TheVariants.{Bad, NoMemory}
use Rattle.text_sections.specs.Judging.{Judged, ◌>>=◌}
use Rattle.text_sections.specs.Words.{within}

-- these words read as numbers from low to high, from left to right
abbrev pub numbers_of : ℕ → ℕ → List (List ℕ) → Judged (List ℕ)
numbers_of low high [] = Ok []
numbers_of low high (word ∷ words) = within low high (digits_number word) >>= λ n. (numbers_of low high words >>= λ ns. Ok (n ∷ ns))

-- the numbers of the words from this one on
abbrev pub numbers : List (List ℕ) → ℕ → ℕ → ℕ → Judged (List ℕ)
numbers words from low high = numbers_of low high (drop from words)

-- items that were judged stand behind what there was, or the answer is their code; nothing is said where
-- memory ran out
abbrev pub Appends : Judged (List ℕ) → List ℕ → Result Unit LineFault → List ℕ → Type 0
Appends judged old (Ok done) new = (items : List ℕ) × (judged ≡ Ok items) × (new ≡ old ++ items)
Appends judged old (Err (Bad code)) new = judged ≡ Err code
Appends judged old (Err NoMemory) new = Unit {0}
