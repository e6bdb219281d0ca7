-- The texts of what an audit finds.
use Rattle.std.specs.Prelude.{ℕ, List, [], ◌∷◌, ◌++◌, codes}
use Rattle.lift_text.specs.Text.{line}
use Rattle.day_audit.specs.declared.logs.Audited.{Audited}

-- nothing is found: how many rows are accepted, and how many of these have a bound below their cost
abbrev pub yes_text : Audited → List ℕ
yes_text audited = line (codes "yes") (audited.accepted ∷ audited.unsolved ∷ [])

-- this line is not the one that is due
abbrev pub differs_text : (number : ℕ) → List ℕ
differs_text number = line (codes "no") (61 ∷ number ∷ [])

-- the certificate of this row does not prove its answer, and the lines of the reason
abbrev pub row_text : (row : ℕ) → (reason : List ℕ) → List ℕ
row_text row reason = line (codes "no") (62 ∷ row ∷ []) ++ reason
