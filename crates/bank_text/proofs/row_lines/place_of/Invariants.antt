use Rattle.std.proofs.Common.{◌≡◌, ◌<◌, ℕ, Some}
use Rattle.std.specs.Prelude.{slice_get}
use Rattle.bank_text.specs.Banks.{ids_of}
use Rattle.bank_text.proofs.row_lines.place_of.Given as goal

abbrev pub invariant-loop-place : goal.invariant-loop-place
invariant-loop-place l = (k : ℕ) → k < l.place → slice_get (ids_of l.banks) k ≡ Some l.id → ⊥
