-- What a line is judged to be. No public clause cites this module.
use Rattle.std.specs.Prelude.{◌≡◌, ℕ, ◌<◌, ◌≤◌, Bool, true, false, nat_lt, List, length, Result, Ok, Err}
use Rattle.lift_text.specs.Lines.{is_clean, words_of}
use Rattle.lift_text.specs.declared.judge.Flaw.{Flaw}
use Rattle.lift_text.specs.declared.judge.Flaw.TheVariants.{OverLong, ForbiddenByte}

abbrev pub Judged : List ℕ → Result Bool Flaw → List (List ℕ) → Type 0
Judged line (Ok some) words = (length line ≤ 4096) × (is_clean line ≡ true) × (words ≡ words_of line) × (some ≡ nat_lt 0 (length (words_of line)))
Judged line (Err OverLong) words = 4096 < length line
Judged line (Err ForbiddenByte) words = (length line ≤ 4096) × (is_clean line ≡ false)
