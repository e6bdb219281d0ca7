-- A small section, judged by computation: lines `set N once` or `set N twice` with N from 1 to 9, at least
-- one, and `end`. Its state is what the last line set.
use Rattle.std.specs.Prelude.{◌≡◌, ℕ, ◌*◌, List, [], ◌∷◌, Ok, Err, refl, codes, ◌==◌, if◌then◌else◌}
use Rattle.lift_text.specs.Reading.{Reading, line_with, finished, bad_line, past_limit}
use Rattle.lift_text.specs.declared.codes.TextCode.TheVariants.{NoLineWord, OutOfOrder, CutShort, Missing, TooMany, NoNumber, OutOfRange, ForbiddenByte}
use Rattle.text_sections.specs.declared.sections.AfterLine.{AfterLine}
use Rattle.text_sections.specs.declared.sections.AfterLine.TheVariants.{Whole}
use Rattle.text_sections.specs.Judging.{Judged, ◌>>=◌}
use Rattle.text_sections.specs.Words.{is_word, exactly, number}
use Rattle.text_sections.specs.Sections.{Line, Step, goes_on, is_whole, step_of, accepted, refused, too_long, outcome}

-- how often word 2 says
abbrev pub times : Line → Judged ℕ
times words = if is_word words 2 (codes "once") then Ok 1 else (if is_word words 2 (codes "twice") then Ok 2 else Err NoLineWord)

-- what `end` makes of the section, where a line stands before it
abbrev pub end_of : ℕ → Line → Judged AfterLine
end_of state words = if state == 0 then Err OutOfOrder else (exactly words 1 >>= λ _. Ok Whole)

-- what a `set` line sets
abbrev pub set_of : Line → Judged ℕ
set_of words = exactly words 3 >>= λ _. (number words 1 1 9 >>= λ n. (times words >>= λ k. Ok (n * k)))

abbrev pub judged : ℕ → Line → Judged (Step ℕ)
judged state words = if is_word words 0 (codes "end") then (end_of state words >>= λ _. Ok (is_whole state))
    else (if is_word words 0 (codes "set") then (set_of words >>= λ n. Ok (goes_on n)) else Err NoLineWord)

abbrev pub after : ℕ → Line → Step ℕ
after state words = step_of (judged state words)

-- ---- worked rows

abbrev set : List ℕ → List ℕ → Line
set n often = codes "set" ∷ n ∷ often ∷ []

abbrev end_line : Line
end_line = codes "end" ∷ []

abbrev one_set : Reading → Reading
one_set rest = line_with 2 (set (codes "7") (codes "twice")) rest

whole_row : outcome after (one_set (line_with 5 end_line (finished 9))) 0 ≡ accepted 14 (finished 9)
whole_row = refl

cut_row : outcome after (one_set (finished 6)) 0 ≡ refused 7 CutShort
cut_row = refl

unknown_row : outcome after (line_with 4 (codes "put" ∷ []) (finished 9)) 0 ≡ refused 4 NoLineWord
unknown_row = refl

fixed_row : outcome after (line_with 4 (set (codes "3") (codes "often")) (finished 9)) 0 ≡ refused 4 NoLineWord
fixed_row = refl

early_row : outcome after (line_with 3 (codes "end" ∷ codes "x" ∷ []) (finished 9)) 0 ≡ refused 3 OutOfOrder
early_row = refl

missing_row : outcome after (line_with 3 (codes "set" ∷ codes "x" ∷ []) (finished 9)) 0 ≡ refused 3 Missing
missing_row = refl

many_row : outcome after (one_set (line_with 3 (codes "end" ∷ codes "x" ∷ []) (finished 9))) 0 ≡ refused 3 TooMany
many_row = refl

none_row : outcome after (line_with 3 (set (codes "x") (codes "often")) (finished 9)) 0 ≡ refused 3 NoNumber
none_row = refl

range_row : outcome after (line_with 3 (set (codes "10") (codes "once")) (finished 9)) 0 ≡ refused 3 OutOfRange
range_row = refl

bad_row : outcome after (one_set (bad_line 4 ForbiddenByte)) 0 ≡ refused 4 ForbiddenByte
bad_row = refl

long_row : outcome after (one_set past_limit) 0 ≡ too_long
long_row = refl
