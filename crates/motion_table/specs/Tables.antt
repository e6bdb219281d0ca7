-- The lines of a table of measured times: `times T0 T1 ..`, one for each floor.
use Rattle.std.specs.Prelude.{◌≡◌, ℕ, ◌+◌, ◌-◌, ◌*◌, ◌/◌, ◌==◌, ◌&&◌, Bool, true, nat_lt, List, [], ◌∷◌, ◌++◌, length, Option, IfSome, ◌≤◌, None, Some, Result}
use Rattle.std.specs.Prelude.{Ok, Err, codes, refl, if◌then◌else◌}
use Rattle.lift_text.specs.Reading.{TextState, line_with, finished}
use Rattle.lift_text.specs.declared.faults.TextFault.{TextFault}
use Rattle.lift_text.specs.declared.codes.TextCode.TheVariants.{NoLineWord, Missing, TooMany, OutOfRange, CutShort, NoTime}
use Rattle.text_sections.specs.declared.faults.LineFault.{LineFault}
use Rattle.text_sections.specs.declared.faults.LineFault.TheVariants.{Bad, NoMemory}
use Rattle.text_sections.specs.Judging.{Judged, ◌>>=◌}
use Rattle.text_sections.specs.Words.{is_word, at_least, at_most, exactly}
use Rattle.text_sections.specs.NumberLists.{numbers}
use Rattle.text_sections.specs.Sections.{Line, Step, goes_on, is_whole, step_of, ReadAs, accepted, refused, outcome}

-- what was read of a table: how many floors it has, if that is known, and the times of its lines in ms
pub record TableState : Type 0 where
  pub floors : Option ℕ
  pub times : List ℕ

abbrev pub no_rows : Option ℕ → TableState
no_rows floors = record { floors = floors; times = [] }

-- the number of floors, which the first line decides where it is not known
abbrev pub columns : Option ℕ → Line → Judged ℕ
columns (Some floors) words = exactly words (floors + 1) >>= λ _. Ok floors
columns None words = at_least words 3 >>= λ _. (at_most words 65 >>= λ _. Ok (length words - 1))

-- times from floor k on are 0 at this floor alone
abbrev pub rests_at : ℕ → ℕ → List ℕ → Bool
rests_at floor k [] = true
rests_at floor k (time ∷ times) = (if k == floor then time == 0 else nat_lt 0 time) && rests_at floor (k + 1) times

-- the times of a line, which are those from this floor
abbrev pub row_of : ℕ → Line → Judged (List ℕ)
row_of floor words = numbers words 1 0 20000000 >>= λ times. if rests_at floor 0 times then Ok times else Err NoTime

-- the number of floors and the times of a line, behind those of the lines before it
abbrev pub row_judged : Option ℕ → List ℕ → Line → Judged (ℕ × List ℕ)
row_judged floors times words = columns floors words >>= λ n. (row_of (length times / n) words >>= λ row. Ok (n, row))

-- the times of a line stand behind those before it, or the answer is its code; nothing is said where memory
-- ran out
abbrev pub RowRead : Judged (ℕ × List ℕ) → List ℕ → Result ℕ LineFault → List ℕ → Type 0
RowRead judged old (Ok floors) new = (row : List ℕ) × (judged ≡ Ok (floors, row)) × (new ≡ old ++ row)
RowRead judged old (Err (Bad code)) new = judged ≡ Err code
RowRead judged old (Err NoMemory) new = Unit {0}

-- a table with one more line, which is whole once each floor has one
abbrev pub with_row : ℕ → List ℕ → Step TableState
with_row floors times =
    if length times == floors * floors then is_whole (record { floors = Some floors; times = times })
    else goes_on (record { floors = Some floors; times = times })

abbrev pub judged : TableState → Line → Judged (Step TableState)
judged state words =
    if is_word words 0 (codes "times")
    then (row_judged state.floors state.times words >>= λ read. Ok (with_row read.0 (state.times ++ read.1)))
    else Err NoLineWord

abbrev pub after : TableState → Line → Step TableState
after state words = step_of (judged state words)

-- the number of floors of a table, where it is known
abbrev pub AreFloors : Option ℕ → Type 0
AreFloors floors = IfSome floors (λ n. (2 ≤ n) × (n ≤ 64))

-- these times were read as a table, and this is left
abbrev pub IsReadTable : Option TextState → Option ℕ → List ℕ → Option TextState → Type 0
IsReadTable before floors times now = (end : TableState) × (end.times ≡ times) × ReadAs after before (no_rows floors) (Ok tt) end now

-- this fault is what is read of a table
abbrev pub IsRefusedTable : Option TextState → Option ℕ → TextFault → Option TextState → Type 0
IsRefusedTable before floors fault now = (end : TableState) × ReadAs after before (no_rows floors) (Err fault) end now

-- ---- worked rows

abbrev times_line : List (List ℕ) → Line
times_line words = codes "times" ∷ words

table_row : outcome after (line_with 2 (times_line (codes "0" ∷ codes "5000" ∷ [])) (line_with 3 (times_line (codes "4999" ∷ codes "0" ∷ [])) (finished 7)))
    (no_rows (Some 2))
    ≡ accepted (record { floors = Some 2; times = 0 ∷ 5000 ∷ 4999 ∷ 0 ∷ [] }) (finished 7)
table_row = refl

zero_row : outcome after (line_with 7 (times_line (codes "1" ∷ codes "5000" ∷ [])) (finished 7)) (no_rows (Some 2)) ≡ refused 7 NoTime
zero_row = refl

between_row : outcome after (line_with 7 (times_line (codes "0" ∷ codes "0" ∷ [])) (finished 7)) (no_rows None) ≡ refused 7 NoTime
between_row = refl

short_row : outcome after (line_with 2 (times_line (codes "0" ∷ codes "5000" ∷ [])) (line_with 3 (times_line (codes "4999" ∷ [])) (finished 7))) (no_rows None)
    ≡ refused 3 Missing
short_row = refl

long_row : outcome after (line_with 2 (times_line (codes "0" ∷ codes "5000" ∷ codes "1" ∷ [])) (finished 7)) (no_rows (Some 2)) ≡ refused 2 TooMany
long_row = refl

range_row : outcome after (line_with 2 (times_line (codes "1" ∷ codes "20000001" ∷ [])) (finished 7)) (no_rows None) ≡ refused 2 OutOfRange
range_row = refl

cut_row : outcome after (line_with 2 (times_line (codes "0" ∷ codes "5000" ∷ [])) (finished 7)) (no_rows None) ≡ refused 8 CutShort
cut_row = refl
