-- What one line of a table says where it is taken.
use Rattle.std.proofs.Common.{◌≡◌, ℕ, ◌+◌, ◌-◌, ◌*◌, ◌/◌, ◌<◌, ◌≤◌, Bool, true, false, cond, List, [], ◌++◌, length, Option, None, Some, Ok, Err, ap, refl}
use Rattle.std.proofs.Common.{arith, ◌∙◌, sym, subst, eq-eqb}
use Rattle.std.specs.Prelude.{codes, nat_lt, ◌==◌}
use Rattle.std.proofs.lemmas.Bool.{ne_eqb}
use Rattle.std.proofs.lemmas.Bool.Decides.{nat_tests}
use Rattle.lift_text.specs.declared.codes.TextCode.{TextCode}
use Rattle.lift_text.specs.declared.codes.TextCode.TheVariants.{Missing, TooMany}
use Rattle.motion_table.specs.Tables.{columns, row_of, row_judged}
use Rattle.text_sections.specs.Judging.{Judged, ◌>>=◌}
use Rattle.text_sections.specs.Words.{is_word, exactly, number, named, says_end}
use Rattle.text_sections.specs.Sections.{Line, Step, goes_on, is_whole, is_bad, step_of}
use Rattle.text_sections.proofs.StepLemmas.{then-inv, then-ok, named-inv, named-ok}
use Rattle.text_sections.proofs.NumberLemmas.{number_one}
use Rattle.building_text.specs.BuildingText.{Begins, IsRowLine}
use Rattle.building_text.proofs.LineLemmas.{nothing, exactly_ok}
use Rattle.case_text.specs.declared.table_order.Due.TheVariants.{Times, End}
use Rattle.case_text.specs.TableOrder.{name_of, misplaced}
use Rattle.case_text.specs.TableDrafts.{Draft, no_draft, with_rows, taken, after}
use Rattle.case_text.specs.TableTexts.{says_head}

-- ---- the line that is due

-- the line was taken
abbrev pub IsTaken : Step Draft → Type 0
IsTaken (goes_on d) = Unit {0}
IsTaken (is_whole d) = Unit {0}
IsTaken (is_bad code) = ⊥

due_by_test : (due : Bool) (said : Judged (Step Draft)) (code : TextCode) (step : Step Draft) → IsTaken step → step_of (cond due said (Err code)) ≡ step
    → (due ≡ true) × (said ≡ Ok step)
due_by_test true (Ok made) code step good e = let same : made ≡ step = e in (refl, ap (λ (s : Step Draft). Ok s) same)
due_by_test true (Err other) code step good e = absurd (subst IsTaken (sym e) good)
due_by_test false said code step good e = absurd (subst IsTaken (sym e) good)

-- only the line that is due is taken
pub due_line : (d : Draft) (words : Line) (step : Step Draft) → IsTaken step → after d words ≡ step → (is_word words 0 (name_of d.due) ≡ true)
    × (taken d.due d words ≡ Ok step)
due_line d words step good e = due_by_test (is_word words 0 (name_of d.due)) (taken d.due d words) (misplaced d.due words) step good e

taken_by_test : (due : Bool) (said : Judged (Step Draft)) (code : TextCode) (step : Step Draft) → due ≡ true → said ≡ Ok step
    → step_of (cond due said (Err code)) ≡ step
taken_by_test true said code step named is = ap (λ (s : Judged (Step Draft)). step_of s) is
taken_by_test false said code step named is = absurd cc

-- and it is taken
pub line_taken : (d : Draft) (words : Line) (step : Step Draft) → is_word words 0 (name_of d.due) ≡ true → taken d.due d words ≡ Ok step → after d words ≡ step
line_taken d words step named is = taken_by_test (is_word words 0 (name_of d.due)) (taken d.due d words) (misplaced d.due words) step named is

-- ---- the first line

-- before the first line of times
abbrev pub begun : Draft
begun = record { due = Times None; times = [] }

pub head_said : (words : Line) (next : Draft) → after no_draft words ≡ goes_on next → (says_head words ≡ Ok 1) × (begun ≡ next)
head_said words next e =
    let line = due_line no_draft words (goes_on next) tt e in
    let count = then-inv (exactly words 2) (λ _. number words 1 1 1 >>= λ _. Ok (goes_on begun)) (goes_on next) line.1 in
    let version = then-inv (number words 1 1 1) (λ _. Ok (goes_on begun)) (goes_on next) count.2 in
    let step : Ok (goes_on begun) ≡ Ok (goes_on next) = version.2 in
    let one : number words 1 1 1 ≡ Ok 1 = version.1 ∙ ap (λ (n : ℕ). Ok n) (sym (number_one words version.0 version.1)) in
    let said : (exactly words 2 >>= λ _. number words 1 1 1) ≡ Ok 1 = then-ok (exactly words 2) (λ _. number words 1 1 1) count.0 1 count.1 one in
    let same : begun ≡ next = cc in
    (then-ok (named (codes "table") words) (λ _. exactly words 2 >>= λ _. number words 1 1 1) tt 1 (named-ok words (codes "table") line.0) said, same)

pub head_taken : (words : Line) → says_head words ≡ Ok 1 → after no_draft words ≡ goes_on begun
head_taken words says =
    let name = then-inv (named (codes "table") words) (λ _. exactly words 2 >>= λ _. number words 1 1 1) 1 says in
    let count = then-inv (exactly words 2) (λ _. number words 1 1 1) 1 name.2 in
    let version = then-ok (number words 1 1 1) (λ _. Ok (goes_on begun)) 1 (goes_on begun) count.2 refl in
    line_taken no_draft words (goes_on begun) (named-inv (is_word words 0 (codes "table")) name.0 name.1)
    (then-ok (exactly words 2) (λ _. number words 1 1 1 >>= λ _. Ok (goes_on begun)) count.0 (goes_on begun) count.1 version)

-- ---- the last line

pub end_said : (n : ℕ) (times : List ℕ) (words : Line) (step : Step Draft) → IsTaken step → after (record { due = End n; times = times }) words ≡ step
    → (is_whole (record { due = End n; times = times }) ≡ step) × (says_end words ≡ Ok tt)
end_said n times words step good e =
    let line = due_line (record { due = End n; times = times }) words step good e in
    let count = then-inv (exactly words 1) (λ _. Ok (is_whole (record { due = End n; times = times }))) step line.1 in
    let is : Ok (is_whole (record { due = End n; times = times })) ≡ Ok step = count.2 in
    let same : is_whole (record { due = End n; times = times }) ≡ step = cc in
    (same, then-ok (named (codes "end") words) (λ _. exactly words 1) tt tt (named-ok words (codes "end") line.0) count.1)

pub end_taken : (n : ℕ) (times : List ℕ) (words : Line) → says_end words ≡ Ok tt
    → after (record { due = End n; times = times }) words ≡ is_whole (record { due = End n; times = times })
end_taken n times words says =
    let name = then-inv (named (codes "end") words) (λ _. exactly words 1) tt says in
    line_taken (record { due = End n; times = times }) words (is_whole (record { due = End n; times = times }))
    (named-inv (is_word words 0 (codes "end")) name.0 name.1)
    (then-ok (exactly words 1) (λ _. Ok (is_whole (record { due = End n; times = times }))) tt (is_whole (record { due = End n; times = times })) name.2 refl)

-- ---- how many floors a line of times decides

exactly_given : (words : Line) (count : ℕ) → length words ≡ count → exactly words count ≡ Ok tt
exactly_given words count size =
    let enough : nat_lt (length words) count ≡ false = grind (arith, nat_tests) in
    let few : nat_lt count (length words) ≡ false = grind (arith, nat_tests) in
    rw (enough, few) refl

-- where they are known
pub floors_known : (n m : ℕ) (words : Line) → columns (Some n) words ≡ Ok m → (exactly words (n + 1) ≡ Ok tt) × (n ≡ m)
floors_known n m words e =
    let count = then-inv (exactly words (n + 1)) (λ _. Ok n) m e in
    let is : Ok n ≡ Ok m = count.2 in
    let same : n ≡ m = cc in
    (count.1, same)

-- and where the line decides it
pub floors_decided : (n : ℕ) (words : Line) → columns None words ≡ Ok n → (exactly words (n + 1) ≡ Ok tt) × (2 ≤ n) × (n ≤ 64)
floors_decided n words e = by_test (nat_lt (length words) 3) (nat_lt 65 (length words)) refl refl e
  where
    by_test : (few many : Bool) → nat_lt (length words) 3 ≡ few → nat_lt 65 (length words) ≡ many
        → (cond few (Err Missing) (Ok nothing) >>= λ (_ : Unit {0}). (cond many (Err TooMany) (Ok nothing) >>= λ (_ : Unit {0}). Ok (length words - 1))) ≡ Ok n
        → (exactly words (n + 1) ≡ Ok tt) × (2 ≤ n) × (n ≤ 64)
    by_test true many f m same = absurd cc
    by_test false true f m same = absurd cc
    by_test false false f m same =
        let is : length words - 1 ≡ n = cc in
        let low : 3 ≤ length words = grind (arith, nat_tests) in
        let high : length words ≤ 65 = grind (arith, nat_tests) in
        (exactly_given words (n + 1) (omega arith), omega arith, omega arith)

pub decided_by : (n : ℕ) (words : Line) → exactly words (n + 1) ≡ Ok tt → 2 ≤ n → n ≤ 64 → columns None words ≡ Ok n
decided_by n words count low high =
    let size = exactly_ok words (n + 1) tt count in
    let enough : nat_lt (length words) 3 ≡ false = grind (arith, nat_tests) in
    let few : nat_lt 65 (length words) ≡ false = grind (arith, nat_tests) in
    let is : length words - 1 ≡ n = omega arith in
    rw (enough, few, is) refl

pub known_by : (n : ℕ) (words : Line) → exactly words (n + 1) ≡ Ok tt → columns (Some n) words ≡ Ok n
known_by n words count = then-ok (exactly words (n + 1)) (λ _. Ok n) tt n count refl

-- ---- a line of times

-- a line of times was taken
pub record RowTaken (floors : Option ℕ) (times : List ℕ) (words : Line) (next : Draft) : Type 0 where
  pub name_is : Begins words (codes "times")
  pub count : ℕ
  pub decided : columns floors words ≡ Ok count
  pub row : List ℕ
  pub read : row_of (length times / count) words ≡ Ok row
  pub is : with_rows count (times ++ row) ≡ next

pub row_taken : (floors : Option ℕ) (times : List ℕ) (words : Line) (next : Draft) → after (record { due = Times floors; times = times }) words ≡ goes_on next
    → RowTaken floors times words next
row_taken floors times words next e =
    let line = due_line (record { due = Times floors; times = times }) words (goes_on next) tt e in
    let whole = then-inv (row_judged floors times words) (λ read. Ok (goes_on (with_rows read.0 (times ++ read.1)))) (goes_on next) line.1 in
    let count = then-inv (columns floors words) (λ n. row_of (length times / n) words >>= λ row. Ok (n, row)) whole.0 whole.1 in
    let row = then-inv (row_of (length times / count.0) words) (λ row. Ok (count.0, row)) whole.0 count.2 in
    let pair_is : Ok (count.0, row.0) ≡ Ok whole.0 = row.2 in
    let pair : (count.0, row.0) ≡ whole.0 = cc in
    let step : Ok (goes_on (with_rows whole.0.0 (times ++ whole.0.1))) ≡ Ok (goes_on next) = whole.2 in
    let made : with_rows whole.0.0 (times ++ whole.0.1) ≡ next = cc in
    record {
      name_is = line.0;
      count = count.0;
      decided = count.1;
      row = row.0;
      read = row.1;
      is = ap (λ (p : ℕ × List ℕ). with_rows p.0 (times ++ p.1)) pair
          ∙ made;
    }

-- a line of this many times is taken as they are
pub row_given : (floors : Option ℕ) (n floor : ℕ) (times : List ℕ) (words : Line) (row : List ℕ) → columns floors words ≡ Ok n → length times / n ≡ floor
    → IsRowLine n floor words row
    → after (record { due = Times floors; times = times }) words ≡ goes_on (with_rows n (times ++ row))
row_given floors n floor times words row decided at is =
    let read : row_of (length times / n) words ≡ Ok row = ap (λ (f : ℕ). row_of f words) at ∙ is.times in
    let judged : row_judged floors times words ≡ Ok (n, row) =
    then-ok (columns floors words) (λ m. row_of (length times / m) words >>= λ r. Ok (m, r)) n (n, row) decided
    (then-ok (row_of (length times / n) words) (λ r. Ok (n, r)) row (n, row) read refl) in
    line_taken (record { due = Times floors; times = times }) words (goes_on (with_rows n (times ++ row))) is.name_is
    (then-ok (row_judged floors times words) (λ read. Ok (goes_on (with_rows read.0 (times ++ read.1)))) (n, row)
    (goes_on (with_rows n (times ++ row))) judged refl)

-- ---- what is due after it

pub end_due : (n : ℕ) (times : List ℕ) → length times ≡ n * n → with_rows n times ≡ record { due = End n; times = times }
end_due n times full =
    let is : (length times == n * n) ≡ true = eq-eqb _ _ full in
    rw is refl

pub row_due : (n : ℕ) (times : List ℕ) → length times < n * n → with_rows n times ≡ record { due = Times (Some n); times = times }
row_due n times few =
    let is : (length times == n * n) ≡ false = ne_eqb _ _ (λ same. omega arith) in
    rw is refl

pub no_times : (n : ℕ) → 0 ≡ 0 * n
no_times n = omega arith

pub grown : (f n x r y : ℕ) → x ≡ f * n → r ≡ n → y ≡ x + r → y ≡ (f + 1) * n
grown f n x r y a b c = omega arith

pub all_grown : (f n y : ℕ) → f + 1 ≡ n → y ≡ (f + 1) * n → y ≡ n * n
all_grown f n y e a = omega (arith, ap (λ (k : ℕ). k * n) e)

pub some_left : (f n y : ℕ) → f + 1 + 1 ≤ n → y ≡ (f + 1) * n → y < n * n
some_left f n y e a = let left = n - (f + 1 + 1) in let is : f + 1 + 1 + left ≡ n = omega arith in omega (arith, ap (λ (k : ℕ). k * n) is)
