-- The last line of a snapshot is the one that the text goes on right behind.
use Rattle.std.proofs.Common.{◌≡◌, ℕ, suc, ◌+◌, List, [], ◌∷◌, ◌++◌, length, Option, Some, None, Result, Ok, Err, IfOk, IfSome, sym, subst, refl, ap, ◌∙◌}
use Rattle.std.proofs.Common.{arith, length-append, false}
use Rattle.std.specs.Prelude.{OnOk, option_map}
use Rattle.std.specs.Io.KnownBytes.{prepend_known}
use Rattle.elevator_model.specs.Building.{Building}
use Rattle.elevator_model.specs.Snapshot.{Snapshot}
use Rattle.lift_text.specs.Page.{PageState, text_at, limit_of}
use Rattle.lift_text.specs.Reading.{TextState, Reading, reading, line_with, finished, bad_line, past_limit}
use Rattle.lift_text.specs.declared.faults.TextFault.{TextFault}
use Rattle.text_sections.specs.Sections.{Line}
use Rattle.text_sections.specs.Canonical.{BeginsWith}
use Rattle.text_sections.specs.Between.{AreBetween, StandsBehind}
use Rattle.building_text.specs.BuildingText.{IsBuildingText, StandsInFront}
use Rattle.snapshot_text.specs.Snapshots.{StandsFor, IsSaid}
use Rattle.case_text.specs.CaseTexts.{CaseInFront}
use Rattle.case_text.specs.AskedCases.{CaseEndsAt, IsReadUpToEnd}

-- ---- lines are counted

abbrev line_count : Reading → ℕ
line_count (line_with line words rest) = suc (line_count rest)
line_count (finished lines) = 0
line_count (bad_line line code) = 0
line_count past_limit = 0

counted : (lines : List Line) (read rest : Reading) → BeginsWith lines read rest → line_count read ≡ length lines + line_count rest
counted [] read rest is = let same = ap line_count is in omega (arith, same)
counted (words ∷ lines) read rest is =
    let later = counted lines is.1 rest is.3 in
    let first : line_count read ≡ suc (line_count is.1) = ap line_count is.2 in
    omega (arith, later, first)

-- what is read from one place begins with the lines up to the other
begins : (text : TextState) (lines : List Line) (behind : TextState) → AreBetween text lines behind → BeginsWith lines (reading text) (reading behind)
begins text [] behind steps = ap reading steps
begins text (words ∷ lines) behind steps = (steps.0.line, reading steps.0, steps.1.reads, begins steps.0 lines behind steps.2)

-- the same lines are as many
same_count : (text behind : TextState) (front : List Line) (last : Line) (lines : List Line) → BeginsWith (front ++ last ∷ []) (reading text) (reading behind)
    → AreBetween text lines behind → length lines ≡ length front + 1
same_count text behind front last lines is steps =
    let first = counted (front ++ last ∷ []) (reading text) (reading behind) is in
    let second = counted lines (reading text) (reading behind) (begins text lines behind steps) in
    let long = length-append front (last ∷ []) in
    omega (arith, first, second, long)

-- ---- the last line

same_words : (m n : ℕ) (x y : Line) (r s : Reading) → line_with m x r ≡ line_with n y s → x ≡ y
same_words m n x y r s e = cc

same_rest : (m n : ℕ) (x y : Line) (r s : Reading) → line_with m x r ≡ line_with n y s → r ≡ s
same_rest m n x y r s e = cc

last_line : (text behind : TextState) (front : List Line) (last : Line) (lines : List Line) → BeginsWith (front ++ last ∷ []) (reading text) (reading behind)
    → AreBetween text lines behind → length lines ≡ length front + 1
    → BeginsWith front (reading text) (line_with behind.line last (reading behind))
last_line text behind front last [] is steps long = absurd (omega (arith, long))
last_line text behind [] last (words ∷ []) is steps long =
    let both : line_with is.0 last is.1 ≡ line_with steps.0.line words (reading steps.0) = sym is.2 ∙ steps.1.reads in
    let same = same_words is.0 steps.0.line last words is.1 (reading steps.0) both in
    let here = subst (λ (t : TextState). reading text ≡ line_with t.line words (reading t)) steps.2 steps.1.reads in
    subst (λ (line : Line). reading text ≡ line_with behind.line line (reading behind)) (sym same) here
last_line text behind [] last (words ∷ next ∷ lines) is steps long = absurd (omega (arith, long))
last_line text behind (first ∷ front) last (words ∷ lines) is steps long =
    let both : line_with is.0 first is.1 ≡ line_with steps.0.line words (reading steps.0) = sym is.2 ∙ steps.1.reads in
    let rest = same_rest is.0 steps.0.line first words is.1 (reading steps.0) both in
    let later = last_line steps.0 behind front last lines (subst (λ (r : Reading). BeginsWith (front ++ last ∷ []) r (reading behind)) rest is.3) steps.2
    (omega (arith, long)) in
    (is.0, is.1, is.2, subst (λ (r : Reading). BeginsWith front r (line_with behind.line last (reading behind))) (sym rest) later)

-- ---- a case up to its last line

case_ends : (text between behind : TextState) (b : Building) (s : Snapshot) → StandsInFront (Some text) b (Some between)
    → IsSaid (Some between) b false s (Some behind) → StandsBehind (Some between) (Some behind)
    → CaseEndsAt (reading text) s behind.line (reading behind)
case_ends text between behind b s first said steps =
    let stands = said.2 in
    let same : s.building ≡ b = stands.building in
    let front = stands.head ∷ stands.moment ∷ (stands.cars ++ stands.groups ++ stands.calls) in
    let end = stands.end in
    let lines_are : said.0 ≡ front ++ end ∷ [] = stands.lines_are in
    let is = subst (λ (lines : List Line). BeginsWith lines (reading between) (reading behind)) lines_are said.1 in
    record {
      between = reading between;
      building = (first.0, first.1, subst (λ (c : Building). IsBuildingText first.0 c) (sym same) first.2);
      above = front;
      end = end;
      front = last_line between behind front end steps.0 is steps.1 (same_count between behind front end steps.0 is steps.1);
      stands = subst (λ (lines : List Line). StandsFor s.building false lines s) lines_are
          (subst (λ (c : Building). StandsFor c false said.0 s) (sym same) stands);
    }

pub read_up_to_end : (before between now : Option TextState) (b : Building) (answer : Result Snapshot TextFault) (number : ℕ) → StandsInFront before b between
    → IfOk answer (λ s. IsSaid between b false s now) → OnOk answer (StandsBehind between now)
    → IfSome now (λ t. t.line ≡ number) → IfOk answer (λ s. IsReadUpToEnd before s number now)
read_up_to_end None between now b (Ok s) number first said steps line = tt
read_up_to_end (Some text) None now b (Ok s) number first said steps line = absurd first
read_up_to_end (Some text) (Some between) None b (Ok s) number first said steps line = absurd said
read_up_to_end (Some text) (Some between) (Some behind) b (Ok s) number first said steps line =
    subst (λ (n : ℕ). CaseEndsAt (reading text) s n (reading behind)) line (case_ends text between behind b s first said steps)
read_up_to_end before between now b (Err fault) number first said steps line = tt

number_at : (page : PageState) (known : Option (List ℕ))
    → IfSome (option_map (λ bytes. record { line = page.line; limit = limit_of page; bytes = bytes }) known) (λ (t : TextState). t.line ≡ page.line)
number_at page None = tt
number_at page (Some bytes) = refl

-- what is left of the text stands behind as many lines as were read
pub number_of : (page : PageState) (left : Option (List ℕ)) → IfSome (text_at page left) (λ (t : TextState). t.line ≡ page.line)
number_of page left = number_at page (prepend_known page.unread left)

-- ---- such a case is a case in front

begins_more : (lines : List Line) (words : Line) (number : ℕ) (read rest : Reading) → BeginsWith lines read (line_with number words rest)
    → BeginsWith (lines ++ words ∷ []) read rest
begins_more [] words number read rest is = (number, rest, is, refl)
begins_more (first ∷ lines) words number read rest is = (is.0, is.1, is.2, begins_more lines words number is.1 rest is.3)

pub case_in_front : (read : Reading) (s : Snapshot) (line : ℕ) (rest : Reading) → CaseEndsAt read s line rest → CaseInFront read s rest
case_in_front read s line rest case = record {
  between = case.between;
  building = case.building;
  snapshot = (case.above ++ case.end ∷ [], begins_more case.above case.end line case.between rest case.front, case.stands);
}
