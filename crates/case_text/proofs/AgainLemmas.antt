-- The canonical text of a case is the text of that case.
use Rattle.std.proofs.Common.{◌≡◌, ℕ, zero, suc, ◌+◌, ◌-◌, ◌*◌, ◌≤◌, List, [], ◌∷◌, ◌++◌, length, refl, sym, ap, subst, arith, append-nil, length-append, false}
use Rattle.std.specs.List.{AllByRecursion}
use Rattle.elevator_model.specs.Snapshot.{Snapshot}
use Rattle.lift_text.specs.Reading.{TextState, Reading, reading, whole_text, finished}
use Rattle.text_sections.specs.Sections.{Line}
use Rattle.text_sections.specs.Canonical.{IsLineOfWords, BeginsWith, joined, line_text, lines_text}
use Rattle.text_sections.proofs.CanonicalLemmas.{lines_again}
use Rattle.building_text.specs.Written.{building_lines, building_text}
use Rattle.building_text.proofs.AgainLemmas.{stands_again}
use Rattle.building_text.proofs.LengthLemmas.{building_short}
use Rattle.snapshot_text.specs.Texts.{snapshot_lines, snapshot_text, behind}
use Rattle.snapshot_text.proofs.Written.{text_stands, text_begins, text_good_lines}
use Rattle.case_text.specs.CaseTexts.{HasText, IsCaseText, case_text}

-- no line is longer than one of 4,096 bytes and its LF
pub lines_short : (lines : List Line) → AllByRecursion IsLineOfWords lines → length (lines_text lines) ≤ 4097 * length lines
lines_short [] all = omega arith
lines_short (words ∷ lines) all =
    let later = lines_short lines all.1 in
    let first = length-append (joined words) (10 ∷ []) in
    let size = length-append (line_text words) (lines_text lines) in
    let short = all.0.short in
    omega (arith, later, first, size, short)

pub case_again : (s : Snapshot) → HasText s → IsCaseText (case_text s) s
unfolding building_text snapshot_text
case_again s text =
    let b = s.building in
    let lines = building_lines b in
    let later = snapshot_text s in
    let size = length-append (building_text b) later in
    let room : length (lines_text lines) ≤ 67108864 = omega (arith, size, text.short) in
    let mid : TextState = record { line = 0 + length lines; limit = 67108864 - length (lines_text lines); bytes = later } in
    let last = behind mid s [] in
    let first = lines_again lines 0 67108864 later (building_short b text.building) room in
    let second = text_begins s text.snapshot mid [] (sym (append-nil later)) (omega (arith, size, text.short)) in (
      last.line,
      record {
        between = reading mid;
        building = (lines, first, stands_again b text.building);
        snapshot = (snapshot_lines s, second, text_stands s text.snapshot);
      },
    )
