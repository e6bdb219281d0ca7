-- What is whole in front of bytes is in front of them whatever follows.
use Rattle.std.proofs.Common.{◌≡◌, ℕ, zero, suc, ◌+◌, ◌-◌, ◌≤◌, ◌⊎◌, inl, inr, Bool, true, false, cond, eqb, List, [], ◌∷◌, ◌++◌, length, take, drop, sym}
use Rattle.std.proofs.Common.{subst, refl, ap, ◌∙◌, arith, length-append, length-take, take-append-drop, drop_at}
use Rattle.std.specs.Prelude.{nat_lt}
use Rattle.std.specs.List.{concat, onto_first}
use Rattle.std.proofs.lemmas.List.Folds.{concat-append}
use Rattle.lift_text.specs.Lines.{pieces_of, line_of, words_of, is_clean}
use Rattle.lift_text.specs.Reading.{TextState, Reading, reading, reading_of, judged, cut_short, line_limit, line_with, bad_line, past_limit, Passed}
use Rattle.lift_text.specs.declared.codes.TextCode.TheVariants.{ForbiddenByte, OverLong}
use Rattle.lift_text.proofs.ShowLemmas.{concat-pieces, line_rises}
use Rattle.text_sections.specs.Sections.{Line}
use Rattle.text_sections.specs.Between.{IsNextLine, AreBetween}
use Rattle.text_sections.specs.Unfinished.{line_feeds}
use Rattle.text_sections.proofs.UnfinishedLemmas.{line_feeds-cons, line_feeds-append, feeds_front, passed_front}
use Rattle.elevator_model.specs.Snapshot.{Snapshot}
use Rattle.day_text.specs.declared.headers.Header.{Header}
use Rattle.day_text.specs.declared.headers.Header.TheVariants.{Rows}
use Rattle.day_text.specs.Headers.{IsEmptyLine, IsHeaderLine, IsBehindPiece, HeaderFirst, HeaderInFront}
use Rattle.day_text.specs.DayOpenings.{DayOpeningInFront}
use Rattle.day_text.proofs.HeaderReadLemmas.{header_behind}

-- ---- the lines of a longer text

-- the first lines of bytes, as many as have their LF, are those of longer bytes, and the rest comes behind them
pub record IsLonger (pieces longer : List (List ℕ)) (rest : List ℕ) (n : ℕ) : Type 0 where
  pub some : n ≤ length pieces
  pub front : take n longer ≡ take n pieces
  pub behind : drop n longer ≡ pieces_of (concat (drop n pieces) ++ rest)

longer_none : (pieces : List (List ℕ)) (bytes rest : List ℕ) → concat pieces ≡ bytes → IsLonger pieces (pieces_of (bytes ++ rest)) rest 0
longer_none pieces bytes rest is = record { some = omega arith; front = refl; behind = ap (λ (l : List ℕ). pieces_of (l ++ rest)) (sym is) }

longer_onto : (b : ℕ) (pieces longer : List (List ℕ)) (rest : List ℕ) (n : ℕ) → IsLonger pieces longer rest (suc n)
    → IsLonger (onto_first b pieces) (onto_first b longer) rest (suc n)
longer_onto b [] longer rest n is = absurd (omega (arith, is.some))
longer_onto b (piece ∷ pieces) [] rest n is = let none = ap length is.front in absurd (omega (arith, none))
longer_onto b (piece ∷ pieces) (first ∷ longer) rest n is =
    let front : first ∷ take n longer ≡ piece ∷ take n pieces = is.front in
    let same : first ≡ piece = cc in
    let later : take n longer ≡ take n pieces = cc in
    record {
      some = is.some;
      front = ap (λ (l : List ℕ). (b ∷ l) ∷ take n longer) same ∙ ap (λ (l : List (List ℕ)). (b ∷ piece) ∷ l) later;
      behind = is.behind;
    }

longer_step : (ends : Bool) (b : ℕ) (bytes rest : List ℕ) (n : ℕ) → eqb b 10 ≡ ends
    → ((k : ℕ) → k ≤ line_feeds bytes → IsLonger (pieces_of bytes) (pieces_of (bytes ++ rest)) rest k) → suc n ≤ line_feeds (b ∷ bytes)
    → IsLonger (cond ends ((b ∷ []) ∷ pieces_of bytes) (onto_first b (pieces_of bytes)))
    (cond ends ((b ∷ []) ∷ pieces_of (bytes ++ rest)) (onto_first b (pieces_of (bytes ++ rest)))) rest (suc n)
longer_step true b bytes rest n is each some =
    let later = each n (omega (arith, line_feeds-cons b bytes true is, some)) in
    record { some = omega (arith, later.some); front = ap (λ (l : List (List ℕ)). (b ∷ []) ∷ l) later.front; behind = later.behind }
longer_step false b bytes rest n is each some =
    longer_onto b (pieces_of bytes) (pieces_of (bytes ++ rest)) rest n (each (suc n) (omega (arith, line_feeds-cons b bytes false is, some)))

pub longer : (bytes rest : List ℕ) (n : ℕ) → n ≤ line_feeds bytes → IsLonger (pieces_of bytes) (pieces_of (bytes ++ rest)) rest n
longer bytes rest zero some = longer_none (pieces_of bytes) bytes rest (concat-pieces bytes)
longer [] rest (suc n) some = absurd (omega (arith, some))
longer (b ∷ bytes) rest (suc n) some = longer_step (eqb b 10) b bytes rest n refl (λ k few. longer bytes rest k few) some

-- ---- a longer text

-- a text with more behind it
abbrev pub with_more : List ℕ → TextState → TextState
with_more rest text = record { line = text.line; limit = text.limit; bytes = text.bytes ++ rest }

-- the lines in front of a later state of a text, and what is behind them in both texts
record AreInFront (text later : TextState) (rest : List ℕ) : Type 0 where
  front : List (List ℕ)
  count : text.line + length front ≡ later.line
  pieces : pieces_of text.bytes ≡ front ++ pieces_of later.bytes
  more : pieces_of (text.bytes ++ rest) ≡ front ++ pieces_of (later.bytes ++ rest)

in_front : (text later : TextState) (rest : List ℕ) → text.line ≤ later.line → pieces_of later.bytes ≡ drop (later.line - text.line) (pieces_of text.bytes)
    → later.line ≤ text.line + line_feeds text.bytes → AreInFront text later rest
in_front text later rest up behind whole =
    let n = later.line - text.line in
    let pieces = pieces_of text.bytes in
    let is = longer text.bytes rest n (omega (arith, whole)) in
    let bytes : concat (drop n pieces) ≡ later.bytes = ap concat (sym behind) ∙ concat-pieces later.bytes in
    let some = is.some in
    record {
      front = take n pieces;
      count = omega (arith, length-take n pieces, up, some);
      pieces = sym (take-append-drop n pieces) ∙ ap (λ (l : List (List ℕ)). take n pieces ++ l) (sym behind);
      more = sym (take-append-drop n (pieces_of (text.bytes ++ rest))) ∙ ap (λ (l : List (List ℕ)). l ++ drop n (pieces_of (text.bytes ++ rest))) is.front
          ∙ ap (λ (l : List (List ℕ)). take n pieces ++ l) (is.behind ∙ ap (λ (l : List ℕ). pieces_of (l ++ rest)) bytes);
    }

-- ---- one line with a word

-- the bytes of lines
abbrev size_of : List (List ℕ) → ℕ
size_of pieces = length (concat pieces)

no_lines : (front : List (List ℕ)) → length front ≡ 0 → front ≡ []
no_lines [] none = refl
no_lines (piece ∷ front) none = absurd (omega (arith, none))

by_judgement : (n m : ℕ) (over clean some : Bool) (found words : Line) (now other rest end : Reading)
    → cond over (bad_line n OverLong) (cond clean (cond some (line_with n found now) now) (bad_line n ForbiddenByte)) ≡ line_with m words rest
    → (n ≡ m → other ≡ end)
    → (now ≡ line_with m words rest → other ≡ line_with m words end)
    → cond over (bad_line n OverLong) (cond clean (cond some (line_with n found other) other) (bad_line n ForbiddenByte)) ≡ line_with m words end
by_judgement n m true clean some found words now other rest end is here later = absurd cc
by_judgement n m false false some found words now other rest end is here later = absurd cc
by_judgement n m false true true found words now other rest end is here later =
    let number : n ≡ m = cc in
    let same : found ≡ words = cc in
    ap (λ (k : ℕ). line_with k found other) number ∙ ap (λ (w : Line). line_with m w other) same ∙ ap (λ (r : Reading). line_with m words r) (here number)
by_judgement n m false true false found words now other rest end is here later = later is

no_cut_line : (n m : ℕ) (over : Bool) (words : Line) (rest : Reading) → cond over (bad_line n OverLong) past_limit ≡ line_with m words rest → ⊥
no_cut_line n m true words rest is = cc
no_cut_line n m false words rest is = cc

by_room : (n limit m : ℕ) (past : Bool) (words : Line) (now other rest end : Reading) → cond past (cut_short n limit) now ≡ line_with m words rest
    → (now ≡ line_with m words rest → other ≡ line_with m words end)
    → cond past (cut_short n limit) other ≡ line_with m words end
by_room n limit m true words now other rest end is later = absurd (no_cut_line n m (nat_lt (line_limit + 1) limit) words rest is)
by_room n limit m false words now other rest end is later = later is

-- what is read of lines up to the first with a word does not depend on what is behind it
same_first : (front behind other : List (List ℕ)) (n limit m later : ℕ) (words : Line) (rest : Reading) → n + length front ≡ m → later + size_of front ≡ limit
    → reading_of n limit (front ++ behind) ≡ line_with m words rest
    → reading_of n limit (front ++ other) ≡ line_with m words (reading_of m later other)
same_first [] behind other n limit m later words rest count size is = let up = line_rises behind n limit m words rest is in absurd (omega (arith, up, count))
same_first (piece ∷ front) behind other n limit m later words rest count size is =
    let text = line_of piece in
    let left = limit - length piece in
    let now = reading_of (n + 1) left (front ++ behind) in
    let next = reading_of (n + 1) left (front ++ other) in
    let end = reading_of m later other in
    let sizes = length-append piece (concat front) in
    let here : n + 1 ≡ m → next ≡ end = λ number.
    (let none = no_lines front (omega (arith, count, number)) in
    let room : left ≡ later = omega (arith, sizes, size, ap size_of none) in
    ap (λ (k : ℕ). reading_of k left (front ++ other)) number ∙ ap (λ (k : ℕ). reading_of m k (front ++ other)) room
    ∙ ap (λ (l : List (List ℕ)). reading_of m later (l ++ other)) none) in
    by_room (n + 1) limit m (nat_lt limit (length piece)) words (judged (n + 1) text now) (judged (n + 1) text next) rest end is
    (λ same. by_judgement (n + 1) m (nat_lt line_limit (length text)) (is_clean text) (nat_lt 0 (length (words_of text)))
    (words_of text) words now next rest end same here
    (λ e. same_first front behind other (n + 1) left m later words rest (omega (arith, count)) (omega (arith, sizes, size)) e))

passed_more : (text later : TextState) (rest : List ℕ) → Passed text later → AreInFront text later rest → Passed (with_more rest text) (with_more rest later)
passed_more text later rest passed is =
    let count : length is.front ≡ later.line - text.line = omega (arith, is.count) in
    record {
      lines = passed.lines;
      pieces = sym (ap (drop (later.line - text.line)) is.more ∙ drop_at is.front (pieces_of (later.bytes ++ rest)) (later.line - text.line) count);
      limit = omega (arith, passed.limit, length-append text.bytes rest, length-append later.bytes rest);
    }

next_more : (text : TextState) (words : Line) (later : TextState) (rest : List ℕ) → IsNextLine text words later
    → later.line ≤ text.line + line_feeds text.bytes → IsNextLine (with_more rest text) words (with_more rest later)
next_more text words later rest next whole =
    let passed = next.passed in
    let is = in_front text later rest passed.lines passed.pieces whole in
    let bytes : text.bytes ≡ concat is.front ++ later.bytes = sym (concat-pieces text.bytes) ∙ ap concat is.pieces
    ∙ concat-append is.front (pieces_of later.bytes) ∙ ap (λ (l : List ℕ). concat is.front ++ l) (concat-pieces later.bytes) in
    let size : later.limit + size_of is.front ≡ text.limit = omega (arith, passed.limit, ap length bytes, length-append (concat is.front) later.bytes) in
    let read = ap (reading_of text.line text.limit) (sym is.pieces) ∙ next.reads in
    record {
      reads = ap (reading_of text.line text.limit) is.more
          ∙ same_first is.front (pieces_of later.bytes) (pieces_of (later.bytes ++ rest)) text.line text.limit later.line later.limit words
          (reading later) is.count size read;
      passed = passed_more text later rest passed is;
    }

-- ---- lines with a word

-- as many lines behind a later state are whole as are behind an earlier one
whole_behind : (text later : TextState) (last : ℕ) → Passed text later → last ≤ text.line + line_feeds text.bytes → last ≤ later.line + line_feeds later.bytes
whole_behind text later last passed whole =
    let n = later.line - text.line in
    let front = concat (take n (pieces_of text.bytes)) in
    omega (arith, ap line_feeds (passed_front text later passed), line_feeds-append front later.bytes, feeds_front text.bytes n, passed.lines, whole)

record AreWhole (text : TextState) (lines : List Line) (behind : TextState) (rest : List ℕ) (last : ℕ) : Type 0 where
  between : AreBetween (with_more rest text) lines (with_more rest behind)
  whole : last ≤ behind.line + line_feeds behind.bytes
  up : text.line ≤ behind.line

pub between_up : (text : TextState) (lines : List Line) (behind : TextState) → AreBetween text lines behind → text.line ≤ behind.line
between_up text [] behind steps = let same = ap (λ (t : TextState). t.line) steps in omega (arith, same)
between_up text (words ∷ lines) behind steps = let up = between_up steps.0 lines behind steps.2 in omega (arith, up, steps.1.passed.lines)

between_more : (text : TextState) (lines : List Line) (behind : TextState) (rest : List ℕ) (last : ℕ) → AreBetween text lines behind → behind.line ≤ last
    → last ≤ text.line + line_feeds text.bytes → AreWhole text lines behind rest last
between_more text [] behind rest last steps low whole = record {
  between = ap (with_more rest) steps;
  whole = subst (λ (t : TextState). last ≤ t.line + line_feeds t.bytes) steps whole;
  up = between_up text [] behind steps;
}
between_more text (words ∷ lines) behind rest last steps low whole =
    let middle = steps.0 in
    let up = between_up middle lines behind steps.2 in
    let later = between_more middle lines behind rest last steps.2 low (whole_behind text middle last steps.1.passed whole) in
    record {
      between = (with_more rest middle, next_more text words middle rest steps.1 (omega (arith, up, low, whole)), later.between);
      whole = later.whole;
      up = between_up text (words ∷ lines) behind steps;
    }

-- ---- the header

header_with : (header : Header) (front behind other : List (List ℕ)) (line limit : ℕ) (rows rows' : TextState)
    → HeaderFirst header line limit (front ++ behind) rows → line + length front ≡ rows.line
    → rows'.line ≡ rows.line → rows'.limit ≡ rows.limit → pieces_of rows'.bytes ≡ other → HeaderFirst header line limit (front ++ other) rows'
header_with header [] behind other line limit rows rows' first count same room lines = let up = (header_behind header line limit behind rows first).later in
    absurd (omega (arith, up, count))
header_with header (piece ∷ front) behind other line limit rows rows' first count same room lines = (
  first.0,
  by_kind (λ later.
      header_with header front behind other (line + 1) (limit - length piece) rows rows' later (omega (arith, count)) same room lines) first.1,
)
  where
    by_kind : (HeaderFirst header (line + 1) (limit - length piece) (front ++ behind) rows
        → HeaderFirst header (line + 1) (limit - length piece) (front ++ other) rows')
        → ((IsEmptyLine piece × HeaderFirst header (line + 1) (limit - length piece) (front ++ behind) rows)
        ⊎ (IsHeaderLine header piece × IsBehindPiece line limit piece (front ++ behind) rows))
        → ((IsEmptyLine piece × HeaderFirst header (line + 1) (limit - length piece) (front ++ other) rows')
        ⊎ (IsHeaderLine header piece × IsBehindPiece line limit piece (front ++ other) rows'))
    by_kind later (inl empty) = inl (empty.0, later empty.1)
    by_kind later (inr found) =
        let is = found.1 in
        let none = no_lines front (omega (arith, count, is.line_is)) in
        inr (
          found.0,
          record
              { line_is = same ∙ is.line_is; limit_is = room ∙ is.limit_is; pieces_are = lines ∙ ap (λ (l : List (List ℕ)). l ++ other) (sym none) },
        )

pub header_more : (header : Header) (text rows : TextState) (rest : List ℕ) → HeaderInFront header text rows → rows.line ≤ text.line + line_feeds text.bytes
    → HeaderInFront header (with_more rest text) (with_more rest rows)
header_more header text rows rest first whole =
    let behind = header_behind header text.line text.limit (pieces_of text.bytes) rows first in
    let is = in_front text rows rest (omega (arith, behind.later)) behind.pieces_are whole in
    subst (λ (l : List (List ℕ)). HeaderFirst header text.line text.limit l (with_more rest rows)) (sym is.more)
    (header_with header is.front (pieces_of rows.bytes) (pieces_of (rows.bytes ++ rest)) text.line text.limit rows (with_more rest rows)
    (subst (λ (l : List (List ℕ)). HeaderFirst header text.line text.limit l rows) is.pieces first) is.count refl refl refl)

-- ---- an opening

pub opening_more : (text : TextState) (s : Snapshot) (rows : TextState) (rest : List ℕ) → DayOpeningInFront text s rows
    → rows.line ≤ text.line + line_feeds text.bytes → DayOpeningInFront (with_more rest text) s (with_more rest rows)
opening_more text s rows rest opening whole =
    let up = (header_behind Rows opening.between.line opening.between.limit (pieces_of opening.between.bytes) rows opening.header).later in
    let higher = between_up opening.above opening.snapshot.0 opening.between opening.snapshot.1 in
    let building = between_more text opening.building.0 opening.above rest rows.line opening.building.1 (omega (arith, up, higher)) whole in
    let snapshot = between_more opening.above opening.snapshot.0 opening.between rest rows.line opening.snapshot.1 (omega (arith, up)) building.whole in
    record {
      above = with_more rest opening.above;
      between = with_more rest opening.between;
      building = (opening.building.0, building.between, opening.building.2);
      snapshot = (opening.snapshot.0, snapshot.between, opening.snapshot.2);
      header = header_more Rows opening.between rows rest opening.header snapshot.whole;
    }
