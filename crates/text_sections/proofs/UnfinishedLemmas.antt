-- A section that was not read to its end: its last line is not whole among the bytes that were taken.
use Rattle.std.proofs.Common.{◌≡◌, ℕ, zero, suc, ◌+◌, ◌-◌, ◌<◌, ◌≤◌, Bool, true, false, cond, eqb, List, [], ◌∷◌, ◌++◌, All, length, take, drop, get_or, Option}
use Rattle.std.proofs.Common.{None, Some, Result, Ok, Err, inl, inr, ap, sym, subst, refl, arith, ◌∙◌, append_assoc}
use Rattle.std.specs.Prelude.{◌==◌, ◌≢◌, nat_lt, IsSomeAnd}
use Rattle.std.specs.List.{concat, onto_first, position_or_len}
use Rattle.std.specs.Io.KnownBytes.{prepend_known}
use Rattle.std.proofs.lemmas.Bool.{cases_lt, eqb-true, false≢true, ltb-true}
use Rattle.std.proofs.lemmas.List.{append-nil, take-append-drop}
use Rattle.std.proofs.lemmas.List.Elements.{All-head, All-tail}
use Rattle.std.proofs.lemmas.List.Folds.{concat-append}
use Rattle.std.proofs.lemmas.List.Sums.{fails_before_first, passes_at_first, sum_by-append, sum_by-cons}
use Rattle.lift_text.specs.Front.{IsWholeLine}
use Rattle.lift_text.specs.Lines.{pieces_of, line_of, words_of, is_clean, HasWholeLine}
use Rattle.lift_text.specs.Page.{PageState, text_at, limit_of}
use Rattle.lift_text.specs.Reading.{TextState, Reading, reading, reading_of, judged, cut_short, line_limit, line_with, bad_line, past_limit, IsBlankLine}
use Rattle.lift_text.specs.Reading.{IsPassedOver, NextLine, Passed, StoppedBehind}
use Rattle.lift_text.specs.Shows.{WentOn}
use Rattle.lift_text.specs.declared.codes.TextCode.TheVariants.{ForbiddenByte, OverLong}
use Rattle.lift_text.proofs.EndLemmas.{pieces_of-whole}
use Rattle.lift_text.proofs.ShowLemmas.{concat-pieces, line_rises}
use Rattle.lift_text.proofs.PieceLemmas.{no_whole_line, whole_line_at}
use Rattle.text_sections.specs.Sections.{Line, Step, goes_on, is_whole, Did}
use Rattle.text_sections.specs.declared.sections.AfterLine.TheVariants.{More}
use Rattle.text_sections.specs.Between.{AreBetween}
use Rattle.text_sections.specs.Canonical.{Goes, Makes}
use Rattle.text_sections.specs.Unfinished.{line_feeds, IsUnended, LacksEnd, EndsBehind}

-- ---- one place of a text

-- there is one place behind a line with a number
same_place : (before here there : TextState) → Passed before here → Passed before there → here.line ≡ there.line → here ≡ there
same_place before here there first second line =
    let pieces : pieces_of here.bytes ≡ pieces_of there.bytes = first.pieces ∙ ap (λ (n : ℕ). drop (n - before.line) (pieces_of before.bytes)) line
    ∙ sym second.pieces in
    let bytes : here.bytes ≡ there.bytes = sym (concat-pieces here.bytes) ∙ ap concat pieces ∙ concat-pieces there.bytes in
    let limit : here.limit ≡ there.limit = omega (arith, first.limit, second.limit, ap length bytes) in
    ap (λ (n : ℕ). record { line = n; limit = here.limit; bytes = here.bytes }) line
    ∙ ap (λ (n : ℕ). record { line = there.line; limit = n; bytes = here.bytes }) limit
    ∙ ap (λ (l : List ℕ). record { line = there.line; limit = there.limit; bytes = l }) bytes

-- ---- one line more

module _ {A : Type 0} (after : A → Line → Step A) where
  -- the lines behind the first, with which the section goes on
  makes_front : (front : List Line) (words last : Line) (lines : List Line) (state new before end : A) → words ∷ lines ≡ front ++ last ∷ []
      → Goes after front state before → after before last ≡ is_whole end
      → after state words ≡ goes_on new → Makes after lines new end
  makes_front [] words last lines state new before end is goes whole on =
      let same : words ≡ last = cc in
      let made : goes_on new ≡ is_whole end = sym on ∙ ap (λ w. after state w) same ∙ ap (λ s. after s last) goes ∙ whole in
      absurd cc
  makes_front (first ∷ front) words last lines state new before end is goes whole on =
      let same : words ≡ first = cc in
      let later : lines ≡ front ++ last ∷ [] = cc in
      let made : goes_on new ≡ goes_on goes.0 = sym on ∙ ap (λ w. after state w) same ∙ goes.1 in
      let next : goes.0 ≡ new = cc in
      record { front = front; last = last; before = before; lines_are = later; goes = subst (λ s. Goes after front s before) next goes.2; whole = whole }

  makes_rest : (words : Line) (lines : List Line) (state new end : A) → Makes after (words ∷ lines) state end → after state words ≡ goes_on new
      → Makes after lines new end
  makes_rest words lines state new end makes on =
      makes_front makes.front words makes.last lines state new makes.before end makes.lines_are makes.goes makes.whole on

  makes_some : (state end : A) → Makes after [] state end → ⊥
  makes_some state end makes = by_front makes.front makes.last makes.lines_are
    where
      by_front : (front : List Line) (last : Line) → [] ≡ front ++ last ∷ [] → ⊥
      by_front [] last is = cc
      by_front (first ∷ front) last is = cc

  -- what is left of the lines of a section
  abbrev pub Left : TextState → A → A → TextState → Type 0
  Left here state end behind = (lines : List Line) × AreBetween here lines behind × Makes after lines state end

  left_more : (here now behind : TextState) (state new end : A) (words : Line) (line : ℕ) → NextLine (Some here) (Ok true) words line (Some now)
      → after state words ≡ goes_on new → Left here state end behind → Left now new end behind
  left_more here now behind state new end words line next on ([], between, makes) = absurd (makes_some state end makes)
  left_more here now behind state new end words line next on (first ∷ lines, between, makes) =
      let read : line_with line words (reading now) ≡ line_with between.0.line first (reading between.0) = sym next.0 ∙ between.1.reads in
      let number : line ≡ between.0.line = cc in
      let same : first ≡ words = cc in
      let place : between.0 ≡ now = same_place here between.0 now between.1.passed next.2 (sym number ∙ sym next.1) in (
        lines,
        subst (λ (t : TextState). AreBetween t lines behind) place between.2,
        makes_rest first lines state new end makes (ap (λ w. after state w) same ∙ on),
      )

  -- a section that has so many lines left from one place on has the later of them left from a later place on
  abbrev pub Remains : Option TextState → A → A → Option TextState → Type 0
  Remains None state state' now = Unit {0}
  Remains (Some text) state state' now = IsSomeAnd now (λ here. (end : A) (behind : TextState) → Left text state end behind → Left here state' end behind)

  pub remains_none : (text : Option TextState) (state : A) → Remains text state state text
  remains_none None state = tt
  remains_none (Some text) state = λ end behind left. left

  pub remains_more : (text here now : Option TextState) (state state' new : A) (words : Line) (line : ℕ) → Remains text state state' here
      → NextLine here (Ok true) words line now → Did (after state' words) (Ok More) new → Remains text state new now
  remains_more None here now state state' new words line remains next did = tt
  remains_more (Some text) None now state state' new words line remains next did = absurd remains
  remains_more (Some text) (Some at) None state state' new words line remains next did = absurd next
  remains_more (Some text) (Some at) (Some now) state state' new words line remains next did =
      λ end behind left. left_more at now behind state' new end words line next did (remains end behind left)

-- ---- where a read failed

-- one line that has an LF ends with it
one_whole : (piece : List ℕ) → pieces_of piece ≡ piece ∷ [] → HasWholeLine piece → IsWholeLine piece
one_whole piece one has =
    let place = position_or_len (λ b. b == 10) piece in
    let before : (k : ℕ) → k < place
    → get_or piece k 0 ≢ 10 = λ k below is. false≢true (sym (fails_before_first (λ b. b == 10) piece k 0 below) ∙ ap (λ b. b == 10) is) in
    elim (cases_lt place (length piece)) [
      | inl inside ↦ front_whole place (whole_line_at piece place inside before (eqb-true _ 10 (passes_at_first (λ b. b == 10) piece 0 inside)))
      | inr outside ↦ absurd (no_whole_line piece (λ k below. before k (omega arith)) has)
    ]
  where
    front_whole : (place : ℕ) → IsWholeLine (take (place + 1) piece) → IsWholeLine piece
    front_whole place whole =
        let lines = sym one ∙ ap pieces_of (sym (take-append-drop (place + 1) piece))
        ∙ pieces_of-whole (take (place + 1) piece) (drop (place + 1) piece) whole in
        let same : take (place + 1) piece ≡ piece = cc in
        subst IsWholeLine same whole

pieces_of-passed : (passed : List (List ℕ)) (tail : List ℕ) → All IsPassedOver passed → All HasWholeLine passed
    → pieces_of (concat passed ++ tail) ≡ passed ++ pieces_of tail
pieces_of-passed [] tail each feeds = refl
pieces_of-passed (piece ∷ passed) tail each feeds =
    let whole = one_whole piece (All-head IsPassedOver piece passed each).one (All-head HasWholeLine piece passed feeds) in
    ap pieces_of (append_assoc piece (concat passed) tail) ∙ pieces_of-whole piece (concat passed ++ tail) whole
    ∙ ap (λ (l : List (List ℕ)). piece ∷ l) (pieces_of-passed passed tail (All-tail IsPassedOver piece passed each) (All-tail HasWholeLine piece passed feeds))

not_below : (m n : ℕ) → (m < n → ⊥) → nat_lt m n ≡ false
not_below m n not = by_case (nat_lt m n) refl
  where
    by_case : (b : Bool) → nat_lt m n ≡ b → nat_lt m n ≡ false
    by_case true is = absurd (not (ltb-true m n is))
    by_case false is = is

judged_blank : (line : ℕ) (text : List ℕ) (later : Reading) → IsBlankLine text → judged line text later ≡ later
judged_blank line text later blank =
    ap (λ b. cond b (bad_line line OverLong)
    (cond (is_clean text) (cond (nat_lt 0 (length (words_of text))) (line_with line (words_of text) later) later) (bad_line line ForbiddenByte)))
    (not_below line_limit (length text) (λ more. omega (arith, more, blank.short)))
    ∙ ap (λ b. cond b (cond (nat_lt 0 (length (words_of text))) (line_with line (words_of text) later) later) (bad_line line ForbiddenByte)) blank.clean
    ∙ ap (λ (words : List (List ℕ)). cond (nat_lt 0 (length words)) (line_with line (words_of text) later) later) blank.wordless

-- behind blank lines the number of the next line is greater
blanks_rise : (passed pieces : List (List ℕ)) (n limit m : ℕ) (words : Line) (rest : Reading) → All IsPassedOver passed
    → reading_of n limit (passed ++ pieces) ≡ line_with m words rest → n + length passed < m
blanks_rise [] pieces n limit m words rest each is = let up = line_rises pieces n limit m words rest is in omega (arith, up)
blanks_rise (piece ∷ passed) pieces n limit m words rest each is =
    by_case (λ e. blanks_rise passed pieces (n + 1) (limit - length piece) m words rest (All-tail IsPassedOver piece passed each) e)
    (nat_lt limit (length piece)) is
  where
    no_line : (long : Bool) → cond long (bad_line (n + 1) OverLong) past_limit ≡ line_with m words rest → ⊥
    no_line true same = cc
    no_line false same = cc

    by_case : (reading_of (n + 1) (limit - length piece) (passed ++ pieces) ≡ line_with m words rest → n + 1 + length passed < m) → (past : Bool)
        → cond past (cut_short (n + 1) limit) (judged (n + 1) (line_of piece) (reading_of (n + 1) (limit - length piece) (passed ++ pieces)))
        ≡ line_with m words rest → n + length (piece ∷ passed) < m
    by_case later true same = absurd (no_line (nat_lt (line_limit + 1) limit) same)
    by_case later false same =
        let blank = judged_blank (n + 1) (line_of piece) (reading_of (n + 1) (limit - length piece) (passed ++ pieces))
        (All-head IsPassedOver piece passed each).blank in
        let up = later (sym blank ∙ same) in
        omega (arith, up)

between_rises : (before : TextState) (lines : List Line) (behind : TextState) → AreBetween before lines behind → before.line < behind.line + 1
between_rises before [] behind same = let line = ap (λ (t : TextState). t.line) same in omega (arith, line)
between_rises before (words ∷ lines) behind steps = let up = between_rises steps.0 lines behind steps.2 in omega (arith, up, steps.1.passed.lines)

-- ---- how many lines are whole

pub line_feeds-cons : (b : ℕ) (bytes : List ℕ) (ends : Bool) → eqb b 10 ≡ ends → line_feeds (b ∷ bytes) ≡ cond ends 1 0 + line_feeds bytes
line_feeds-cons b bytes ends is = sum_by-cons (λ (x : ℕ). cond (x == 10) 1 0) b bytes ∙ ap (λ (e : Bool). cond e 1 0 + line_feeds bytes) is

pub line_feeds-append : (xs ys : List ℕ) → line_feeds (xs ++ ys) ≡ line_feeds xs + line_feeds ys
line_feeds-append xs ys = sum_by-append (λ (x : ℕ). cond (x == 10) 1 0) xs ys

take-none : (n : ℕ) → take {A = List ℕ} n [] ≡ []
take-none zero = refl
take-none (suc n) = refl

-- lines that stand in front of a text have no more LFs than there are of them
feeds_front-step : (ends : Bool) (b : ℕ) (later : List (List ℕ)) → eqb b 10 ≡ ends → ((k : ℕ) → line_feeds (concat (take k later)) ≤ k) → (n : ℕ)
    → line_feeds (concat (take n (cond ends ((b ∷ []) ∷ later) (onto_first b later)))) ≤ n
feeds_front-step ends b later is each zero = omega arith
feeds_front-step true b later is each (suc n) = omega (arith, line_feeds-cons b (concat (take n later)) true is, each n)
feeds_front-step false b [] is each (suc n) =
    let none : line_feeds (concat (take n [])) ≡ 0 = ap (λ (l : List (List ℕ)). line_feeds (concat l)) (take-none n) in
    omega (arith, line_feeds-cons b (concat (take n [])) false is, none)
feeds_front-step false b (piece ∷ later) is each (suc n) = omega (arith, line_feeds-cons b (piece ++ concat (take n later)) false is, each (suc n))

pub feeds_front : (bytes : List ℕ) (n : ℕ) → line_feeds (concat (take n (pieces_of bytes))) ≤ n
feeds_front [] n = let none : line_feeds (concat (take n [])) ≡ 0 = ap (λ (l : List (List ℕ)). line_feeds (concat l)) (take-none n) in omega (arith, none)
feeds_front (b ∷ bytes) n = feeds_front-step (eqb b 10) b (pieces_of bytes) refl (λ k. feeds_front bytes k) n

one_feed : (piece : List ℕ) → pieces_of piece ≡ piece ∷ [] → line_feeds piece ≤ 1
one_feed piece one =
    let whole : concat (take 1 (pieces_of piece)) ≡ piece = ap (λ (l : List (List ℕ)). concat (take 1 l)) one ∙ append-nil piece in
    omega (arith, feeds_front piece 1, ap line_feeds whole)

feeds_passed : (passed : List (List ℕ)) → All IsPassedOver passed → line_feeds (concat passed) ≤ length passed
feeds_passed [] each = omega arith
feeds_passed (piece ∷ passed) each =
    let first = one_feed piece (All-head IsPassedOver piece passed each).one in
    let later = feeds_passed passed (All-tail IsPassedOver piece passed each) in
    omega (arith, line_feeds-append piece (concat passed), first, later)

no_feeds : (bytes : List ℕ) → ¬ HasWholeLine bytes → line_feeds bytes ≡ 0
no_feeds [] none = refl
no_feeds (b ∷ bytes) none = by_case (no_feeds bytes (λ has. none (suc has.0, omega (arith, has.1), has.2))) (eqb b 10) refl
  where
    by_case : line_feeds bytes ≡ 0 → (ends : Bool) → eqb b 10 ≡ ends → line_feeds (b ∷ bytes) ≡ 0
    by_case later true is = absurd (none (0, omega arith, eqb-true b 10 is))
    by_case later false is = omega (arith, line_feeds-cons b bytes false is, later)

-- among bytes that were taken before a read failed no line is whole but those that were passed over
stopped_feeds : (lines lines' : ℕ) (bytes : List ℕ) → StoppedBehind lines lines' bytes → lines + line_feeds bytes ≤ lines'
stopped_feeds lines lines' bytes stopped = omega (
  arith,
  ap line_feeds stopped.held,
  line_feeds-append (concat stopped.passed) stopped.rest,
  feeds_passed stopped.passed stopped.each,
  no_feeds stopped.rest stopped.none,
  stopped.line,
)

-- the lines between two states of a text stand in front of the later one
pub passed_front : (before after : TextState) → Passed before after
    → before.bytes ≡ concat (take (after.line - before.line) (pieces_of before.bytes)) ++ after.bytes
passed_front before after passed =
    let count = after.line - before.line in
    let pieces = pieces_of before.bytes in
    sym (concat-pieces before.bytes) ∙ ap concat (sym (take-append-drop count pieces)) ∙ concat-append (take count pieces) (drop count pieces)
    ∙ ap (λ (l : List ℕ). concat (take count pieces) ++ l) (ap concat (sym passed.pieces) ∙ concat-pieces after.bytes)

-- a line that is not whole behind a later state of a text is not whole behind an earlier one
unended_behind : (before after : TextState) (number : ℕ) (rest : List ℕ) → Passed before after → IsUnended after number rest → IsUnended before number rest
unended_behind before after number rest passed is =
    let count = after.line - before.line in
    let front = concat (take count (pieces_of before.bytes)) in
    record {
      taken = front ++ is.taken;
      split = passed_front before after passed ∙ ap (λ (l : List ℕ). front ++ l) is.split ∙ sym (append_assoc front is.taken rest);
      few = omega (arith, line_feeds-append front is.taken, feeds_front before.bytes count, passed.lines, is.few);
    }

pub lacks_behind : (before after : Option TextState) (number : ℕ) (left : Option (List ℕ)) → WentOn before after → LacksEnd after number left
    → LacksEnd before number left
lacks_behind None after number left went lacks = tt
lacks_behind (Some before) None number left went lacks = absurd went
lacks_behind (Some before) (Some after) number None went lacks = absurd lacks
lacks_behind (Some before) (Some after) number (Some rest) went lacks = unended_behind before after number rest went lacks

-- behind a line that is not whole none is
pub lacks_later : (text : Option TextState) (m n : ℕ) (left : Option (List ℕ)) → m ≤ n → LacksEnd text m left → LacksEnd text n left
lacks_later None m n left up lacks = tt
lacks_later (Some text) m n None up lacks = absurd lacks
lacks_later (Some text) m n (Some rest) up lacks = record { taken = lacks.taken; split = lacks.split; few = omega (arith, lacks.few, up) }

-- a read failed, and the next line is not whole among the bytes that were taken
pub raw_lacks : (page : PageState) (left left' : Option (List ℕ)) (taken : List ℕ) → left ≡ prepend_known taken left' → ¬ HasWholeLine (page.unread ++ taken)
    → LacksEnd (text_at page left) (page.line + 1) left'
raw_lacks page left left' taken given none =
    subst (λ (known : Option (List ℕ)). LacksEnd (text_at page known) (page.line + 1) left') (sym given) (by_rest left')
  where
    by_rest : (rest : Option (List ℕ)) → LacksEnd (text_at page (prepend_known taken rest)) (page.line + 1) rest
    by_rest None = tt
    by_rest (Some rest) =
        record { taken = page.unread ++ taken; split = sym (append_assoc page.unread taken rest); few = omega (arith, no_feeds (page.unread ++ taken) none) }

module _ {A : Type 0} (after : A → Line → Step A) where
  left_behind : (here behind : TextState) (state end : A) (bytes later : List ℕ) (line : ℕ) → here.bytes ≡ bytes ++ later → StoppedBehind here.line line bytes
      → Left after here state end behind → line < behind.line
  left_behind here behind state end bytes later line known stopped ([], between, makes) = absurd (makes_some after state end makes)
  left_behind here behind state end bytes later line known stopped (words ∷ lines, between, makes) =
      let text = known ∙ ap (λ (l : List ℕ). l ++ later) stopped.held ∙ append_assoc (concat stopped.passed) stopped.rest later in
      let pieces = ap pieces_of text ∙ pieces_of-passed stopped.passed (stopped.rest ++ later) stopped.each stopped.line_feeds in
      let read = sym (ap (reading_of here.line here.limit) pieces) ∙ between.1.reads in
      let up = blanks_rise stopped.passed (pieces_of (stopped.rest ++ later)) here.line here.limit between.0.line words (reading between.0) stopped.each read in
      let last = between_rises between.0 lines behind between.2 in
      omega (arith, up, last, stopped.line)

  -- a read failed behind the lines so far
  pub remains_cut : (text : Option TextState) (page : PageState) (left left' : Option (List ℕ)) (taken : List ℕ) (line : ℕ) (state state' : A)
      → Remains after text state state' (text_at page left)
      → WentOn text (text_at page left) → left ≡ prepend_known taken left' → StoppedBehind page.line line (page.unread ++ taken)
      → EndsBehind after text state left'
  remains_cut None page left left' taken line state state' remains went given stopped = tt
  remains_cut (Some text) page left None taken line state state' remains went given stopped =
      absurd (subst (λ (known : Option (List ℕ)).
      IsSomeAnd (text_at page known) (λ here. (end : A) (behind : TextState) → Left after text state end behind → Left after here state' end behind)) given
      remains)
  remains_cut (Some text) page left (Some later) taken line state state' remains went given stopped =
      let known = subst
      (λ (known : Option (List ℕ)).
      IsSomeAnd (text_at page known) (λ here. (end : A) (behind : TextState) → Left after text state end behind → Left after here state' end behind)) given
      remains in
      let passed = subst (λ (known : Option (List ℕ)). WentOn (Some text) (text_at page known)) given went in
      let here : TextState = record { line = page.line; limit = limit_of page; bytes = page.unread ++ (taken ++ later) } in
      let split = sym (append_assoc page.unread taken later) in
      let feeds = stopped_feeds page.line line (page.unread ++ taken) stopped in
      λ lines end behind between makes.
      (let up = left_behind here behind state' end (page.unread ++ taken) later line split stopped (known end behind (lines, between, makes)) in
      unended_behind text here behind.line later passed (record { taken = page.unread ++ taken; split = split; few = omega (arith, up, feeds) }))

-- two names of one error
pub same_error : {T E : Type 0} (answer : Result T E) (a b : E) → answer ≡ Err a → answer ≡ Err b → a ≡ b
same_error answer a b first second = cc
