-- Lines that are read one after another, and what is read of a text.
use Rattle.std.proofs.Common.{◌≡◌, ℕ, Bool, true, false, cond, List, [], ◌∷◌, Ok, Err, ap, refl, ◌∙◌, sym, subst}
use Rattle.lift_text.specs.Reading.{Reading, line_with, finished, bad_line, past_limit}
use Rattle.lift_text.specs.declared.codes.TextCode.{TextCode}
use Rattle.text_sections.specs.Words.{is_word}
use Rattle.text_sections.specs.Sections.{Line, Step, goes_on, is_whole, is_bad, step_of, accepted, continued, outcome}
use Rattle.text_sections.specs.Canonical.{BeginsWith, Makes}
use Rattle.building_text.specs.Order.{name_of, may_end, misplaced}
use Rattle.text_sections.specs.Judging.{Judged, ◌>>=◌}
use Rattle.building_text.specs.Drafts.{Draft, taken, after}

-- what follows a line: the section goes on over these lines, or there are none and it is whole
abbrev pub Then : Step Draft → List Line → Draft → (Draft → Type 0) → Type 0
Then (goes_on d) lines end later = later d
Then (is_whole d) lines end later = (lines ≡ []) × (d ≡ end)
Then (is_bad code) lines end later = ⊥

-- these lines make the section whole
abbrev pub Reads : Draft → List Line → Draft → Type 0
Reads d [] end = ⊥
Reads d (words ∷ lines) end = Then (after d words) lines end (λ new. Reads new lines end)

-- what is read of the lines behind a first one
abbrev pub FoundFrom : Reading → Draft → Reading → Type 0
FoundFrom behind end rest = (new : Draft) → outcome after behind new ≡ accepted end rest → (lines : List Line) × BeginsWith lines behind rest
    × Reads new lines end

found_step : (number : ℕ) (words : Line) (behind : Reading) (d end : Draft) (rest : Reading) (step : Step Draft) → FoundFrom behind end rest
    → after d words ≡ step → continued step number behind (outcome after behind) ≡ accepted end rest
    → (lines : List Line) × BeginsWith lines (line_with number words behind) rest × Reads d lines end
found_step number words behind d end rest (goes_on new) further e same =
    let later = further new same in
    (words ∷ later.0, (number, behind, refl, later.1), subst (λ (step : Step Draft). Then step later.0 end (λ next. Reads next later.0 end)) (sym e) later.2)
found_step number words behind d end rest (is_whole new) further e same =
    let left : behind ≡ rest = cc in
    let whole : new ≡ end = cc in
    (words ∷ [], (number, behind, refl, left), subst (λ (step : Step Draft). Then step [] end (λ next. Reads next [] end)) (sym e) (refl, whole))
found_step number words behind d end rest (is_bad code) further e same = absurd cc

pub found : (read : Reading) (d end : Draft) (rest : Reading) → outcome after read d ≡ accepted end rest → (lines : List Line) × BeginsWith lines read rest
    × Reads d lines end
found (line_with number words behind) d end rest is =
    found_step number words behind d end rest (after d words) (λ new same. found behind new end rest same) refl is
found (finished lines) d end rest is = absurd cc
found (bad_line line code) d end rest is = absurd cc
found past_limit d end rest is = absurd cc

given_step : (lines : List Line) (number : ℕ) (behind : Reading) (end : Draft) (rest : Reading) (step : Step Draft)
    → ((new : Draft) → Reads new lines end → outcome after behind new ≡ accepted end rest) → BeginsWith lines behind rest
    → Then step lines end (λ new. Reads new lines end) → continued step number behind (outcome after behind) ≡ accepted end rest
given_step lines number behind end rest (goes_on new) further begins later = further new later
given_step lines number behind end rest (is_whole new) further begins whole =
    let left : behind ≡ rest = subst (λ ls. BeginsWith ls behind rest) whole.0 begins in
    ap (λ e. accepted e behind) whole.1 ∙ ap (accepted end) left
given_step lines number behind end rest (is_bad code) further begins none = absurd none

pub given : (lines : List Line) (read : Reading) (d end : Draft) (rest : Reading) → BeginsWith lines read rest → Reads d lines end
    → outcome after read d ≡ accepted end rest
given [] read d end rest begins reads = absurd reads
given (words ∷ lines) read d end rest begins reads =
    ap (λ r. outcome after r d) begins.2
    ∙ given_step lines begins.0 begins.1 end rest (after d words) (λ new later. given lines begins.1 new end rest begins.3 later) begins.3 reads

makes_step : (words : Line) (lines : List Line) (d end : Draft) (step : Step Draft) → ((new : Draft) → Reads new lines end → Makes after lines new end)
    → after d words ≡ step
    → Then step lines end (λ new. Reads new lines end) → Makes after (words ∷ lines) d end
makes_step words lines d end (goes_on new) further is later =
    let rest = further new later in
    record {
      front = words ∷ rest.front;
      last = rest.last;
      before = rest.before;
      lines_are = ap (λ (ls : List Line). words ∷ ls) rest.lines_are;
      goes =
          (new, is, rest.goes);
      whole = rest.whole;
    }
makes_step words lines d end (is_whole new) further is whole =
    record {
      front = [];
      last = words;
      before = d;
      lines_are = ap (λ (ls : List Line). words ∷ ls) whole.0;
      goes = refl;
      whole = is
          ∙ ap (λ (e : Draft). is_whole e) whole.1;
    }
makes_step words lines d end (is_bad code) further is none = absurd none

-- lines that are read one after another make the section
pub reads_make : (lines : List Line) (d end : Draft) → Reads d lines end → Makes after lines d end
reads_make [] d end reads = absurd reads
reads_make (words ∷ lines) d end reads = makes_step words lines d end (after d words) (λ new later. reads_make lines new end later) refl reads

-- ---- the line that is due

-- a line was taken, and the rest is read from there
pub record Took (d : Draft) (lines : List Line) (end : Draft) : Type 0 where
  pub line : Line
  pub rest : List Line
  pub new : Draft
  pub lines_are : lines ≡ line ∷ rest
  pub name_is : is_word line 0 (name_of d.due) ≡ true
  pub was : taken d.due d line ≡ Ok new
  pub reads : Reads new rest end

took : (d : Draft) (words : Line) (lines : List Line) (end : Draft) (due : Bool) (said : Judged Draft) (bad : TextCode) → is_word words 0 (name_of d.due) ≡ due
    → taken d.due d words ≡ said
    → Then (step_of (cond due (said >>= λ new. Ok (goes_on new)) (Err bad))) lines end (λ new. Reads new lines end) → Took d (words ∷ lines) end
took d words lines end true (Ok new) bad named was reads =
    record { line = words; rest = lines; new = new; lines_are = refl; name_is = named; was = was; reads = reads }
took d words lines end true (Err code) bad named was reads = absurd reads
took d words lines end false said bad named was reads = absurd reads

-- before a car was read, the line that is due has to come
pub due_first : (d : Draft) (lines : List Line) (end : Draft) → may_end d.due ≡ false → Reads d lines end → Took d lines end
due_first d [] end early reads = absurd reads
due_first d (words ∷ lines) end early reads =
    took d words lines end (is_word words 0 (name_of d.due)) (taken d.due d words) (misplaced d.due d.version words) refl refl (rw early at reads)

-- and where it comes, it is taken
pub due_taken : (d : Draft) (words : Line) (lines : List Line) (end new : Draft) → may_end d.due ≡ false → is_word words 0 (name_of d.due) ≡ true
    → taken d.due d words ≡ Ok new → Reads new lines end → Reads d (words ∷ lines) end
due_taken d words lines end new early named was reads = rw (early, named, was) reads
