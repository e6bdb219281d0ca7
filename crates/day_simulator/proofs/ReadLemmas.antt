-- Lines of a text: what a run reads of them.
use Rattle.std.proofs.Common.{◌≡◌, ℕ, zero, suc, ◌-◌, ◌<◌, Bool, true, false, cond, eqb, List, [], ◌∷◌, ◌++◌, length, take, refl, sym, ap, ◌∙◌, subst, arith}
use Rattle.std.proofs.Common.{Option, Some, None, Result, Ok, Err}
use Rattle.std.specs.Prelude.{IsErrOf, OnOk, OnErr}
use Rattle.std.specs.List.{concat}
use Rattle.std.specs.Io.BufRead.{strip_last}
use Rattle.std.specs.Io.KnownBytes.{prepend_known, IsAtEnd}
use Rattle.std.proofs.lemmas.List.{length-append, take-append-le, take_all}
use Rattle.std.proofs.lemmas.List.Elements.{All-nil}
use Rattle.search_model.specs.Days.{Day, day_after_refused}
use Rattle.search_model.specs.declared.RowFault.TheVariants.{NoRow}
use Rattle.day_laws.specs.Standing.{row_number}
use Rattle.day_text.specs.LogTexts.{refused_text}
use Rattle.lift_text.specs.Lines.{pieces_of, line_of, HasWholeLine}
use Rattle.lift_text.specs.Page.{PageState, text_at}
use Rattle.lift_text.specs.Reading.{TextState, NextRaw, Passed, line_limit}
use Rattle.lift_text.specs.declared.faults.TextFault.{TextFault}
use Rattle.lift_text.specs.declared.faults.TextFault.TheVariants.{Bad, TooLong as TextTooLong, Read as TextRead, NoMemory as TextNoMemory}
use Rattle.lift_text.specs.declared.faults.RawLine.{RawLine}
use Rattle.lift_text.specs.declared.faults.RawLine.TheVariants.{Line, Long, End}
use Rattle.lift_text.proofs.PieceLemmas.{ends_with_byte-push}
use Rattle.lift_text.proofs.ShowLemmas.{concat-pieces}
use Rattle.lift_text.proofs.SkipLemmas.{size_of, size_of-pieces}
use Rattle.day_laws.specs.RowLines.{rows_of_line}
use Rattle.day_simulator.specs.RowRuns.{Right, AreRowsDone, DidNext, IsLineDone, IsLineBetween, StopsAt, fault_of, next_after}
use Rattle.day_simulator.specs.declared.row_runs.RunFault.{RunFault}
use Rattle.day_simulator.specs.declared.row_runs.NextRow.{NextRow}
use Rattle.day_simulator.specs.declared.row_runs.RunFault.TheVariants.{TooLong, Read, NoMemory}
use Rattle.day_simulator.specs.declared.row_runs.NextRow.TheVariants.{End as EndOfText}
use Rattle.day_simulator.proofs.RowRunLemmas.{append-assoc, append-nil, long-row-done, long-rows}

-- ---- the lines of a text, joined

-- a text is its first line and what stands behind it
pub first-piece : (bytes piece later : List ℕ) → pieces_of bytes ≡ piece ∷ pieces_of later → bytes ≡ piece ++ later
first-piece bytes piece later is = sym (concat-pieces bytes) ∙ ap concat is ∙ ap (λ (r : List ℕ). piece ++ r) (concat-pieces later)

-- ---- a line of which nothing is told but what it has

last_place : (b : ℕ) (xs : List ℕ) → length (xs ++ b ∷ []) - 1 ≡ length xs
last_place b xs = omega (arith, length-append xs (b ∷ []))

strip_pushed : (b : ℕ) (xs : List ℕ) → strip_last b (xs ++ b ∷ []) ≡ xs
strip_pushed b xs =
    let all = xs ++ b ∷ [] in
    ap (λ (e : Bool). cond e (take (length all - 1) all) all) (ends_with_byte-push b xs) ∙ ap (λ (n : ℕ). take n all) (last_place b xs)
    ∙ take-append-le (length xs) xs (b ∷ []) (omega arith) ∙ take_all (length xs) xs (omega arith)

-- this line with an end
abbrev pub ended : List ℕ → List ℕ
ended line = (line ++ 13 ∷ []) ++ 10 ∷ []

pub line_of-ended : (line : List ℕ) → line_of (ended line) ≡ line
line_of-ended line =
    let all = ended line in
    ap (λ (e : Bool). cond e (strip_last 13 (strip_last 10 all)) all) (ends_with_byte-push 10 (line ++ 13 ∷ []))
    ∙ ap (strip_last 13) (strip_pushed 10 (line ++ 13 ∷ [])) ∙ strip_pushed 13 line

abbrev zeros : ℕ → List ℕ
zeros zero = []
zeros (suc n) = 0 ∷ zeros n

length-zeros : (n : ℕ) → length (zeros n) ≡ n
length-zeros zero = refl
length-zeros (suc n) = omega (arith, length-zeros n)

-- ---- a line that was read

between : (from to : TextState) (piece : List ℕ) → pieces_of from.bytes ≡ piece ∷ pieces_of to.bytes → Passed from to → IsLineBetween from piece to
between from to piece is passed =
    let sizes = ap size_of is in
    record { pieces = is; limit = omega (arith, passed.limit, sizes, size_of-pieces from.bytes, size_of-pieces to.bytes) }

pub line-read : (right : Right) (old new : Day) (text : List ℕ) (before after : Option TextState) (line : List ℕ)
    → NextRaw before (Ok Line) line after → AreRowsDone right old (rows_of_line line) new text → IsLineDone right old new text before after
line-read right old new text None after line next done =
    record { piece = ended line; done = subst (λ (l : List ℕ). AreRowsDone right old (rows_of_line l) new text) (sym (line_of-ended line)) done; next = tt }
line-read right old new text (Some from) None line next done = absurd next
line-read right old new text (Some from) (Some to) line next done =
    record {
      piece = next.0;
      done = subst (λ (l : List ℕ). AreRowsDone right old (rows_of_line l) new text) (sym next.3) done;
      next =
          between from to next.0 next.1 next.6;
    }

pub long-line-read : (right : Right) (old new : Day) (text : List ℕ) (before after : Option TextState) (raw : List ℕ)
    → NextRaw before (Ok Long) raw after → AreRowsDone right old (None ∷ []) new text → IsLineDone right old new text before after
long-line-read right old new text None after raw next done =
    let line = zeros 4097 in
    let long = length-zeros 4097 in
    record {
      piece = ended line;
      done =
          subst (λ r. AreRowsDone right old r new text) (sym (ap rows_of_line (line_of-ended line) ∙ long-rows line (omega (arith, long)))) done;
      next = tt;
    }
long-line-read right old new text (Some from) None raw next done = absurd next
long-line-read right old new text (Some from) (Some to) raw next done =
    record {
      piece = next.0;
      done = subst (λ r. AreRowsDone right old r new text) (sym (long-rows (line_of next.0) next.3)) done;
      next =
          between from to next.0 next.1 next.5;
    }

-- ---- where a run stops

-- the bytes of a text, where they are known
abbrev bytes_at : Option TextState → List ℕ
bytes_at None = []
bytes_at (Some text) = text.bytes

pub stops-end : (before : Option TextState) (page : PageState) (raw : List ℕ) (left : Option (List ℕ))
    → NextRaw before (Ok End) raw (text_at page left) → IsAtEnd left → StopsAt (Ok tt) before page.unread left
stops-end None page raw left next end = tt
stops-end (Some from) page raw None next end = ((ap pieces_of next.0, end), tt)
stops-end (Some from) page raw (Some later) next end = ((ap pieces_of next.0, end), sym (ap bytes_at next.1))

-- behind the first line of a text these bytes were taken
first-ahead : (bytes piece ahead later : List ℕ) → pieces_of bytes ≡ piece ∷ pieces_of (ahead ++ later)
    → bytes ≡ concat (take 1 (pieces_of bytes)) ++ (ahead ++ later)
first-ahead bytes piece ahead later is =
    subst (λ (pieces : List (List ℕ)). bytes ≡ concat (take 1 pieces) ++ (ahead ++ later)) (sym is)
    (first-piece bytes piece (ahead ++ later) is ∙ ap (λ (r : List ℕ). r ++ (ahead ++ later)) (sym (append-nil piece)))

-- what is left of a text whose first line was read, but for the memory for its row
pub stops-line : (before : Option TextState) (page : PageState) (raw : List ℕ) (left : Option (List ℕ))
    → NextRaw before (Ok Line) raw (text_at page left) → StopsAt (Err NoMemory) before page.unread left
stops-line None page raw left next = tt
stops-line (Some from) page raw None next = absurd next
stops-line (Some from) page raw (Some later) next =
    (record { piece = next.0; pieces = pieces_of (page.unread ++ later); next = next.1 }, first-ahead from.bytes next.0 page.unread later next.1)

pub stops-long-line : (before : Option TextState) (page : PageState) (raw : List ℕ) (left : Option (List ℕ))
    → NextRaw before (Ok Long) raw (text_at page left) → StopsAt (Err NoMemory) before page.unread left
stops-long-line None page raw left next = tt
stops-long-line (Some from) page raw None next = absurd next
stops-long-line (Some from) page raw (Some later) next =
    (record { piece = next.0; pieces = pieces_of (page.unread ++ later); next = next.1 }, first-ahead from.bytes next.0 page.unread later next.1)

pub stops-too-long : (before after : Option TextState) (raw ahead : List ℕ) (left : Option (List ℕ)) → NextRaw before (Err TextTooLong) raw after
    → StopsAt (Err TooLong) before ahead left
stops-too-long None after raw ahead left next = tt
stops-too-long (Some from) after raw ahead left next = (record { piece = next.0; pieces = next.1; next = next.2; long = omega (arith, next.3) }, tt)

-- a read failed behind these bytes
pub stops-cut : (page : PageState) (before left : Option (List ℕ)) (taken ahead : List ℕ) → before ≡ prepend_known taken left
    → (HasWholeLine (page.unread ++ taken) → ⊥) → StopsAt (Err Read) (text_at page before) ahead left
stops-cut page before None taken ahead given none =
    subst (λ (known : Option (List ℕ)). StopsAt (Err Read) (text_at page known) ahead None) (sym given) tt
stops-cut page before (Some later) taken ahead given none =
    subst (λ (known : Option (List ℕ)). StopsAt (Err Read) (text_at page known) ahead (Some later)) (sym given)
    (record { taken = page.unread ++ taken; held = sym (append-assoc page.unread taken later); none = none; whole = All-nil HasWholeLine }, tt)

-- ---- one line

-- a line that is over long was refused
pub long-line-done : (right : Right) (old new : Day) (text line : List ℕ) {E : Type 0} (done : Result Unit E) → line_limit < length line
    → OnOk done (new ≡ day_after_refused old) → OnOk done (text ≡ refused_text (row_number old) NoRow)
    → OnOk done (AreRowsDone right old (rows_of_line line) new text)
long-line-done right old new text line (Ok unit) long day log =
    subst (λ r. AreRowsDone right old r new text) (sym (long-rows line long)) (long-row-done right old new text day log)
long-line-done right old new text line (Err error) long day log = tt

pub line-next : (right : Right) (old new : Day) (text : List ℕ) (before : Option TextState) (page : PageState) (line : List ℕ) (left : Option (List ℕ))
    {E : Type 0} (done : Result Unit E)
    → NextRaw before (Ok Line) line (text_at page left) → OnOk done (AreRowsDone right old (rows_of_line line) new text) → OnErr done (new ≡ old)
    → DidNext right old new (next_after done) text before (text_at page left) page.unread left
line-next right old new text before page line left (Ok unit) next ok err = line-read right old new text before (text_at page left) line next ok
line-next right old new text before page line left (Err error) next ok err = (err, stops-line before page line left next)

-- the same of what a call answered
pub line-answered : (right : Right) (old new : Day) (text : List ℕ) (before : Option TextState) (page : PageState) (line raw : List ℕ)
    (left : Option (List ℕ)) {E : Type 0} (done : Result Unit E) (read : Result RawLine TextFault) (turn : Result NextRow RunFault)
    → read ≡ Ok Line → line ≡ raw → turn ≡ next_after done → NextRaw before read raw (text_at page left)
    → OnOk done (AreRowsDone right old (rows_of_line line) new text) → OnErr done (new ≡ old)
    → DidNext right old new turn text before (text_at page left) page.unread left
line-answered right old new text before page line raw left done read turn is same turn_is next ok err =
    let after = text_at page left in
    subst (λ (t : Result NextRow RunFault). DidNext right old new t text before after page.unread left) (sym turn_is)
    (line-next right old new text before page line left done
    (subst (λ (l : List ℕ). NextRaw before (Ok Line) l after) (sym same) (subst (λ (r : Result RawLine TextFault). NextRaw before r raw after) is next)) ok
    err)

pub long-line-next : (right : Right) (old new : Day) (text : List ℕ) (before : Option TextState) (page : PageState) (raw : List ℕ) (left : Option (List ℕ))
    {E : Type 0} (done : Result Unit E)
    → NextRaw before (Ok Long) raw (text_at page left) → OnOk done (new ≡ day_after_refused old)
    → OnOk done (text ≡ refused_text (row_number old) NoRow) → OnErr done (new ≡ old)
    → DidNext right old new (next_after done) text before (text_at page left) page.unread left
long-line-next right old new text before page raw left (Ok unit) next day log err =
    long-line-read right old new text before (text_at page left) raw next (long-row-done right old new text day log)
long-line-next right old new text before page raw left (Err error) next day log err = (err, stops-long-line before page raw left next)

pub long-line-answered : (right : Right) (old new : Day) (text : List ℕ) (before : Option TextState) (page : PageState) (raw : List ℕ)
    (left : Option (List ℕ)) {E : Type 0} (done : Result Unit E) (read : Result RawLine TextFault) (turn : Result NextRow RunFault)
    → read ≡ Ok Long → turn ≡ next_after done → NextRaw before read raw (text_at page left) → OnOk done (new ≡ day_after_refused old)
    → OnOk done (text ≡ refused_text (row_number old) NoRow) → OnErr done (new ≡ old)
    → DidNext right old new turn text before (text_at page left) page.unread left
long-line-answered right old new text before page raw left done read turn is turn_is next day log err =
    let after = text_at page left in
    subst (λ (t : Result NextRow RunFault). DidNext right old new t text before after page.unread left) (sym turn_is)
    (long-line-next right old new text before page raw left done (subst (λ (r : Result RawLine TextFault). NextRaw before r raw after) is next) day log err)

pub end-next : (right : Right) (day : Day) (text : List ℕ) (before : Option TextState) (page : PageState) (raw : List ℕ) (left : Option (List ℕ))
    → NextRaw before (Ok End) raw (text_at page left) → IsAtEnd left
    → DidNext right day day (Ok EndOfText) text before (text_at page left) page.unread left
end-next right day text before page raw left next end = (refl, stops-end before page raw left next end)

-- A line could not be read: where the source tells what it has left, it is never one of the other two faults.
pub fault-next : (right : Right) (day : Day) (text : List ℕ) (page : PageState) (old left : Option (List ℕ)) (after : Option TextState) (raw : List ℕ)
    (fault : TextFault) (taken ahead : List ℕ)
    → NextRaw (text_at page old) (Err fault) raw after → old ≡ prepend_known taken left → (fault ≡ TextRead → HasWholeLine (page.unread ++ taken) → ⊥)
    → DidNext right day day (Err (fault_of fault)) text (text_at page old) after ahead left
fault-next right day text page old left after raw TextTooLong taken ahead next given none =
    (refl, stops-too-long (text_at page old) after raw ahead left next)
fault-next right day text page old left after raw TextRead taken ahead next given none = (refl, stops-cut page old left taken ahead given (none refl))
fault-next right day text page old left after raw (Bad line code) taken ahead next given none = (refl, stops-bad (text_at page old) next)
  where
    stops-bad : (before : Option TextState) → NextRaw before (Err (Bad line code)) raw after → StopsAt (Err NoMemory) before ahead left
    stops-bad None next = tt
    stops-bad (Some from) next = absurd next
fault-next right day text page old left after raw TextNoMemory taken ahead next given none = (refl, stops-none (text_at page old) next)
  where
    stops-none : (before : Option TextState) → NextRaw before (Err TextNoMemory) raw after → StopsAt (Err NoMemory) before ahead left
    stops-none None next = tt
    stops-none (Some from) next = absurd next

pub fault-answered : (right : Right) (day : Day) (text : List ℕ) (page : PageState) (old left : Option (List ℕ)) (after : Option TextState) (raw : List ℕ)
    (fault : TextFault) (taken ahead : List ℕ) (read : Result RawLine TextFault) (answer : RunFault)
    → read ≡ Err fault → answer ≡ fault_of fault → NextRaw (text_at page old) read raw after → old ≡ prepend_known taken left
    → (IsErrOf read TextRead → HasWholeLine (page.unread ++ taken) → ⊥)
    → DidNext right day day (Err answer) text (text_at page old) after ahead left
fault-answered right day text page old left after raw fault taken ahead read answer is answer_is next given none =
    subst (λ (f : RunFault). DidNext right day day (Err f) text (text_at page old) after ahead left) (sym answer_is)
    (fault-next right day text page old left after raw fault taken ahead
    (subst (λ (r : Result RawLine TextFault). NextRaw (text_at page old) r raw after) is next) given (λ e. none (is ∙ ap Err e)))
