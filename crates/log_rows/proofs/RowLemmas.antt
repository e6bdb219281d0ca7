-- Rows in front of a log: line by line, and all of them.
use Rattle.std.proofs.Common.{◌≡◌, ℕ, ◌+◌, ◌-◌, ◌<◌, ◌≤◌, Bool, cond, ltb, List, [], ◌∷◌, ◌++◌, length, map, drop, Option, None, Some, IfSome, Result, Ok, Err}
use Rattle.std.proofs.Common.{IfErr, OnOk, refl}
use Rattle.std.proofs.Common.{sym, ap, ◌∙◌, subst, arith}
use Rattle.std.specs.Prelude.{All, IsSomeAnd, option_map, codes}
use Rattle.std.proofs.lemmas.Bool.{false_from_ne_true, ltb-true, lt-ltb}
use Rattle.std.proofs.lemmas.List.{append-nil, append_assoc, drop_at, length-append, length_push, map-append, map_push}
use Rattle.std.proofs.lemmas.List.Elements.{All-nil, All-push}
use Rattle.elevator_model.specs.Building.{Building}
use Rattle.search_model.specs.Days.{Row}
use Rattle.lift_text.specs.Lines.{pieces_of, line_of}
use Rattle.lift_text.specs.Reading.{TextState, NextRaw, Passed, line_limit}
use Rattle.lift_text.specs.Shows.{FaultShows, WentOn}
use Rattle.lift_text.specs.declared.faults.RawLine.TheVariants.{Line, Long, End}
use Rattle.lift_text.specs.declared.codes.TextCode.TheVariants.{CutShort}
use Rattle.lift_text.specs.declared.faults.TextFault.{TextFault}
use Rattle.lift_text.specs.declared.faults.TextFault.TheVariants.{Bad, NoMemory, Read, TooLong}
use Rattle.lift_text.proofs.CrossLemmas.{passed_more}
use Rattle.lift_text.proofs.SkipLemmas.{size_of, size_of-pieces}
use Rattle.day_text.specs.declared.rows.GoodRow.{GoodRow}
use Rattle.day_text.specs.Records.{row_as_said, row_of_line, row_within}
use Rattle.day_laws.proofs.RowFaults.{good-row}
use Rattle.day_laws.specs.RowLines.{rows_of, rows_of_line, rows_of_short}
use Rattle.log_rows.specs.declared.rows.Before.{Before}
use Rattle.log_rows.specs.declared.rows.Before.TheVariants.{Log, Row as RowLine}
use Rattle.log_rows.specs.Rows.{AreAdded, AreRowsGiven, AreRowsPast, BeginsLog, Grows, IsGood, IsLineJudged, IsNextPast, IsNextTaken, IsRowAppended, ReadsLines}
use Rattle.log_rows.specs.Rows.{RowsInFront, TellsNext, TellsNoLog, TellsRows, after_added, rows_within, said_of}

-- ---- a row that is added

row_good : (b : Building) (row : Option GoodRow) (said : Option Row) → option_map row_as_said row ≡ row_within b said → IsGood b row
row_good b None said is = tt
row_good b (Some row) said is = (good-row b said (row_as_said row) is).1

pub row_added : (b : Building) (line : List ℕ) (old new : List (Option GoodRow)) (row : Option GoodRow) → (line ≡ [] → ⊥) → new ≡ old ++ row ∷ []
    → option_map row_as_said row ≡ row_within b (row_of_line line) → AreAdded b (rows_of_short line) old new
row_added b [] old new row full is said = absurd (full refl)
row_added b (x ∷ line) old new row full is said =
    ap (map said_of) is ∙ map_push said_of old row ∙ ap (λ (r : Option Row). map said_of old ++ r ∷ []) said

pub none_added : (b : Building) (line : List ℕ) (old : List (Option GoodRow)) → line ≡ [] → AreAdded b (rows_of_short line) old old
none_added b line old empty = subst (λ (l : List ℕ). AreAdded b (rows_of_short l) old old) (sym empty) (sym (append-nil (map said_of old)))

long_added : (b : Building) (old new : List (Option GoodRow)) → new ≡ old ++ None ∷ [] → AreAdded b (None ∷ []) old new
long_added b old new is = ap (map said_of) is ∙ map_push said_of old None

pub row_grows : (b : Building) (old new : List (Option GoodRow)) (row : Option GoodRow) (said : Option Row) → new ≡ old ++ row ∷ []
    → option_map row_as_said row ≡ row_within b said → Grows b old new
row_grows b old new row said is good = record {
  good = λ all. subst (All (IsGood b)) (sym is) (All-push (IsGood b) old row all (row_good b row said good));
  few = let size = ap length is in omega (arith, size, length_push old row);
}

pub long_grows : (b : Building) (old new : List (Option GoodRow)) → new ≡ old ++ None ∷ [] → Grows b old new
long_grows b old new is = row_grows b old new None None is refl

pub none_grows : (b : Building) (old : List (Option GoodRow)) → Grows b old old
none_grows b old = record { good = λ all. all; few = omega arith }

pub grows_after : {E : Type 0} (b : Building) (old new : List (Option GoodRow)) (added : Result Unit E) (answer : Result Before TextFault)
    → answer ≡ after_added added → OnOk added (Grows b old new) → OnOk answer (Grows b old new)
grows_after b old new (Ok done) answer is grows = subst (λ (a : Result Before TextFault). OnOk a (Grows b old new)) (sym is) grows
grows_after b old new (Err error) answer is grows = subst (λ (a : Result Before TextFault). OnOk a (Grows b old new)) (sym is) tt

pub long_grows_after : {E : Type 0} (b : Building) (old new : List (Option GoodRow)) (added : Result Unit E) (answer : Result Before TextFault)
    → answer ≡ after_added added → OnOk added (new ≡ old ++ None ∷ []) → OnOk answer (Grows b old new)
long_grows_after {E} b old new (Ok done) answer is grows = grows_after {E = E} b old new (Ok done) answer is (long_grows b old new grows)
long_grows_after {E} b old new (Err error) answer is grows = grows_after {E = E} b old new (Err error) answer is tt

pub judged_row : {E : Type 0} (b : Building) (line : List ℕ) (old new : List (Option GoodRow)) (added : Result Unit E) (answer : Result Before TextFault)
    → answer ≡ after_added added → (line ≡ codes "day 1" → ⊥) → OnOk added (AreAdded b (rows_of_short line) old new) → IsLineJudged b line old new answer
judged_row b line old new (Ok done) answer is other grown = subst (IsLineJudged b line old new) (sym is) (other, grown)
judged_row b line old new (Err error) answer is other grown = subst (IsLineJudged b line old new) (sym is) refl

-- ---- one line

short_rows : (line : List ℕ) → length line ≤ 4096 → rows_of_line line ≡ rows_of_short line
short_rows line short =
    ap (λ (b : Bool). cond {A = List (Option Row)} b (None ∷ []) (rows_of_short line))
    (false_from_ne_true (ltb line_limit (length line)) (λ k. let more = ltb-true line_limit (length line) k in omega (arith, more, short)))

long_rows : (line : List ℕ) → line_limit < length line → rows_of_line line ≡ None ∷ []
long_rows line long = ap (λ (b : Bool). cond {A = List (Option Row)} b (None ∷ []) (rows_of_short line)) (lt-ltb line_limit (length line) long)

one_line : (from to : TextState) (piece : List ℕ) → pieces_of from.bytes ≡ piece ∷ pieces_of to.bytes → to.line ≡ from.line + 1 → Passed from to
    → ReadsLines from (piece ∷ []) to
one_line from to piece is line passed = record { pieces = is; line_is = line; limit_is = passed.limit }

long_begins_none : (line : List ℕ) → line_limit < length line → line ≡ codes "day 1" → ⊥
long_begins_none line long is = let size : length line ≡ 5 = ap length is in absurd (omega (arith, long, size))

module _ (b : Building) (old new : List (Option GoodRow)) where
  pub line_taken : (before now : Option TextState) (raw : List ℕ) (answer : Result Before TextFault) → NextRaw before (Ok Line) raw now
      → IsLineJudged b raw old new answer → IsNextTaken b old new before answer now
  line_taken None now raw answer next judged = tt
  line_taken (Some from) None raw answer next judged = absurd next
  line_taken (Some from) (Some to) raw (Ok RowLine) next judged = record {
    piece = next.0;
    reads = one_line from to next.0 next.1 next.5 next.6;
    other = λ begins. judged.0 (sym next.3 ∙ begins);
    added = subst (λ (said : List (Option Row)). AreAdded b said old new) (sym (ap rows_of_line next.3 ∙ short_rows raw next.4)) judged.1;
  }
  line_taken (Some from) (Some to) raw (Ok Log) next judged = record {
    piece = next.0;
    reads = one_line from to next.0 next.1 next.5 next.6;
    begins = next.3 ∙ judged.0;
    same = judged.1;
  }
  line_taken (Some from) (Some to) raw (Err fault) next judged = subst (TellsNext from) (sym judged) tt

  pub long_taken : {E : Type 0} (before now : Option TextState) (raw : List ℕ) (added : Result Unit E) (answer : Result Before TextFault)
      → NextRaw before (Ok Long) raw now → answer ≡ after_added added → OnOk added (new ≡ old ++ None ∷ []) → IsNextTaken b old new before answer now
  long_taken None now raw added answer next is grown = tt
  long_taken (Some from) None raw added answer next is grown = absurd next
  long_taken (Some from) (Some to) raw (Ok done) answer next is grown =
      subst (λ (a : Result Before TextFault). IsNextTaken b old new (Some from) a (Some to)) (sym is) (record {
        piece = next.0;
        reads = one_line from to next.0 next.1 next.4 next.5;
        other = long_begins_none (line_of next.0) next.3;
        added = subst (λ (said : List (Option Row)). AreAdded b said old new) (sym (long_rows (line_of next.0) next.3)) (long_added b old new grown);
      })
  long_taken (Some from) (Some to) raw (Err error) answer next is grown =
      subst (λ (a : Result Before TextFault). IsNextTaken b old new (Some from) a (Some to)) (sym is) tt

  pub end_taken : (before now : Option TextState) (raw : List ℕ) (line number : ℕ) → NextRaw before (Ok End) raw now → IfSome before (λ t. t.line ≡ line)
      → number ≡ line + 1 → IsNextTaken b old new before (Err (Bad number CutShort)) now
  end_taken None now raw line number next at is = tt
  end_taken (Some from) now raw line number next at is = (next.0, is ∙ ap (λ (n : ℕ). n + 1) (sym at), refl)

  pub fault_taken : (before now : Option TextState) (raw : List ℕ) (fault : TextFault) → NextRaw before (Err fault) raw now
      → IsNextTaken b old new before (Err fault) now
  fault_taken None now raw fault next = tt
  fault_taken (Some from) now raw (Bad line code) next = absurd next
  fault_taken (Some from) now raw TooLong next = record { piece = next.0; pieces = next.1; next = next.2; past = next.3 }
  fault_taken (Some from) now raw Read next = tt
  fault_taken (Some from) now raw NoMemory next = absurd next

-- ---- all rows

rows_joined : (front later : List (List ℕ)) → rows_of (front ++ later) ≡ rows_of front ++ rows_of later
rows_joined [] later = refl
rows_joined (piece ∷ front) later = ap (λ (r : List (Option Row)). rows_of_line (line_of piece) ++ r) (rows_joined front later)
    ∙ sym (append_assoc (rows_of_line (line_of piece)) (rows_of front) (rows_of later))

-- the rows of one more line
rows_of_more : (b : Building) (front : List (List ℕ)) (piece : List ℕ)
    → rows_within b (rows_of (front ++ piece ∷ [])) ≡ rows_within b (rows_of front) ++ rows_within b (rows_of_line (line_of piece))
rows_of_more b front piece =
    ap (rows_within b) (rows_joined front (piece ∷ []) ∙ ap (λ (r : List (Option Row)). rows_of front ++ r) (append-nil (rows_of_line (line_of piece))))
    ∙ map-append (row_within b) (rows_of front) (rows_of_line (line_of piece))

reads_none : (from : TextState) → ReadsLines from [] from
reads_none from = record { pieces = refl; line_is = omega arith; limit_is = refl }

reads_more : (from mid to : TextState) (front : List (List ℕ)) (piece : List ℕ) → ReadsLines from front mid → ReadsLines mid (piece ∷ []) to
    → ReadsLines from (front ++ piece ∷ []) to
reads_more from mid to front piece first second = record {
  pieces = first.pieces ∙ ap (λ (r : List (List ℕ)). front ++ r) second.pieces ∙ sym (append_assoc front (piece ∷ []) (pieces_of to.bytes));
  line_is = omega (arith, length-append front (piece ∷ []), first.line_is, second.line_is);
  limit_is = omega (arith, first.limit_is, second.limit_is);
}

-- a line past the most bytes shows that there are more of them
next_past : (from : TextState) → IsNextPast from → from.limit < length from.bytes
next_past from next = let sizes = ap size_of next.next in omega (arith, next.past, sizes, size_of-pieces from.bytes)

pub reads_past : (from to : TextState) (front : List (List ℕ)) → ReadsLines from front to → to.limit < length to.bytes → from.limit < length from.bytes
reads_past from to front reads past = omega (arith, reads.limit_is, past)

-- rows past the most bytes that may be read show that there are more bytes
pub rows_are_past : (from : TextState) → AreRowsPast from → from.limit < length from.bytes
rows_are_past from rows = reads_past from rows.here rows.front rows.reads (next_past rows.here rows.past)

-- the rows so far
abbrev pub RowsSoFar : Building → List (Option GoodRow) → Option TextState → Option TextState → Type 0
RowsSoFar b rows before now = IfSome before (λ from. IsSomeAnd now (λ here. RowsInFront b from (map said_of rows) here))

module _ (b : Building) where
  pub none_so_far : (before : Option TextState) (rows : List (Option GoodRow)) → rows ≡ [] → RowsSoFar b rows before before
  none_so_far None rows none = tt
  none_so_far (Some from) rows none =
      record { front = []; reads = reads_none from; none_begins = All-nil (λ piece. BeginsLog piece → ⊥); rows_are = ap (map said_of) none }

  one_more : (from mid to : TextState) (old new : List (Option GoodRow)) → RowsInFront b from (map said_of old) mid → IsRowAppended b mid to old new
      → RowsInFront b from (map said_of new) to
  one_more from mid to old new so_far row = record {
    front = so_far.front ++ row.piece ∷ [];
    reads = reads_more from mid to so_far.front row.piece so_far.reads row.reads;
    none_begins = All-push (λ piece. BeginsLog piece → ⊥) so_far.front row.piece so_far.none_begins row.other;
    rows_are = row.added ∙ ap (λ (r : List (Option Row)). r ++ rows_within b (rows_of_line (line_of row.piece))) so_far.rows_are
        ∙ sym (rows_of_more b so_far.front row.piece);
  }

  pub more_so_far : (before mid now : Option TextState) (old new : List (Option GoodRow)) → RowsSoFar b old before mid
      → IsNextTaken b old new mid (Ok RowLine) now → RowsSoFar b new before now
  more_so_far None mid now old new so_far next = tt
  more_so_far (Some from) None now old new so_far next = absurd so_far
  more_so_far (Some from) (Some mid) None old new so_far next = absurd next
  more_so_far (Some from) (Some mid) (Some to) old new so_far next = one_more from mid to old new so_far next

  pub log_found : (before mid now : Option TextState) (old new : List (Option GoodRow)) → RowsSoFar b old before mid → IsNextTaken b old new mid (Ok Log) now
      → AreRowsGiven b new before now
  log_found None mid now old new so_far next = tt
  log_found (Some from) None now old new so_far next = absurd so_far
  log_found (Some from) (Some mid) None old new so_far next = absurd next
  log_found (Some from) (Some mid) (Some to) old new so_far next = record {
    here = mid;
    first = next.piece;
    front = subst (λ (rows : List (Option GoodRow)). RowsInFront b from (map said_of rows) mid) (sym next.same) so_far;
    reads = next.reads;
    begins = next.begins;
  }

  told_before : (from mid : TextState) (old new : List (Option GoodRow)) (fault : TextFault) → RowsInFront b from (map said_of old) mid → TellsNext mid fault
      → TellsRows from fault
  told_before from mid old new (Bad line code) so_far told =
      (record { end = mid; front = so_far.front; reads = so_far.reads; none_begins = so_far.none_begins; ended = told.0; line_is = told.1 }, told.2)
  told_before from mid old new TooLong so_far told =
      record { here = mid; front = so_far.front; reads = so_far.reads; none_begins = so_far.none_begins; past = told }
  told_before from mid old new Read so_far told = tt
  told_before from mid old new NoMemory so_far told = tt

  pub no_log_found : (before mid now : Option TextState) (old new : List (Option GoodRow)) (fault : TextFault) → RowsSoFar b old before mid
      → IsNextTaken b old new mid (Err fault) now → TellsNoLog before fault
  no_log_found None mid now old new fault so_far next = tt
  no_log_found (Some from) None now old new fault so_far next = absurd so_far
  no_log_found (Some from) (Some mid) now old new fault so_far next = told_before from mid old new fault so_far next

-- ---- how far a text went

pub reads_passed : (from to : TextState) (front : List (List ℕ)) → ReadsLines from front to → Passed from to
reads_passed from to front reads =
    let count : to.line - from.line ≡ length front = omega (arith, reads.line_is) in
    let pieces : drop (to.line - from.line) (pieces_of from.bytes) ≡ pieces_of to.bytes = ap (λ (n : ℕ). drop n (pieces_of from.bytes)) count
    ∙ ap (drop (length front)) reads.pieces ∙ drop_at front (pieces_of to.bytes) (length front) refl in
    record { lines = omega (arith, reads.line_is); pieces = sym pieces; limit = reads.limit_is }

pub so_far_went : (b : Building) (rows : List (Option GoodRow)) (before now : Option TextState) → RowsSoFar b rows before now → WentOn before now
so_far_went b rows None now so_far = tt
so_far_went b rows (Some from) None so_far = absurd so_far
so_far_went b rows (Some from) (Some here) so_far = reads_passed from here so_far.front so_far.reads

pub rows_went : (b : Building) (rows : List (Option GoodRow)) (before now : Option TextState) → AreRowsGiven b rows before now → WentOn before now
rows_went b rows None now given = tt
rows_went b rows (Some from) None given = absurd given
rows_went b rows (Some from) (Some log) given =
    passed_more from given.here log (reads_passed from given.here given.front.front given.front.reads)
    (reads_passed given.here log (given.first ∷ []) given.reads)

-- ---- what shows of a fault

-- only want of memory comes of a line that was read
pub judged_shows : (b : Building) (line : List ℕ) (old new : List (Option GoodRow)) (answer : Result Before TextFault) (before : Option TextState)
    (left : Option (List ℕ)) → IsLineJudged b line old new answer → IfErr answer (λ fault. FaultShows before fault left)
judged_shows b line old new (Ok place) before left judged = tt
judged_shows b line old new (Err fault) before left judged = subst (λ (f : TextFault). FaultShows before f left) (sym judged) tt

pub added_shows : {E : Type 0} (added : Result Unit E) (answer : Result Before TextFault) (before : Option TextState) (left : Option (List ℕ))
    → answer ≡ after_added added → IfErr answer (λ fault. FaultShows before fault left)
added_shows (Ok done) answer before left is = subst (λ (a : Result Before TextFault). IfErr a (λ fault. FaultShows before fault left)) (sym is) tt
added_shows (Err error) answer before left is = subst (λ (a : Result Before TextFault). IfErr a (λ fault. FaultShows before fault left)) (sym is) tt
