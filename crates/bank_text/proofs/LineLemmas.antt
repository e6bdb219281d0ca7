-- What lines say, and what is read of them one after another.
use Rattle.std.proofs.Common.{◌≡◌, ℕ, ◌+◌, ◌<◌, ◌≤◌, Bool, true, false, cond, ◌&&◌, ◌==◌, eqb, List, [], ◌∷◌, ◌++◌, map, length, Option, None, Some, Result, Ok}
use Rattle.std.proofs.Common.{Err, IfSome, refl, sym, ap, subst, ◌∙◌, arith, append-nil, append_assoc, length-append}
use Rattle.std.specs.Prelude.{IfOk, IsSomeAnd, OnOk, nat_lt, not}
use Rattle.std.specs.List.{concat, list_any}
use Rattle.std.proofs.lemmas.Bool.{le-ltb, lt-ltb, ne_eqb}
use Rattle.std.proofs.lemmas.List.{map_push}
use Rattle.std.proofs.lemmas.List.Sums.{sum_by-append}
use Rattle.csv.specs.Machine.{next_record}
use Rattle.csv.specs.Reading.{strip_bom}
use Rattle.lift_text.specs.Lines.{pieces_of, line_of}
use Rattle.lift_text.specs.Reading.{TextState, NextRaw, Passed, line_limit}
use Rattle.lift_text.specs.Shows.{WentOn}
use Rattle.lift_text.specs.declared.faults.RawLine.TheVariants.{Line, Long, End}
use Rattle.lift_text.specs.declared.faults.TextFault.{TextFault}
use Rattle.lift_text.specs.declared.faults.TextFault.TheVariants.{Read, TooLong, Bad, NoMemory}
use Rattle.lift_text.proofs.ShowLemmas.{concat-pieces}
use Rattle.case_text.specs.CaseTexts.{Tells}
use Rattle.bank_text.specs.declared.banks.Bank.{Bank}
use Rattle.bank_text.specs.declared.row_lines.NextRow.{NextRow}
use Rattle.bank_text.specs.BankRows.{Said, is_said_in, is_stray, lines_of, said_of_line, said_of_short, strays_of}
use Rattle.bank_text.specs.Banks.{AreRowsAdded, AreRowsRead, IsLineSaid, IsLineTaken, IsRowsFault, NextTaken, all_with, ids_of, next_of, views_of}
use Rattle.bank_text.proofs.BankLemmas.{line_more, no_lines, nothing_more, same_ids}

-- ---- one line

-- a line without a byte says nothing
empty_says : said_of_short [] ≡ None
unfolding next_record strip_bom
empty_says = refl

-- a line that says something has a byte, and is a stray where no bank is named
pub stray_named : (line : List ℕ) (said : Said) (ids : List ℕ) (found : Bool) → Some said ≡ said_of_short line → found ≡ list_any (is_said_in (Some said)) ids
    → not found ≡ (nat_lt 0 (length line) && not (list_any (is_said_in (said_of_short line)) ids))
stray_named [] said ids found is named = absurd (clash (is ∙ empty_says))
  where
    clash : Some said ≡ None → ⊥
    clash e = cc
stray_named (b ∷ line) said ids found is named =
    let some : nat_lt 0 (length (b ∷ line)) ≡ true = lt-ltb 0 (length (b ∷ line)) (omega arith) in
    ap not named ∙ ap (λ (s : Option Said). not (list_any (is_said_in s) ids)) is
    ∙ sym (ap (λ (x : Bool). x && not (list_any (is_said_in (said_of_short (b ∷ line))) ids)) some)

none_in : (ids : List ℕ) → list_any (is_said_in None) ids ≡ false
none_in [] = refl
none_in (id ∷ ids) = none_in ids

and_true : (x : Bool) → x ≡ (x && true)
and_true true = refl
and_true false = refl

-- a line that says nothing is a stray where it has a byte
stray_unsaid : (ids : List ℕ) (some : Bool) (said : Option Said) → said ≡ None → some ≡ (some && not (list_any (is_said_in said) ids))
stray_unsaid ids some said none =
    and_true some ∙ sym (ap (λ (s : Option Said). some && not (list_any (is_said_in s) ids)) none ∙ ap (λ (x : Bool). some && not x) (none_in ids))

pub stray_unnamed : (line : List ℕ) (ids : List ℕ) (empty : Bool) → empty ≡ (length line == 0) → None ≡ said_of_short line
    → not empty ≡ (nat_lt 0 (length line) && not (list_any (is_said_in (said_of_short line)) ids))
stray_unnamed [] ids empty is none = ap not is
stray_unnamed (b ∷ line) ids empty is none =
    let some : nat_lt 0 (length (b ∷ line)) ≡ true = lt-ltb 0 (length (b ∷ line)) (omega arith) in
    let other : eqb (length (b ∷ line)) 0 ≡ false = ne_eqb (length (b ∷ line)) 0 (λ e. omega (arith, e)) in
    ap not (is ∙ other) ∙ sym some ∙ stray_unsaid ids (nat_lt 0 (length (b ∷ line))) (said_of_short (b ∷ line)) (sym none)

pub unsaid_rows : (banks : List Bank) (said : Option Said) → None ≡ said → views_of banks ≡ all_with (said ∷ []) (views_of banks)
unsaid_rows banks said none = nothing_more (views_of banks) ∙ ap (λ (s : Option Said). all_with (s ∷ []) (views_of banks)) none

-- ---- a line that was read

short_line : (line : List ℕ) → length line ≤ line_limit → said_of_line line ≡ said_of_short line
short_line line short = ap (λ (x : Bool). cond {A = Option Said} x None (said_of_short line)) (le-ltb line_limit (length line) short)

long_line : (line : List ℕ) → line_limit < length line → said_of_line line ≡ None
long_line line long = ap (λ (x : Bool). cond {A = Option Said} x None (said_of_short line)) (lt-ltb line_limit (length line) long)

lines_after : (from to : TextState) (piece line : List ℕ) → pieces_of from.bytes ≡ piece ∷ pieces_of to.bytes → line_of piece ≡ line
    → lines_of from ≡ line ∷ lines_of to
lines_after from to piece line pieces is = ap (map line_of) pieces ∙ ap (λ (l : List ℕ). l ∷ lines_of to) is

line_said : (before after : Option TextState) (raw : List ℕ) (ids : List ℕ) (stray : Bool) → NextRaw before (Ok Line) raw after
    → stray ≡ (nat_lt 0 (length raw) && not (list_any (is_said_in (said_of_short raw)) ids))
    → IfSome before (λ from. IsSomeAnd after (λ to. IsLineSaid from to ids (said_of_short raw) stray))
line_said None after raw ids stray next is = tt
line_said (Some from) None raw ids stray next is = absurd next
line_said (Some from) (Some to) raw ids stray next is =
    let said = short_line raw next.4 in
    record {
      line = raw;
      lines_are = lines_after from to next.0 raw next.1 next.3;
      said_is = sym said;
      stray_is = is ∙ ap (λ (s : Option Said). nat_lt 0 (length raw) && not (list_any (is_said_in s) ids)) (sym said);
    }

pub line_taken : {E : Type 0} (before after : Option TextState) (raw : List ℕ) (old new : List Bank) (taken : Result Bool E)
    (answer : Result NextRow TextFault) → answer ≡ next_of taken → NextRaw before (Ok Line) raw after
    → OnOk taken (views_of new ≡ all_with (said_of_short raw ∷ []) (views_of old))
    → IfOk taken (λ stray. stray ≡ (nat_lt 0 (length raw) && not (list_any (is_said_in (said_of_short raw)) (ids_of old))))
    → NextTaken before old answer new after
line_taken before after raw old new (Ok stray) answer is next rows stray_is =
    subst (λ (a : Result NextRow TextFault). NextTaken before old a new after) (sym is)
    (record { said = said_of_short raw; rows = rows; next = line_said before after raw (ids_of old) stray next stray_is })
line_taken before after raw old new (Err error) answer is next rows stray_is =
    subst (λ (a : Result NextRow TextFault). NextTaken before old a new after) (sym is) (untold before)
  where
    untold : (text : Option TextState) → IfSome text (λ from. Tells NoMemory (IsRowsFault from NoMemory))
    untold None = tt
    untold (Some from) = tt

long_said : (before after : Option TextState) (raw : List ℕ) (ids : List ℕ) → NextRaw before (Ok Long) raw after
    → IfSome before (λ from. IsSomeAnd after (λ to. IsLineSaid from to ids None true))
long_said None after raw ids next = tt
long_said (Some from) None raw ids next = absurd next
long_said (Some from) (Some to) raw ids next =
    let line = line_of next.0 in
    let long = next.3 in
    let said = long_line line long in
    let some : nat_lt 0 (length line) ≡ true = lt-ltb 0 (length line) (omega (arith, long)) in
    record {
      line = line;
      lines_are = lines_after from to next.0 line next.1 refl;
      said_is = sym said;
      stray_is = sym some ∙ stray_unsaid ids (nat_lt 0 (length line)) (said_of_line line) said;
    }

pub long_taken : (before after : Option TextState) (raw : List ℕ) (banks : List Bank) → NextRaw before (Ok Long) raw after
    → IsLineTaken before after banks banks true
long_taken before after raw banks next = record { said = None; rows = nothing_more (views_of banks); next = long_said before after raw (ids_of banks) next }

pub end_taken : (before after : Option TextState) (raw : List ℕ) (banks : List Bank) → NextRaw before (Ok End) raw after → (banks ≡ banks)
    × IfSome before (λ from. from.bytes ≡ [])
end_taken None after raw banks next = (refl, tt)
end_taken (Some from) after raw banks next = (refl, next.0)

-- a piece has no more bytes than its text
piece_within : (bytes piece : List ℕ) (pieces : List (List ℕ)) → pieces_of bytes ≡ piece ∷ pieces → length piece ≤ length bytes
piece_within bytes piece pieces is =
    let joined = ap length (sym (concat-pieces bytes) ∙ ap concat is) in
    let size = length-append piece (concat pieces) in
    omega (arith, joined, size)

pub fault_taken : (before after : Option TextState) (raw : List ℕ) (fault : TextFault) → NextRaw before (Err fault) raw after
    → IfSome before (λ from. Tells fault (IsRowsFault from fault))
fault_taken None after raw fault next = tt
fault_taken (Some from) after raw Read next = tt
fault_taken (Some from) after raw NoMemory next = absurd next
fault_taken (Some from) after raw (Bad line code) next = absurd next
fault_taken (Some from) after raw TooLong next =
    let within = piece_within from.bytes next.0 next.1 next.2 in
    let past = next.3 in
    record { fault_is = refl; long = omega (arith, within, past) }

-- ---- lines one after another

-- these lines were read, and nothing else
pub record AreLinesSaid (from to : TextState) (ids : List ℕ) (saids : List (Option Said)) (strays : ℕ) : Type 0 where
  pub lines : List (List ℕ)
  pub lines_are : lines_of from ≡ lines ++ lines_of to
  pub saids_are : saids ≡ map said_of_line lines
  pub strays_are : strays ≡ strays_of ids lines

-- what the lines so far say was brought to the banks that they name
pub record RowsSoFar (before now : Option TextState) (old new : List Bank) (strays count : ℕ) : Type 0 where
  pub saids : List (Option Said)
  pub count_is : length saids ≡ count
  pub rows : views_of new ≡ all_with saids (views_of old)
  pub read : IfSome before (λ from. IsSomeAnd now (λ to. AreLinesSaid from to (ids_of old) saids strays))

pub none_so_far : (before : Option TextState) (banks : List Bank) → RowsSoFar before before banks banks 0 0
none_so_far before banks = record { saids = []; count_is = refl; rows = no_lines (views_of banks); read = none before }
  where
    none : (text : Option TextState) → IfSome text (λ from. IsSomeAnd text (λ to. AreLinesSaid from to (ids_of banks) [] 0))
    none None = tt
    none (Some from) = record { lines = []; lines_are = refl; saids_are = refl; strays_are = refl }

-- a stray is counted
abbrev pub one_if : Bool → ℕ
one_if stray = cond {A = ℕ} stray 1 0

pub at_most_one : (stray : Bool) → one_if stray ≤ 1
at_most_one true = omega arith
at_most_one false = omega arith

lines_said : (from at to : TextState) (ids : List ℕ) (saids : List (Option Said)) (said : Option Said) (strays : ℕ) (stray : Bool)
    → AreLinesSaid from at ids saids strays → IsLineSaid at to ids said stray
    → AreLinesSaid from to ids (saids ++ said ∷ []) (strays + one_if stray)
lines_said from at to ids saids said strays stray so next =
    let counted : strays_of ids (so.lines ++ next.line ∷ []) ≡ strays_of ids so.lines + strays_of ids (next.line ∷ []) =
    sum_by-append (λ (line : List ℕ). cond {A = ℕ} (is_stray ids line) 1 0) so.lines (next.line ∷ []) in
    let one : one_if stray ≡ one_if (is_stray ids next.line) = ap one_if next.stray_is in
    let last : strays_of ids (next.line ∷ []) ≡ one_if (is_stray ids next.line) = omega arith in
    record {
      lines = so.lines ++ next.line ∷ [];
      lines_are = so.lines_are ∙ ap (λ (lines : List (List ℕ)). so.lines ++ lines) next.lines_are ∙ sym (append_assoc so.lines (next.line ∷ []) (lines_of to));
      saids_are = ap (λ (s : List (Option Said)). s ++ said ∷ []) so.saids_are ∙ ap (λ (s : Option Said). map said_of_line so.lines ++ s ∷ []) next.said_is
          ∙ sym (map_push said_of_line so.lines next.line);
      strays_are = omega (arith, so.strays_are, counted, one, last);
    }

read_more : (before at now : Option TextState) (ids : List ℕ) (saids : List (Option Said)) (said : Option Said) (strays : ℕ) (stray : Bool)
    → IfSome before (λ from. IsSomeAnd at (λ to. AreLinesSaid from to ids saids strays))
    → IfSome at (λ from. IsSomeAnd now (λ to. IsLineSaid from to ids said stray))
    → IfSome before (λ from. IsSomeAnd now (λ to. AreLinesSaid from to ids (saids ++ said ∷ []) (strays + one_if stray)))
read_more None at now ids saids said strays stray so next = tt
read_more (Some from) None now ids saids said strays stray so next = absurd so
read_more (Some from) (Some at) None ids saids said strays stray so next = absurd next
read_more (Some from) (Some at) (Some to) ids saids said strays stray so next = lines_said from at to ids saids said strays stray so next

pub line_so_far : (before at now : Option TextState) (old mid new : List Bank) (strays strays' count : ℕ) (stray : Bool)
    → RowsSoFar before at old mid strays count → IsLineTaken at now mid new stray → strays' ≡ strays + one_if stray
    → RowsSoFar before now old new strays' (count + 1)
line_so_far before at now old mid new strays strays' count stray so next counted =
    let saids = so.saids ++ next.said ∷ [] in
    let size = length-append so.saids (next.said ∷ []) in
    let length_is = so.count_is in
    let ids = same_ids old mid so.saids so.rows in
    let step = subst (λ (is : List ℕ). IfSome at (λ from. IsSomeAnd now (λ to. IsLineSaid from to is next.said stray))) ids next.next in
    record {
      saids = saids;
      count_is = omega (arith, size, length_is);
      rows = next.rows ∙ ap (all_with (next.said ∷ [])) so.rows ∙ line_more (views_of old) so.saids next.said;
      read = subst (λ (n : ℕ). IfSome before (λ from. IsSomeAnd now (λ to. AreLinesSaid from to (ids_of old) saids n))) (sym counted)
          (read_more before at now (ids_of old) so.saids next.said strays stray so.read step);
    }

-- ---- the end

all_read : (from to : TextState) (old new : List Bank) (saids : List (Option Said)) (strays : ℕ) → AreLinesSaid from to (ids_of old) saids strays
    → views_of new ≡ all_with saids (views_of old) → to.bytes ≡ [] → Passed from to → AreRowsRead from old new strays
all_read from to old new saids strays so rows none passed =
    let size = ap length none in
    let limit = passed.limit in
    let lines : lines_of from ≡ so.lines = so.lines_are ∙ ap (λ (bytes : List ℕ). so.lines ++ map line_of (pieces_of bytes)) none ∙ append-nil so.lines in
    record {
      short = omega (arith, size, limit);
      rows = rows ∙ ap (λ (s : List (Option Said)). all_with s (views_of old)) (so.saids_are ∙ ap (map said_of_line) (sym lines));
      strays_are = so.strays_are ∙ ap (strays_of (ids_of old)) (sym lines);
    }

rows_read : (before now : Option TextState) (old new : List Bank) (strays count : ℕ) → RowsSoFar before now old new strays count
    → IfSome now (λ to. to.bytes ≡ []) → WentOn before now → IfSome before (λ from. AreRowsRead from old new strays)
rows_read None now old new strays count so ended went = tt
rows_read (Some from) None old new strays count so ended went = absurd went
rows_read (Some from) (Some to) old new strays count so ended went = all_read from to old new so.saids strays so.read so.rows ended went

-- the end leaves the banks as they were
pub rows_end : (before at : Option TextState) (old mid new : List Bank) (strays count : ℕ) → RowsSoFar before at old mid strays count → (new ≡ mid)
    × IfSome at (λ to. to.bytes ≡ []) → WentOn before at → IfSome before (λ from. AreRowsRead from old new strays)
rows_end before at old mid new strays count so end went =
    rows_read before at old new strays count (subst (λ (banks : List Bank). RowsSoFar before at old banks strays count) (sym end.0) so) end.1 went

pub rows_added : (before now : Option TextState) (old mid new : List Bank) (strays count most : ℕ) → RowsSoFar before now old mid strays count → new ≡ mid
    → count ≤ most → AreRowsAdded old new most
rows_added before now old mid new strays count most so same few =
    let size = so.count_is in
    record { saids = so.saids; few = omega (arith, size, few); rows = ap views_of same ∙ so.rows }

past_limit : (from at : TextState) (fault : TextFault) → Passed from at → IsRowsFault at fault → IsRowsFault from fault
past_limit from at fault passed is =
    let limit = passed.limit in
    let long = is.long in
    record { fault_is = is.fault_is; long = omega (arith, limit, long) }

told : (fault : TextFault) (P Q : Type 0) → (P → Q) → Tells fault P → Tells fault Q
told (Bad line code) P Q more is = more is
told TooLong P Q more is = more is
told Read P Q more is = tt
told NoMemory P Q more is = tt

-- what is wrong with the rows that are left is wrong with all
pub rows_refused : (before now : Option TextState) (fault : TextFault) → WentOn before now → IfSome now (λ at. Tells fault (IsRowsFault at fault))
    → IfSome before (λ from. Tells fault (IsRowsFault from fault))
rows_refused None now fault went is = tt
rows_refused (Some from) None fault went is = absurd went
rows_refused (Some from) (Some at) fault went is = told fault (IsRowsFault at fault) (IsRowsFault from fault) (past_limit from at fault went) is
