-- Lines done and written one after another.
use Rattle.std.proofs.Common.{◌≡◌, ℕ, ◌+◌, ◌≤◌, Bool, true, false, List, [], ◌∷◌, ◌++◌, All, ◌⊎◌, length, take, refl, sym, ap, ◌∙◌, subst, arith, Option, Some}
use Rattle.std.proofs.Common.{None, Result, Ok, Err, rules, inl, inr}
use Rattle.std.specs.Prelude.{IfErr, IfSome, IsErrOf, IsSomeAnd, OnOk}
use Rattle.std.specs.List.{concat}
use Rattle.std.specs.Io.KnownBytes.{append_known}
use Rattle.std.proofs.Math.Seq.{take-append-add}
use Rattle.std.proofs.lemmas.List.{append_cancel_left, length-append}
use Rattle.std.proofs.lemmas.Bool.{false≢true}
use Rattle.std.proofs.lemmas.List.Elements.{All-head, All-nil, All-push}
use Rattle.std.proofs.lemmas.List.Folds.{concat-append}
use Rattle.byte_streams.specs.Streams.{Rose}
use Rattle.search_model.specs.Days.{Day}
use Rattle.lift_text.specs.Lines.{pieces_of, HasWholeLine}
use Rattle.lift_text.specs.Page.{PageState, text_at}
use Rattle.lift_text.specs.Reading.{TextState, HaveLineFeeds}
use Rattle.lift_text.proofs.ShowLemmas.{concat-pieces}
use Rattle.day_laws.specs.RowLines.{rows_of}
use Rattle.day_simulator.specs.RowRuns.{Right, AreAhead, AreRowsDone, DidNext, HoldsAhead, IsLineBetween, IsLineDone, IsStopped, Ran, ReadLines, Reads}
use Rattle.day_simulator.specs.RowRuns.{StopsAt, Wrote, WroteNext, bytes_of, next_written}
use Rattle.day_simulator.specs.declared.row_runs.RunFault.{RunFault}
use Rattle.day_simulator.specs.declared.row_runs.RunFault.TheVariants.{TooLong, Read, Write, NoMemory}
use Rattle.day_simulator.specs.declared.row_runs.NextRow.{NextRow}
use Rattle.day_simulator.specs.declared.row_runs.NextRow.TheVariants.{End}
use Rattle.day_simulator.proofs.RowRunLemmas.{append-assoc, append-nil, line-more}
use Rattle.day_simulator.proofs.ReadLemmas.{first-piece}

-- ---- one line, written

pub line-written : (right : Right) (old new : Day) (text : List ℕ) (before after : Option TextState) (ahead : List ℕ)
    (left sink sink' : Option (List ℕ)) (written : Result Unit RunFault)
    → IsLineDone right old new text before after → OnOk written (sink' ≡ append_known sink text) → (count : ℕ) × (count ≤ length text)
    × (sink' ≡ append_known sink (take count text)) → IfErr written (λ fault. fault ≡ Write)
    → WroteNext right old new (next_written written) before after ahead left sink sink'
line-written right old new text before after ahead left sink sink' (Ok unit) done ok front write = (text, done, ok)
line-written right old new text before after ahead left sink sink' (Err Write) done ok front write = (text, front.0, done, front.1, front.2)
line-written right old new text before after ahead left sink sink' (Err TooLong) done ok front write = absurd cc
line-written right old new text before after ahead left sink sink' (Err Read) done ok front write = absurd cc
line-written right old new text before after ahead left sink sink' (Err NoMemory) done ok front write = absurd cc

pub end-written : (right : Right) (old new : Day) (text : List ℕ) (before after : Option TextState) (ahead : List ℕ) (left sink : Option (List ℕ))
    → DidNext right old new (Ok End) text before after ahead left → WroteNext right old new (Ok End) before after ahead left sink sink
end-written right old new text before after ahead left sink did = record { day = did.0; stops = did.1; wrote = refl }

pub fault-written : (right : Right) (old new : Day) (text : List ℕ) (before after : Option TextState) (ahead : List ℕ) (left sink : Option (List ℕ))
    (fault : RunFault) → DidNext right old new (Err fault) text before after ahead left → WroteNext right old new (Err fault) before after ahead left sink sink
fault-written right old new text before after ahead left sink TooLong did = record { day = did.0; stops = did.1; wrote = refl }
fault-written right old new text before after ahead left sink Read did = record { day = did.0; stops = did.1; wrote = refl }
fault-written right old new text before after ahead left sink Write did = absurd did
fault-written right old new text before after ahead left sink NoMemory did = record { day = did.0; stops = did.1; wrote = refl }

-- ---- the lines so far

-- From one state of a text to a later one, these lines were read, and nothing else.
pub record AreBetween (from : TextState) (passed : List (List ℕ)) (to : TextState) : Type 0 where
  pub pieces : pieces_of from.bytes ≡ passed ++ pieces_of to.bytes
  pub bytes : from.bytes ≡ concat passed ++ to.bytes
  pub limit : from.limit ≡ to.limit + bytes_of passed

-- Lines were read and done, and the log says this of their rows; where the reader has not ended, each has its LF.
pub record SoFar (right : Right) (old new : Day) (before after : Option TextState) (ended : Bool) (sink sink' : Option (List ℕ)) : Type 0 where
  pub passed : List (List ℕ)
  pub text : List ℕ
  pub done : AreRowsDone right old (rows_of passed) new text
  pub read : IfSome before (λ from. IsSomeAnd after (λ to. AreBetween from passed to))
  pub whole : IfSome before (λ _. All HasWholeLine passed) ⊎ (ended ≡ true)
  pub wrote : sink' ≡ append_known sink text

append_known-nil : (sink : Option (List ℕ)) → sink ≡ append_known sink []
append_known-nil None = refl
append_known-nil (Some bytes) = ap (λ (b : List ℕ). Some b) (sym (append-nil bytes))

pub append_known-more : (sink : Option (List ℕ)) (t u : List ℕ) → append_known (append_known sink t) u ≡ append_known sink (t ++ u)
append_known-more None t u = refl
append_known-more (Some bytes) t u = ap (λ (b : List ℕ). Some b) (append-assoc bytes t u)

pub none-so-far : (right : Right) (day : Day) (before : Option TextState) (ended : Bool) (sink : Option (List ℕ))
    → SoFar right day day before before ended sink sink
none-so-far right day before ended sink =
    record { passed = []; text = []; done = (refl, refl); read = none before; whole = inl (none-whole before); wrote = append_known-nil sink }
  where
    none-whole : (text : Option TextState) → IfSome text (λ _. All HasWholeLine [])
    none-whole None = tt
    none-whole (Some from) = All-nil HasWholeLine

    none : (text : Option TextState) → IfSome text (λ from. IsSomeAnd text (λ to. AreBetween from [] to))
    none None = tt
    none (Some from) = (let nothing : bytes_of [] ≡ 0 = refl in record { pieces = refl; bytes = refl; limit = omega (arith, nothing) })

-- the bytes of one more line
bytes-more : (passed : List (List ℕ)) (piece : List ℕ) → bytes_of (passed ++ piece ∷ []) ≡ bytes_of passed + length piece
bytes-more passed piece =
    let joined = ap length (concat-append passed (piece ∷ [])) in
    let sizes = length-append (concat passed) (concat (piece ∷ [])) in
    let one = ap length (append-nil piece) in
    omega (arith, joined, sizes, one)

between-more : (from at to : TextState) (passed : List (List ℕ)) (piece : List ℕ) → AreBetween from passed at → pieces_of at.bytes ≡ piece ∷ pieces_of to.bytes
    → at.limit ≡ to.limit + length piece → AreBetween from (passed ++ piece ∷ []) to
between-more from at to passed piece is next limit = record {
  pieces = is.pieces ∙ ap (λ (r : List (List ℕ)). passed ++ r) next ∙ sym (append-assoc passed (piece ∷ []) (pieces_of to.bytes));
  bytes = is.bytes ∙ ap (λ (r : List ℕ). concat passed ++ r) (first-piece at.bytes piece to.bytes next) ∙ sym (append-assoc (concat passed) piece to.bytes)
      ∙ ap (λ (r : List ℕ). r ++ to.bytes) (sym (concat-append passed (piece ∷ []) ∙ ap (λ (r : List ℕ). concat passed ++ r) (append-nil piece)));
  limit = omega (arith, is.limit, limit, bytes-more passed piece);
}

read-more : (before at after : Option TextState) (passed : List (List ℕ)) (piece : List ℕ)
    → IfSome before (λ from. IsSomeAnd at (λ to. AreBetween from passed to)) → IfSome at (λ from. IsSomeAnd after (λ to. IsLineBetween from piece to))
    → IfSome before (λ from. IsSomeAnd after (λ to. AreBetween from (passed ++ piece ∷ []) to))
read-more None at after passed piece so next = tt
read-more (Some from) None after passed piece so next = absurd so
read-more (Some from) (Some to) None passed piece so next = absurd next
read-more (Some from) (Some to) (Some later) passed piece so next = between-more from to later passed piece so next.pieces next.limit

-- one more line, which has its LF
push-whole : (before at after : Option TextState) (passed : List (List ℕ)) (piece : List ℕ)
    → IfSome before (λ from. IsSomeAnd at (λ to. AreBetween from passed to)) → IfSome at (λ from. IsSomeAnd after (λ to. IsLineBetween from piece to))
    → IfSome before (λ _. All HasWholeLine passed) → IfSome at (λ from. All HasWholeLine (take 1 (pieces_of from.bytes)))
    → IfSome before (λ _. All HasWholeLine (passed ++ piece ∷ []))
push-whole None at after passed piece so next whole feed = tt
push-whole (Some from) None after passed piece so next whole feed = absurd so
push-whole (Some from) (Some to) None passed piece so next whole feed = absurd next
push-whole (Some from) (Some to) (Some later) passed piece so next whole feed =
    All-push HasWholeLine passed piece whole
    (All-head HasWholeLine piece [] (subst (λ (pieces : List (List ℕ)). All HasWholeLine (take 1 pieces)) next.pieces feed))

whole-more : (before at after : Option TextState) (ended ended' : Bool) (passed : List (List ℕ)) (piece : List ℕ)
    → IfSome before (λ from. IsSomeAnd at (λ to. AreBetween from passed to)) → IfSome at (λ from. IsSomeAnd after (λ to. IsLineBetween from piece to))
    → (ended ≡ true → ended' ≡ true) → HaveLineFeeds at 1 ended' → IfSome before (λ _. All HasWholeLine passed) ⊎ (ended ≡ true)
    → IfSome before (λ _. All HasWholeLine (passed ++ piece ∷ [])) ⊎ (ended' ≡ true)
whole-more before at after ended ended' passed piece so next stays feed (inr end) = inr (stays end)
whole-more before at after ended ended' passed piece so next stays (inr end) (inl whole) = inr end
whole-more before at after ended ended' passed piece so next stays (inl feed) (inl whole) = inl (push-whole before at after passed piece so next whole feed)

-- one more line
pub line-so-far : (right : Right) (a b c : Day) (text : List ℕ) (before at after : Option TextState) (ended ended' : Bool)
    (sink sink' sink'' : Option (List ℕ)) → SoFar right a b before at ended sink sink' → IsLineDone right b c text at after
    → (ended ≡ true → ended' ≡ true) → HaveLineFeeds at 1 ended' → sink'' ≡ append_known sink' text → SoFar right a c before after ended' sink sink''
line-so-far right a b c text before at after ended ended' sink sink' sink'' so done stays feed wrote = record {
  passed = so.passed ++ done.piece ∷ [];
  text = so.text ++ text;
  done = line-more right a b c so.passed done.piece so.text text so.done done.done;
  read = read-more before at after so.passed done.piece so.read done.next;
  whole = whole-more before at after ended ended' so.passed done.piece so.read done.next stays feed so.whole;
  wrote = wrote ∙ ap (λ (k : Option (List ℕ)). append_known k text) so.wrote ∙ append_known-more sink so.text text;
}

-- ---- the end of a run

-- which lines are left
abbrev pub left_lines : Option TextState → List (List ℕ)
left_lines None = []
left_lines (Some to) = pieces_of to.bytes

pub reads-behind : (result : Result Unit RunFault) (from to : TextState) (passed : List (List ℕ)) (left : Option (List ℕ)) → AreBetween from passed to
    → (result ≡ Err Read → All HasWholeLine passed)
    → Reads result to [] (pieces_of to.bytes) left → Reads result from passed (pieces_of to.bytes) left
reads-behind (Ok unit) from to passed left is whole reads = reads
reads-behind (Err TooLong) from to passed left is whole reads =
    record {
      piece = reads.piece;
      pieces = reads.pieces;
      next = reads.next;
      long =
          (let long = reads.long in let limit = is.limit in omega (arith, long, limit));
    }
reads-behind (Err Read) from to passed None is whole reads = record { taken = reads.taken; held = tt; none = reads.none; whole = whole refl }
reads-behind (Err Read) from to passed (Some later) is whole reads =
    record { taken = reads.taken; held = is.bytes ∙ ap (λ (r : List ℕ). concat passed ++ r) reads.held; none = reads.none; whole = whole refl }
reads-behind (Err Write) from to passed left is whole reads = tt
reads-behind (Err NoMemory) from to passed left is whole reads = reads

lines-read : (from to : TextState) (passed : List (List ℕ)) → AreBetween from passed to → ReadLines from passed (pieces_of to.bytes)
lines-read from to passed is = record { pieces = is.pieces; short = (let limit = is.limit in omega (arith, limit)) }

-- nothing was read
pub nothing-read : (from : TextState) → ReadLines from [] (pieces_of from.bytes)
nothing-read from = (let nothing : bytes_of [] ≡ 0 = refl in record { pieces = refl; short = omega (arith, nothing) })

-- what is held behind lines that were read, and behind those before them
ahead-behind : (result : Result Unit RunFault) (from to : TextState) (passed : List (List ℕ)) (ahead : List ℕ) (left : Option (List ℕ))
    → AreBetween from passed to → HoldsAhead result to [] (pieces_of to.bytes) ahead left → HoldsAhead result from passed (pieces_of to.bytes) ahead left
ahead-behind (Ok unit) from to passed ahead None is holds = tt
ahead-behind (Ok unit) from to passed ahead (Some later) is holds = is.bytes ∙ ap (λ (r : List ℕ). concat passed ++ r) holds
ahead-behind (Err TooLong) from to passed ahead left is holds = tt
ahead-behind (Err Read) from to passed ahead left is holds = tt
ahead-behind (Err Write) from to passed ahead None is holds = tt
ahead-behind (Err Write) from to passed ahead (Some later) is holds = is.bytes ∙ ap (λ (r : List ℕ). concat passed ++ r) holds
ahead-behind (Err NoMemory) from to passed ahead None is holds = tt
ahead-behind (Err NoMemory) from to passed ahead (Some later) is holds =
    let next = take 1 (pieces_of to.bytes) in
    is.bytes ∙ ap (λ (r : List ℕ). concat passed ++ r) holds ∙ sym (append-assoc (concat passed) (concat next) (ahead ++ later))
    ∙ ap (λ (r : List ℕ). r ++ (ahead ++ later)) (sym (concat-append passed next))

-- the same where a run stops
ahead-stopped : (result : Result Unit RunFault) (before at : Option TextState) (passed : List (List ℕ)) (ahead : List ℕ) (left : Option (List ℕ))
    → IfSome before (λ from. IsSomeAnd at (λ to. AreBetween from passed to)) → StopsAt result at ahead left
    → IfSome before (λ from. HoldsAhead result from passed (left_lines at) ahead left)
ahead-stopped result None at passed ahead left so stops = tt
ahead-stopped result (Some from) None passed ahead left so stops = absurd so
ahead-stopped result (Some from) (Some to) passed ahead left so stops = ahead-behind result from to passed ahead left so stops.1

-- behind lines that were read just what their reader holds was taken
ahead-held : (before : Option TextState) (page : PageState) (passed : List (List ℕ)) (left : Option (List ℕ))
    → IfSome before (λ from. IsSomeAnd (text_at page left) (λ to. AreBetween from passed to))
    → IfSome before (λ from. AreAhead from passed page.unread left)
ahead-held None page passed left so = tt
ahead-held (Some from) page passed None so = absurd so
ahead-held (Some from) page passed (Some later) so = so.bytes

-- and in front of the first line
pub nothing-ahead : (page : PageState) (left : Option (List ℕ)) → IfSome (text_at page left) (λ from. AreAhead from [] page.unread left)
nothing-ahead page None = tt
nothing-ahead page (Some later) = refl

-- So the lines behind are what the reader holds and what the source has left: none, where all of the source was read.
pub left-behind : (before : TextState) (passed behind : List (List ℕ)) (ahead later : List ℕ) → ReadLines before passed behind
    → AreAhead before passed ahead (Some later) → concat behind ≡ ahead ++ later
left-behind before passed behind ahead later read held =
    append_cancel_left (concat passed) (concat behind) (ahead ++ later)
    (sym (concat-append passed behind) ∙ ap concat (sym read.pieces) ∙ concat-pieces before.bytes ∙ held)

-- what was read where a run stops
read-stopped : (result : Result Unit RunFault) (before at : Option TextState) (passed : List (List ℕ)) (ahead : List ℕ) (left : Option (List ℕ))
    → IfSome before (λ from. IsSomeAnd at (λ to. AreBetween from passed to))
    → (result ≡ Err Read → IfSome before (λ _. All HasWholeLine passed)) → StopsAt result at ahead left
    → IfSome before (λ from. ReadLines from passed (left_lines at) × Reads result from passed (left_lines at) left)
read-stopped result None at passed ahead left so whole stops = tt
read-stopped result (Some from) None passed ahead left so whole stops = absurd so
read-stopped result (Some from) (Some to) passed ahead left so whole stops =
    (lines-read from to passed so, reads-behind result from to passed left so whole stops.0)

ran-stopped : (right : Right) (a b c : Day) (result : Result Unit RunFault) (before at : Option TextState) (ended : Bool) (ahead : List ℕ)
    (left sink sink' sink'' : Option (List ℕ)) (so : SoFar right a b before at ended sink sink') → IsStopped b c result at ahead left sink' sink''
    → (result ≡ Err Read → IfSome before (λ _. All HasWholeLine so.passed)) → (sink'' ≡ append_known sink so.text → Wrote result so.text sink sink'')
    → Ran right a c result before ahead left sink sink''
ran-stopped right a b c result before at ended ahead left sink sink' sink'' so stopped whole wrote = record {
  passed = so.passed;
  behind = left_lines at;
  text = so.text;
  done = subst (λ (d : Day). AreRowsDone right a (rows_of so.passed) d so.text) (sym stopped.day) so.done;
  read = read-stopped result before at so.passed ahead left so.read whole stopped.stops;
  read_ahead = ahead-stopped result before at so.passed ahead left so.read stopped.stops;
  wrote = wrote (stopped.wrote ∙ so.wrote);
}

-- the text ends
pub ran-end : (right : Right) (a b c : Day) (before at after : Option TextState) (ended : Bool) (ahead : List ℕ) (left sink sink' sink'' : Option (List ℕ))
    → SoFar right a b before at ended sink sink' → WroteNext right b c (Ok End) at after ahead left sink' sink''
    → Ran right a c (Ok tt) before ahead left sink sink''
ran-end right a b c before at after ended ahead left sink sink' sink'' so stopped =
    ran-stopped right a b c (Ok tt) before at ended ahead left sink sink' sink'' so stopped (λ is. absurd cc) (λ w. w)

-- what was read where a line was not written
read-unwritten : (before at : Option TextState) (passed : List (List ℕ)) (left : Option (List ℕ))
    → IfSome before (λ from. IsSomeAnd at (λ to. AreBetween from passed to))
    → IfSome before (λ from. ReadLines from passed (left_lines at) × Reads (Err Write) from passed (left_lines at) left)
read-unwritten None at passed left so = tt
read-unwritten (Some from) None passed left so = absurd so
read-unwritten (Some from) (Some to) passed left so = (lines-read from to passed so, tt)

ran-unwritten : (right : Right) (a b c : Day) (text : List ℕ) (count : ℕ) (before at : Option TextState) (page : PageState) (ended : Bool)
    (left sink sink' sink'' : Option (List ℕ)) → SoFar right a b before at ended sink sink' → IsLineDone right b c text at (text_at page left)
    → count ≤ length text → sink'' ≡ append_known sink' (take count text) → Ran right a c (Err Write) before page.unread left sink sink''
ran-unwritten right a b c text count before at page ended left sink sink' sink'' so done few wrote =
    let after = text_at page left in
    let lines = so.passed ++ done.piece ∷ [] in
    let between = read-more before at after so.passed done.piece so.read done.next in
    let size = length-append so.text text in
    record {
      passed = lines;
      behind = left_lines after;
      text = so.text ++ text;
      done = line-more right a b c so.passed done.piece so.text text so.done done.done;
      read = read-unwritten before after lines left between;
      read_ahead = ahead-held before page lines left between;
      wrote = (
        length so.text + count,
        omega (arith, size, few),
        wrote ∙ ap (λ (k : Option (List ℕ)). append_known k (take count text)) so.wrote
            ∙ append_known-more sink so.text (take count text) ∙ ap (append_known sink) (sym (take-append-add so.text text count)),
      );
    }

-- where the reader has not ended, each of the lines has its LF
still-whole : (before : Option TextState) (passed : List (List ℕ)) (ended ended' : Bool) → (ended ≡ true → ended' ≡ true) → ended' ≡ false
    → IfSome before (λ _. All HasWholeLine passed) ⊎ (ended ≡ true) → IfSome before (λ _. All HasWholeLine passed)
still-whole before passed ended ended' stays not (inl whole) = whole
still-whole before passed ended ended' stays not (inr end) = absurd (false≢true (sym not ∙ stays end))

-- a fault
pub ran-fault : (right : Right) (a b c : Day) (fault : RunFault) (before at : Option TextState) (page : PageState) (ended ended' : Bool)
    (left sink sink' sink'' : Option (List ℕ)) → SoFar right a b before at ended sink sink' → (ended ≡ true → ended' ≡ true)
    → (IsErrOf {T = NextRow} (Err fault) Read → ended' ≡ false)
    → WroteNext right b c (Err fault) at (text_at page left) page.unread left sink' sink'' → Ran right a c (Err fault) before page.unread left sink sink''
ran-fault right a b c TooLong before at page ended ended' left sink sink' sink'' so stays not stopped =
    ran-stopped right a b c (Err TooLong) before at ended page.unread left sink sink' sink'' so stopped (λ is. absurd cc) (λ w. w)
ran-fault right a b c Read before at page ended ended' left sink sink' sink'' so stays not stopped =
    ran-stopped right a b c (Err Read) before at ended page.unread left sink sink' sink'' so stopped
    (λ _. still-whole before so.passed ended ended' stays (not refl) so.whole) (λ w. w)
ran-fault right a b c Write before at page ended ended' left sink sink' sink'' so stays not next =
    ran-unwritten right a b c next.0 next.1 before at page ended left sink sink' sink'' so next.2 next.3 next.4
ran-fault right a b c NoMemory before at page ended ended' left sink sink' sink'' so stays not stopped =
    ran-stopped right a b c (Err NoMemory) before at ended page.unread left sink sink' sink'' so stopped (λ is. absurd cc) (λ w. w)

-- ---- counts of faults

pub rose-before : (a b c : ℕ) → a ≤ b → Rose b c → Rose a c
rose-before a b c low rose = search (rules, arith)
