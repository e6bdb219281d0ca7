-- The log of a day, from that of its rows.
use Rattle.std.proofs.Common.{◌≡◌, ℕ, ◌+◌, ◌≤◌, List, [], length, take, refl, sym, ap, ◌∙◌, subst, arith, Option, Some, None, Result, Ok, Err, inl, inr}
use Rattle.std.specs.Prelude.{IfOk, IfSome, IsTrue}
use Rattle.std.specs.Io.KnownBytes.{append_known, IsAtEnd}
use Rattle.std.proofs.Math.Seq.{take-append-add}
use Rattle.std.proofs.lemmas.List.{length-map, length-append, take-append-le}
use Rattle.elevator_model.specs.Snapshot.{Snapshot, IsAccepted}
use Rattle.search_model.specs.Days.{Day, opening_day, loses_none, served_of, served_from, calls_at_end}
use Rattle.day_state.specs.Openings.{IsOpeningSnapshot}
use Rattle.day_simulator.specs.Planning.{PlannerLaw}
use Rattle.day_laws.specs.Standing.{row_number}
use Rattle.day_laws.proofs.NoneLost.{end-length}
use Rattle.lift_text.specs.Page.{PageState, text_at}
use Rattle.lift_text.specs.Reading.{TextState}
use Rattle.day_text.specs.LogTexts.{end_text}
use Rattle.day_laws.specs.RowLines.{rows_of}
use Rattle.day_simulator.specs.RowRuns.{IsBegun, Right, AreRowsDone, HoldsAhead, Ran, ReadLines, Reads, Wrote}
use Rattle.day_simulator.specs.DayRuns.{IsCutIn, EndedAs, HoldsDayAhead, RanDay, ReadsDay, WroteDay, first_line, rows_log}
use Rattle.day_simulator.specs.declared.day_runs.Ended.{Ended}
use Rattle.day_simulator.specs.declared.row_runs.RunFault.{RunFault}
use Rattle.day_simulator.specs.declared.row_runs.RunFault.TheVariants.{TooLong, Read, Write, NoMemory}
use Rattle.day_simulator.proofs.StepLemmas.{append_known-more, left_lines, nothing-ahead, nothing-read}
use Rattle.day_simulator.proofs.ServedRows.{served-none, served-rows}

-- the log of the rows behind the first line
rows-written : (sink sink' sink'' : Option (List ℕ)) (text : List ℕ) → sink' ≡ append_known sink first_line → sink'' ≡ append_known sink' text
    → sink'' ≡ append_known sink (rows_log text)
rows-written sink sink' sink'' text first rows = rows ∙ ap (λ (k : Option (List ℕ)). append_known k text) first ∙ append_known-more sink first_line text

-- ---- a beginning of the log

first-begun : (day : Day) (count : ℕ) (sink sink' : Option (List ℕ)) → count ≤ length first_line → sink' ≡ append_known sink (take count first_line)
    → WroteDay (Err Write) [] day sink sink'
first-begun day count sink sink' low wrote =
    let log = length-append (rows_log []) (end_text day) in
    (count, omega (arith, log, low), wrote ∙ ap (append_known sink) (sym (take-append-le count (rows_log []) (end_text day) low)))

rows-begun : (text : List ℕ) (day : Day) (count : ℕ) (sink sink' sink'' : Option (List ℕ)) → sink' ≡ append_known sink first_line → count ≤ length text
    → sink'' ≡ append_known sink' (take count text) → WroteDay (Err Write) text day sink sink''
rows-begun text day count sink sink' sink'' first low wrote =
    let rows = length-append first_line text in
    let log = length-append (rows_log text) (end_text day) in (
      length first_line + count,
      omega (arith, rows, log, low),
      rows-written sink sink' sink'' (take count text) first wrote
          ∙ ap (append_known sink)
          (sym (take-append-le (length first_line + count) (rows_log text) (end_text day) (omega (arith, rows, low)) ∙ take-append-add first_line text count)),
    )

rows-cut : (text : List ℕ) (count : ℕ) (sink sink' sink'' : Option (List ℕ)) → sink' ≡ append_known sink first_line → count ≤ length text
    → sink'' ≡ append_known sink' (take count text) → IsBegun (rows_log text) sink sink''
rows-cut text count sink sink' sink'' first low wrote =
    let rows = length-append first_line text in (
      length first_line + count,
      omega (arith, rows, low),
      rows-written sink sink' sink'' (take count text) first wrote ∙ ap (append_known sink) (sym (take-append-add first_line text count)),
    )

end-begun : (text : List ℕ) (day : Day) (count : ℕ) (sink sink' sink'' : Option (List ℕ)) → sink' ≡ append_known sink (rows_log text)
    → count ≤ length (end_text day) → sink'' ≡ append_known sink' (take count (end_text day)) → WroteDay (Err Write) text day sink sink''
end-begun text day count sink sink' sink'' rows low wrote =
    let log = length-append (rows_log text) (end_text day) in (
      length (rows_log text) + count,
      omega (arith, log, low),
      wrote ∙ ap (λ (k : Option (List ℕ)). append_known k (take count (end_text day))) rows
          ∙ append_known-more sink (rows_log text) (take count (end_text day))
          ∙ ap (append_known sink) (sym (take-append-add (rows_log text) (end_text day) count)),
    )

-- ---- before the first row

nothing-read-write : (before : Option TextState) (left : Option (List ℕ))
    → IfSome before (λ from. ReadLines from [] (left_lines before) × ReadsDay (Err Write) from [] (left_lines before) left)
nothing-read-write None left = tt
nothing-read-write (Some from) left = (nothing-read from, tt)

nothing-read-memory : (before : Option TextState) (left : Option (List ℕ))
    → IfSome before (λ from. ReadLines from [] (left_lines before) × ReadsDay (Err NoMemory) from [] (left_lines before) left)
nothing-read-memory None left = tt
nothing-read-memory (Some from) left = (nothing-read from, tt)

-- the first line was not written
pub day-unopened : (right : Right) (opening : Snapshot) (fault : RunFault) (page : PageState) (left sink sink' : Option (List ℕ)) → fault ≡ Write
    → (count : ℕ) × (count ≤ length first_line) × (sink' ≡ append_known sink (take count first_line))
    → RanDay right opening (Err fault) (text_at page left) page.unread left sink sink'
day-unopened right opening fault page left sink sink' is wrote =
    let before = text_at page left in
    subst (λ (f : RunFault). RanDay right opening (Err f) before page.unread left sink sink') (sym is)
    (record {
      passed = [];
      behind = left_lines before;
      day = opening_day opening;
      text = [];
      done = (refl, refl);
      none_lost = refl;
      once =
          served-none right opening;
      read = nothing-read-write before left;
      read_ahead = nothing-ahead page left;
      wrote = first-begun (opening_day opening) wrote.0 sink sink' wrote.1 wrote.2;
      cut =
          inl wrote;
    })

nothing-ahead-memory : (page : PageState) (left : Option (List ℕ))
    → IfSome (text_at page left) (λ from. HoldsDayAhead (Err NoMemory) from [] (left_lines (text_at page left)) page.unread left)
nothing-ahead-memory page None = tt
nothing-ahead-memory page (Some later) = inl refl

-- memory was wanting for the day
pub day-unmade : (right : Right) (opening : Snapshot) (page : PageState) (left sink sink' : Option (List ℕ)) → sink' ≡ append_known sink first_line
    → RanDay right opening (Err NoMemory) (text_at page left) page.unread left sink sink'
day-unmade right opening page left sink sink' wrote =
    let before = text_at page left in
    record {
      passed = [];
      behind = left_lines before;
      day = opening_day opening;
      text = [];
      done = (refl, refl);
      none_lost = refl;
      once =
          served-none right opening;
      read = nothing-read-memory before left;
      read_ahead = nothing-ahead-memory page left;
      wrote = wrote;
      cut = tt;
    }

-- ---- over the rows

-- rows from another name of the first day
from-opening : (right : Right) (opening : Snapshot) (start day : Day) (rows : List (List ℕ)) (text : List ℕ) → start ≡ opening_day opening
    → AreRowsDone right start (rows_of rows) day text → AreRowsDone right (opening_day opening) (rows_of rows) day text
from-opening right opening start day rows text is done = subst (λ (d : Day). AreRowsDone right d (rows_of rows) day text) is done

reads-day : (fault : RunFault) (before : Option TextState) (passed behind : List (List ℕ)) (left : Option (List ℕ))
    → IfSome before (λ from. ReadLines from passed behind × Reads (Err fault) from passed behind left)
    → IfSome before (λ from. ReadLines from passed behind × ReadsDay (Err fault) from passed behind left)
reads-day fault None passed behind left read = tt
reads-day TooLong (Some from) passed behind left read = (read.0, read.1)
reads-day Read (Some from) passed behind left read = (read.0, read.1)
reads-day Write (Some from) passed behind left read = (read.0, tt)
reads-day NoMemory (Some from) passed behind left read = (read.0, tt)

ahead-day : (fault : RunFault) (before : Option TextState) (passed behind : List (List ℕ)) (ahead : List ℕ) (left : Option (List ℕ))
    → IfSome before (λ from. HoldsAhead (Err fault) from passed behind ahead left)
    → IfSome before (λ from. HoldsDayAhead (Err fault) from passed behind ahead left)
ahead-day fault None passed behind ahead left holds = tt
ahead-day TooLong (Some from) passed behind ahead left holds = tt
ahead-day Read (Some from) passed behind ahead left holds = tt
ahead-day Write (Some from) passed behind ahead left holds = holds
ahead-day NoMemory (Some from) passed behind ahead left holds = inr holds

wrote-day : (fault : RunFault) (text : List ℕ) (day : Day) (sink sink' sink'' : Option (List ℕ)) → sink' ≡ append_known sink first_line
    → Wrote (Err fault) text sink' sink'' → WroteDay (Err fault) text day sink sink''
wrote-day TooLong text day sink sink' sink'' first wrote = rows-written sink sink' sink'' text first wrote
wrote-day Read text day sink sink' sink'' first wrote = rows-written sink sink' sink'' text first wrote
wrote-day Write text day sink sink' sink'' first wrote = rows-begun text day wrote.0 sink sink' sink'' first wrote.1 wrote.2
wrote-day NoMemory text day sink sink' sink'' first wrote = rows-written sink sink' sink'' text first wrote

cut-rows : (fault : RunFault) (text : List ℕ) (before : Option TextState) (behind : List (List ℕ)) (left sink sink' sink'' : Option (List ℕ))
    → sink' ≡ append_known sink first_line → Wrote (Err fault) text sink' sink''
    → IsCutIn (Err fault) text before behind left sink sink''
cut-rows TooLong text before behind left sink sink' sink'' first wrote = tt
cut-rows Read text before behind left sink sink' sink'' first wrote = tt
cut-rows Write text before behind left sink sink' sink'' first wrote = inl (rows-cut text wrote.0 sink sink' sink'' first wrote.1 wrote.2)
cut-rows NoMemory text before behind left sink sink' sink'' first wrote = tt

-- a fault among the rows
pub day-stopped : (right : Right) (law : PlannerLaw right) (opening : Snapshot) (start day : Day) (fault : RunFault) (before : Option TextState)
    (ahead : List ℕ) (left sink sink' sink'' : Option (List ℕ)) → IsAccepted opening → IsOpeningSnapshot opening → start ≡ opening_day opening
    → sink' ≡ append_known sink first_line → IsTrue (loses_none day)
    → Ran right start day (Err fault) before ahead left sink' sink'' → RanDay right opening (Err fault) before ahead left sink sink''
day-stopped right law opening start day fault before ahead left sink sink' sink'' a o is first none_lost ran = record {
  passed = ran.passed;
  behind = ran.behind;
  day = day;
  text = ran.text;
  done = from-opening right opening start day ran.passed ran.text is ran.done;
  none_lost = none_lost;
  once = served-rows right law opening (rows_of ran.passed) day ran.text a o (from-opening right opening start day ran.passed ran.text is ran.done);
  read = reads-day fault before ran.passed ran.behind left ran.read;
  read_ahead = ahead-day fault before ran.passed ran.behind ahead left ran.read_ahead;
  wrote = wrote-day fault ran.text day sink sink' sink'' first ran.wrote;
  cut = cut-rows fault ran.text before ran.behind left sink sink' sink'' first ran.wrote;
}

-- ---- the end

read-whole : (result : Result Ended RunFault) (unit : Unit {0}) (day : Day) (sink sink' : Option (List ℕ)) (before : Option TextState)
    (passed behind : List (List ℕ)) (left : Option (List ℕ)) → EndedAs day result sink sink'
    → IfSome before (λ from. ReadLines from passed behind × Reads (Ok unit) from passed behind left)
    → IfSome before (λ from. ReadLines from passed behind × ReadsDay result from passed behind left)
read-whole result unit day sink sink' None passed behind left end read = tt
read-whole (Ok ended) unit day sink sink' (Some from) passed behind left end read = read
read-whole (Err TooLong) unit day sink sink' (Some from) passed behind left end read = absurd end
read-whole (Err Read) unit day sink sink' (Some from) passed behind left end read = absurd end
read-whole (Err Write) unit day sink sink' (Some from) passed behind left end read = (read.0, tt)
read-whole (Err NoMemory) unit day sink sink' (Some from) passed behind left end read = (read.0, tt)

ahead-whole : (result : Result Ended RunFault) (unit : Unit {0}) (before : Option TextState) (passed behind : List (List ℕ)) (ahead : List ℕ)
    (left : Option (List ℕ)) → IfSome before (λ from. HoldsAhead (Ok unit) from passed behind ahead left)
    → IfSome before (λ from. HoldsDayAhead result from passed behind ahead left)
ahead-whole result unit None passed behind ahead left holds = tt
ahead-whole (Ok ended) unit (Some from) passed behind ahead left holds = holds
ahead-whole (Err TooLong) unit (Some from) passed behind ahead left holds = tt
ahead-whole (Err Read) unit (Some from) passed behind ahead left holds = tt
ahead-whole (Err Write) unit (Some from) passed behind ahead left holds = holds
ahead-whole (Err NoMemory) unit (Some from) passed behind ahead left holds = inl holds

wrote-end : (result : Result Ended RunFault) (text : List ℕ) (day : Day) (sink sink' sink'' : Option (List ℕ)) → sink' ≡ append_known sink (rows_log text)
    → EndedAs day result sink' sink'' → WroteDay result text day sink sink''
wrote-end (Ok ended) text day sink sink' sink'' rows end =
    (end.0 ∙ ap (λ (k : Option (List ℕ)). append_known k (end_text day)) rows ∙ append_known-more sink (rows_log text) (end_text day), end.1, end.2, end.3)
wrote-end (Err TooLong) text day sink sink' sink'' rows end = absurd end
wrote-end (Err Read) text day sink sink' sink'' rows end = absurd end
wrote-end (Err Write) text day sink sink' sink'' rows end = end-begun text day end.0 sink sink' sink'' rows end.1 end.2
wrote-end (Err NoMemory) text day sink sink' sink'' rows end = end ∙ rows

all-read : (unit : Unit {0}) (before : Option TextState) (passed behind : List (List ℕ)) (left : Option (List ℕ))
    → IfSome before (λ from. ReadLines from passed behind × Reads (Ok unit) from passed behind left) → IfSome before (λ from. (behind ≡ []) × IsAtEnd left)
all-read unit None passed behind left read = tt
all-read unit (Some from) passed behind left read = read.1

cut-end : (result : Result Ended RunFault) (unit : Unit {0}) (text : List ℕ) (before : Option TextState) (passed behind : List (List ℕ))
    (left sink sink' : Option (List ℕ)) → IfSome before (λ from. ReadLines from passed behind × Reads (Ok unit) from passed behind left)
    → IsCutIn result text before behind left sink sink'
cut-end (Ok ended) unit text before passed behind left sink sink' read = tt
cut-end (Err TooLong) unit text before passed behind left sink sink' read = tt
cut-end (Err Read) unit text before passed behind left sink sink' read = tt
cut-end (Err Write) unit text before passed behind left sink sink' read = inr (all-read unit before passed behind left read)
cut-end (Err NoMemory) unit text before passed behind left sink sink' read = tt

pub day-ended : (right : Right) (law : PlannerLaw right) (opening : Snapshot) (start day : Day) (unit : Unit {0}) (result : Result Ended RunFault)
    (before : Option TextState) (ahead : List ℕ) (left sink sink' sink'' sink''' : Option (List ℕ)) → IsAccepted opening → IsOpeningSnapshot opening
    → start ≡ opening_day opening → sink' ≡ append_known sink first_line → IsTrue (loses_none day)
    → Ran right start day (Ok unit) before ahead left sink' sink'' → EndedAs day result sink'' sink'''
    → RanDay right opening result before ahead left sink sink'''
day-ended right law opening start day unit result before ahead left sink sink' sink'' sink''' a o is first none_lost ran end = record {
  passed = ran.passed;
  behind = ran.behind;
  day = day;
  text = ran.text;
  done = from-opening right opening start day ran.passed ran.text is ran.done;
  none_lost = none_lost;
  once = served-rows right law opening (rows_of ran.passed) day ran.text a o (from-opening right opening start day ran.passed ran.text is ran.done);
  read = read-whole result unit day sink'' sink''' before ran.passed ran.behind left end ran.read;
  read_ahead = ahead-whole result unit before ran.passed ran.behind ahead left ran.read_ahead;
  wrote = wrote-end result ran.text day sink sink'' sink''' (rows-written sink sink' sink'' ran.text first ran.wrote) end;
  cut = cut-end result unit ran.text before ran.passed ran.behind left sink sink''' ran.read;
}

-- ---- how many calls there are

-- no more calls than rows, and no more rows than lines
few-served : (day : Day) (ended : Ended) (lines : ℕ) → ended.served.items ≡ served_of day → row_number day ≤ lines + 1 → lines ≤ 67108864
    → length ended.served.items ≤ 67108864
few-served day ended lines served rows most =
    let size = ap length served ∙ length-map (calls_at_end day) served_from ∙ end-length day in
    omega (arith, size, rows, most)

pub few-answer : (day : Day) (result : Result Ended RunFault) (lines : ℕ) → IfOk result (λ ended. ended.served.items ≡ served_of day)
    → row_number day ≤ lines + 1 → lines ≤ 67108864 → IfOk result (λ ended. length ended.served.items ≤ 67108864)
few-answer day (Ok ended) lines served rows most = few-served day ended lines served rows most
few-answer day (Err fault) lines served rows most = tt
