-- Days from their text: what becomes of a text that is a day, and how great the sums of a report are.
use Rattle.std.proofs.Common.{◌≡◌, ℕ, zero, suc, ◌+◌, ◌*◌, ◌-◌, ◌<◌, ◌≤◌, ◌^◌, List, [], ◌∷◌, ◌++◌, All, length, refl, sym, ap, ◌∙◌, subst, arith, Option, Some}
use Rattle.std.proofs.Common.{None, Ok, Err}
use Rattle.std.specs.List.{concat, sum_by}
use Rattle.std.specs.Prelude.{IfSome, IsSomeAnd}
use Rattle.std.proofs.lemmas.List.{length-append}
use Rattle.std.proofs.lemmas.List.Elements.{All-head, All-tail}
use Rattle.std.proofs.lemmas.List.Sums.{sum-map, sum_by-cons}
use Rattle.elevator_model.specs.Snapshot.{Snapshot}
use Rattle.search_model.specs.declared.Served.{Served}
use Rattle.search_model.specs.Reports.{report_of}
use Rattle.lift_text.specs.Lines.{pieces_of}
use Rattle.lift_text.specs.Reading.{TextState}
use Rattle.day_text.specs.DayOpenings.{IsAnswered, TakesDayOpenings}
use Rattle.day_laws.specs.Standing.{IsEarly}
use Rattle.day_simulator.specs.RowRuns.{Right, ReadLines, IsTooLong, bytes_of}
use Rattle.day_simulator.specs.DayRuns.{RanDay, ReadsDay}
use Rattle.day_simulator.specs.TextRuns.{EndsUnlessFailed, IsDayText}
use Rattle.day_simulator.specs.declared.day_runs.Ended.{Ended}
use Rattle.day_simulator.specs.declared.row_runs.RunFault.{RunFault}
use Rattle.day_simulator.specs.declared.row_runs.RunFault.TheVariants.{TooLong, Read, Write, NoMemory}
use Rattle.day_simulator.specs.declared.text_runs.DayFault.TheVariants.{Opening, Rows}
use Rattle.lift_text.specs.declared.faults.TextFault.{TextFault}

-- ---- sums

abbrev total_time : Served → ℕ
total_time x = (x.boarded - x.released) + (x.delivered - x.boarded)

total-sum : (served : List Served) → All IsEarly served → sum_by total_time served ≤ 20000000000 * length served
total-sum [] early = omega arith
total-sum (x ∷ served) early =
    let first = All-head IsEarly x served early in
    let rest = total-sum served (All-tail IsEarly x served early) in
    let here : total_time x ≤ 20000000000 = omega (arith, first.boarded, first.delivered) in
    omega (arith, rest, sum_by-cons total_time x served, here)

pub small-report : (served : List Served) → All IsEarly served → length served ≤ 67108864 → (report_of served).total.sum < 2 ^ 64
small-report served early few =
    let total : (report_of served).total.sum ≡ sum_by total_time served = sum-map total_time served in
    omega (arith, total, total-sum served early, few)

-- ---- texts of a day

bytes-joined : (xs ys : List (List ℕ)) → bytes_of (xs ++ ys) ≡ bytes_of xs + bytes_of ys
bytes-joined [] ys = omega arith
bytes-joined (x ∷ xs) ys =
    let whole = length-append x (concat (xs ++ ys)) in
    let front = length-append x (concat xs) in
    let rest = bytes-joined xs ys in
    omega (arith, whole, front, rest)

-- such a line is past what a short text has
no-long-line : (rows : TextState) (passed behind : List (List ℕ)) → bytes_of (pieces_of rows.bytes) ≤ rows.limit → ReadLines rows passed behind
    → IsTooLong rows passed behind → ⊥
no-long-line rows passed behind short read long =
    let all = ap bytes_of (read.pieces ∙ ap (λ (xs : List (List ℕ)). passed ++ xs) long.next) ∙ bytes-joined passed (long.piece ∷ long.pieces) in
    let next = length-append long.piece (concat long.pieces) in
    absurd (omega (arith, all, next, short, long.long))

short-rows : (right : Right) (opening : Snapshot) (mid : Option TextState) (rows : TextState) (ahead : List ℕ) (left sink sink' : Option (List ℕ))
    → mid ≡ Some rows → bytes_of (pieces_of rows.bytes) ≤ rows.limit → RanDay right opening (Err TooLong) mid ahead left sink sink' → ⊥
short-rows right opening mid rows ahead left sink sink' is short ran =
    let read = subst (λ (m : Option TextState).
    IfSome m (λ from. ReadLines from ran.passed ran.behind × ReadsDay (Err TooLong) from ran.passed ran.behind left)) is ran.read in
    no-long-line rows ran.passed ran.behind short read.0 read.1

pub rows-end : (right : Right) (opening : Snapshot) (fault : RunFault) (before mid : Option TextState) (ahead : List ℕ) (left sink sink' : Option (List ℕ))
    → TakesDayOpenings before (Ok opening) mid → RanDay right opening (Err fault) mid ahead left sink sink' → IsSomeAnd before IsDayText
    → EndsUnlessFailed (Err (Rows fault))
rows-end right opening fault None mid ahead left sink sink' takes ran text = absurd text
rows-end right opening TooLong (Some before) mid ahead left sink sink' takes ran text =
    short-rows right opening mid text.rows ahead left sink sink' (takes text.opening text.rows text.begins).1 text.short ran
rows-end right opening Read (Some before) mid ahead left sink sink' takes ran text = tt
rows-end right opening Write (Some before) mid ahead left sink sink' takes ran text = tt
rows-end right opening NoMemory (Some before) mid ahead left sink sink' takes ran text = tt

pub opening-taken : (fault : TextFault) (before mid : Option TextState) → TakesDayOpenings before (Err fault) mid → IsSomeAnd before IsDayText
    → EndsUnlessFailed (Err (Opening fault))
opening-taken fault None mid takes text = absurd text
opening-taken fault (Some before) mid takes text = takes text.opening text.rows text.begins
