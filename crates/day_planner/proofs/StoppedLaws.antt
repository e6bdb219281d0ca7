-- Where rows leave an unsolved one, the limits are not enough for some row.
use Rattle.std.proofs.Common.{◌≡◌, ℕ, ◌+◌, ◌<◌, Bool, true, false, cond, ltb, List, [], ◌∷◌, ◌++◌, append_assoc, refl, sym, ap, ◌∙◌, subst, inl, inr, arith}
use Rattle.std.proofs.Common.{Option, Some, None}
use Rattle.std.proofs.lemmas.Bool.{ltb-true, cases_lt}
use Rattle.elevator_model.specs.Snapshot.{Snapshot}
use Rattle.elevator_model.specs.declared.Stop.{Stop}
use Rattle.search_model.specs.declared.Event.{Event}
use Rattle.search_model.specs.declared.RowFault.{RowFault}
use Rattle.search_model.specs.declared.Stated.{Stated}
use Rattle.search_model.specs.Advancing.{World, events_by}
use Rattle.search_model.specs.Days.{Day, Row, IsRightLog, fault_of_row, step_by}
use Rattle.search_model.specs.Days.RowLog.{Accepted}
use Rattle.day_laws.specs.Standing.{row_number}
use Rattle.day_simulator.specs.Rows.{DoesRow, IsRowDone, held_plan, next_step}
use Rattle.day_simulator.specs.RowRuns.{Right, AreRowsDone}
use Rattle.day_planner.specs.SolvedRows.{AreEnoughFor, IsSolvedRow}
use Rattle.day_planner.specs.StoppedRows.{IsStoppedIn}
use Rattle.day_planner.proofs.RowLemmas.{solved-where-enough}

less-self : (n : ℕ) → n < n → ⊥
less-self n h = absurd (omega (arith, h))

-- ---- one row

-- a step that counts one more unsolved row accepts it, with a bound below its cost
step-counted : (right : Snapshot → Stated → Type 0) (w : World) (old : Day) (n : ℕ) (said : Option Row) (printed : Stated) (fault : Option RowFault)
    → old.unsolved < (step_by old n said printed fault).day.unsolved → IsRightLog right w (step_by old n said printed fault).log
    → (events : List Event) × ((step_by old n said printed fault).log ≡ Accepted n events printed) × (printed.bound < printed.cost)
    × right w.snapshot printed
step-counted right w old n said printed (Some fault) more is = absurd (less-self old.unsolved more)
step-counted right w old n None printed None more is = absurd (less-self old.unsolved more)
step-counted right w old n (Some row) printed None more is =
    (events_by old.world row.time, refl, below (ltb printed.bound printed.cost) refl more, is)
  where
    below : (b : Bool) → ltb printed.bound printed.cost ≡ b → old.unsolved < old.unsolved + cond {A = ℕ} b 1 0 → printed.bound < printed.cost
    below true e h = ltb-true printed.bound printed.cost e
    below false e h = absurd (omega (arith, h))

-- such a row, with what was printed for it
record IsCounted (right : Right) (old : Day) (said : Option Row) (new : Day) (text : List ℕ) : Type 0 where
  printed : Stated
  proof : List ℕ
  events : List Event
  row_done : DoesRow right old said new [] text printed proof
  accepted : (next_step old said printed).log ≡ Accepted (row_number old) events printed
  unsolved : printed.bound < printed.cost
  is_right : right new.world.snapshot (held_plan old said) printed proof

row-counted : (right : Right) (old : Day) (said : Option Row) (new : Day) (text : List ℕ) → IsRowDone right old said new [] text
    → old.unsolved < new.unsolved → IsCounted right old said new text
row-counted right old said new text done more =
    let printed = done.0 in
    let proof = done.1 in
    let does = done.2 in
    let counted = step-counted (λ s stated. right s (held_plan old said) stated proof) new.world old (row_number old) said printed
    (fault_of_row old.world (row_number old) said) (subst (λ (d : Day). old.unsolved < d.unsolved) does.day more) does.right_plan in
    record {
      printed = printed;
      proof = proof;
      events = counted.0;
      row_done = does;
      accepted = counted.1;
      unsolved = counted.2;
      is_right = counted.3;
    }

-- ---- the rows

module _ (right : Right) (AreEnough : Snapshot → Type 0)
    (law : (s : Snapshot) (held : List (List Stop)) (stated : Stated) (proof : List ℕ) → right s held stated proof → stated.bound < stated.cost
    → AreEnough s → ⊥) where
  -- it is the first of them
  stopped-here : (old : Day) (said : Option Row) (between : Day) (first : List ℕ) (rows : List (Option Row)) (new : Day) (rest text : List ℕ)
      → IsCounted right old said between first → AreRowsDone right between rows new rest → text ≡ first ++ rest
      → IsStoppedIn right AreEnough old (said ∷ rows) new text
  stopped-here old said between first rows new rest text counted later is = record {
    earlier = [];
    row = said;
    later = rows;
    rows_are = refl;
    lines_before = [];
    lines = first;
    lines_after = rest;
    text_is = is;
    before = old;
    after = between;
    number = row_number old;
    events = counted.events;
    printed = counted.printed;
    proof = counted.proof;
    earlier_done = (refl, refl);
    row_done = counted.row_done;
    accepted = counted.accepted;
    later_done = later;
    unsolved = counted.unsolved;
    not_enough = λ enough.
        law between.world.snapshot (held_plan old said) counted.printed counted.proof counted.is_right counted.unsolved enough;
  }

  -- it is a later one
  stopped-later : (old : Day) (said : Option Row) (between : Day) (first : List ℕ) (rows : List (Option Row)) (new : Day)
      (rest text : List ℕ)
      → IsRowDone right old said between [] first → IsStoppedIn right AreEnough between rows new rest → text ≡ first ++ rest
      → IsStoppedIn right AreEnough old (said ∷ rows) new text
  stopped-later old said between first rows new rest text done found is = record {
    earlier = said ∷ found.earlier;
    row = found.row;
    later = found.later;
    rows_are = ap (λ (xs : List (Option Row)). said ∷ xs) found.rows_are;
    lines_before = first ++ found.lines_before;
    lines = found.lines;
    lines_after = found.lines_after;
    text_is = is ∙ ap (λ (xs : List ℕ). first ++ xs) found.text_is ∙ sym (append_assoc first found.lines_before (found.lines ++ found.lines_after));
    before = found.before;
    after = found.after;
    number = found.number;
    events = found.events;
    printed = found.printed;
    proof = found.proof;
    earlier_done = (between, first, found.lines_before, done, found.earlier_done, refl);
    row_done = found.row_done;
    accepted = found.accepted;
    later_done = found.later_done;
    unsolved = found.unsolved;
    not_enough = found.not_enough;
  }

  stopped-in : (old : Day) (rows : List (Option Row)) (new : Day) (text : List ℕ) → AreRowsDone right old rows new text → old.unsolved < new.unsolved
      → IsStoppedIn right AreEnough old rows new text
  stopped-in old [] new text done more = absurd (less-self old.unsolved (subst (λ (d : Day). old.unsolved < d.unsolved) done.0 more))
  stopped-in old (said ∷ rows) new text done more =
      elim (cases_lt old.unsolved done.0.unsolved) [
        | inl here ↦ stopped-here old said done.0 done.1 rows new done.2 text (row-counted right old said done.0 done.1 done.3 here) done.4 done.5
        | inr none ↦ stopped-later old said done.0 done.1 rows new done.2 text done.3
            (stopped-in done.0 rows new done.2 done.4 (omega (arith, none, more))) done.5
      ]

-- ---- with searches as planner

-- what a search answers within limits that are enough has a bound that is its cost
not-enough : (rounds most_tours : ℕ) (claims : Option ℕ) (s : Snapshot) (held : List (List Stop)) (stated : Stated) (proof : List ℕ)
    → IsSolvedRow rounds most_tours claims s held stated proof → stated.bound < stated.cost → AreEnoughFor rounds most_tours claims s → ⊥
not-enough rounds most_tours claims s held stated proof row below enough =
    let equal = solved-where-enough rounds most_tours claims s stated proof row enough in
    less-self stated.bound (subst (λ (n : ℕ). stated.bound < n) equal below)

pub stopped-rows : (rounds most_tours : ℕ) (claims : Option ℕ) (old : Day) (rows : List (Option Row)) (new : Day) (text : List ℕ)
    → AreRowsDone (IsSolvedRow rounds most_tours claims) old rows new text → old.unsolved < new.unsolved
    → IsStoppedIn (IsSolvedRow rounds most_tours claims) (AreEnoughFor rounds most_tours claims) old rows new text
stopped-rows rounds most_tours claims =
    stopped-in (IsSolvedRow rounds most_tours claims) (AreEnoughFor rounds most_tours claims) (not-enough rounds most_tours claims)
