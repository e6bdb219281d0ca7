-- What a partial tour needs that some tour of the node begins with, said call by call.
use Rattle.std.proofs.Common.{◌≡◌, ℕ, ◌+◌, ◌<◌, ◌≤◌, Bool, true, false, not, ◌&&◌, eqb, ltb, sym, ◌∙◌, inl, inr, arith}
use Rattle.std.specs.List.{list_all}
use Rattle.std.proofs.lemmas.Bool.{or_cases, or_left, or_right, and_parts, and_from, and_left, and_right, leb-true, le-leb, ltb-false, ltb-true, eqb-true}
use Rattle.std.proofs.lemmas.Bool.{eq-eqb, cases_Bool, not-true, not-false, not_from_true, not_from_false, false_from_ne_true, true_from_ne_false, both_ways}
use Rattle.elevator_model.specs.declared.Stop.{Stop}
use Rattle.elevator_model.specs.declared.Rule.TheVariants.{UselessStop}
use Rattle.call_sets.specs.Counting.{any_below, is_among}
use Rattle.elevator_model.specs.Snapshot.{Snapshot, IsAccepted, call_count, call_of, spec_of}
use Rattle.elevator_model.specs.Tours.{Progress, make_stop, breaks, none_taken, boards_at, stays_on, overtakes, is_call_for, rider_count, destination_of}
use Rattle.elevator_model.specs.Tours.{persons_where, persons_of, rules_but_useless}
use Rattle.elevator_model.specs.Partial.{may_stand}
use Rattle.call_sets.proofs.BelowTests.{any_below-none, any_below-false}
use Rattle.tour_rules.proofs.BoundedTests.{AllClear-from, none-from}
use Rattle.call_sets.proofs.ListTests.{list_any-false}
use Rattle.tour_extension.proofs.SumLemmas.{sum_either}
use Rattle.plain_plan.proofs.StopClear.{destination_of-call}
use Rattle.search_model.specs.Extending.{persons_due, waits, any_above, any_under, has_to_board, gives_use, is_one_way, none_left, none_skipped, all_fit}
use Rattle.search_model.specs.Extending.{has_use, can_go_on}

-- the conditions at a stop made after q, call by call
pub record IsPromising (s : Snapshot) (c : ℕ) (allowed required : ℕ → Bool) (q : Progress) (stop : Stop) : Type 0 where
  pub one_way : (any_above s (make_stop s c q stop) && any_under s (make_stop s c q stop)) ≡ false
  pub none_left : (j : ℕ) → j < call_count s → waits required (make_stop s c q stop) j ≡ true → overtakes s q j ≡ false
  pub none_skipped : (j : ℕ) → j < call_count s → has_to_board s required (make_stop s c q stop) stop j ≡ true → list_all (λ i. ltb i j) stop.boards ≡ true
  pub fits : persons_where s (make_stop s c q stop).carried + persons_due s (has_to_board s required (make_stop s c q stop) stop) ≤ (spec_of s c).capacity
  pub use_of : breaks s c none_taken q stop UselessStop ≡ true → any_below (call_count s) (gives_use s c allowed required q (make_stop s c q stop)) ≡ true

none_of : (n : ℕ) (t u : ℕ → Bool) → any_below n (λ j. t j && not (u j)) ≡ false → (j : ℕ) → j < n → t j ≡ true → u j ≡ true
none_of n t u h j lt e =
    true_from_ne_false (u j) (λ k. both_ways _ (any_below-false n (λ i. t i && not (u i)) j h lt) (and_from (t j) (not (u j)) e (not_from_false (u j) k)))

of_none : (n : ℕ) (t u : ℕ → Bool) → ((j : ℕ) → j < n → t j ≡ true → u j ≡ true) → any_below n (λ j. t j && not (u j)) ≡ false
of_none n t u h =
    any_below-none n _ (λ j lt. elim (cases_Bool (t j)) [
      | inl e ↦ and_right (t j) (not (u j)) (not_from_true (u j) (h j lt e))
      | inr e ↦ and_left (t j) (not (u j)) e
    ])

none_and : (n : ℕ) (t u : ℕ → Bool) → any_below n (λ j. t j && u j) ≡ false → (j : ℕ) → j < n → t j ≡ true → u j ≡ false
none_and n t u h j lt e = false_from_ne_true (u j) (λ k. both_ways _ (any_below-false n (λ i. t i && u i) j h lt) (and_from (t j) (u j) e k))

and_none : (n : ℕ) (t u : ℕ → Bool) → ((j : ℕ) → j < n → t j ≡ true → u j ≡ false) → any_below n (λ j. t j && u j) ≡ false
and_none n t u h =
    any_below-none n _ (λ j lt. elim (cases_Bool (t j)) [ inl e ↦ and_right (t j) (u j) (h j lt e) | inr e ↦ and_left (t j) (u j) e ])

pub promising_from : (s : Snapshot) (c : ℕ) (allowed required : ℕ → Bool) (q : Progress) (stop : Stop) → can_go_on s c allowed required q stop ≡ true
    → IsPromising s c allowed required q stop
promising_from s c allowed required q stop h =
    let p = make_stop s c q stop in
    let n = call_count s in
    let h4 = and_parts (((is_one_way s p && none_left s required q p) && none_skipped s required p stop) && all_fit s c required p stop)
    (has_use s c allowed required q p stop) h in
    let h3 = and_parts ((is_one_way s p && none_left s required q p) && none_skipped s required p stop) (all_fit s c required p stop) h4.0 in
    let h2 = and_parts (is_one_way s p && none_left s required q p) (none_skipped s required p stop) h3.0 in
    let h1 = and_parts (is_one_way s p) (none_left s required q p) h2.0 in
    record {
      one_way = not-true _ h1.0;
      none_left = none_and n (waits required p) (overtakes s q) (not-true _ h1.1);
      none_skipped = none_of n (has_to_board s required p stop) (λ j. list_all (λ i. ltb i j) stop.boards) (not-true _ h2.1);
      fits = leb-true _ (spec_of s c).capacity h3.1;
      use_of = λ useless. elim (or_cases (not (breaks s c none_taken q stop UselessStop)) _ h4.1) [
        | inl e ↦ absurd (both_ways _ (not-true _ e) useless)
        | inr e ↦ e
      ];
    }

pub promising_to : (s : Snapshot) (c : ℕ) (allowed required : ℕ → Bool) (q : Progress) (stop : Stop) → IsPromising s c allowed required q stop
    → can_go_on s c allowed required q stop ≡ true
promising_to s c allowed required q stop g =
    let p = make_stop s c q stop in
    let n = call_count s in
    and_from (((is_one_way s p && none_left s required q p) && none_skipped s required p stop) && all_fit s c required p stop)
    (has_use s c allowed required q p stop)
    (and_from ((is_one_way s p && none_left s required q p) && none_skipped s required p stop) (all_fit s c required p stop)
    (and_from (is_one_way s p && none_left s required q p) (none_skipped s required p stop)
    (and_from (is_one_way s p) (none_left s required q p) (not_from_false _ g.one_way)
    (not_from_false _ (and_none n (waits required p) (overtakes s q) g.none_left)))
    (not_from_false _ (of_none n (has_to_board s required p stop) (λ j. list_all (λ i. ltb i j) stop.boards) g.none_skipped)))
    (le-leb _ (spec_of s c).capacity g.fits))
    (elim (cases_Bool (breaks s c none_taken q stop UselessStop)) [
      | inl e ↦ or_right (not (breaks s c none_taken q stop UselessStop)) _ (g.use_of e)
      | inr e ↦ or_left (not (breaks s c none_taken q stop UselessStop)) _ (not_from_false _ e)
    ])

-- ---- at a stop that stands

-- the calls that board there are calls of which the car is a possible car
pub board_for : (s : Snapshot) (c : ℕ) (q : Progress) (stop : Stop) (k : ℕ) → may_stand s c q stop ≡ true → is_among k stop.boards ≡ true
    → is_call_for s c k ≡ true
board_for s c q stop k ok among =
    let h = AllClear-from (breaks s c none_taken q stop) rules_but_useless (none-from _ ok) in
    not-false (is_call_for s c k) (list_any-false (λ i. not (is_call_for s c i)) stop.boards k h.1.1.1.1.1.0 among)

pub board_at : (s : Snapshot) (c : ℕ) (q : Progress) (stop : Stop) (k : ℕ) → may_stand s c q stop ≡ true → is_among k stop.boards ≡ true
    → boards_at s stop k ≡ true
board_at s c q stop k ok among =
    and_from (ltb k (call_count s)) (is_among k stop.boards) (and_parts (ltb k (call_count s)) _ (board_for s c q stop k ok among)).0 among

-- a call that boards there starts there
pub board_origin : (s : Snapshot) (c : ℕ) (q : Progress) (stop : Stop) (k : ℕ) → may_stand s c q stop ≡ true → boards_at s stop k ≡ true → (k < call_count s)
    × ((call_of s k).origin ≡ stop.floor)
board_origin s c q stop k ok on =
    let h = AllClear-from (breaks s c none_taken q stop) rules_but_useless (none-from _ ok) in
    let lt = ltb-true k (call_count s) (and_parts (ltb k (call_count s)) _ on).0 in (
      lt,
      eqb-true (call_of s k).origin stop.floor
          (none_of (call_count s) (boards_at s stop) (λ j. eqb (call_of s j).origin stop.floor) h.1.1.1.1.1.1.1.1.0 k lt on),
    )

-- who is carried after the stop goes elsewhere
pub carried_apart : (s : Snapshot) (c : ℕ) (q : Progress) (stop : Stop) (r : ℕ) → IsAccepted s → may_stand s c q stop ≡ true
    → (make_stop s c q stop).carried r ≡ true → destination_of s r ≡ stop.floor → ⊥
carried_apart s c q stop r ok stands on same =
    elim (or_cases (stays_on s q stop.floor r) (boards_at s stop r) on) [
      | inl e ↦ both_ways _ (not-true _ (and_parts (q.carried r) _ e).1) (eq-eqb (destination_of s r) stop.floor same)
      | inr e ↦ (let at = board_origin s c q stop r stands e in (ok.calls r at.0).travels (at.1 ∙ sym same ∙ destination_of-call s r at.0))
    ]

-- all that are carried after the stop fit
pub carried_fit : (s : Snapshot) (c : ℕ) (q : Progress) (stop : Stop) → may_stand s c q stop ≡ true
    → persons_where s (make_stop s c q stop).carried ≤ (spec_of s c).capacity
carried_fit s c q stop ok =
    let h = AllClear-from (breaks s c none_taken q stop) rules_but_useless (none-from _ ok) in
    let room = ltb-false (spec_of s c).capacity _ h.1.1.1.0 in
    let either = sum_either (rider_count s) (make_stop s c q stop).carried (stays_on s q stop.floor) (boards_at s stop) (persons_of s) (λ k b e. e) in
    omega (arith, room, either)
