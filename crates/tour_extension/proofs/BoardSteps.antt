-- A partial tour that can be extended has a child that can: boards.
use Rattle.std.proofs.Common.{◌≡◌, ℕ, ◌+◌, ◌<◌, ◌≤◌, Bool, true, false, not, ◌&&◌, ◌||◌, eqb, ltb, leb, List, [], ◌∷◌, ◌++◌, refl, sym, ap, ◌∙◌, subst, inl}
use Rattle.std.proofs.Common.{inr, arith, Some}
use Rattle.std.specs.List.{list_all}
use Rattle.std.proofs.lemmas.Bool.{or_left, or_right, or_parts, and_parts, and_from, and_left, and_right, leb-true, le-leb, ltb-true, lt-ltb, eqb-true}
use Rattle.std.proofs.lemmas.Bool.{eqb-false, eq-eqb, cases_Bool, not-true, not_from_true, not_from_false, false_from_ne_true, both_ways, cond-true, cond-false}
use Rattle.std.proofs.Math.Nat.{eq-or-lt_of_le}
use Rattle.elevator_model.specs.declared.Stop.{Stop}
use Rattle.elevator_model.specs.declared.Move.TheVariants.{Board}
use Rattle.call_sets.specs.Counting.{any_below, is_among}
use Rattle.elevator_model.specs.Snapshot.{Snapshot, IsAccepted, call_count, call_of, spec_of}
use Rattle.elevator_model.specs.Tours.{Progress, make_stop, breaks, none_taken, boards_at, stays_on, overtakes, is_later_in_queue, rider_count, destination_of}
use Rattle.elevator_model.specs.Tours.{persons_where, persons_of, rules_but_useless}
use Rattle.elevator_model.specs.Partial.{Course, may_stand, move_on}
use Rattle.partial_tours.specs.Courses.{with_call_on, board_test}
use Rattle.tour_rules.specs.Leaving.{IsKept}
use Rattle.call_sets.proofs.BelowTests.{any_below-at, any_below-true, any_below-none, any_below-false}
use Rattle.tour_rules.proofs.BoundedTests.{AllClear-from, none-from}
use Rattle.tour_rules.proofs.Measure.{not_among_below}
use Rattle.partial_tours.proofs.Follow.{board_leads_to, board_some, is_some_has}
use Rattle.call_sets.proofs.Sums.{sum_where-one}
use Rattle.search_model.specs.Extending.{persons_due, IsDemand, waits, goes_above, goes_below, any_above, any_under, is_passed_at, has_to_board, passes_some}
use Rattle.search_model.specs.Extending.{goes_along, gives_use, can_go_on, can_be_extended}
use Rattle.tour_extension.proofs.Choosing.{IsNearest}
use Rattle.tour_extension.proofs.Queues.{InQueue, queue_from, queue_trans}
use Rattle.tour_extension.proofs.Promising.{IsPromising, promising_to, board_at, board_origin, carried_apart}
use Rattle.tour_extension.proofs.BackSteps.{not_carried, OneBoard, one_board_more, along_carried, along_queue}
use Rattle.tour_extension.proofs.Midway.{Midway}
use Rattle.tour_extension.proofs.LeaveSteps.{Step}
use Rattle.call_sets.proofs.Sums.{sum_where-none}
use Rattle.tour_extension.proofs.SumLemmas.{sum_both}

all_back : (bs : List ℕ) (i j : ℕ) → list_all (λ x. ltb x i) bs ≡ true → j < i → list_all (λ x. ltb x i) (bs ++ j ∷ []) ≡ true
all_back [] i j h lt = and_from (ltb j i) true (lt-ltb j i lt) refl
all_back (b ∷ bs) i j h lt = let parts = and_parts (ltb b i) _ h in and_from (ltb b i) _ parts.0 (all_back bs i j parts.1 lt)

all_of_none : (bs : List ℕ) (t : ℕ → Bool) → ((k : ℕ) → is_among k bs ≡ true → ⊥) → list_all t bs ≡ true
all_of_none [] t h = refl
all_of_none (b ∷ bs) t h = absurd (h b (or_left (eqb b b) _ (eq-eqb b b refl)))

fresh_board : (s : Snapshot) (c : ℕ) (q : Progress) (stop : Stop) (r : ℕ) → may_stand s c q stop ≡ true → r < call_count s → boards_at s stop r ≡ true
    → q.boarded r ≡ false
fresh_board s c q stop r ok lt on =
    let h = AllClear-from (breaks s c none_taken q stop) rules_but_useless (none-from _ ok) in
    false_from_ne_true (q.boarded r)
    (λ e. both_ways _ (any_below-false (call_count s) _ r h.1.1.1.1.1.1.1.0 lt)
    (and_from (boards_at s stop r) _ on (or_left (q.boarded r || false) _ (or_left (q.boarded r) false e))))

-- those who stay and those who board are carried
carried_sum : (s : Snapshot) (c : ℕ) (q : Progress) (stop : Stop) → IsKept s c q → may_stand s c q stop ≡ true
    → persons_where s (stays_on s q stop.floor) + persons_where s (boards_at s stop) ≤ persons_where s (make_stop s c q stop).carried
carried_sum s c q stop kept ok =
    sum_both (rider_count s) (make_stop s c q stop).carried (stays_on s q stop.floor) (boards_at s stop) (persons_of s)
    (λ k lt e. or_left (stays_on s q stop.floor k) _ e) (λ k lt e. or_right (stays_on s q stop.floor k) _ e)
    (λ k lt e on. let at = board_origin s c q stop k ok on in
    both_ways _ (not_carried s c q k kept at.0 (fresh_board s c q stop k ok at.0 on)) (and_parts (q.carried k) _ e).0)

-- ---- one board more

-- what call j needs to board at the stop, so that the partial tour can still be extended
record Joins (s : Snapshot) (c : ℕ) (allowed required : ℕ → Bool) (q : Progress) (stop : Stop) (j : ℕ) : Type 0 where
  below : j < call_count s
  rises : list_all (λ i. ltb i j) stop.boards ≡ true
  allow : allowed j ≡ true
  fresh : q.boarded j ≡ false
  above : is_among j stop.boards ≡ false
  origin : (call_of s j).origin ≡ stop.floor
  not_over : overtakes s q j ≡ false
  along : goes_along s (make_stop s c q stop) j ≡ true
  room : persons_where s (make_stop s c q stop).carried + persons_of s j + persons_due s
      (has_to_board s required (make_stop s c q (with_call_on stop j)) (with_call_on stop j)) ≤ (spec_of s c).capacity
  new_duty : (i : ℕ) → i < call_count s → (i ≡ j → ⊥) → waits required (make_stop s c q stop) i ≡ true → is_later_in_queue (call_of s j) (call_of s i) ≡ true
      → list_all (λ x. ltb x i) (stop.boards ++ j ∷ []) ≡ true
  duty : (i : ℕ) → i < call_count s → (i ≡ j → ⊥) → has_to_board s required (make_stop s c q stop) stop i ≡ true → j < i

waits_not : (s : Snapshot) (c : ℕ) (required : ℕ → Bool) (q : Progress) (stop : Stop) (j i : ℕ) → OneBoard s c q stop j
    → waits required (make_stop s c q (with_call_on stop j)) i ≡ true → (i ≡ j → ⊥) × (waits required (make_stop s c q stop) i ≡ true)
waits_not s c required q stop j i one e =
    let parts = and_parts (required i) _ e in
    let apart : i ≡ j → ⊥ =
    λ same. both_ways _ (not-true _ parts.1)
    (or_right (q.boarded i) _ (subst (λ (x : ℕ). boards_at s (with_call_on stop j) x ≡ true) (sym same) one.here)) in
    (apart, ap (λ (b : Bool). required i && not (q.boarded i || b)) (sym (one.others i apart)) ∙ e)

promising_more : (s : Snapshot) (c : ℕ) (allowed required : ℕ → Bool) (q : Progress) (stop : Stop) (j : ℕ) → IsAccepted s → Joins s c allowed required q stop j
    → OneBoard s c q stop j → IsPromising s c allowed required q stop → IsPromising s c allowed required q (with_call_on stop j)
promising_more s c allowed required q stop j ok joins one good = record {
  one_way = elim (cases_Bool (ltb stop.floor (destination_of s j))) [
    | inl up ↦ and_right (any_above s p2) _ (still_under up)
    | inr down ↦ and_left _ (any_under s p2) (still_above down)
  ];
  none_left = λ i lt e. good.none_left i lt (waits_not s c required q stop j i one e).1;
  none_skipped = skipped;
  fits = (let room = joins.room in let more = one.persons in omega (arith, room, more));
  use_of = λ useless. absurd
      (both_ways _ (and_right _ (not (any_below (call_count s) (boards_at s (with_call_on stop j))))
      (not_from_true _ (any_below-at (call_count s) (boards_at s (with_call_on stop j)) j joins.below one.here))) useless);
}
  where
    p : Progress
    p = make_stop s c q stop

    p2 : Progress
    p2 = make_stop s c q (with_call_on stop j)

    was_carried : (r : ℕ) → (r ≡ j → ⊥) → p2.carried r ≡ true → p.carried r ≡ true
    was_carried r apart e = ap (λ (b : Bool). stays_on s q stop.floor r || b) (sym (one.others r apart)) ∙ e

    still_under : ltb stop.floor (destination_of s j) ≡ true → any_under s p2 ≡ false
    still_under up =
        let none = not-true _ (sym (cond-true _ (not (any_under s p)) (not (any_above s p)) up) ∙ joins.along) in
        any_below-none (rider_count s) _ (λ r lt. false_from_ne_true _ (λ e. let parts = and_parts (p2.carried r) _ e in elim (cases_Bool (eqb r j)) [
          | inl same ↦ (let high = ltb-true stop.floor (destination_of s j) up in let low = ltb-true (destination_of s r) stop.floor parts.1 in
              let d = ap (destination_of s) (eqb-true r j same) in omega (arith, high, low, d))
          | inr apart ↦
              both_ways _ (any_below-false (rider_count s) (goes_below s p) r none lt)
              (and_from (p.carried r) _ (was_carried r (eqb-false r j apart) parts.0) parts.1)
        ]))

    still_above : ltb stop.floor (destination_of s j) ≡ false → any_above s p2 ≡ false
    still_above down =
        let none = not-true _ (sym (cond-false _ (not (any_under s p)) (not (any_above s p)) down) ∙ joins.along) in
        any_below-none (rider_count s) _ (λ r lt. false_from_ne_true _ (λ e. let parts = and_parts (p2.carried r) _ e in elim (cases_Bool (eqb r j)) [
          | inl same ↦ both_ways _ down (subst (λ (x : ℕ). ltb stop.floor (destination_of s x) ≡ true) (eqb-true r j same) parts.1)
          | inr apart ↦
              both_ways _ (any_below-false (rider_count s) (goes_above s p) r none lt)
              (and_from (p.carried r) _ (was_carried r (eqb-false r j apart) parts.0) parts.1)
        ]))

    skipped : (i : ℕ) → i < call_count s → has_to_board s required p2 (with_call_on stop j) i ≡ true → list_all (λ x. ltb x i) (stop.boards ++ j ∷ []) ≡ true
    skipped i lt e =
        let parts = and_parts (waits required p2 i) (is_passed_at s (with_call_on stop j) i) e in
        let was = waits_not s c required q stop j i one parts.0 in
        let k = any_below-true (call_count s) _ parts.1 in
        let on = and_parts (boards_at s (with_call_on stop j) k.0) _ k.2 in
        elim (cases_Bool (eqb k.0 j)) [
          | inl same ↦ joins.new_duty i lt was.0 was.1 (subst (λ (x : ℕ). is_later_in_queue (call_of s x) (call_of s i) ≡ true) (eqb-true k.0 j same) on.1)
          | inr apart ↦
              (let has_old : has_to_board s required p stop i ≡ true =
              and_from (waits required p i) _ was.1
              (any_below-at (call_count s) _ k.0 k.1 (and_from (boards_at s stop k.0) _ (sym (one.others k.0 (eqb-false k.0 j apart)) ∙ on.0) on.1)) in
              all_back stop.boards i j (good.none_skipped i lt has_old) (joins.duty i lt was.0 has_old))
        ]

join_step : (s : Snapshot) (c : ℕ) (allowed required : ℕ → Bool) (x : Course) (stop : Stop) (j : ℕ) → IsAccepted s → IsDemand s c allowed required
    → Midway s c x → x.ended ≡ false → x.present ≡ Some stop → may_stand s c x.before stop ≡ true → IsPromising s c allowed required x.before stop
    → Joins s c allowed required x.before stop j → Step s c allowed required x
join_step s c allowed required x stop j ok demand mid runs at stands good joins =
    let q = x.before in
    let one = one_board_more s c q stop j joins.below joins.above (not_carried s c q j mid.kept joins.below joins.fresh) in
    let sums = carried_sum s c q stop mid.kept stands in
    let room = joins.room in
    let test : board_test s c q stop j ≡ true =
    and_from _ _ (and_from _ _
    (and_from _ _ (and_from _ _ (demand.possible j joins.allow) (not_from_false _ joins.fresh)) (eq-eqb (call_of s j).origin stop.floor joins.origin))
    (not_from_false _ joins.not_over)) (le-leb _ (spec_of s c).capacity (omega (arith, sums, room))) in
    let some = board_some s c x stop j runs at stands ∙ and_from _ _ joins.rises test in
    let y = is_some_has (move_on s c x (Board j)) some in
    let b = board_leads_to s c x j y.0 y.1 in
    let same : b.stop ≡ stop = some_same (sym b.present ∙ at) in
    let good2 = promising_more s c allowed required q stop j ok joins one good in
    record {
      move = Board j;
      next = y.0;
      leads = y.1;
      may = joins.allow;
      good = ap (can_be_extended s c allowed required) b.leads
          ∙ ap (λ (st : Stop). can_go_on s c allowed required q (with_call_on st j)) same ∙ promising_to s c allowed required q (with_call_on stop j) good2;
    }
  where
    some_same : {a b : Stop} → Some a ≡ Some b → a ≡ b
    some_same e = cc

-- a call that has to board boards, the one of lowest index
pub must_step : (s : Snapshot) (c : ℕ) (allowed required : ℕ → Bool) (x : Course) (stop : Stop) → IsAccepted s → IsDemand s c allowed required → Midway s c x
    → x.ended ≡ false → x.present ≡ Some stop → may_stand s c x.before stop ≡ true → IsPromising s c allowed required x.before stop → (j : ℕ)
    × IsNearest (λ i. i) (call_count s) (has_to_board s required (make_stop s c x.before stop) stop) j → Step s c allowed required x
must_step s c allowed required x stop ok demand mid runs at stands good r =
    join_step s c allowed required x stop j ok demand mid runs at stands good (record {
      below = r.1.below;
      rises = good.none_skipped j r.1.below r.1.passes;
      allow = demand.within j (and_parts (required j) _ parts.0).0;
      fresh = (or_parts (q.boarded j) _ (not-true _ (and_parts (required j) _ parts.0).1)).0;
      above = not_among_below stop.boards j (good.none_skipped j r.1.below r.1.passes);
      origin = sym queue.origin ∙ start.1;
      not_over = good.none_left j r.1.below parts.0;
      along = along_queue s p j k.0 r.1.below start.0 start.1 on.1
          (along_carried s p k.0 (let lt = start.0 in omega arith) carried (carried_apart s c q stop k.0 ok stands carried) good.one_way);
      room = (let both =
          sum_both (call_count s) (has_to_board s required p stop) (has_to_board s required p2 (with_call_on stop j)) (eqb j) (persons_of s) still
          (λ i lt e. subst (λ (x : ℕ). has_to_board s required p stop x ≡ true) (eqb-true j i e) r.1.passes) apart_sets in
          let alone = sum_where-one (call_count s) (persons_of s) j r.1.below in let fits = good.fits in omega (arith, both, alone, fits));
      new_duty = λ i lt apart w later. let has_i : has_to_board s required p stop i ≡ true = and_from (waits required p i) _ w (by_trans i later) in
          all_back stop.boards i j (good.none_skipped i lt has_i) (lower i lt apart has_i);
      duty = λ i lt apart e. lower i lt apart e;
    })
  where
    q : Progress
    q = x.before

    p : Progress
    p = make_stop s c x.before stop

    j : ℕ
    j = r.0

    p2 : Progress
    p2 = make_stop s c x.before (with_call_on stop r.0)

    parts : (waits required p r.0 ≡ true) × (is_passed_at s stop r.0 ≡ true)
    parts = and_parts (waits required p r.0) (is_passed_at s stop r.0) r.1.passes

    k : (k : ℕ) × (k < call_count s) × ((boards_at s stop k && is_later_in_queue (call_of s k) (call_of s r.0)) ≡ true)
    k = any_below-true (call_count s) _ parts.1

    on : (boards_at s stop k.0 ≡ true) × (is_later_in_queue (call_of s k.0) (call_of s r.0) ≡ true)
    on = and_parts (boards_at s stop k.0) _ k.2

    start : (k.0 < call_count s) × ((call_of s k.0).origin ≡ stop.floor)
    start = board_origin s c x.before stop k.0 stands on.0

    queue : InQueue (call_of s k.0) (call_of s r.0)
    queue = queue_from (call_of s k.0) (call_of s r.0) on.1

    carried : p.carried k.0 ≡ true
    carried = or_right (stays_on s x.before stop.floor k.0) _ on.0

    lower : (i : ℕ) → i < call_count s → (i ≡ r.0 → ⊥) → has_to_board s required p stop i ≡ true → r.0 < i
    lower i lt apart e = let le = r.1.nearest i lt e in elim (eq-or-lt_of_le le) [ inl same ↦ absurd (apart (sym same)) | inr less ↦ less ]

    by_trans : (i : ℕ) → is_later_in_queue (call_of s r.0) (call_of s i) ≡ true → is_passed_at s stop i ≡ true
    by_trans i later = any_below-at (call_count s) _ k.0 k.1
        (and_from (boards_at s stop k.0) _ on.0 (queue_trans (call_of s k.0) (call_of s r.0) (call_of s i) on.1 later))

    one : OneBoard s c x.before stop r.0
    one = one_board_more s c x.before stop r.0 r.1.below (not_among_below stop.boards r.0 (good.none_skipped r.0 r.1.below r.1.passes))
        (not_carried s c x.before r.0 mid.kept r.1.below (or_parts (x.before.boarded r.0) _ (not-true _ (and_parts (required r.0) _ parts.0).1)).0)

    still : (i : ℕ) → i < call_count s → has_to_board s required p2 (with_call_on stop r.0) i ≡ true → has_to_board s required p stop i ≡ true
    still i lt e =
        let has2 = and_parts (waits required p2 i) (is_passed_at s (with_call_on stop r.0) i) e in
        let was = waits_not s c required x.before stop r.0 i one has2.0 in
        let m = any_below-true (call_count s) _ has2.1 in
        let on2 = and_parts (boards_at s (with_call_on stop r.0) m.0) _ m.2 in
        and_from (waits required p i) _ was.1 (elim (cases_Bool (eqb m.0 r.0)) [
          | inl same ↦ by_trans i (subst (λ (y : ℕ). is_later_in_queue (call_of s y) (call_of s i) ≡ true) (eqb-true m.0 r.0 same) on2.1)
          | inr apart ↦ any_below-at (call_count s) _ m.0 m.1 (and_from (boards_at s stop m.0) _ (sym (one.others m.0 (eqb-false m.0 r.0 apart)) ∙ on2.0) on2.1)
        ])

    apart_sets : (i : ℕ) → i < call_count s → has_to_board s required p2 (with_call_on stop r.0) i ≡ true → eqb r.0 i ≡ true → ⊥
    apart_sets i lt e same =
        (waits_not s c required x.before stop r.0 i one (and_parts (waits required p2 i) _ e).0).0 (sym (eqb-true r.0 i same))

-- a call boards where none has boarded yet
pub use_step : (s : Snapshot) (c : ℕ) (allowed required : ℕ → Bool) (x : Course) (stop : Stop) (j : ℕ) → IsAccepted s → IsDemand s c allowed required
    → Midway s c x → x.ended ≡ false → x.present ≡ Some stop → may_stand s c x.before stop ≡ true → IsPromising s c allowed required x.before stop
    → ((k : ℕ) → boards_at s stop k ≡ true → ⊥) → gives_use s c allowed required x.before (make_stop s c x.before stop) j ≡ true → Step s c allowed required x
use_step s c allowed required x stop j ok demand mid runs at stands good none used =
    join_step s c allowed required x stop j ok demand mid runs at stands good (record {
      below = below;
      rises = all_of_none stop.boards (λ i. ltb i j) nothing;
      allow = t1.0;
      fresh = fresh;
      above = false_from_ne_true _ (nothing j);
      origin = eqb-true (call_of s j).origin stop.floor t3.1;
      not_over = not-true _ t4.1;
      along = t6.1;
      room = (let zero_on =
          sum_where-none (call_count s) (has_to_board s required p2 (with_call_on stop j)) (persons_of s) (λ i lt. false_from_ne_true _ (no_duty i lt)) in
          let fits = leb-true _ (spec_of s c).capacity t7.1 in omega (arith, zero_on, fits));
      new_duty = λ i lt apart w later. absurd (both_ways _ (not-true _ t5.1) (any_below-at (call_count s) _ i lt (and_from (waits required p i) _ w later)));
      duty = λ i lt apart e. absurd (no_passed i e);
    })
  where
    q : Progress
    q = x.before

    p : Progress
    p = make_stop s c x.before stop

    p2 : Progress
    p2 = make_stop s c x.before (with_call_on stop j)

    t7 : (((((((allowed j && not (p.boarded j)) && (eqb (call_of s j).origin p.floor)) && not (overtakes s q j)) && not (passes_some s required p j))
        && goes_along s p j) ≡ true) × (leb (persons_where s p.carried + persons_of s j) (spec_of s c).capacity ≡ true))
    t7 = and_parts _ _ used

    t6 : ((((((allowed j && not (p.boarded j)) && (eqb (call_of s j).origin p.floor)) && not (overtakes s q j)) && not (passes_some s required p j)) ≡ true)
        × (goes_along s p j ≡ true))
    t6 = and_parts _ _ t7.0

    t5 : (((((allowed j && not (p.boarded j)) && (eqb (call_of s j).origin p.floor)) && not (overtakes s q j)) ≡ true)
        × (not (passes_some s required p j) ≡ true))
    t5 = and_parts _ _ t6.0

    t4 : ((((allowed j && not (p.boarded j)) && (eqb (call_of s j).origin p.floor)) ≡ true) × (not (overtakes s q j) ≡ true))
    t4 = and_parts _ _ t5.0

    t3 : (((allowed j && not (p.boarded j)) ≡ true) × ((eqb (call_of s j).origin p.floor) ≡ true))
    t3 = and_parts _ _ t4.0

    t1 : (allowed j ≡ true) × (not (p.boarded j) ≡ true)
    t1 = and_parts (allowed j) _ t3.0

    below : j < call_count s
    below = ltb-true j (call_count s) (and_parts (ltb j (call_count s)) _ (demand.possible j t1.0)).0

    fresh : q.boarded j ≡ false
    fresh = (or_parts (q.boarded j) _ (not-true _ t1.1)).0

    nothing : (k : ℕ) → is_among k stop.boards ≡ true → ⊥
    nothing k e = none k (board_at s c x.before stop k stands e)

    one : OneBoard s c x.before stop j
    one = one_board_more s c x.before stop j below (false_from_ne_true _ (nothing j)) (not_carried s c x.before j mid.kept below fresh)

    no_passed : (i : ℕ) → has_to_board s required p stop i ≡ true → ⊥
    no_passed i e =
        let m = any_below-true (call_count s) _ (and_parts (waits required p i) (is_passed_at s stop i) e).1 in
        none m.0 (and_parts (boards_at s stop m.0) _ m.2).0

    no_duty : (i : ℕ) → i < call_count s → has_to_board s required p2 (with_call_on stop j) i ≡ true → ⊥
    no_duty i lt e =
        let has2 = and_parts (waits required p2 i) (is_passed_at s (with_call_on stop j) i) e in
        let was = waits_not s c required x.before stop j i one has2.0 in
        let m = any_below-true (call_count s) _ has2.1 in
        let on2 = and_parts (boards_at s (with_call_on stop j) m.0) _ m.2 in
        let must = and_parts (required i) _ was.1 in
        let call = ltb-true i (call_count s) (and_parts (ltb i (call_count s)) _ (demand.possible i (demand.within i must.0))).0 in
        elim (cases_Bool (eqb m.0 j)) [
          | inl same ↦ both_ways _ (not-true _ t5.1)
              (any_below-at (call_count s) _ i call
              (and_from (waits required p i) _ was.1 (subst (λ (y : ℕ). is_later_in_queue (call_of s y) (call_of s i) ≡ true) (eqb-true m.0 j same) on2.1)))
          | inr apart ↦ none m.0 (sym (one.others m.0 (eqb-false m.0 j apart)) ∙ on2.0)
        ]
