-- Where a longer partial tour can be extended, so can the shorter one.
use Rattle.std.proofs.Common.{◌≡◌, ℕ, ◌+◌, ◌<◌, ◌≤◌, Bool, true, false, cond, not, ◌&&◌, ◌||◌, eqb, ltb, leb, List, [], ◌∷◌, ◌++◌, refl, sym, ap, ◌∙◌, subst}
use Rattle.std.proofs.Common.{inl, inr, arith, Some, None}
use Rattle.std.specs.List.{list_all}
use Rattle.std.proofs.lemmas.Bool.{or_cases, or_left, or_right, or_parts, or_from, and_parts, and_from, and_left, and_right, and_cases, leb-true, le-leb}
use Rattle.std.proofs.lemmas.Bool.{ltb-false, ltb-true, lt-ltb, eqb-true, eqb-false, eq-eqb, cases_Bool, cases_lt, not-true, not_from_false, false_from_ne_true}
use Rattle.std.proofs.lemmas.Bool.{both_ways, false≢true, cond-true, cond-false}
use Rattle.elevator_model.specs.declared.Stop.{Stop}
use Rattle.elevator_model.specs.declared.Rule.TheVariants.{Delivery}
use Rattle.call_sets.specs.Counting.{any_below, is_among}
use Rattle.elevator_model.specs.Snapshot.{Snapshot, IsAccepted, call_count, call_of, spec_of}
use Rattle.elevator_model.specs.Tours.{Progress, make_stop, breaks, broken_at, broken_at_end, none_taken, boards_at, stays_on, overtakes, is_upward}
use Rattle.elevator_model.specs.Tours.{same_direction, is_later, is_later_in_queue, is_aboard, rider_count, destination_of, persons_where, persons_of}
use Rattle.elevator_model.specs.Tours.{rules_but_useless, rules_of_stop}
use Rattle.elevator_model.specs.Partial.{may_stand, may_be_left, may_end}
use Rattle.partial_tours.specs.Courses.{with_call_on, empty_stop}
use Rattle.tour_rules.specs.Leaving.{IsKept}
use Rattle.call_sets.proofs.BelowTests.{any_below-at, any_below-true, any_below-none, any_below-false, any_below-less}
use Rattle.tour_rules.proofs.BoundedTests.{AllClear-from, none-from}
use Rattle.std.proofs.Math.Nat.{eq-or-lt_of_le}
use Rattle.tour_rules.proofs.Measure.{may_board}
use Rattle.partial_tours.proofs.Next.{board_more, board_other, EmptyStands, stands_empty}
use Rattle.plain_plan.proofs.StopClear.{destination_of-call, boarded_same}
use Rattle.search_model.specs.Extending.{IsDemand, waits, any_waits, goes_above, goes_below, any_above, any_under, is_passed_at, has_to_board, passes_some}
use Rattle.search_model.specs.Extending.{goes_along, gives_use}
use Rattle.tour_extension.proofs.Choosing.{IsEarliest, earliest}
use Rattle.tour_extension.proofs.Queues.{queue_from, queue_trans, not_later_itself}
use Rattle.tour_extension.proofs.Promising.{IsPromising, board_origin, carried_apart, carried_fit}
use Rattle.call_sets.proofs.Sums.{sum_where-none, sum_where-one}
use Rattle.tour_extension.proofs.SumLemmas.{sum_where-has, sum_either, sum_joined}

-- a call that has not boarded is not carried
pub not_carried : (s : Snapshot) (c : ℕ) (q : Progress) (j : ℕ) → IsKept s c q → j < call_count s → q.boarded j ≡ false → q.carried j ≡ false
not_carried s c q j kept lt fresh =
    false_from_ne_true (q.carried j) (λ on. elim (or_cases (q.boarded j) (is_aboard s c j) (kept.carried j on)) [
      | inl e ↦ both_ways _ fresh e
      | inr e ↦ (let a = and_parts (leb (call_count s) j && ltb j (rider_count s)) _ e in let b = and_parts (leb (call_count s) j) _ a.0 in
          let le = leb-true (call_count s) j b.0 in omega arith)
    ])

all_front : (bs : List ℕ) (i j : ℕ) → list_all (λ x. ltb x i) (bs ++ j ∷ []) ≡ true → list_all (λ x. ltb x i) bs ≡ true
all_front [] i j h = refl
all_front (b ∷ bs) i j h = let parts = and_parts (ltb b i) _ h in and_from (ltb b i) _ parts.0 (all_front bs i j parts.1)

same_bool : (a b : Bool) → same_direction a b ≡ true → a ≡ b
same_bool true true h = refl
same_bool true false h = absurd (false≢true h)
same_bool false true h = absurd (false≢true h)
same_bool false false h = refl

-- a call that starts here goes up where its destination is above
pub upward_here : (s : Snapshot) (j f : ℕ) → j < call_count s → (call_of s j).origin ≡ f → is_upward (call_of s j) ≡ ltb f (destination_of s j)
upward_here s j f lt at = ap (λ (x : ℕ). ltb x (call_of s j).destination) at ∙ sym (ap (ltb f) (destination_of-call s j lt))

-- a call of the same queue goes along too
pub along_queue : (s : Snapshot) (p : Progress) (i j : ℕ) → i < call_count s → j < call_count s → (call_of s j).origin ≡ p.floor
    → is_later_in_queue (call_of s j) (call_of s i) ≡ true → goes_along s p j ≡ true → goes_along s p i ≡ true
along_queue s p i j li lj at later h =
    let q = queue_from (call_of s j) (call_of s i) later in
    let same = sym (upward_here s j p.floor lj at) ∙ same_bool _ _ q.direction ∙ upward_here s i p.floor li (sym q.origin ∙ at) in
    subst (λ (b : Bool). cond b (not (any_under s p)) (not (any_above s p)) ≡ true) same h

-- one who is carried goes along where all go one way
pub along_carried : (s : Snapshot) (p : Progress) (j : ℕ) → j < rider_count s → p.carried j ≡ true → (destination_of s j ≡ p.floor → ⊥)
    → (any_above s p && any_under s p) ≡ false → goes_along s p j ≡ true
along_carried s p j lt on apart one =
    elim (cases_Bool (ltb p.floor (destination_of s j))) [
      | inl up ↦ cond-true (ltb p.floor (destination_of s j)) (not (any_under s p)) (not (any_above s p)) up
          ∙ not_from_false _ (false_from_ne_true _
          (λ under. both_ways _ one
          (and_from (any_above s p) (any_under s p) (any_below-at (rider_count s) (goes_above s p) j lt (and_from (p.carried j) _ on up)) under)))
      | inr down ↦ cond-false (ltb p.floor (destination_of s j)) (not (any_under s p)) (not (any_above s p)) down
          ∙ not_from_false _ (false_from_ne_true _
          (λ above. both_ways _ one
          (and_from (any_above s p) (any_under s p) above (any_below-at (rider_count s) (goes_below s p) j lt (and_from (p.carried j) _ on (lower down))))))
    ]
  where
    lower : ltb p.floor (destination_of s j) ≡ false → ltb (destination_of s j) p.floor ≡ true
    lower down = let le = ltb-false p.floor (destination_of s j) down in elim (cases_lt (destination_of s j) p.floor) [
      | inl lt ↦ lt-ltb (destination_of s j) p.floor lt
      | inr ge ↦ absurd (apart (omega arith))
    ]

-- fewer carried, and it still goes along
pub along_less : (s : Snapshot) (p p2 : Progress) (j : ℕ) → p.floor ≡ p2.floor → ((r : ℕ) → p.carried r ≡ true → p2.carried r ≡ true)
    → goes_along s p2 j ≡ true → goes_along s p j ≡ true
along_less s p p2 j floor less h =
    elim (cases_Bool (ltb p.floor (destination_of s j))) [
      | inl up ↦ cond-true _ (not (any_under s p)) (not (any_above s p)) up
          ∙ not_from_false _ (fewer_under
          (not-true _ (sym (cond-true _ (not (any_under s p2)) (not (any_above s p2)) (sym (ap (λ (f : ℕ). ltb f (destination_of s j)) floor) ∙ up)) ∙ h)))
      | inr down ↦ cond-false _ (not (any_under s p)) (not (any_above s p)) down
          ∙ not_from_false _ (fewer_above
          (not-true _ (sym (cond-false _ (not (any_under s p2)) (not (any_above s p2)) (sym (ap (λ (f : ℕ). ltb f (destination_of s j)) floor) ∙ down)) ∙ h)))
    ]
  where
    fewer_under : any_under s p2 ≡ false → any_under s p ≡ false
    fewer_under none =
        any_below-less (rider_count s) (goes_below s p) (goes_below s p2)
        (λ r e. let parts = and_parts (p.carried r) _ e in
        and_from (p2.carried r) _ (less r parts.0) (subst (λ (f : ℕ). ltb (destination_of s r) f ≡ true) floor parts.1)) none

    fewer_above : any_above s p2 ≡ false → any_above s p ≡ false
    fewer_above none =
        any_below-less (rider_count s) (goes_above s p) (goes_above s p2)
        (λ r e. let parts = and_parts (p.carried r) _ e in
        and_from (p2.carried r) _ (less r parts.0) (subst (λ (f : ℕ). ltb f (destination_of s r) ≡ true) floor parts.1)) none

-- ---- with one board more

-- the call may board at the stop after q
record Boards (s : Snapshot) (c : ℕ) (q : Progress) (stop : Stop) (j : ℕ) : Type 0 where
  below : j < call_count s
  fresh : q.boarded j ≡ false
  origin : (call_of s j).origin ≡ stop.floor
  not_over : overtakes s q j ≡ false
  above : is_among j stop.boards ≡ false

boards_by : (s : Snapshot) (c : ℕ) (q : Progress) (stop : Stop) (j : ℕ) → list_all (λ i. ltb i j) stop.boards ≡ true
    → may_stand s c q (with_call_on stop j) ≡ true → Boards s c q stop j
boards_by s c q stop j rises stands =
    let clear = AllClear-from (breaks s c none_taken q (with_call_on stop j)) rules_but_useless (none-from _ stands) in
    let may = may_board s c q stop.floor stop.boards j rises stands in
    let here = board_more s stop.floor stop.boards j may.call in
    record {
      below = may.call;
      fresh = may.fresh;
      origin = (board_origin s c q (with_call_on stop j) j stands here).1;
      not_over = false_from_ne_true _
          (λ over. both_ways _ (any_below-false (call_count s) (λ k. boards_at s (with_call_on stop j) k && overtakes s q k) j clear.1.1.1.1.0 may.call)
          (and_from (boards_at s (with_call_on stop j) j) _ here over));
      above = may.above;
    }

-- the stop with one board more against the one without
pub record OneBoard (s : Snapshot) (c : ℕ) (q : Progress) (stop : Stop) (j : ℕ) : Type 0 where
  pub below : j < call_count s
  pub here : boards_at s (with_call_on stop j) j ≡ true
  pub not_here : boards_at s stop j ≡ false
  pub others : (k : ℕ) → (k ≡ j → ⊥) → boards_at s (with_call_on stop j) k ≡ boards_at s stop k
  pub more : (k : ℕ) → boards_at s stop k ≡ true → boards_at s (with_call_on stop j) k ≡ true
  pub carried : (r : ℕ) → (make_stop s c q stop).carried r ≡ true → (make_stop s c q (with_call_on stop j)).carried r ≡ true
  pub persons : persons_where s (make_stop s c q (with_call_on stop j)).carried ≡ persons_where s (make_stop s c q stop).carried + persons_of s j

or_nothing : (a b : Bool) → b ≡ false → (a || b) ≡ a
or_nothing true b e = refl
or_nothing false b e = e

pub one_board_more : (s : Snapshot) (c : ℕ) (q : Progress) (stop : Stop) (j : ℕ) → j < call_count s → is_among j stop.boards ≡ false → q.carried j ≡ false
    → OneBoard s c q stop j
one_board_more s c q stop j below above off = record {
  below = below;
  here = here;
  not_here = not_here;
  others = λ k ne. board_other s stop.floor stop.boards j k ne;
  more = more;
  carried = λ r e. elim (or_cases (stays_on s q stop.floor r) (boards_at s stop r) e) [
    | inl k ↦ or_left (stays_on s q stop.floor r) _ k
    | inr k ↦ or_right (stays_on s q stop.floor r) _ (more r k)
  ];
  persons = sum_joined (rider_count s) (make_stop s c q (with_call_on stop j)).carried (make_stop s c q stop).carried (eqb j) (persons_of s) joined apart
      ∙ ap (λ (x : ℕ). persons_where s (make_stop s c q stop).carried + x) (sum_where-one (rider_count s) (persons_of s) j (omega arith));
}
  where
    here : boards_at s (with_call_on stop j) j ≡ true
    here = board_more s stop.floor stop.boards j below

    not_here : boards_at s stop j ≡ false
    not_here = and_right (ltb j (call_count s)) (is_among j stop.boards) above

    not_carried_yet : (make_stop s c q stop).carried j ≡ false
    not_carried_yet = or_from (stays_on s q stop.floor j) (boards_at s stop j) (and_left (q.carried j) _ off) not_here

    joined : (k : ℕ) → k < rider_count s → (make_stop s c q (with_call_on stop j)).carried k ≡ ((make_stop s c q stop).carried k || eqb j k)
    joined k lt =
        elim (cases_Bool (eqb j k)) [
          | inl same ↦ subst (λ (i : ℕ). (make_stop s c q (with_call_on stop j)).carried i ≡ true) (eqb-true j k same)
              (or_right (stays_on s q stop.floor j) _ here) ∙ sym (or_right ((make_stop s c q stop).carried k) _ same)
          | inr other ↦ ap (λ (b : Bool). stays_on s q stop.floor k || b) (board_other s stop.floor stop.boards j k (λ e. eqb-false j k other (sym e)))
              ∙ sym (or_nothing _ _ other)
        ]

    apart : (k : ℕ) → k < rider_count s → ((make_stop s c q stop).carried k && eqb j k) ≡ false
    apart k lt =
        elim (cases_Bool (eqb j k)) [
          | inl same ↦ and_left _ _ (subst (λ (i : ℕ). (make_stop s c q stop).carried i ≡ false) (eqb-true j k same) not_carried_yet)
          | inr other ↦ and_right _ _ other
        ]

    more : (k : ℕ) → boards_at s stop k ≡ true → boards_at s (with_call_on stop j) k ≡ true
    more k e =
        elim (cases_Bool (eqb k j)) [
          | inl same ↦ subst (λ (x : ℕ). boards_at s (with_call_on stop j) x ≡ true) (sym (eqb-true k j same)) here
          | inr apart ↦ board_other s stop.floor stop.boards j k (eqb-false k j apart) ∙ e
        ]

pub board_back : (s : Snapshot) (c : ℕ) (allowed required : ℕ → Bool) (q : Progress) (stop : Stop) (j : ℕ) → IsAccepted s → IsDemand s c allowed required
    → IsKept s c q → list_all (λ i. ltb i j) stop.boards ≡ true → may_stand s c q (with_call_on stop j) ≡ true → allowed j ≡ true
    → IsPromising s c allowed required q (with_call_on stop j) → IsPromising s c allowed required q stop
board_back s c allowed required q stop j ok demand kept rises stands allow good = record {
  one_way = elim (and_cases (any_above s p2) (any_under s p2) good.one_way) [
    | inl e ↦ and_left (any_above s p) (any_under s p)
        (any_below-less (rider_count s) (goes_above s p) (goes_above s p2)
        (λ r k. let parts = and_parts (p.carried r) _ k in and_from (p2.carried r) _ (one.carried r parts.0) parts.1) e)
    | inr e ↦ and_right (any_above s p) (any_under s p)
        (any_below-less (rider_count s) (goes_below s p) (goes_below s p2)
        (λ r k. let parts = and_parts (p.carried r) _ k in and_from (p2.carried r) _ (one.carried r parts.0) parts.1) e)
  ];
  none_left = left_at;
  none_skipped = λ i lt e. elim (cases_Bool (eqb i j)) [
    | inl same ↦ subst (λ (x : ℕ). list_all (λ y. ltb y x) stop.boards ≡ true) (sym (eqb-true i j same)) rises
    | inr apart ↦ all_front stop.boards i j (good.none_skipped i lt (has_still i (eqb-false i j apart) e))
  ];
  fits = (let either = sum_either (call_count s) (has_to_board s required p stop) (has_to_board s required p2 (with_call_on stop j)) (eqb j)
      (persons_of s) either_at in let alone = sum_where-one (call_count s) (persons_of s) j may.below in let more = one.persons in let room = good.fits in
      omega (arith, either, alone, more, room));
  use_of = λ useless. elim (cases_Bool (any_below (call_count s) earlier)) [
    | inl e ↦ by_earliest (earliest (call_of s) (call_count s) earlier e)
    | inr e ↦ any_below-at (call_count s) (gives_use s c allowed required q p) j may.below
        (uses j allow (not_from_false _ fresh_here) may.origin may.not_over e
        (along_less s p p2 j refl one.carried
        (along_carried s p2 j riders (or_right (stays_on s q stop.floor j) _ one.here)
        (carried_apart s c q (with_call_on stop j) j ok stands (or_right (stays_on s q stop.floor j) _ one.here)) good.one_way))
        (let more = one.persons in let room = carried_fit s c q (with_call_on stop j) stands in omega (arith, more, room)))
  ];
}
  where
    p : Progress
    p = make_stop s c q stop

    p2 : Progress
    p2 = make_stop s c q (with_call_on stop j)

    may : Boards s c q stop j
    may = boards_by s c q stop j rises stands

    one : OneBoard s c q stop j
    one = one_board_more s c q stop j may.below may.above (not_carried s c q j kept may.below may.fresh)

    riders : j < rider_count s
    riders = let b = may.below in omega arith

    fresh_here : p.boarded j ≡ false
    fresh_here = or_from (q.boarded j) (boards_at s stop j) may.fresh one.not_here

    waits_still : (i : ℕ) → (i ≡ j → ⊥) → waits required p i ≡ true → waits required p2 i ≡ true
    waits_still i apart e = ap (λ (b : Bool). required i && not (q.boarded i || b)) (one.others i apart) ∙ e

    left_at : (i : ℕ) → i < call_count s → waits required p i ≡ true → overtakes s q i ≡ false
    left_at i lt e =
        elim (cases_Bool (eqb i j)) [
          | inl same ↦ subst (λ (x : ℕ). overtakes s q x ≡ false) (sym (eqb-true i j same)) may.not_over
          | inr apart ↦ good.none_left i lt (waits_still i (eqb-false i j apart) e)
        ]

    has_still : (i : ℕ) → (i ≡ j → ⊥) → has_to_board s required p stop i ≡ true → has_to_board s required p2 (with_call_on stop j) i ≡ true
    has_still i apart e =
        let parts = and_parts (waits required p i) (is_passed_at s stop i) e in
        let k = any_below-true (call_count s) _ parts.1 in
        let on = and_parts (boards_at s stop k.0) _ k.2 in
        and_from (waits required p2 i) _ (waits_still i apart parts.0)
        (any_below-at (call_count s) _ k.0 k.1 (and_from (boards_at s (with_call_on stop j) k.0) _ (one.more k.0 on.0) on.1))

    either_at : (i : ℕ) → i < call_count s → has_to_board s required p stop i ≡ true → (has_to_board s required p2 (with_call_on stop j) i || eqb j i) ≡ true
    either_at i lt e =
        elim (cases_Bool (eqb i j)) [
          | inl same ↦ or_right (has_to_board s required p2 (with_call_on stop j) i) _ (eq-eqb j i (sym (eqb-true i j same)))
          | inr apart ↦ or_left (has_to_board s required p2 (with_call_on stop j) i) _ (has_still i (eqb-false i j apart) e)
        ]

    earlier : ℕ → Bool
    earlier i = waits required p i && is_later_in_queue (call_of s j) (call_of s i)

    uses : (i : ℕ) → allowed i ≡ true → not (p.boarded i) ≡ true → (call_of s i).origin ≡ stop.floor → overtakes s q i ≡ false
        → passes_some s required p i ≡ false → goes_along s p i ≡ true → persons_where s p.carried + persons_of s i ≤ (spec_of s c).capacity
        → gives_use s c allowed required q p i ≡ true
    uses i a b d e f g h =
        and_from _ _ (and_from _ _
        (and_from _ _ (and_from _ _ (and_from _ _ (and_from (allowed i) _ a b) (eq-eqb (call_of s i).origin stop.floor d)) (not_from_false _ e))
        (not_from_false _ f)) g) (le-leb _ (spec_of s c).capacity h)

    by_earliest : (i : ℕ) × IsEarliest (call_of s) (call_count s) earlier i → any_below (call_count s) (gives_use s c allowed required q p) ≡ true
    by_earliest r =
        let i = r.0 in
        let parts = and_parts (waits required p i) _ r.1.passes in
        let must = and_parts (required i) _ parts.0 in
        let queue = queue_from (call_of s j) (call_of s i) parts.1 in
        let lt = r.1.below in
        let apart : i ≡ j → ⊥ = λ same. both_ways _ (not_later_itself (call_of s j)) (subst (λ (x : ℕ). is_later_in_queue_later s j x) same queue.later) in
        let on2 = or_right (stays_on s q stop.floor j) _ one.here in
        let along_j = along_less s p p2 j refl one.carried
        (along_carried s p2 j riders on2 (carried_apart s c q (with_call_on stop j) j ok stands on2) good.one_way) in
        let has2 : has_to_board s required p2 (with_call_on stop j) i ≡ true =
        and_from (waits required p2 i) _ (waits_still i apart parts.0)
        (any_below-at (call_count s) _ j may.below (and_from (boards_at s (with_call_on stop j) j) _ one.here parts.1)) in
        let some = sum_where-has (call_count s) (has_to_board s required p2 (with_call_on stop j)) (persons_of s) i lt has2 in
        let room = good.fits in
        let more = one.persons in
        any_below-at (call_count s) (gives_use s c allowed required q p) i lt
        (uses i (demand.within i must.0) must.1 (sym queue.origin ∙ may.origin) (left_at i lt parts.0) (none_passed i r.1.first parts.1)
        (along_queue s p i j lt may.below may.origin parts.1 along_j) (omega (arith, some, room, more)))
      where
        is_later_in_queue_later : Snapshot → ℕ → ℕ → Type 0
        is_later_in_queue_later s j x = is_later (call_of s j) (call_of s x) ≡ true

        none_passed : (i : ℕ) → ((k : ℕ) → k < call_count s → earlier k ≡ true → is_later (call_of s i) (call_of s k) ≡ false)
            → is_later_in_queue (call_of s j) (call_of s i) ≡ true → passes_some s required p i ≡ false
        none_passed i first before =
            any_below-none (call_count s) _
            (λ k lt. false_from_ne_true _
            (λ e. let parts = and_parts (waits required p k) _ e in
            both_ways _ (first k lt (and_from (waits required p k) _ parts.0 (queue_trans (call_of s j) (call_of s i) (call_of s k) before parts.1)))
            (queue_from (call_of s i) (call_of s k) parts.1).later))

-- ---- a stop that is left

-- at a stop that is left nothing is to be done that could not be done later
left_good : (s : Snapshot) (c : ℕ) (allowed required : ℕ → Bool) (q : Progress) (stop : Stop) → IsDemand s c allowed required → may_be_left s c q stop ≡ true
    → may_stand s c q stop ≡ true → (any_above s (make_stop s c q stop) && any_under s (make_stop s c q stop)) ≡ false
    → ((j : ℕ) → j < call_count s → waits required (make_stop s c q stop) j ≡ true → overtakes s (make_stop s c q stop) j ≡ false)
    → IsPromising s c allowed required q stop
left_good s c allowed required q stop demand left stands one clear = record {
  one_way = one;
  none_left = λ j lt e.
      any_below-less (call_count s) _ _ (λ k h. let parts = and_parts (q.boarded k) _ h in and_from (p.boarded k) _ (or_left (q.boarded k) _ parts.0) parts.1)
      (clear j lt e);
  none_skipped = λ j lt e. absurd (none_has j lt e);
  fits = (let none = sum_where-none (call_count s) (has_to_board s required p stop) (persons_of s) (λ r lt. false_from_ne_true _ (none_has r lt)) in
      let room = carried_fit s c q stop stands in omega (arith, none, room));
  use_of = λ useless. absurd
      (both_ways _ (AllClear-from (breaks s c none_taken q stop) rules_of_stop (none-from (broken_at s c none_taken q stop) left)).1.1.0 useless);
}
  where
    p : Progress
    p = make_stop s c q stop

    call : (r : ℕ) → has_to_board s required p stop r ≡ true → r < call_count s
    call r e =
        let must = and_parts (required r) _ (and_parts (waits required p r) _ e).0 in
        ltb-true r (call_count s) (and_parts (ltb r (call_count s)) _ (demand.possible r (demand.within r must.0))).0

    none_has : (j : ℕ) → j < call_count s → has_to_board s required p stop j ≡ true → ⊥
    none_has j lt e =
        let parts = and_parts (waits required p j) (is_passed_at s stop j) e in
        let k = any_below-true (call_count s) _ parts.1 in
        let on = and_parts (boards_at s stop k.0) _ k.2 in
        both_ways _ (clear j lt parts.0) (any_below-at (call_count s) _ k.0 k.1 (and_from (p.boarded k.0) _ (or_right (q.boarded k.0) _ on.0) on.1))

pub leave_back : (s : Snapshot) (c : ℕ) (allowed required : ℕ → Bool) (q : Progress) (stop : Stop) (g : ℕ) → IsDemand s c allowed required
    → may_be_left s c q stop ≡ true → may_stand s c q stop ≡ true → may_stand s c (make_stop s c q stop) (empty_stop g) ≡ true
    → IsPromising s c allowed required (make_stop s c q stop) (empty_stop g) → IsPromising s c allowed required q stop
leave_back s c allowed required q stop g demand left stands next good =
    left_good s c allowed required q stop demand left stands one
    (λ j lt e. good.none_left j lt (ap (λ (b : Bool). required j && not b) (boarded_same s c p g j) ∙ e))
  where
    p : Progress
    p = make_stop s c q stop

    empty : EmptyStands s c p g
    empty = stands_empty s c p g next

    elsewhere : g ≡ stop.floor → ⊥
    elsewhere same = both_ways _ empty.elsewhere (eq-eqb g stop.floor same)

    turn : ((ltb stop.floor g && any_below (rider_count s) (λ r. p.carried r && ltb (destination_of s r) g)) ≡ false)
        × ((ltb g stop.floor && any_below (rider_count s) (λ r. p.carried r && ltb g (destination_of s r))) ≡ false)
    turn = or_parts _ _ empty.goes_on

    under : stop.floor < g → any_under s p ≡ false
    under up =
        elim (and_cases (ltb stop.floor g) _ turn.0) [
          | inl e ↦ absurd (both_ways _ e (lt-ltb stop.floor g up))
          | inr e ↦ any_below-less (rider_count s) (goes_below s p) _
              (λ r k. let parts = and_parts (p.carried r) _ k in let lt = ltb-true (destination_of s r) stop.floor parts.1 in
              and_from (p.carried r) _ parts.0 (lt-ltb (destination_of s r) g (omega arith))) e
        ]

    above : g < stop.floor → any_above s p ≡ false
    above down =
        elim (and_cases (ltb g stop.floor) _ turn.1) [
          | inl e ↦ absurd (both_ways _ e (lt-ltb g stop.floor down))
          | inr e ↦ any_below-less (rider_count s) (goes_above s p) _
              (λ r k. let parts = and_parts (p.carried r) _ k in let lt = ltb-true stop.floor (destination_of s r) parts.1 in
              and_from (p.carried r) _ parts.0 (lt-ltb g (destination_of s r) (omega arith))) e
        ]

    one : (any_above s p && any_under s p) ≡ false
    one =
        elim (cases_lt stop.floor g) [
          | inl up ↦ and_right (any_above s p) _ (under up)
          | inr le ↦ elim (eq-or-lt_of_le le) [ inl same ↦ absurd (elsewhere same) | inr down ↦ and_left (any_above s p) _ (above down) ]
        ]

pub end_back : (s : Snapshot) (c : ℕ) (allowed required : ℕ → Bool) (q : Progress) (stop : Stop) → IsDemand s c allowed required
    → may_be_left s c q stop ≡ true → may_stand s c q stop ≡ true → may_end s c (make_stop s c q stop) ≡ true
    → any_waits s required (make_stop s c q stop) ≡ false → IsPromising s c allowed required q stop
end_back s c allowed required q stop demand left stands over none =
    left_good s c allowed required q stop demand left stands one
    (λ j lt e. absurd (both_ways _ (any_below-false (call_count s) (waits required p) j none lt) e))
  where
    p : Progress
    p = make_stop s c q stop

    nobody : any_below (rider_count s) p.carried ≡ false
    nobody = elim (cases_Bool (any_below (rider_count s) p.carried)) [ inl e ↦ absurd (some_left e) | inr e ↦ e ]
      where
        some_left : any_below (rider_count s) p.carried ≡ true → ⊥
        some_left e =
            let here : broken_at_end s c p ≡ Some Delivery = cond-true (any_below (rider_count s) p.carried) (Some Delivery) None e in
            let none = none-from (broken_at_end s c p) over in cc

    one : (any_above s p && any_under s p) ≡ false
    one = and_left (any_above s p) (any_under s p) (any_below-less (rider_count s) (goes_above s p) p.carried (λ r e. (and_parts (p.carried r) _ e).0) nobody)
