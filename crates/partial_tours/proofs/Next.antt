-- Which moves may follow, tested on sets.
use Rattle.std.proofs.Common.{◌==◌, ◌≡◌, ℕ, zero, suc, ◌+◌, ◌<◌, ◌≤◌, Bool, true, false, cond, not, ◌&&◌, ◌||◌, eqb, ltb, leb, List, [], ◌∷◌, ◌++◌, refl, sym}
use Rattle.std.proofs.Common.{ap, ◌∙◌, subst, inl, inr, arith, count_by}
use Rattle.std.specs.List.{list_all}
use Rattle.std.proofs.lemmas.Bool.{or_from, and_parts, and_from, and_left, and_right, cases_Bool, both_ways, ltb-true, ltb-false, lt-ltb, le-ltb, le-leb}
use Rattle.std.proofs.lemmas.Bool.{leb-true, lt-leb, eqb-true, eq-eqb, ne_eqb, eqb-false, false_from_ne_true, not-true, not-false, not_from_true}
use Rattle.std.proofs.lemmas.Bool.{not_from_false}
use Rattle.std.proofs.Math.Nat.{eq-or-lt_of_le}
use Rattle.elevator_model.specs.declared.Rule.TheVariants.{FirstStop, SameFloorTwice, UselessStop, TurnWithPassengers, Capacity, Floor}
use Rattle.elevator_model.specs.declared.Stop.{Stop}
use Rattle.call_sets.specs.Counting.{any_below, sum_where, is_among}
use Rattle.elevator_model.specs.Snapshot.{Snapshot, call_count, call_of, spec_of, is_possible}
use Rattle.elevator_model.specs.Tours.{Progress, breaks, first_rule, rules_but_useless, rules_of_stop, boards_at, broken_at, none_taken, stays_on, rider_count}
use Rattle.elevator_model.specs.Tours.{persons_where, persons_of, is_call_for, overtakes}
use Rattle.elevator_model.specs.Partial.{may_stand, may_be_left}
use Rattle.partial_tours.specs.Courses.{board_test, empty_stop}
use Rattle.call_sets.proofs.BelowTests.{any_below-false, any_below-none}
use Rattle.call_sets.proofs.ListTests.{list_any-append}
use Rattle.call_sets.proofs.Sums.{sum_below-same}
use Rattle.tour_rules.proofs.BoundedTests.{AllClear-from, first_rule-clear, none-from, is_none-at}
use Rattle.tour_rules.proofs.Measure.{among_last, among_other, not_among_below, may_board}
use Rattle.tour_rules.proofs.Rising.{count-cons, count-none, count-append}

pub same_bool : (a b : Bool) → (a ≡ true → b ≡ true) → (b ≡ true → a ≡ true) → a ≡ b
same_bool true b h k = sym (h refl)
same_bool false true h k = k refl
same_bool false false h k = refl

-- ---- one board more

sum-one_more : (n : ℕ) (t u : ℕ → Bool) (f : ℕ → ℕ) (j : ℕ) → j < n → t j ≡ true → u j ≡ false → ((k : ℕ) → (k ≡ j → ⊥) → t k ≡ u k)
    → sum_where n t f ≡ sum_where n u f + f j
sum-one_more zero t u f j b h k same = absurd (omega arith)
sum-one_more (suc n) t u f j b h k same =
    let le : j ≤ n = omega arith in
    elim (eq-or-lt_of_le le) [
      | inl e ↦ (let below =
          sum_below-same n (λ i. cond (t i) (f i) 0) (λ i. cond (u i) (f i) 0) (λ i lt. ap (λ (x : Bool). cond x (f i) 0) (same i (λ eq. omega arith))) in
          let one = ap (λ (x : Bool). cond x (f n) 0) (subst (λ (x : ℕ). t x ≡ true) e h) in
          let none = ap (λ (x : Bool). cond x (f n) 0) (subst (λ (x : ℕ). u x ≡ false) e k) in let at_n = ap f e in omega (arith, below, one, none, at_n))
      | inr lt ↦ (let r = sum-one_more n t u f j lt h k same in let here = ap (λ (x : Bool). cond x (f n) 0) (same n (λ eq. omega arith)) in
          omega (arith, r, here))
    ]

abbrev at : ℕ → List ℕ → Stop
at g boards = record { floor = g; boards = boards }

pub board_more : (s : Snapshot) (g : ℕ) (bs : List ℕ) (j : ℕ) → j < call_count s → boards_at s (at g (bs ++ j ∷ [])) j ≡ true
board_more s g bs j lt = and_from (ltb j (call_count s)) (is_among j (bs ++ j ∷ [])) (lt-ltb j (call_count s) lt) (among_last bs j)

pub board_other : (s : Snapshot) (g : ℕ) (bs : List ℕ) (j k : ℕ) → (k ≡ j → ⊥) → boards_at s (at g (bs ++ j ∷ [])) k ≡ boards_at s (at g bs) k
board_other s g bs j k ne = ap (λ (b : Bool). ltb k (call_count s) && b) (among_other bs j k ne)

-- the persons who board, with one call more
pub persons_more : (s : Snapshot) (g : ℕ) (bs : List ℕ) (j : ℕ) → j < call_count s → is_among j bs ≡ false
    → persons_where s (boards_at s (at g (bs ++ j ∷ []))) ≡ persons_where s (boards_at s (at g bs)) + persons_of s j
persons_more s g bs j lt none =
    sum-one_more (rider_count s) (boards_at s (at g (bs ++ j ∷ []))) (boards_at s (at g bs)) (persons_of s) j (omega arith) (board_more s g bs j lt)
    (and_right (ltb j (call_count s)) (is_among j bs) none) (λ k ne. board_other s g bs j k ne)

-- no board fails a test, with one board more that passes it
none_more : (s : Snapshot) (g : ℕ) (bs : List ℕ) (j : ℕ) (t : ℕ → Bool) → any_below (call_count s) (λ k. boards_at s (at g bs) k && t k) ≡ false → t j ≡ false
    → any_below (call_count s) (λ k. boards_at s (at g (bs ++ j ∷ [])) k && t k) ≡ false
none_more s g bs j t old new =
    any_below-none (call_count s) (λ k. boards_at s (at g (bs ++ j ∷ [])) k && t k) (λ k lt. elim (cases_Bool (eqb k j)) [
      | inl e ↦ and_right (boards_at s (at g (bs ++ j ∷ [])) k) (t k) (ap t (eqb-true k j e) ∙ new)
      | inr e ↦ ap (λ (b : Bool). b && t k) (board_other s g bs j k (eqb-false k j e))
          ∙ any_below-false (call_count s) (λ i. boards_at s (at g bs) i && t i) k old lt
    ])

twice_none : (a b t d : Bool) → (a && ((b || t) || d)) ≡ false → (a && ((b || t) || d)) ≡ false
twice_none a b t d h = h

once_more : (s : Snapshot) (q : Progress) (g : ℕ) (bs : List ℕ) (j : ℕ) → q.boarded j ≡ false → is_among j bs ≡ false
    → any_below (call_count s) (λ k. boards_at s (at g bs) k && ((q.boarded k || false) || leb 2 (count_by (λ x. x == k) bs))) ≡ false
    → any_below (call_count s) (λ k. boards_at s (at g (bs ++ j ∷ [])) k && ((q.boarded k || false) || leb 2 (count_by (λ x. x == k) (bs ++ j ∷ [])))) ≡ false
once_more s q g bs j fresh none old =
    any_below-none (call_count s) _ (λ k lt. elim (cases_Bool (eqb k j)) [
      | inl e ↦ (let same = eqb-true k j e in
          and_right (boards_at s (at g (bs ++ j ∷ [])) k) _
          (or_from (q.boarded k || false) (leb 2 (count_by (λ x. x == k) (bs ++ j ∷ []))) (or_from (q.boarded k) false (ap q.boarded same ∙ fresh) refl)
          (subst (λ (i : ℕ). leb 2 (count_by (λ x. x == i) (bs ++ j ∷ [])) ≡ false) (sym same)
          (let a = count-append j bs (j ∷ []) in let z = count-none j bs none in let o = count-cons j j [] in
          let one = ap {B = ℕ} (λ (b : Bool). cond b 1 0) (eq-eqb j j refl) in let nil : count_by (λ y. y == j) [] ≡ 0 = refl in
          lt-leb 2 _ (omega (arith, a, z, o, one, nil))))))
      | inr e ↦ (let ne = eqb-false k j e in let a = count-append k bs (j ∷ []) in let o = count-cons k j [] in
          let one = ap {B = ℕ} (λ (b : Bool). cond b 1 0) (ne_eqb j k (λ eq. ne (sym eq))) in let nil : count_by (λ y. y == k) [] ≡ 0 = refl in
          let same : count_by (λ y. y == k) (bs ++ j ∷ []) ≡ count_by (λ y. y == k) bs = omega (arith, a, o, one, nil) in
          ap (λ (b : Bool). b && ((q.boarded k || false) || leb 2 (count_by (λ x. x == k) (bs ++ j ∷ [])))) (board_other s g bs j k ne)
          ∙ ap (λ (n : ℕ). boards_at s (at g bs) k && ((q.boarded k || false) || leb 2 n)) same
          ∙ any_below-false (call_count s) (λ i. boards_at s (at g bs) i && ((q.boarded i || false) || leb 2 (count_by (λ x. x == i) bs))) k old lt)
    ])

stands_more : (s : Snapshot) (c : ℕ) (q : Progress) (g : ℕ) (bs : List ℕ) (j : ℕ) → list_all (λ i. ltb i j) bs ≡ true → may_stand s c q (at g bs) ≡ true
    → board_test s c q (at g bs) j ≡ true → may_stand s c q (at g (bs ++ j ∷ [])) ≡ true
stands_more s c q g bs j rises ok test =
    let h = AllClear-from (breaks s c none_taken q (at g bs)) rules_but_useless (none-from _ ok) in
    let t4 = and_parts (((is_call_for s c j && not (q.boarded j)) && ((call_of s j).origin == g)) && not (overtakes s q j)) _ test in
    let t3 = and_parts ((is_call_for s c j && not (q.boarded j)) && ((call_of s j).origin == g)) _ t4.0 in
    let t2 = and_parts (is_call_for s c j && not (q.boarded j)) _ t3.0 in
    let t1 = and_parts (is_call_for s c j) _ t2.0 in
    let lt = ltb-true j (call_count s) (and_parts (ltb j (call_count s)) _ t1.0).0 in
    let none = not_among_below bs j rises in
    let fresh = not-true (q.boarded j) t1.1 in
    let persons = persons_more s g bs j lt none in
    let room = leb-true _ (spec_of s c).capacity t4.1 in
    let capacity = le-ltb (spec_of s c).capacity (persons_where s (stays_on s q g) + persons_where s (boards_at s (at g (bs ++ j ∷ []))))
    (omega (arith, persons, room)) in
    let queue = none_more s g bs j (overtakes s q) h.1.1.1.1.0 (not-true (overtakes s q j) t3.1) in
    let car = list_any-append (λ k. not (is_call_for s c k)) bs (j ∷ [])
    ∙ or_from _ _ h.1.1.1.1.1.0 (or_from (not (is_call_for s c j)) false (not_from_true (is_call_for s c j) t1.0) refl) in
    let twice = once_more s q g bs j fresh none h.1.1.1.1.1.1.1.0 in
    let place = none_more s g bs j (λ k. not ((call_of s k).origin == g)) h.1.1.1.1.1.1.1.1.0 (not_from_true ((call_of s j).origin == g) t2.1) in
    is_none-at (first_rule (breaks s c none_taken q (at g (bs ++ j ∷ []))) rules_but_useless)
    (first_rule-clear (breaks s c none_taken q (at g (bs ++ j ∷ []))) rules_but_useless
    (h.0, (h.1.0, (h.1.1.0, (capacity, (queue, (car, (h.1.1.1.1.1.1.0, (twice, (place, tt))))))))))

at_board : (s : Snapshot) (g : ℕ) (bs : List ℕ) (j : ℕ) (t : ℕ → Bool) → j < call_count s
    → any_below (call_count s) (λ k. boards_at s (at g (bs ++ j ∷ [])) k && t k) ≡ false → t j ≡ false
at_board s g bs j t lt h =
    false_from_ne_true (t j)
    (λ e. both_ways _ (any_below-false (call_count s) (λ k. boards_at s (at g (bs ++ j ∷ [])) k && t k) j h lt)
    (and_from (boards_at s (at g (bs ++ j ∷ [])) j) (t j) (board_more s g bs j lt) e))

test_stands : (s : Snapshot) (c : ℕ) (q : Progress) (g : ℕ) (bs : List ℕ) (j : ℕ) → list_all (λ i. ltb i j) bs ≡ true
    → may_stand s c q (at g (bs ++ j ∷ [])) ≡ true → board_test s c q (at g bs) j ≡ true
test_stands s c q g bs j rises ok =
    let h = AllClear-from (breaks s c none_taken q (at g (bs ++ j ∷ []))) rules_but_useless (none-from _ ok) in
    let may = may_board s c q g bs j rises ok in
    let persons = persons_more s g bs j may.call may.above in
    let room = ltb-false (spec_of s c).capacity (persons_where s (stays_on s q g) + persons_where s (boards_at s (at g (bs ++ j ∷ [])))) h.1.1.1.0 in
    let queue = at_board s g bs j (overtakes s q) may.call h.1.1.1.1.0 in
    let place = at_board s g bs j (λ k. not ((call_of s k).origin == g)) may.call h.1.1.1.1.1.1.1.1.0 in
    and_from _ _ (and_from _ _
    (and_from _ _ (and_from _ _ (and_from (ltb j (call_count s)) (is_possible s c (call_of s j)) (lt-ltb j (call_count s) may.call) may.possible)
    (not_from_false (q.boarded j) may.fresh)) (not-false ((call_of s j).origin == g) place)) (not_from_false (overtakes s q j) queue))
    (le-leb _ (spec_of s c).capacity (omega (arith, persons, room)))

-- Whether a call may board at a stop that stands.
pub may_stand-more : (s : Snapshot) (c : ℕ) (q : Progress) (g : ℕ) (bs : List ℕ) (j : ℕ) → may_stand s c q (at g bs) ≡ true
    → (list_all (λ i. ltb i j) bs && may_stand s c q (at g (bs ++ j ∷ []))) ≡ (list_all (λ i. ltb i j) bs && board_test s c q (at g bs) j)
may_stand-more s c q g bs j ok =
    same_bool _ _ (λ h. let parts = and_parts (list_all (λ i. ltb i j) bs) _ h in and_from _ _ parts.0 (test_stands s c q g bs j parts.0 parts.1))
    (λ h. let parts = and_parts (list_all (λ i. ltb i j) bs) _ h in and_from _ _ parts.0 (stands_more s c q g bs j parts.0 ok parts.1))

-- ---- a stop without boards

-- the tests of a stop without boards
pub record EmptyStands (s : Snapshot) (c : ℕ) (p : Progress) (g : ℕ) : Type 0 where
  pub first : breaks s c none_taken p (empty_stop g) FirstStop ≡ false
  pub elsewhere : breaks s c none_taken p (empty_stop g) SameFloorTwice ≡ false
  pub goes_on : breaks s c none_taken p (empty_stop g) TurnWithPassengers ≡ false
  pub fits : breaks s c none_taken p (empty_stop g) Capacity ≡ false
  pub served : breaks s c none_taken p (empty_stop g) Floor ≡ false

no_board : (s : Snapshot) (g : ℕ) (t : ℕ → Bool) → any_below (call_count s) (λ j. boards_at s (empty_stop g) j && t j) ≡ false
no_board s g t = any_below-none (call_count s) _ (λ j lt. and_left (boards_at s (empty_stop g) j) (t j) (and_right (ltb j (call_count s)) false refl))

pub empty_stands : (s : Snapshot) (c : ℕ) (p : Progress) (g : ℕ) → EmptyStands s c p g → may_stand s c p (empty_stop g) ≡ true
empty_stands s c p g h =
    is_none-at (first_rule (breaks s c none_taken p (empty_stop g)) rules_but_useless)
    (first_rule-clear (breaks s c none_taken p (empty_stop g)) rules_but_useless (
      h.first,
      (
        h.elsewhere,
        (
          h.goes_on,
          (
            h.fits,
            (
              no_board s g (overtakes s p),
              (
                refl,
                (
                  h.served,
                  (
                    no_board s g (λ j. (p.boarded j || false) || leb 2 (count_by (λ x. x == j) [])),
                    (no_board s g (λ j. not ((call_of s j).origin == g)), tt),
                  ),
                ),
              ),
            ),
          ),
        ),
      ),
    ))

pub stands_empty : (s : Snapshot) (c : ℕ) (p : Progress) (g : ℕ) → may_stand s c p (empty_stop g) ≡ true → EmptyStands s c p g
stands_empty s c p g ok =
    let h = AllClear-from (breaks s c none_taken p (empty_stop g)) rules_but_useless (none-from _ ok) in
    record { first = h.0; elsewhere = h.1.0; goes_on = h.1.1.0; fits = h.1.1.1.0; served = h.1.1.1.1.1.1.0 }

-- a broken rule keeps the stop from standing
pub fails_first : (s : Snapshot) (c : ℕ) (p : Progress) (g : ℕ) → breaks s c none_taken p (empty_stop g) FirstStop ≡ true
    → false ≡ may_stand s c p (empty_stop g)
fails_first s c p g e = sym (false_from_ne_true _ (λ ok. both_ways _ (stands_empty s c p g ok).first e))

pub fails_elsewhere : (s : Snapshot) (c : ℕ) (p : Progress) (g : ℕ) → breaks s c none_taken p (empty_stop g) SameFloorTwice ≡ true
    → false ≡ may_stand s c p (empty_stop g)
fails_elsewhere s c p g e = sym (false_from_ne_true _ (λ ok. both_ways _ (stands_empty s c p g ok).elsewhere e))

pub fails_turn : (s : Snapshot) (c : ℕ) (p : Progress) (g : ℕ) → breaks s c none_taken p (empty_stop g) TurnWithPassengers ≡ true
    → false ≡ may_stand s c p (empty_stop g)
fails_turn s c p g e = sym (false_from_ne_true _ (λ ok. both_ways _ (stands_empty s c p g ok).goes_on e))

pub fails_fit : (s : Snapshot) (c : ℕ) (p : Progress) (g : ℕ) → breaks s c none_taken p (empty_stop g) Capacity ≡ true → false ≡ may_stand s c p (empty_stop g)
fails_fit s c p g e = sym (false_from_ne_true _ (λ ok. both_ways _ (stands_empty s c p g ok).fits e))

pub fails_served : (s : Snapshot) (c : ℕ) (p : Progress) (g : ℕ) → breaks s c none_taken p (empty_stop g) Floor ≡ true → false ≡ may_stand s c p (empty_stop g)
fails_served s c p g e = sym (false_from_ne_true _ (λ ok. both_ways _ (stands_empty s c p g ok).served e))

-- ---- leaving a stop

-- A stop that stands may be left unless it is useless.
pub leaves_unless : (s : Snapshot) (c : ℕ) (p : Progress) (st : Stop) → may_stand s c p st ≡ true
    → may_be_left s c p st ≡ not (breaks s c none_taken p st UselessStop)
leaves_unless s c p st ok =
    let h = AllClear-from (breaks s c none_taken p st) rules_but_useless (none-from _ ok) in
    same_bool _ _ (λ left. not_from_false _ (AllClear-from (breaks s c none_taken p st) rules_of_stop (none-from (broken_at s c none_taken p st) left)).1.1.0)
    (λ use_it. is_none-at (broken_at s c none_taken p st)
    (first_rule-clear (breaks s c none_taken p st) rules_of_stop (h.0, (h.1.0, (not-true _ use_it, h.1.1)))))

pub stand_same : (s : Snapshot) (c : ℕ) (p : Progress) (g : ℕ) (over : Bool) → breaks s c none_taken p (empty_stop g) FirstStop ≡ false
    → breaks s c none_taken p (empty_stop g) SameFloorTwice ≡ false → breaks s c none_taken p (empty_stop g) TurnWithPassengers ≡ false
    → breaks s c none_taken p (empty_stop g) Floor ≡ false → over ≡ breaks s c none_taken p (empty_stop g) Capacity → not over ≡ may_stand s c p (empty_stop g)
stand_same s c p g true first elsewhere goes_on served over = fails_fit s c p g (sym over)
stand_same s c p g false first elsewhere goes_on served over =
    sym (empty_stands s c p g (record { first = first; elsewhere = elsewhere; goes_on = goes_on; fits = sym over; served = served }))
