-- The cost of those who got off grows at each stop by the cost of those who get off there.
use Rattle.std.proofs.Common.{◌==◌, ◌≡◌, ℕ, ◌+◌, ◌-◌, ◌*◌, ◌<◌, Bool, true, false, cond, not, ◌&&◌, ◌||◌, eqb, ltb, leb, List, length, get_or, refl, sym, ap}
use Rattle.std.proofs.Common.{◌∙◌, inl, inr, arith, None}
use Rattle.std.specs.List.{count_by}
use Rattle.std.proofs.lemmas.Bool.{and_left, and_parts, or_cases, false≢true, ltb-true, cases_Bool, both_ways}
use Rattle.elevator_model.specs.declared.Stop.{Stop}
use Rattle.call_sets.specs.Counting.{any_below, is_among, sum_where}
use Rattle.elevator_model.specs.Snapshot.{Snapshot, call_count, call_of, group_of, spec_of}
use Rattle.elevator_model.specs.Tours.{Progress, rider_count, destination_of, is_aboard, gets_off, boards_at, make_stop, start_of, arrival, breaks, broken_at}
use Rattle.elevator_model.specs.Tours.{none_taken, rules_of_stop}
use Rattle.elevator_model.specs.Costs.{cost_of_wait, cost_of_rider, is_delivered, settled_cost}
use Rattle.call_sets.proofs.BelowTests.{any_below-false}
use Rattle.call_sets.proofs.Sums.{sum_below-same, sum_where-none, sum_below-add}
use Rattle.tour_rules.proofs.BoundedTests.{AllClear, AllClear-from}
use Rattle.tour_rules.specs.Leaving.{AreCarried, IsKept, AreBoarded, is_call_off, is_group_off, leaving_cost, cost_of_call, cost_of_group}
use Rattle.tour_rules.proofs.RiderSums.{is_call, is_no_call, is_aboard-call, group_index, persons_of-call, persons_of-group, sum_riders}
use Rattle.tour_rules.proofs.GettingOff.{off-call, off-group}

-- a call that boards did not board before
twice_free : (a b t d : Bool) → a ≡ true → (a && ((b || t) || d)) ≡ false → b ≡ false
twice_free true false t d h e = refl
twice_free true true t d h e = absurd (false≢true (sym e))
twice_free false b t d h e = absurd (false≢true h)

pub boards-call : (s : Snapshot) (stop : Stop) (j : ℕ) → boards_at s stop j ≡ true → j < call_count s
boards-call s stop j h = ltb-true j (call_count s) (and_parts (ltb j (call_count s)) (is_among j stop.boards) h).0

pub boards_once_from : (s : Snapshot) (p : Progress) (stop : Stop)
    → any_below (call_count s) (λ k. boards_at s stop k && ((p.boarded k || false) || leb 2 (count_by (λ x. x == k) stop.boards))) ≡ false → (j : ℕ)
    → boards_at s stop j ≡ true → p.boarded j ≡ false
boards_once_from s p stop none j h =
    let once = any_below-false (call_count s) (λ k. boards_at s stop k && ((p.boarded k || false) || leb 2 (count_by (λ x. x == k) stop.boards))) j none
    (boards-call s stop j h) in
    twice_free (boards_at s stop j) (p.boarded j) false (leb 2 (count_by (λ x. x == j) stop.boards)) h once

pub boards_once : (s : Snapshot) (c : ℕ) (p : Progress) (stop : Stop) → AllClear (breaks s c none_taken p stop) rules_of_stop → (j : ℕ)
    → boards_at s stop j ≡ true → p.boarded j ≡ false
boards_once s c p stop clear j h = boards_once_from s p stop clear.1.1.1.1.1.1.1.1.0 j h

boarded_after : (b a k d x : Bool) → (k ≡ true → (b || a) ≡ true) → ((k && not d) || x) ≡ true → ((b || x) || a) ≡ true
boarded_after true a k d x h e = refl
boarded_after false a k d true h e = refl
boarded_after false a true d false h e = elim (cases_Bool a) [
  | inl t ↦ ap (λ (z : Bool). (false || false) || z) t
  | inr f ↦ absurd (both_ways (false || a) f (h refl))
]
boarded_after false a false d false h e = absurd (false≢true e)

groups_after : (x : Bool) (opened before : ℕ) → x ≡ false → cond x opened before ≡ before
groups_after true opened before e = absurd (false≢true (sym e))
groups_after false opened before e = refl

pub IsKept-stop : (s : Snapshot) (c : ℕ) (p : Progress) (stop : Stop) → IsKept s c p → IsKept s c (make_stop s c p stop)
IsKept-stop s c p stop kept = record {
  carried = λ r h. boarded_after (p.boarded r) (is_aboard s c r) (p.carried r) (eqb (destination_of s r) stop.floor) (boards_at s stop r) (kept.carried r) h;
  calls = λ r h. elim (or_cases (p.boarded r) (boards_at s stop r) h) [ inl e ↦ kept.calls r e | inr e ↦ boards-call s stop r e ];
  groups = λ k. groups_after (boards_at s stop (call_count s + k)) (arrival s c p stop.floor + (spec_of s c).opening) (p.boarded_at (call_count s + k))
      (and_left (ltb (call_count s + k) (call_count s)) (is_among (call_count s + k) stop.boards) (is_no_call s k)) ∙ kept.groups k;
}

pub IsKept-start : (s : Snapshot) (c : ℕ) → IsKept s c (start_of s c)
IsKept-start s c = record {
  carried = λ r h. h;
  calls = λ r h. absurd (false≢true h);
  groups = λ k. ap (λ (x : Bool). cond x 0 (group_of s (call_count s + k - call_count s)).boarded) (is_no_call s k)
      ∙ ap (λ (i : ℕ). (group_of s i).boarded) (group_index s k);
}

-- the two ways in which one rider's part of the sum can change
one_settled : (cost : ℕ → ℕ → ℕ) (b a k x g : Bool) (boarded delivered opened : ℕ) → (k ≡ true → (b || a) ≡ true) → (x ≡ true → b ≡ false)
    → (x ≡ true → a ≡ false)
    → cond (((b || x) || a) && not ((k && not g) || x)) (cost (cond x opened boarded) (cond (k && g) opened delivered)) 0
    ≡ cond ((b || a) && not k) (cost boarded delivered) 0 + cond (k && g) (cost boarded opened) 0
one_settled cost true a k true g t u o h hb ha = absurd (false≢true (sym (hb refl)))
one_settled cost false true k true g t u o h hb ha = absurd (false≢true (sym (ha refl)))
one_settled cost false false true true g t u o h hb ha = absurd (false≢true (h refl))
one_settled cost false false false true g t u o h hb ha = omega arith
one_settled cost true a false false g t u o h hb ha = omega arith
one_settled cost false true false false g t u o h hb ha = omega arith
one_settled cost false false false false g t u o h hb ha = omega arith
one_settled cost false false true false g t u o h hb ha = absurd (false≢true (h refl))
one_settled cost true a true false true t u o h hb ha = omega arith
one_settled cost true a true false false t u o h hb ha = omega arith
one_settled cost false true true false true t u o h hb ha = omega arith
one_settled cost false true true false false t u o h hb ha = omega arith

-- The cost of those who got off grows by the cost of those who get off, where only calls board that had not.
pub settled_more_once : (s : Snapshot) (c : ℕ) (p : Progress) (stop : Stop) → IsKept s c p → ((j : ℕ) → boards_at s stop j ≡ true → p.boarded j ≡ false)
    → settled_cost s c (make_stop s c p stop) ≡ settled_cost s c p + leaving_cost s p stop.floor (make_stop s c p stop).opened
settled_more_once s c p stop kept once =
    let opened = (make_stop s c p stop).opened in
    let next = make_stop s c p stop in
    sum_below-same (rider_count s) (λ r. cond (is_delivered s c next r) (cost_of_rider s r (next.boarded_at r) (next.delivered_at r)) 0)
    (λ r. cond (is_delivered s c p r) (cost_of_rider s r (p.boarded_at r) (p.delivered_at r)) 0 + cond (gets_off s p stop.floor r)
    (cost_of_rider s r (p.boarded_at r) opened) 0)
    (λ r b. one_settled (cost_of_rider s r) (p.boarded r) (is_aboard s c r) (p.carried r) (boards_at s stop r) (eqb (destination_of s r) stop.floor)
    (p.boarded_at r) (p.delivered_at r) opened (kept.carried r) (once r) (λ h. is_aboard-call s c r (boards-call s stop r h)))
    ∙ sum_below-add (rider_count s) (λ r. cond (is_delivered s c p r) (cost_of_rider s r (p.boarded_at r) (p.delivered_at r)) 0)
    (λ r. cond (gets_off s p stop.floor r) (cost_of_rider s r (p.boarded_at r) opened) 0)

pub settled_more : (s : Snapshot) (c : ℕ) (p : Progress) (stop : Stop) → IsKept s c p → broken_at s c none_taken p stop ≡ None
    → settled_cost s c (make_stop s c p stop) ≡ settled_cost s c p + leaving_cost s p stop.floor (make_stop s c p stop).opened
settled_more s c p stop kept fine = settled_more_once s c p stop kept (boards_once s c p stop (AllClear-from (breaks s c none_taken p stop) rules_of_stop fine))

-- nobody got off at the start
pub settled_start : (s : Snapshot) (c : ℕ) → settled_cost s c (start_of s c) ≡ 0
settled_start s c = sum_where-none (rider_count s) (is_delivered s c (start_of s c))
    (λ r. cost_of_rider s r ((start_of s c).boarded_at r) ((start_of s c).delivered_at r)) (λ r b. nobody (is_aboard s c r))
  where
    nobody : (a : Bool) → ((false || a) && not a) ≡ false
    nobody true = refl
    nobody false = refl

pub cost_of_rider-call : (s : Snapshot) (j boarded delivered : ℕ) → j < call_count s → cost_of_rider s j boarded delivered ≡ cost_of_call s j boarded delivered
cost_of_rider-call s j boarded delivered b =
    ap (λ (n : ℕ). n * (cond (ltb j (call_count s)) (cost_of_wait s.building (boarded - (call_of s j).released)) 0 + s.building.travel_weight *
    (delivered - boarded))) (persons_of-call s j b)
    ∙ ap (λ (x : Bool). (call_of s j).persons *
    (cond x (cost_of_wait s.building (boarded - (call_of s j).released)) 0 + s.building.travel_weight * (delivered - boarded))) (is_call s j b)

pub cost_of_rider-group : (s : Snapshot) (k boarded delivered : ℕ) → boarded ≡ (group_of s k).boarded
    → cost_of_rider s (call_count s + k) boarded delivered ≡ cost_of_group s k delivered
cost_of_rider-group s k boarded delivered same =
    ap (λ (n : ℕ). n * (cond (ltb (call_count s + k) (call_count s))
    (cost_of_wait s.building (boarded - (call_of s (call_count s + k)).released)) 0 + s.building.travel_weight * (delivered - boarded)))
    (persons_of-group s k) ∙ ap
    (λ (x : Bool). (group_of s k).persons *
    (cond x (cost_of_wait s.building (boarded - (call_of s (call_count s + k)).released)) 0 + s.building.travel_weight * (delivered - boarded)))
    (is_no_call s k) ∙ ap (λ (n : ℕ). (group_of s k).persons * (0 + s.building.travel_weight * (delivered - n))) same
    ∙ ap (λ (n : ℕ). (group_of s k).persons * n) (plus_nothing (s.building.travel_weight * (delivered - (group_of s k).boarded)))
  where
    plus_nothing : (n : ℕ) → 0 + n ≡ n
    plus_nothing n = omega arith

pub leaving_cost-parts : (s : Snapshot) (c : ℕ) (p : Progress) (g opened carried visited : ℕ) (moments : List ℕ) → AreCarried s c carried visited p
    → IsKept s c p → AreBoarded s p moments
    → leaving_cost s p g opened
    ≡ sum_where (call_count s) (is_call_off s carried g) (λ j. cost_of_call s j (get_or moments j 0) opened) + sum_where (length s.aboard)
    (is_group_off s c visited g) (λ k. cost_of_group s k opened)
leaving_cost-parts s c p g opened carried visited moments t kept boarded =
    sum_riders s (gets_off s p g) (λ r. cost_of_rider s r (p.boarded_at r) opened) (is_call_off s carried g) (is_group_off s c visited g)
    (λ j. cost_of_call s j (get_or moments j 0) opened) (λ k. cost_of_group s k opened) (off-call s c p g carried visited t)
    (λ j b e. cost_of_rider-call s j (p.boarded_at j) opened b
    ∙ ap (λ (m : ℕ). cost_of_call s j m opened) (boarded.each j b (and_parts (p.carried j) (eqb (destination_of s j) g) e).0))
    (off-group s c p g carried visited t) (λ k b. cost_of_rider-group s k (p.boarded_at (call_count s + k)) opened (kept.groups k))
