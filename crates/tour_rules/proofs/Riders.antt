-- The riders carried, as calls and groups.
use Rattle.std.proofs.Common.{◌==◌, ◌≡◌, ℕ, ◌+◌, ◌-◌, ◌<◌, ◌≤◌, Bool, true, false, cond, not, ◌&&◌, ◌||◌, eqb, ltb, leb, length, refl, sym, ap, ◌∙◌, inl, inr}
use Rattle.std.proofs.Common.{arith}
use Rattle.std.proofs.lemmas.Bool.{false≢true, eqb-true, eqb-false, and_left, ltb-true, lt-ltb, le-ltb, le-leb, lt-leb, cases_Bool, ltb-false}
use Rattle.std.proofs.lemmas.Nat.Bits.{bit_at-zero}
use Rattle.elevator_model.specs.declared.Stop.{Stop}
use Rattle.call_sets.specs.Counting.{any_below, sum_where, has, is_among}
use Rattle.elevator_model.specs.Snapshot.{Snapshot, call_count, call_of, group_of, floor_of, state_of}
use Rattle.elevator_model.specs.Tours.{Progress, rider_count, destination_of, persons_of, is_aboard, stays_on, persons_where, boards_at, stop_at, start_of}
use Rattle.tour_rules.specs.declared.places.CarPlace.{CarPlace}
use Rattle.tour_rules.specs.Leaving.{is_call_off, AreCarried}
use Rattle.tour_rules.specs.declared.places.Heading.{Heading}
use Rattle.tour_rules.specs.declared.places.Heading.TheVariants.{Anywhere}
use Rattle.tour_rules.specs.Places.{heads, call_in, group_in, call_heads, group_heads, group_carried, rider_heads, carries, Tracks, IsBoardSet}
use Rattle.call_sets.proofs.BelowTests.{any_below-same, any_below-split}
use Rattle.call_sets.proofs.Sums.{sum_below-same, sum_below-split, sum_below-zero}

-- a choice between calls and groups, at a call and at a group
pub at_call : {X : Type 0} (r n : ℕ) (x y : X) → r < n → cond (ltb r n) x y ≡ x
at_call r n x y lt = ap (λ b. cond b x y) (lt-ltb r n lt)

pub at_group : {X : Type 0} (r n : ℕ) (x y : X) → n ≤ r → cond (ltb r n) x y ≡ y
at_group r n x y le = ap (λ b. cond b x y) (le-ltb r n le)

call_rider : (s : Snapshot) (c calls visited : ℕ) (h : Heading) (r : ℕ) → r < call_count s → rider_heads s c calls visited h r ≡ call_heads s.calls calls h r
call_rider s c calls visited h r lt =
    ap (λ (b : Bool). b && heads h (destination_of s r)) (at_call r (call_count s) (has calls r) (group_carried s.aboard c visited (r - call_count s)) lt)
    ∙ ap (λ (d : ℕ). has calls r && heads h d) (at_call r (call_count s) (call_of s r).destination (group_of s (r - call_count s)).destination lt)

group_rider : (s : Snapshot) (c calls visited : ℕ) (h : Heading) (k : ℕ)
    → rider_heads s c calls visited h (call_count s + k) ≡ group_heads s.aboard c visited h k
group_rider s c calls visited h k =
    let n = call_count s in
    let e : n + k - n ≡ k = omega arith in
    ap (λ (b : Bool). b && heads h (destination_of s (n + k)))
    (at_group (n + k) n (has calls (n + k)) (group_carried s.aboard c visited (n + k - n)) (omega arith))
    ∙ ap (λ (d : ℕ). group_carried s.aboard c visited (n + k - n) && heads h d)
    (at_group (n + k) n (call_of s (n + k)).destination (group_of s (n + k - n)).destination (omega arith))
    ∙ ap (λ (i : ℕ). group_carried s.aboard c visited i && heads h (group_of s i).destination) e

pub rider_any : (s : Snapshot) (c calls visited : ℕ) (h : Heading)
    → any_below (rider_count s) (rider_heads s c calls visited h)
    ≡ (any_below (call_count s) (call_heads s.calls calls h) || any_below (length s.aboard) (group_heads s.aboard c visited h))
rider_any s c calls visited h =
    any_below-split (call_count s) (length s.aboard) (rider_heads s c calls visited h)
    ∙ ap (λ (b : Bool). b || any_below (length s.aboard) (λ k. rider_heads s c calls visited h (call_count s + k)))
    (any_below-same (call_count s) _ _ (call_rider s c calls visited h))
    ∙ ap (λ (b : Bool). any_below (call_count s) (call_heads s.calls calls h) || b)
    (any_below-same (length s.aboard) _ _ (λ k lt. group_rider s c calls visited h k))

call_persons : (s : Snapshot) (c calls visited : ℕ) (h : Heading) (r : ℕ) → r < call_count s
    → cond (rider_heads s c calls visited h r) (persons_of s r) 0 ≡ cond (call_heads s.calls calls h r) (call_in s.calls r).persons 0
call_persons s c calls visited h r lt =
    ap (λ (b : Bool). cond b (persons_of s r) 0) (call_rider s c calls visited h r lt)
    ∙ ap (λ (d : ℕ). cond (call_heads s.calls calls h r) d 0) (at_call r (call_count s) (call_of s r).persons (group_of s (r - call_count s)).persons lt)

group_persons : (s : Snapshot) (c calls visited : ℕ) (h : Heading) (k : ℕ)
    → cond (rider_heads s c calls visited h (call_count s + k)) (persons_of s (call_count s + k)) 0
    ≡ cond (group_heads s.aboard c visited h k) (group_in s.aboard k).persons 0
group_persons s c calls visited h k =
    let n = call_count s in
    let e : n + k - n ≡ k = omega arith in
    ap (λ (b : Bool). cond b (persons_of s (n + k)) 0) (group_rider s c calls visited h k)
    ∙ ap (λ (d : ℕ). cond (group_heads s.aboard c visited h k) d 0)
    (at_group (n + k) n (call_of s (n + k)).persons (group_of s (n + k - n)).persons (omega arith))
    ∙ ap (λ (i : ℕ). cond (group_heads s.aboard c visited h k) (group_of s i).persons 0) e

pub rider_persons : (s : Snapshot) (c calls visited : ℕ) (h : Heading)
    → sum_where (rider_count s) (rider_heads s c calls visited h) (persons_of s)
    ≡ sum_where (call_count s) (call_heads s.calls calls h) (λ j. (call_in s.calls j).persons) + sum_where (length s.aboard) (group_heads s.aboard c visited h)
    (λ k. (group_in s.aboard k).persons)
rider_persons s c calls visited h =
    let a = sum_below-split (call_count s) (length s.aboard) (λ r. cond (rider_heads s c calls visited h r) (persons_of s r) 0) in
    let b = sum_below-same (call_count s) _ _ (call_persons s c calls visited h) in
    let d = sum_below-same (length s.aboard) _ _ (λ k lt. group_persons s c calls visited h k) in
    omega (arith, a, b, d)

-- ---- a place that stands for a progress

-- those carried with such a destination
pub tracked_any : (s : Snapshot) (c : ℕ) (place : CarPlace) (p : Progress) (h : Heading) → Tracks s c place p
    → any_below (rider_count s) (λ r. p.carried r && heads h (destination_of s r)) ≡ any_below (rider_count s) (rider_heads s c place.carried place.visited h)
tracked_any s c place p h t = any_below-same (rider_count s) _ _ (λ r lt. ap (λ (b : Bool). b && heads h (destination_of s r)) (sym (t.carried r lt)))

pub tracked_persons : (s : Snapshot) (c : ℕ) (place : CarPlace) (p : Progress) (h : Heading) → Tracks s c place p
    → persons_where s (λ r. p.carried r && heads h (destination_of s r))
    ≡ sum_where (rider_count s) (rider_heads s c place.carried place.visited h) (persons_of s)
tracked_persons s c place p h t =
    sum_below-same (rider_count s) _ _ (λ r lt. ap (λ (b : Bool). cond (b && heads h (destination_of s r)) (persons_of s r) 0) (sym (t.carried r lt)))

pub zero_has : (j : ℕ) → has 0 j ≡ false
zero_has j = ap (λ (x : ℕ). eqb x 1) (bit_at-zero j)

start_carries : (s : Snapshot) (c r : ℕ) → r < rider_count s → carries s c 0 0 r ≡ is_aboard s c r
start_carries s c r lt =
    let n = call_count s in
    elim (cases_Bool (ltb r n)) [
      | inl e ↦ (let below = ltb-true r n e in
          ap (λ b. cond b (has 0 r) (group_carried s.aboard c 0 (r - n))) e ∙ zero_has r
          ∙ sym (and_left (leb n r && ltb r (rider_count s)) _ (and_left (leb n r) (ltb r (rider_count s)) (lt-leb n r below))))
      | inr e ↦ (let above = ltb-false r n e in
          ap (λ b. cond b (has 0 r) (group_carried s.aboard c 0 (r - n))) e
          ∙ ap (λ (b : Bool). ((group_in s.aboard (r - n)).car == c) && not b) (zero_has (group_in s.aboard (r - n)).destination)
          ∙ and_true ((group_in s.aboard (r - n)).car == c)
          ∙ sym (ap (λ (b : Bool). (b && ltb r (rider_count s)) && ((group_of s (r - n)).car == c)) (le-leb n r above)
          ∙ ap (λ (b : Bool). (true && b) && ((group_of s (r - n)).car == c)) (lt-ltb r (rider_count s) lt)))
    ]
  where
    and_true : (b : Bool) → (b && not false) ≡ b
    and_true true = refl
    and_true false = refl

pub Tracks-start : (s : Snapshot) (c : ℕ)
    → Tracks s c (record { begun = false; floor = floor_of (state_of s c); boarded = 0; carried = 0; visited = 0 }) (start_of s c)
Tracks-start s c = record { begun = refl; floor = refl; boarded = λ j lt. zero_has j; carried = start_carries s c }

call_after : (s : Snapshot) (c : ℕ) (place : CarPlace) (p : Progress) (g : ℕ) (staying set : ℕ) (boards : ℕ → Bool) (r : ℕ) → Tracks s c place p
    → r < call_count s → has staying r ≡ (has place.carried r && not ((call_in s.calls r).destination == g)) → has set r ≡ boards r → r < rider_count s
    → (has staying r || has set r) ≡ (stays_on s p g r || boards r)
call_after s c place p g staying set boards r t lt stay board in_all =
    let carried = at_call r (call_count s) (has place.carried r) (group_carried s.aboard c place.visited (r - call_count s)) lt in
    let same : has place.carried r ≡ p.carried r = sym carried ∙ t.carried r in_all in
    let dest = at_call r (call_count s) (call_of s r).destination (group_of s (r - call_count s)).destination lt in
    ap (λ (b : Bool). b || has set r) stay ∙ ap (λ (b : Bool). (b && not ((call_in s.calls r).destination == g)) || has set r) same
    ∙ ap (λ (d : ℕ). (p.carried r && not (d == g)) || has set r) (sym dest) ∙ ap (λ (b : Bool). stays_on s p g r || b) board

visited_after : (car old new seen : Bool) → (seen ≡ true → new ≡ true) → (seen ≡ false → new ≡ old)
    → (car && not new) ≡ (((car && not old) && not seen) || false)
visited_after false old new seen h k = refl
visited_after true true true seen h k = refl
visited_after true true false true h k = absurd (false≢true (h refl))
visited_after true true false false h k = absurd (false≢true (k refl))
visited_after true false true true h k = refl
visited_after true false true false h k = absurd (false≢true (sym (k refl)))
visited_after true false false true h k = absurd (false≢true (h refl))
visited_after true false false false h k = refl

-- a stop was made at floor g
pub record IsAfterStop (s : Snapshot) (place : CarPlace) (g set stay : ℕ) (new : CarPlace) : Type 0 where
  pub begun : new.begun ≡ true
  pub floor : new.floor ≡ g
  pub boarded : (j : ℕ) → has new.boarded j ≡ (has place.boarded j || has set j)
  pub carried : (j : ℕ) → has new.carried j ≡ (has stay j || has set j)
  pub staying : (j : ℕ) → j < call_count s → has stay j ≡ (has place.carried j && not ((call_in s.calls j).destination == g))
  pub here : has new.visited g ≡ true
  pub others : (f : ℕ) → (f ≡ g → ⊥) → has new.visited f ≡ has place.visited f

group_after : (s : Snapshot) (c : ℕ) (place : CarPlace) (p : Progress) (g set staying : ℕ) (new : CarPlace) (boards : ℕ → Bool) (r : ℕ) → Tracks s c place p
    → IsAfterStop s place g set staying new → IsBoardSet s set boards → call_count s ≤ r → r < rider_count s
    → group_carried s.aboard c new.visited (r - call_count s) ≡ (stays_on s p g r || boards r)
group_after s c place p g set staying new boards r t after is_set le in_all =
    let k = r - call_count s in
    let d = (group_in s.aboard k).destination in
    let carried = at_group r (call_count s) (has place.carried r) (group_carried s.aboard c place.visited k) le in
    let same : group_carried s.aboard c place.visited k ≡ p.carried r = sym carried ∙ t.carried r in_all in
    let dest = at_group r (call_count s) (call_of s r).destination (group_of s k).destination le in
    visited_after ((group_in s.aboard k).car == c) (has place.visited d) (has new.visited d) (d == g) (λ e. ap (has new.visited) (eqb-true d g e) ∙ after.here)
    (λ e. after.others d (eqb-false d g e)) ∙ ap (λ (b : Bool). (b && not (d == g)) || false) same
    ∙ ap (λ (x : ℕ). (p.carried r && not (x == g)) || false) (sym dest) ∙ ap (λ (b : Bool). stays_on s p g r || b) (sym (is_set.only r le))

rider_after : (s : Snapshot) (c : ℕ) (place : CarPlace) (p : Progress) (g set staying : ℕ) (new : CarPlace) (boards : ℕ → Bool) (r : ℕ) → Tracks s c place p
    → IsAfterStop s place g set staying new → IsBoardSet s set boards → r < rider_count s
    → carries s c new.carried new.visited r ≡ (stays_on s p g r || boards r)
rider_after s c place p g set staying new boards r t after is_set in_all =
    elim (cases_Bool (ltb r (call_count s))) [
      | inl e ↦ (let lt = ltb-true r (call_count s) e in
          at_call r (call_count s) (has new.carried r) (group_carried s.aboard c new.visited (r - call_count s)) lt ∙ after.carried r
          ∙ call_after s c place p g staying set boards r t lt (after.staying r lt) (is_set.calls r lt) in_all)
      | inr e ↦ (let le = ltb-false r (call_count s) e in
          at_group r (call_count s) (has new.carried r) (group_carried s.aboard c new.visited (r - call_count s)) le
          ∙ group_after s c place p g set staying new boards r t after is_set le in_all)
    ]

not_off : (k d : Bool) → (k && not (k && d)) ≡ (k && not d)
not_off true d = refl
not_off false d = refl

-- of the calls carried those that do not get off stay
pub staying-call : (s : Snapshot) (carried g off staying : ℕ) → ((j : ℕ) → j < call_count s → has off j ≡ is_call_off s carried g j)
    → ((j : ℕ) → has staying j ≡ (has carried j && not (has off j))) → (j : ℕ) → j < call_count s
    → has staying j ≡ (has carried j && not ((call_in s.calls j).destination == g))
staying-call s carried g off staying gone stay j lt =
    stay j ∙ ap (λ (b : Bool). has carried j && not b) (gone j lt) ∙ not_off (has carried j) ((call_in s.calls j).destination == g)

pub Tracks-stop : (s : Snapshot) (c : ℕ) (place : CarPlace) (p : Progress) (g set staying : ℕ) (new : CarPlace) (boards : ℕ → Bool) → Tracks s c place p
    → IsAfterStop s place g set staying new → IsBoardSet s set boards → Tracks s c new (stop_at s c p g boards)
Tracks-stop s c place p g set staying new boards t after is_set = record {
  begun = after.begun;
  floor = after.floor;
  boarded = λ j lt. after.boarded j ∙ ap (λ (b : Bool). b || has set j) (t.boarded j lt) ∙ ap (λ (b : Bool). p.boarded j || b) (is_set.calls j lt);
  carried = λ r lt. rider_after s c place p g set staying new boards r t after is_set lt;
}

pub boards_set : (s : Snapshot) (set : ℕ) (stop : Stop) → ((j : ℕ) → j < call_count s → has set j ≡ is_among j stop.boards)
    → IsBoardSet s set (boards_at s stop)
boards_set s set stop h = record {
  calls = λ j lt. h j lt ∙ sym (ap (λ (b : Bool). b && is_among j stop.boards) (lt-ltb j (call_count s) lt));
  only = λ j le. ap (λ (b : Bool). b && is_among j stop.boards) (le-ltb j (call_count s) le);
}

and_true : (b : Bool) → (b && true) ≡ b
and_true true = refl
and_true false = refl

-- the persons of the calls that board
pub board_persons : (s : Snapshot) (set : ℕ) (boards : ℕ → Bool) → IsBoardSet s set boards
    → persons_where s boards ≡ sum_where (call_count s) (call_heads s.calls set Anywhere) (λ j. (call_in s.calls j).persons)
board_persons s set boards is_set =
    let n = call_count s in
    let split = sum_below-split n (length s.aboard) (λ r. cond (boards r) (persons_of s r) 0) in
    let front = sum_below-same n (λ r. cond (boards r) (persons_of s r) 0) (λ j. cond (call_heads s.calls set Anywhere j) (call_in s.calls j).persons 0)
    (λ j lt. ap (λ (b : Bool). cond b (persons_of s j) 0) (sym (is_set.calls j lt) ∙ sym (and_true (has set j)))
    ∙ ap (λ (d : ℕ). cond (has set j && true) d 0) (at_call j n (call_of s j).persons (group_of s (j - n)).persons lt)) in
    let back = sum_below-same (length s.aboard) (λ k. cond (boards (n + k)) (persons_of s (n + k)) 0) (λ k. 0)
    (λ k lt. ap (λ (b : Bool). cond b (persons_of s (n + k)) 0) (is_set.only (n + k) (omega arith))) in
    let none = sum_below-zero (length s.aboard) in
    omega (arith, split, front, back, none)

pub carried_any : (s : Snapshot) (c : ℕ) (place : CarPlace) (h : Heading) (a b : Bool) → a ≡ any_below (length s.calls) (call_heads s.calls place.carried h)
    → b ≡ any_below (length s.aboard) (group_heads s.aboard c place.visited h) → (p : Progress) → Tracks s c place p
    → (a || b) ≡ any_below (rider_count s) (λ r. p.carried r && heads h (destination_of s r))
carried_any s c place h a b e k p t =
    ap (λ (x : Bool). x || b) e ∙ ap (λ (x : Bool). any_below (length s.calls) (call_heads s.calls place.carried h) || x) k
    ∙ sym (rider_any s c place.carried place.visited h) ∙ sym (tracked_any s c place p h t)

pub carried_persons : (s : Snapshot) (c : ℕ) (place : CarPlace) (h : Heading) (a b : ℕ)
    → a ≡ sum_where (length s.calls) (call_heads s.calls place.carried h) (λ j. (call_in s.calls j).persons)
    → b ≡ sum_where (length s.aboard) (group_heads s.aboard c place.visited h) (λ k. (group_in s.aboard k).persons) → (p : Progress) → Tracks s c place p
    → a + b ≡ persons_where s (λ r. p.carried r && heads h (destination_of s r))
carried_persons s c place h a b e k p t =
    let split = rider_persons s c place.carried place.visited h in
    let same = tracked_persons s c place p h t in
    omega (arith, e, k, split, same)

-- the riders carried, as the costs of a stop have them
pub riders_carried : (s : Snapshot) (c : ℕ) (place : CarPlace) (p : Progress) → Tracks s c place p → AreCarried s c place.carried place.visited p
riders_carried s c place p t =
    let n = call_count s in
    record {
      calls = λ j b. sym (t.carried j (omega (arith, b))) ∙ at_call j n (has place.carried j) (group_carried s.aboard c place.visited (j - n)) b;
      groups = λ k b. sym (t.carried (n + k) (omega (arith, b)))
          ∙ at_group (n + k) n (has place.carried (n + k)) (group_carried s.aboard c place.visited (n + k - n)) (omega arith)
          ∙ ap (group_carried s.aboard c place.visited) (index k);
    }
  where
    index : (k : ℕ) → call_count s + k - call_count s ≡ k
    index k = omega arith
