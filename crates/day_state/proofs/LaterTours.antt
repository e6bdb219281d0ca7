-- Stops and tours that break no rule in a snapshot break none in a later one.
use Rattle.std.proofs.Common.{◌≡◌, ◌==◌, ℕ, ◌+◌, ◌<◌, Bool, true, false, cond, not, ◌&&◌, ◌||◌, eqb, ltb, leb, List, [], ◌∷◌, map, refl, sym, ap, ◌∙◌, subst}
use Rattle.std.proofs.Common.{inl, inr, arith, Option, None, Some}
use Rattle.std.specs.List.{count_by, list_any}
use Rattle.std.proofs.lemmas.Bool.{and_left, and_right, and_parts, and_from, and_cases, or_cases, or_left, or_right, or_from, or_parts, false≢true, ltb-false}
use Rattle.std.proofs.lemmas.Bool.{lt-ltb, le-ltb, both_ways, not-false, not_from_true, false_from_ne_true, cond-false}
use Rattle.elevator_model.specs.declared.Stop.{Stop}
use Rattle.elevator_model.specs.declared.Call.{Call}
use Rattle.elevator_model.specs.declared.Rule.{Rule}
use Rattle.elevator_model.specs.declared.Rule.TheVariants.{FirstStop, SameFloorTwice, UselessStop, Capacity, Delivery}
use Rattle.call_sets.specs.Counting.{any_below, is_among}
use Rattle.elevator_model.specs.Building.{Building, car_of}
use Rattle.elevator_model.specs.Snapshot.{Snapshot, call_count, call_of, spec_of, state_of, serves, is_idle, is_possible, can_take, is_pinned_elsewhere}
use Rattle.elevator_model.specs.Tours.{Progress, rider_count, destination_of, boards_at, gets_off, stays_on, persons_where, make_stop, has_leg, turns_with}
use Rattle.elevator_model.specs.Tours.{overtakes, is_later_in_queue, is_call_for, breaks, broken_at, broken_at_end, broken_or, first_broken_from, none_taken}
use Rattle.elevator_model.specs.Tours.{rules_of_stop}
use Rattle.elevator_model.specs.Plans.{is_boarded_in}
use Rattle.call_sets.proofs.BelowTests.{any_below-at, any_below-true}
use Rattle.call_sets.proofs.ListTests.{list_any-false, list_any-none}
use Rattle.tour_rules.proofs.BoundedTests.{AllClear-from, first_rule-clear}
use Rattle.tour_rules.proofs.Reached.{broken_or-none}
use Rattle.day_state.specs.Reaching.{renamed_stop}
use Rattle.day_state.proofs.Renaming.{Renames, HasSame, IsSame, AllWait, false_back, renamed-among, renamed-count, renamed-below, boards-same, same-stop}
use Rattle.day_state.proofs.Renaming.{any-back, any-call-back}

-- what the rules of a first stop leave to show
pub record AreFirst (s later : Snapshot) (c : ℕ) (p q : Progress) (stop then_stop : Stop) : Type 0 where
  pub first : breaks later c none_taken q then_stop FirstStop ≡ false
  pub apart : breaks later c none_taken q then_stop SameFloorTwice ≡ false
  -- where the stop has to be useful, it had to be before
  pub need : (q.begun || is_idle (state_of later c)) ≡ true → (p.begun || is_idle (state_of s c)) ≡ true
  -- where a leg leads to it, one led to it before, from the same floor
  pub leg : has_leg later c q ≡ true → (has_leg s c p ≡ true) × (q.floor ≡ p.floor)

useless_back : (n off on m off2 on2 : Bool) → (m ≡ true → n ≡ true) → (off ≡ true → off2 ≡ true) → (on ≡ true → on2 ≡ true) → (n && not off && not on) ≡ false
    → (m && not off2 && not on2) ≡ false
useless_back n off on false off2 on2 e f g h = refl
useless_back n true on true off2 on2 e f g h = and_left (not off2) (not on2) (not_from_true off2 (f refl))
useless_back n false true true off2 on2 e f g h = and_right (not off2) (not on2) (not_from_true on2 (g refl))
useless_back n false false true off2 on2 e f g h = absurd (both_ways (n && true && true) h (and_from (n && true) true (and_from n true (e refl) refl) refl))

two_back : (x a b y d e : Bool) → (b ≡ true → a ≡ true) → (e ≡ true → d ≡ true) → ((x && a) || (y && d)) ≡ false → ((x && b) || (y && e)) ≡ false
two_back x a b y d e f g h =
    let parts = or_parts (x && a) (y && d) h in
    or_from (x && b) (y && e) (false_back (x && b) (x && a) (λ k. let r = and_parts x b k in and_from x a r.0 (f r.1)) parts.0)
    (false_back (y && e) (y && d) (λ k. let r = and_parts y e k in and_from y d r.0 (g r.1)) parts.1)

twice_test : (q p k m : Bool) → (q ≡ true → p ≡ true) → k ≡ m → ((q || false) || k) ≡ true → ((p || false) || m) ≡ true
twice_test q p k m before same h =
    elim (or_cases (q || false) k h) [
      | inl e ↦ or_left (p || false) m (elim (or_cases q false e) [ inl t ↦ or_left p false (before t) | inr f ↦ absurd (false≢true f) ])
      | inr e ↦ or_right (p || false) m (sym same ∙ e)
    ]

-- ---- each rule but those of a first stop

-- a rider stays on, or gets off, as before
stays-back : (s later : Snapshot) (old index : ℕ → ℕ) (waits : ℕ → Bool) → Renames s later old index waits → (p q : Progress) (g : ℕ) → HasSame s later old p q
    → (r : ℕ) → r < rider_count later → stays_on later q g r ≡ stays_on s p g (old r)
stays-back s later old index waits rn p q g same r below =
    ap (λ (x : Bool). x && not (eqb (destination_of later r) g)) (same.carried r below)
    ∙ ap (λ (d : ℕ). p.carried (old r) && not (eqb d g)) (rn.destination r below)

-- who gets off gets off in the later snapshot too
off-forth : (s later : Snapshot) (old index : ℕ → ℕ) (waits : ℕ → Bool) → Renames s later old index waits → (p q : Progress) (g : ℕ) → HasSame s later old p q
    → any_below (rider_count s) (gets_off s p g) ≡ true → any_below (rider_count later) (gets_off later q g) ≡ true
off-forth s later old index waits rn p q g same h =
    let found = any_below-true (rider_count s) (gets_off s p g) h in
    let parts = and_parts (p.carried found.0) (eqb (destination_of s found.0) g) found.2 in
    let here = same.found found.0 parts.0 in
    let k = here.0 in
    let carried : q.carried k ≡ true = same.carried k here.1 ∙ ap p.carried here.2 ∙ parts.0 in
    let goes : eqb (destination_of later k) g ≡ true = ap (λ (d : ℕ). eqb d g) (rn.destination k here.1 ∙ ap (destination_of s) here.2) ∙ parts.1 in
    any_below-at (rider_count later) (gets_off later q g) k here.1 (and_from (q.carried k) (eqb (destination_of later k) g) carried goes)

-- who boards boards in the later snapshot too
on-forth : (s later : Snapshot) (old index : ℕ → ℕ) (waits : ℕ → Bool) → Renames s later old index waits → (stop : Stop) → AllWait s waits stop.boards
    → any_below (call_count s) (boards_at s stop) ≡ true → any_below (call_count later) (boards_at later (renamed_stop index stop)) ≡ true
on-forth s later old index waits rn stop wait h =
    let found = any_below-true (call_count s) (boards_at s stop) h in
    let j = found.0 in
    let w = wait j (and_parts (ltb j (call_count s)) (is_among j stop.boards) found.2).1 in
    let below = rn.index_below j w.0 w.1 in
    let more : index j < rider_count later = omega arith in
    any_below-at (call_count later) (boards_at later (renamed_stop index stop)) (index j) below
    (boards-same s later old index waits rn stop wait (index j) more ∙ ap (boards_at s stop) (rn.old_index j w.0 w.1) ∙ found.2)

useless-later : (s later : Snapshot) (old index : ℕ → ℕ) (waits : ℕ → Bool) → Renames s later old index waits → (c : ℕ) (p q : Progress) (stop : Stop)
    → AllWait s waits stop.boards → HasSame s later old p q → ((q.begun || is_idle (state_of later c)) ≡ true → (p.begun || is_idle (state_of s c)) ≡ true)
    → breaks s c none_taken p stop UselessStop ≡ false → breaks later c none_taken q (renamed_stop index stop) UselessStop ≡ false
useless-later s later old index waits rn c p q stop wait same need h =
    useless_back (p.begun || is_idle (state_of s c)) (any_below (rider_count s) (gets_off s p stop.floor)) (any_below (call_count s) (boards_at s stop))
    (q.begun || is_idle (state_of later c)) (any_below (rider_count later) (gets_off later q stop.floor))
    (any_below (call_count later) (boards_at later (renamed_stop index stop))) need (off-forth s later old index waits rn p q stop.floor same)
    (on-forth s later old index waits rn stop wait) h

-- whoever is carried past a destination was before
passed-back : (s later : Snapshot) (old index : ℕ → ℕ) (waits : ℕ → Bool) → Renames s later old index waits → (p q : Progress) → HasSame s later old p q
    → (beyond : ℕ → Bool) → any_below (rider_count later) (λ r. q.carried r && beyond (destination_of later r)) ≡ true
    → any_below (rider_count s) (λ r. p.carried r && beyond (destination_of s r)) ≡ true
passed-back s later old index waits rn p q same beyond h =
    any-back s later old index waits rn (λ r. q.carried r && beyond (destination_of later r)) (λ r. p.carried r && beyond (destination_of s r))
    (λ r below k. sym (ap (λ (x : Bool). x && beyond (destination_of later r)) (same.carried r below)
    ∙ ap (λ (d : ℕ). p.carried (old r) && beyond d) (rn.destination r below)) ∙ k) h

turn-later : (s later : Snapshot) (old index : ℕ → ℕ) (waits : ℕ → Bool) → Renames s later old index waits → (c : ℕ) (p q : Progress) (g : ℕ)
    → HasSame s later old p q → (has_leg later c q ≡ true → (has_leg s c p ≡ true) × (q.floor ≡ p.floor)) → (has_leg s c p && turns_with s p p.floor g) ≡ false
    → (has_leg later c q && turns_with later q q.floor g) ≡ false
turn-later s later old index waits rn c p q g same leg h =
    false_from_ne_true (has_leg later c q && turns_with later q q.floor g) (λ k.
    let parts = and_parts (has_leg later c q) (turns_with later q q.floor g) k in
    let was = leg parts.0 in
    let none : turns_with s p p.floor g ≡ false = elim (and_cases (has_leg s c p) (turns_with s p p.floor g) h) [
      | inl e ↦ absurd (both_ways (has_leg s c p) e was.0)
      | inr e ↦ e
    ] in
    let at_floor : turns_with later q p.floor g ≡ true = subst (λ (f : ℕ). turns_with later q f g ≡ true) was.1 parts.1 in
    both_ways (turns_with later q p.floor g)
    (two_back (ltb p.floor g) (any_below (rider_count s) (λ r. p.carried r && ltb (destination_of s r) g))
    (any_below (rider_count later) (λ r. q.carried r && ltb (destination_of later r) g)) (ltb g p.floor)
    (any_below (rider_count s) (λ r. p.carried r && ltb g (destination_of s r)))
    (any_below (rider_count later) (λ r. q.carried r && ltb g (destination_of later r))) (passed-back s later old index waits rn p q same (λ d. ltb d g))
    (passed-back s later old index waits rn p q same (ltb g)) none) at_floor)

capacity-later : (s later : Snapshot) (old index : ℕ → ℕ) (waits : ℕ → Bool) → Renames s later old index waits → (c : ℕ) (p q : Progress) (stop : Stop)
    → AllWait s waits stop.boards → HasSame s later old p q → breaks s c none_taken p stop Capacity ≡ false
    → breaks later c none_taken q (renamed_stop index stop) Capacity ≡ false
capacity-later s later old index waits rn c p q stop wait same h =
    let fits = ltb-false (spec_of s c).capacity (persons_where s (stays_on s p stop.floor) + persons_where s (boards_at s stop)) h in
    let size : (spec_of later c).capacity ≡ (spec_of s c).capacity = ap (λ (b : Building). (car_of b c).capacity) rn.building in
    let stay = rn.persons (stays_on later q stop.floor) (stays_on s p stop.floor)
    (λ r below k. sym (stays-back s later old index waits rn p q stop.floor same r below) ∙ k) in
    let on = rn.persons (boards_at later (renamed_stop index stop)) (boards_at s stop)
    (λ r below k. sym (boards-same s later old index waits rn stop wait r below) ∙ k) in
    le-ltb (spec_of later c).capacity (persons_where later (stays_on later q stop.floor) + persons_where later (boards_at later (renamed_stop index stop)))
    (omega (arith, fits, size, stay, on))

overtaken-back : (s later : Snapshot) (old index : ℕ → ℕ) (waits : ℕ → Bool) → Renames s later old index waits → (p q : Progress) → HasSame s later old p q
    → (j : ℕ) → j < call_count later → overtakes later q j ≡ true → overtakes s p (old j) ≡ true
overtaken-back s later old index waits rn p q same j below h =
    any-call-back s later old index waits rn (λ k. q.boarded k && is_later_in_queue (call_of later k) (call_of later j))
    (λ k. p.boarded k && is_later_in_queue (call_of s k) (call_of s (old j))) (λ k low g.
    let parts = and_parts (q.boarded k) (is_later_in_queue (call_of later k) (call_of later j)) g in
    and_from (p.boarded (old k)) (is_later_in_queue (call_of s (old k)) (call_of s (old j))) (same.boarded k low parts.0)
    (sym (ap (λ (x : Call). is_later_in_queue x (call_of later j)) (rn.call k low) ∙ ap (is_later_in_queue (call_of s (old k))) (rn.call j below))
    ∙ parts.1)) h

-- where each call that boards does so without a fault, later too
board-back : (s later : Snapshot) (old index : ℕ → ℕ) (waits : ℕ → Bool) → Renames s later old index waits → (stop : Stop) → AllWait s waits stop.boards
    → (t u : ℕ → Bool) → ((j : ℕ) → j < call_count later → t j ≡ true → u (old j) ≡ true) → any_below (call_count s) (λ j. boards_at s stop j && u j) ≡ false
    → any_below (call_count later) (λ j. boards_at later (renamed_stop index stop) j && t j) ≡ false
board-back s later old index waits rn stop wait t u back h =
    false_back (any_below (call_count later) (λ j. boards_at later (renamed_stop index stop) j && t j))
    (any_below (call_count s) (λ j. boards_at s stop j && u j))
    (any-call-back s later old index waits rn (λ j. boards_at later (renamed_stop index stop) j && t j) (λ j. boards_at s stop j && u j) (λ j below g.
    let more : j < rider_count later = omega arith in
    let parts = and_parts (boards_at later (renamed_stop index stop) j) (t j) g in
    and_from (boards_at s stop (old j)) (u (old j)) (sym (boards-same s later old index waits rn stop wait j more) ∙ parts.0) (back j below parts.1))) h

possible-later : (s later : Snapshot) (c : ℕ) (x y : Call) → later.building ≡ s.building → y ≡ x → is_possible later c y ≡ is_possible s c x
possible-later s later c x y e same =
    ap (λ (b : Building). not (is_pinned_elsewhere y.pin c) && can_take b c y) e
    ∙ ap (λ (z : Call). not (is_pinned_elsewhere z.pin c) && can_take s.building c z) same

car-later : (s later : Snapshot) (old index : ℕ → ℕ) (waits : ℕ → Bool) → Renames s later old index waits → (c : ℕ) (stop : Stop) → AllWait s waits stop.boards
    → list_any (λ j. not (is_call_for s c j)) stop.boards ≡ false → list_any (λ j. not (is_call_for later c j)) (map index stop.boards) ≡ false
car-later s later old index waits rn c stop wait h =
    list_any-none (λ j. not (is_call_for later c j)) (map index stop.boards) (λ j among.
    let below = renamed-below s later old index waits rn stop.boards wait j among in
    let was = sym (renamed-among s later old index waits rn stop.boards wait j below) ∙ among in
    let for_car = not-false (is_call_for s c (old j)) (list_any-false (λ k. not (is_call_for s c k)) stop.boards (old j) h was) in
    let possible = and_parts (ltb (old j) (call_count s)) (is_possible s c (call_of s (old j))) for_car in
    not_from_true (is_call_for later c j)
    (and_from (ltb j (call_count later)) (is_possible later c (call_of later j)) (lt-ltb j (call_count later) below)
    (possible-later s later c (call_of s (old j)) (call_of later j) rn.building (rn.call j below) ∙ possible.1)))

-- A stop that breaks no rule breaks none later, where the rules of a first stop are kept.
pub stop-fine : (s later : Snapshot) (old index : ℕ → ℕ) (waits : ℕ → Bool) → Renames s later old index waits → (c : ℕ) (p q : Progress) (stop : Stop)
    → AllWait s waits stop.boards → HasSame s later old p q → AreFirst s later c p q stop (renamed_stop index stop) → broken_at s c none_taken p stop ≡ None
    → broken_at later c none_taken q (renamed_stop index stop) ≡ None
stop-fine s later old index waits rn c p q stop wait same start fine =
    let a = AllClear-from (breaks s c none_taken p stop) rules_of_stop fine in
    let useless = useless-later s later old index waits rn c p q stop wait same start.need a.1.1.0 in
    let turn = turn-later s later old index waits rn c p q stop.floor same start.leg a.1.1.1.0 in
    let capacity = capacity-later s later old index waits rn c p q stop wait same a.1.1.1.1.0 in
    let queue = board-back s later old index waits rn stop wait (overtakes later q) (overtakes s p)
    (overtaken-back s later old index waits rn p q same) a.1.1.1.1.1.0 in
    let car = car-later s later old index waits rn c stop wait a.1.1.1.1.1.1.0 in
    let floor = ap (λ (b : Building). not (serves b c stop.floor)) rn.building ∙ a.1.1.1.1.1.1.1.0 in
    let twice = board-back s later old index waits rn stop wait (λ j. (q.boarded j || none_taken j) || leb 2 (count_by (λ x. x == j) (map index stop.boards)))
    (λ j. (p.boarded j || none_taken j) || leb 2 (count_by (λ x. x == j) stop.boards))
    (λ j below h. twice_test (q.boarded j) (p.boarded (old j)) (leb 2 (count_by (λ x. x == j) (map index stop.boards)))
    (leb 2 (count_by (λ x. x == old j) stop.boards)) (same.boarded j below)
    (ap (leb 2) (renamed-count s later old index waits rn stop.boards wait j below)) h) a.1.1.1.1.1.1.1.1.0 in
    let place = board-back s later old index waits rn stop wait (λ j. not ((call_of later j).origin == stop.floor))
    (λ j. not ((call_of s j).origin == stop.floor))
    (λ j below h. sym (ap (λ (x : Call). not (eqb x.origin stop.floor)) (rn.call j below)) ∙ h) a.1.1.1.1.1.1.1.1.1.0 in
    first_rule-clear (breaks later c none_taken q (renamed_stop index stop)) rules_of_stop
    (start.first, (start.apart, (useless, (turn, (capacity, (queue, (car, (floor, (twice, (place, tt))))))))))

-- ---- tours

-- each call that boards in the stops waits
pub record StopsWait (s : Snapshot) (waits : ℕ → Bool) (stops : List Stop) : Type 0 where
  pub each : (j : ℕ) → is_boarded_in stops j ≡ true → (j < call_count s) × (waits j ≡ true)

first-waits : (s : Snapshot) (waits : ℕ → Bool) (stop : Stop) (stops : List Stop) → StopsWait s waits (stop ∷ stops) → AllWait s waits stop.boards
first-waits s waits stop stops w = λ j h. w.each j (or_left (is_among j stop.boards) (is_boarded_in stops j) h)

later-wait : (s : Snapshot) (waits : ℕ → Bool) (stop : Stop) (stops : List Stop) → StopsWait s waits (stop ∷ stops) → StopsWait s waits stops
later-wait s waits stop stops w = record { each = λ j h. w.each j (or_right (is_among j stop.boards) (is_boarded_in stops j) h) }

-- between two stops the rules of a first stop speak of nothing else
begun-first : (s later : Snapshot) (old : ℕ → ℕ) (c : ℕ) (p q : Progress) (stop then_stop : Stop) → IsSame s later old p q → then_stop.floor ≡ stop.floor
    → broken_at s c none_taken p stop ≡ None → AreFirst s later c p q stop then_stop
begun-first s later old c p q stop then_stop same floor fine =
    let a = AllClear-from (breaks s c none_taken p stop) rules_of_stop fine in
    record {
      first = and_left (not q.begun) _ (not_from_true q.begun same.begun_later);
      apart = and_right q.begun (eqb then_stop.floor q.floor)
          (ap (λ (f : ℕ). eqb f q.floor) floor ∙ ap (eqb stop.floor) same.floor ∙ not_there p.begun (eqb stop.floor p.floor) same.begun a.1.0);
      need = λ _. or_left p.begun (is_idle (state_of s c)) same.begun;
      leg = λ _. (or_left p.begun _ same.begun, same.floor);
    }
  where
    not_there : (b d : Bool) → b ≡ true → (b && d) ≡ false → d ≡ false
    not_there true d e h = h
    not_there false d e h = absurd (false≢true e)

-- nobody is carried at the end
end-fine : (s later : Snapshot) (old index : ℕ → ℕ) (waits : ℕ → Bool) → Renames s later old index waits → (c : ℕ) (p q : Progress) → HasSame s later old p q
    → (q.begun || is_idle (state_of later c)) ≡ true → broken_at_end s c p ≡ None → broken_at_end later c q ≡ None
end-fine s later old index waits rn c p q same may h =
    let none = nobody (not p.begun && not (is_idle (state_of s c))) (any_below (rider_count s) p.carried) h in
    let then_none = false_back (any_below (rider_count later) q.carried) (any_below (rider_count s) p.carried)
    (any-back s later old index waits rn q.carried p.carried (λ r below k. sym (same.carried r below) ∙ k)) none in
    free q.begun (is_idle (state_of later c)) (any_below (rider_count later) q.carried) may then_none
  where
    nobody : (first any : Bool) → cond first (Some FirstStop) (cond any (Some Delivery) None) ≡ None → any ≡ false
    nobody true any h = absurd (cc)
    nobody false true h = absurd (cc)
    nobody false false h = refl

    free : (b i any : Bool) → (b || i) ≡ true → any ≡ false → cond (not b && not i) (Some FirstStop) (cond any (Some Delivery) None) ≡ None
    free true i any e h = cond-false any (Some Delivery) None h
    free false true any e h = cond-false any (Some Delivery) None h
    free false false any e h = absurd (false≢true e)

-- a tour that may end here breaks no rule
pub ends-there : (s : Snapshot) (c : ℕ) (q : Progress) (m : ℕ) → broken_at_end s c q ≡ None → first_broken_from s c none_taken q m [] ≡ None
ends-there s c q m h = ap (λ (o : Option Rule). broken_or o m None) h

-- and one whose first stop breaks none, and no later one
pub goes-on-there : (s : Snapshot) (c : ℕ) (q : Progress) (m : ℕ) (stop : Stop) (stops : List Stop) → broken_at s c none_taken q stop ≡ None
    → first_broken_from s c none_taken (make_stop s c q stop) (m + 1) stops ≡ None → first_broken_from s c none_taken q m (stop ∷ stops) ≡ None
goes-on-there s c q m stop stops h later =
    ap (λ (o : Option Rule). broken_or o m (first_broken_from s c none_taken (make_stop s c q stop) (m + 1) stops)) h ∙ later

-- The rest of a tour, from a stop on.
pub rest-fine : (s later : Snapshot) (old index : ℕ → ℕ) (waits : ℕ → Bool) → Renames s later old index waits
    → (c : ℕ) (p q : Progress) (k m : ℕ) (stops : List Stop) → StopsWait s waits stops → IsSame s later old p q
    → first_broken_from s c none_taken p k stops ≡ None → first_broken_from later c none_taken q m (map (renamed_stop index) stops) ≡ None
rest-fine s later old index waits rn c p q k m [] wait same h =
    let ends = broken_or-none (broken_at_end s c p) k None h in
    ends-there later c q m (end-fine s later old index waits rn c p q same.riders (or_left q.begun (is_idle (state_of later c)) same.begun_later) ends.0)
rest-fine s later old index waits rn c p q k m (stop ∷ stops) wait same h =
    let parts = broken_or-none (broken_at s c none_taken p stop) k (first_broken_from s c none_taken (make_stop s c p stop) (k + 1) stops) h in
    let first_wait = first-waits s waits stop stops wait in
    let here = stop-fine s later old index waits rn c p q stop first_wait same.riders
    (begun-first s later old c p q stop (renamed_stop index stop) same refl parts.0) parts.0 in
    let next = same-stop s later old index waits rn c p q stop first_wait same.riders in
    let rest = rest-fine s later old index waits rn c (make_stop s c p stop) (make_stop later c q (renamed_stop index stop)) (k + 1) (m + 1) stops
    (later-wait s waits stop stops wait) next parts.1 in
    goes-on-there later c q m (renamed_stop index stop) (map (renamed_stop index) stops) here rest

-- What the start of a tour owes beside: the rules of its first stop, or that it may have no stop.
abbrev pub MayStart : Snapshot → (later : Snapshot) → (index : ℕ → ℕ) → ℕ → (p q : Progress) → List Stop → Type 0
MayStart s later index c p q [] = (q.begun || is_idle (state_of later c)) ≡ true
MayStart s later index c p q (stop ∷ stops) = AreFirst s later c p q stop (renamed_stop index stop)

-- The rest of a tour, from the start of a later one.
pub start-fine : (s later : Snapshot) (old index : ℕ → ℕ) (waits : ℕ → Bool) → Renames s later old index waits
    → (c : ℕ) (p q : Progress) (k m : ℕ) (stops : List Stop) → StopsWait s waits stops → HasSame s later old p q → MayStart s later index c p q stops
    → first_broken_from s c none_taken p k stops ≡ None → first_broken_from later c none_taken q m (map (renamed_stop index) stops) ≡ None
start-fine s later old index waits rn c p q k m [] wait same start h =
    let ends = broken_or-none (broken_at_end s c p) k None h in
    ends-there later c q m (end-fine s later old index waits rn c p q same start ends.0)
start-fine s later old index waits rn c p q k m (stop ∷ stops) wait same start h =
    let parts = broken_or-none (broken_at s c none_taken p stop) k (first_broken_from s c none_taken (make_stop s c p stop) (k + 1) stops) h in
    let first_wait = first-waits s waits stop stops wait in
    let here = stop-fine s later old index waits rn c p q stop first_wait same start parts.0 in
    let next = same-stop s later old index waits rn c p q stop first_wait same in
    let rest = rest-fine s later old index waits rn c (make_stop s c p stop) (make_stop later c q (renamed_stop index stop)) (k + 1) (m + 1) stops
    (later-wait s waits stop stops wait) next parts.1 in
    goes-on-there later c q m (renamed_stop index stop) (map (renamed_stop index) stops) here rest
