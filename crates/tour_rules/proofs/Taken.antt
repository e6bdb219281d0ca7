-- Calls that tours of earlier cars took count for one rule alone.
use Rattle.std.proofs.Common.{◌≡◌, ◌==◌, ℕ, ◌+◌, ◌<◌, Bool, true, false, not, ◌&&◌, ◌||◌, ltb, leb, List, [], ◌∷◌, count_by, refl, sym, ap, ◌∙◌, Option, Some}
use Rattle.std.proofs.Common.{None}
use Rattle.std.proofs.lemmas.Bool.{and_parts, false≢true, ltb-true, not-false}
use Rattle.elevator_model.specs.declared.Rule.{Rule}
use Rattle.elevator_model.specs.declared.Rule.TheVariants.{CallTwice}
use Rattle.elevator_model.specs.declared.Stop.{Stop}
use Rattle.elevator_model.specs.declared.Broken.{Broken}
use Rattle.call_sets.specs.Counting.{is_among}
use Rattle.elevator_model.specs.Snapshot.{Snapshot, call_count, is_possible, call_of}
use Rattle.elevator_model.specs.Tours.{Progress, breaks, broken_at, broken_or, first_broken_from, make_stop, none_taken, boards_at, is_call_for, rules_of_stop}
use Rattle.elevator_model.specs.Plans.{is_boarded_in}
use Rattle.call_sets.proofs.BelowTests.{any_below-false, any_below-none}
use Rattle.call_sets.proofs.ListTests.{list_any-false}
use Rattle.tour_rules.proofs.BoundedTests.{AllClear-from, first_rule-clear}

-- the other rules do not see who is taken
retaken : (s : Snapshot) (c : ℕ) (taken other : ℕ → Bool) (p : Progress) (st : Stop) → broken_at s c taken p st ≡ None
    → breaks s c other p st CallTwice ≡ false → broken_at s c other p st ≡ None
retaken s c taken other p st ok twice =
    let a = AllClear-from (breaks s c taken p st) rules_of_stop ok in
    first_rule-clear (breaks s c other p st) rules_of_stop
    (a.0, (a.1.0, (a.1.1.0, (a.1.1.1.0, (a.1.1.1.1.0, (a.1.1.1.1.1.0, (a.1.1.1.1.1.1.0, (a.1.1.1.1.1.1.1.0, (twice, (a.1.1.1.1.1.1.1.1.1.0, tt))))))))))

-- no call of the stop boards twice
alone : (s : Snapshot) (c : ℕ) (taken : ℕ → Bool) (p : Progress) (st : Stop) → broken_at s c taken p st ≡ None → (j : ℕ) → j < call_count s
    → (boards_at s st j && ((p.boarded j || taken j) || leb 2 (count_by (λ x. x == j) st.boards))) ≡ false
alone s c taken p st ok j lt =
    let a = AllClear-from (breaks s c taken p st) rules_of_stop ok in
    any_below-false (call_count s) (λ k. boards_at s st k && ((p.boarded k || taken k) || leb 2 (count_by (λ x. x == k) st.boards))) j a.1.1.1.1.1.1.1.1.0 lt

fewer : (b p t d : Bool) → (b && ((p || t) || d)) ≡ false → (b && ((p || false) || d)) ≡ false
fewer false p t d h = refl
fewer true true t d h = h
fewer true false true d h = absurd (false≢true (sym h))
fewer true false false d h = h

apart : (b p t d : Bool) → (b && ((p || t) || d)) ≡ false → b ≡ true → t ≡ false
apart false p t d h e = absurd (false≢true e)
apart true true t d h e = absurd (false≢true (sym h))
apart true false true d h e = absurd (false≢true (sym h))
apart true false false d h e = refl

more : (b p t d : Bool) → (b && ((p || false) || d)) ≡ false → (b ≡ true → t ≡ false) → (b && ((p || t) || d)) ≡ false
more false p t d h e = refl
more true p false d h e = h
more true p true d h e = absurd (false≢true (sym (e refl)))

-- a stop that breaks no rule where calls are taken breaks none where none are
pub stop_alone : (s : Snapshot) (c : ℕ) (taken : ℕ → Bool) (p : Progress) (st : Stop) → broken_at s c taken p st ≡ None → broken_at s c none_taken p st ≡ None
stop_alone s c taken p st ok =
    retaken s c taken none_taken p st ok
    (any_below-none (call_count s) (λ j. boards_at s st j && ((p.boarded j || none_taken j) || leb 2 (count_by (λ x. x == j) st.boards)))
    (λ j lt. fewer (boards_at s st j) (p.boarded j) (taken j) _ (alone s c taken p st ok j lt)))

-- and it boards none that is taken
pub stop_apart : (s : Snapshot) (c : ℕ) (taken : ℕ → Bool) (p : Progress) (st : Stop) → broken_at s c taken p st ≡ None → (j : ℕ) → boards_at s st j ≡ true
    → taken j ≡ false
stop_apart s c taken p st ok j h =
    apart (boards_at s st j) (p.boarded j) (taken j) _
    (alone s c taken p st ok j (ltb-true j (call_count s) (and_parts (ltb j (call_count s)) (is_among j st.boards) h).0)) h

pub stop_beside : (s : Snapshot) (c : ℕ) (taken : ℕ → Bool) (p : Progress) (st : Stop) → broken_at s c none_taken p st ≡ None
    → ((j : ℕ) → boards_at s st j ≡ true → taken j ≡ false) → broken_at s c taken p st ≡ None
stop_beside s c taken p st ok free =
    retaken s c none_taken taken p st ok
    (any_below-none (call_count s) (λ j. boards_at s st j && ((p.boarded j || taken j) || leb 2 (count_by (λ x. x == j) st.boards)))
    (λ j lt. more (boards_at s st j) (p.boarded j) (taken j) _ (alone s c none_taken p st ok j lt) (free j)))

-- what boards at a stop that breaks no rule is a call
pub stop_calls : (s : Snapshot) (c : ℕ) (taken : ℕ → Bool) (p : Progress) (st : Stop) → broken_at s c taken p st ≡ None → (j : ℕ) → is_among j st.boards ≡ true
    → boards_at s st j ≡ true
stop_calls s c taken p st ok j h =
    let a = AllClear-from (breaks s c taken p st) rules_of_stop ok in
    let mine = list_any-false (λ k. not (is_call_for s c k)) st.boards j a.1.1.1.1.1.1.0 h in
    let below = (and_parts (ltb j (call_count s)) (is_possible s c (call_of s j)) (not-false (is_call_for s c j) mine)).0 in
    ap (λ (b : Bool). b && is_among j st.boards) below ∙ h

-- ---- whole tours

clear_stop : (o : Option Rule) (k : ℕ) (later : Option Broken) → broken_or o k later ≡ None → (o ≡ None) × (later ≡ None)
clear_stop None k later h = (refl, h)
clear_stop (Some rule) k later h = absurd (some≢none h)
  where
    some≢none : {x : Broken} → Some x ≡ None → ⊥
    some≢none e = false≢true (sym (ap is_broken e))
      where
        is_broken : Option Broken → Bool
        is_broken None = false
        is_broken (Some x) = true

clear_or : (o : Option Rule) (k : ℕ) (later : Option Broken) → o ≡ None → later ≡ None → broken_or o k later ≡ None
clear_or o k later h e = ap (λ (x : Option Rule). broken_or x k later) h ∙ e

pub tour_alone : (s : Snapshot) (c : ℕ) (taken : ℕ → Bool) (p : Progress) (k : ℕ) (stops : List Stop) → first_broken_from s c taken p k stops ≡ None
    → first_broken_from s c none_taken p k stops ≡ None
tour_alone s c taken p k [] ok = ok
tour_alone s c taken p k (st ∷ stops) ok =
    let parts = clear_stop (broken_at s c taken p st) k _ ok in
    clear_or (broken_at s c none_taken p st) k _ (stop_alone s c taken p st parts.0) (tour_alone s c taken (make_stop s c p st) (k + 1) stops parts.1)

-- the calls of a tour that breaks no rule are calls, and none is taken
pub tour_apart : (s : Snapshot) (c : ℕ) (taken : ℕ → Bool) (p : Progress) (k : ℕ) (stops : List Stop) → first_broken_from s c taken p k stops ≡ None → (j : ℕ)
    → is_boarded_in stops j ≡ true → (j < call_count s) × (taken j ≡ false)
tour_apart s c taken p k [] ok j h = absurd (false≢true h)
tour_apart s c taken p k (st ∷ stops) ok j h =
    let parts = clear_stop (broken_at s c taken p st) k _ ok in
    here (is_among j st.boards) refl parts.0 (λ e. tour_apart s c taken (make_stop s c p st) (k + 1) stops parts.1 j e)
  where
    boards : broken_at s c taken p st ≡ None → is_among j st.boards ≡ true → (j < call_count s) × (taken j ≡ false)
    boards fine e =
        let on = stop_calls s c taken p st fine j e in
        (ltb-true j (call_count s) (and_parts (ltb j (call_count s)) (is_among j st.boards) on).0, stop_apart s c taken p st fine j on)

    here : (b : Bool) → is_among j st.boards ≡ b → broken_at s c taken p st ≡ None → (is_boarded_in stops j ≡ true → (j < call_count s) × (taken j ≡ false))
        → (j < call_count s) × (taken j ≡ false)
    here true e fine later = boards fine e
    here false e fine later = later (sym (ap (λ (b : Bool). b || is_boarded_in stops j) e) ∙ h)

pub tour_beside : (s : Snapshot) (c : ℕ) (taken : ℕ → Bool) (p : Progress) (k : ℕ) (stops : List Stop) → first_broken_from s c none_taken p k stops ≡ None
    → ((j : ℕ) → is_boarded_in stops j ≡ true → taken j ≡ false) → first_broken_from s c taken p k stops ≡ None
tour_beside s c taken p k [] ok free = ok
tour_beside s c taken p k (st ∷ stops) ok free =
    let parts = clear_stop (broken_at s c none_taken p st) k _ ok in
    clear_or (broken_at s c taken p st) k _
    (stop_beside s c taken p st parts.0 (λ j h. free j (on_this j (and_parts (ltb j (call_count s)) (is_among j st.boards) h).1)))
    (tour_beside s c taken (make_stop s c p st) (k + 1) stops parts.1 (λ j h. free j (later j h)))
  where
    on_this : (j : ℕ) → is_among j st.boards ≡ true → is_boarded_in (st ∷ stops) j ≡ true
    on_this j h = ap (λ (b : Bool). b || is_boarded_in stops j) h

    later : (j : ℕ) → is_boarded_in stops j ≡ true → is_boarded_in (st ∷ stops) j ≡ true
    later j h = ap (λ (b : Bool). is_among j st.boards || b) h ∙ or_true (is_among j st.boards)
      where
        or_true : (b : Bool) → (b || true) ≡ true
        or_true true = refl
        or_true false = refl
