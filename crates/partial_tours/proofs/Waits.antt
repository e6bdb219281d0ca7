-- Which calls wait, and which ones were passed.
use Rattle.std.proofs.Common.{◌≡◌, ℕ, ◌<◌, Bool, true, false, not, ◌&&◌, ◌||◌, eqb, ltb, refl, sym, ap, ◌∙◌, inl, inr, Option, Some, None}
use Rattle.std.proofs.lemmas.Bool.{or_cases, or_left, or_right, and_from, and_parts, and_right, lt-ltb, eqb-true, eq-eqb}
use Rattle.elevator_model.specs.declared.Stop.{Stop}
use Rattle.call_sets.specs.Counting.{any_below}
use Rattle.elevator_model.specs.Snapshot.{Snapshot, call_count, call_of}
use Rattle.elevator_model.specs.Tours.{Progress, boards_at, overtakes, is_later_in_queue, is_call_for}
use Rattle.elevator_model.specs.Partial.{progress_after}
use Rattle.car_layout.specs.Layouts.{is_earlier}
use Rattle.partial_tours.specs.Courses.{is_passed, with_call_on, empty_stop}
use Rattle.call_sets.proofs.BelowTests.{any_below-at, any_below-none, any_below-same, any_below-true}
use Rattle.partial_tours.proofs.Next.{same_bool}
use Rattle.partial_tours.proofs.Carried.{boards_or}

-- some number passes one of two tests, beside a third
any_or : (n : ℕ) (a b t : ℕ → Bool) → any_below n (λ k. (a k || b k) && t k) ≡ (any_below n (λ k. a k && t k) || any_below n (λ k. b k && t k))
any_or n a b t = same_bool _ _
    (λ h. let some = any_below-true n (λ k. (a k || b k) && t k) h in let parts = and_parts (a some.0 || b some.0) (t some.0) some.2 in
    elim (or_cases (a some.0) (b some.0) parts.0) [
      | inl k ↦ or_left _ _ (any_below-at n (λ i. a i && t i) some.0 some.1 (and_from _ _ k parts.1))
      | inr k ↦ or_right (any_below n (λ i. a i && t i)) _ (any_below-at n (λ i. b i && t i) some.0 some.1 (and_from _ _ k parts.1))
    ]) (λ h. elim (or_cases (any_below n (λ k. a k && t k)) (any_below n (λ k. b k && t k)) h) [
      | inl k ↦ (let some = any_below-true n (λ i. a i && t i) k in let parts = and_parts (a some.0) (t some.0) some.2 in
          any_below-at n (λ i. (a i || b i) && t i) some.0 some.1 (and_from _ _ (or_left (a some.0) (b some.0) parts.0) parts.1))
      | inr k ↦ (let some = any_below-true n (λ i. b i && t i) k in let parts = and_parts (b some.0) (t some.0) some.2 in
          any_below-at n (λ i. (a i || b i) && t i) some.0 some.1 (and_from _ _ (or_right (a some.0) (b some.0) parts.0) parts.1))
    ])

-- one number alone passes
any_one : (n j : ℕ) (t : ℕ → Bool) → j < n → any_below n (λ k. eqb k j && t k) ≡ t j
any_one n j t lt = same_bool _ _
    (λ h. let some = any_below-true n (λ k. eqb k j && t k) h in let parts = and_parts (eqb some.0 j) (t some.0) some.2 in
    ap t (sym (eqb-true some.0 j parts.0)) ∙ parts.1) (λ h. any_below-at n (λ k. eqb k j && t k) j lt (and_from _ _ (eq-eqb j j refl) h))

-- who passes a call with one more at the stop
pub passed_more : (s : Snapshot) (stop : Stop) (j k : ℕ) → j < call_count s → k < call_count s
    → (is_passed s (Some stop) k || is_earlier s j k) ≡ is_passed s (Some (with_call_on stop j)) k
passed_more s stop j k lt below =
    ap (λ (b : Bool). is_passed s (Some stop) k || (b && is_later_in_queue (call_of s j) (call_of s k))) (lt-ltb k (call_count s) below)
    ∙ ap (λ (b : Bool). is_passed s (Some stop) k || b) (sym (any_one (call_count s) j (λ i. is_later_in_queue (call_of s i) (call_of s k)) lt))
    ∙ sym (any_or (call_count s) (boards_at s stop) (λ i. eqb i j) (λ i. is_later_in_queue (call_of s i) (call_of s k)))
    ∙ any_below-same (call_count s) _ _ (λ i b. ap (λ (x : Bool). x && is_later_in_queue (call_of s i) (call_of s k)) (sym (boards_or s stop j i lt)))

-- nobody passes where nobody boards
pub passed_none : (s : Snapshot) (g k : ℕ) → is_passed s (Some (empty_stop g)) k ≡ false
passed_none s g k = any_below-none (call_count s) _
    (λ i lt. ap (λ (b : Bool). b && is_later_in_queue (call_of s i) (call_of s k)) (and_right (ltb i (call_count s)) false refl))

pub passed_start : (s : Snapshot) (k : ℕ) → is_passed s None k ≡ false
passed_start s k = any_below-none (call_count s) _ (λ i lt. refl)

pub overtakes_start : (s : Snapshot) (p : Progress) (k : ℕ) → ((j : ℕ) → p.boarded j ≡ false) → overtakes s p k ≡ false
overtakes_start s p k none = any_below-none (call_count s) _ (λ i lt. ap (λ (b : Bool). b && is_later_in_queue (call_of s i) (call_of s k)) (none i))

-- a later call boarded at an earlier stop or at the present one
pub overtakes_after : (s : Snapshot) (c : ℕ) (before : Progress) (present : Option Stop) (k : ℕ)
    → overtakes s (progress_after s c before present) k ≡ (overtakes s before k || is_passed s present k)
overtakes_after s c before None k = or_no (overtakes s before k) (is_passed s None k) (passed_start s k)
  where
    or_no : (a b : Bool) → b ≡ false → a ≡ (a || b)
    or_no true b h = refl
    or_no false b h = sym h
overtakes_after s c before (Some stop) k = any_or (call_count s) before.boarded (boards_at s stop) (λ i. is_later_in_queue (call_of s i) (call_of s k))

-- a call that boards waits no more
pub waits_less : (call old new late here : Bool) → new ≡ (old || here) → (((call && not old) && not late) && not here) ≡ ((call && not new) && not late)
waits_less call old new late here e = by_cases call old late here ∙ ap (λ (b : Bool). (call && not b) && not late) (sym e)
  where
    by_cases : (call old late here : Bool) → (((call && not old) && not late) && not here) ≡ ((call && not (old || here)) && not late)
    by_cases true true late here = refl
    by_cases true false true here = sym (and_right (not here) false refl)
    by_cases true false false true = refl
    by_cases true false false false = refl
    by_cases false old late here = refl

-- once the car goes on, those wait no more that were passed
pub waits_on : (s : Snapshot) (c k : ℕ) (old new late passed later : Bool) → new ≡ old → later ≡ (late || passed)
    → (((is_call_for s c k && not old) && not late) && not passed) ≡ ((is_call_for s c k && not new) && not later)
waits_on s c k old new late passed later e f =
    by_cases (is_call_for s c k && not old) late passed ∙ ap (λ (b : Bool). (is_call_for s c k && not old) && not b) (sym f)
    ∙ ap (λ (b : Bool). (is_call_for s c k && not b) && not later) (sym e)
  where
    by_cases : (a late passed : Bool) → ((a && not late) && not passed) ≡ (a && not (late || passed))
    by_cases true true passed = refl
    by_cases true false passed = refl
    by_cases false late passed = refl
