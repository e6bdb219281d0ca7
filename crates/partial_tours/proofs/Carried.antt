-- Who is carried once a call boards or the car goes on, and how many persons they are.
use Rattle.std.proofs.Common.{◌==◌, ◌≡◌, ℕ, zero, suc, ◌+◌, ◌<◌, Bool, true, false, cond, not, ◌&&◌, ◌||◌, eqb, ltb, refl, sym, ap, ◌∙◌, inl, inr, arith}
use Rattle.std.proofs.lemmas.Bool.{cases_Bool, or_cases, or_left, or_right, and_from, and_parts, and_right, both_ways, false_from_ne_true, eqb-true, eqb-false}
use Rattle.std.proofs.lemmas.Bool.{eq-eqb}
use Rattle.std.specs.List.{list_all}
use Rattle.elevator_model.specs.declared.Stop.{Stop}
use Rattle.call_sets.specs.Counting.{sum_where}
use Rattle.elevator_model.specs.Snapshot.{Snapshot, call_count, call_of}
use Rattle.elevator_model.specs.Tours.{Progress, breaks, rules_but_useless, none_taken, make_stop, stays_on, gets_off, boards_at, rider_count, destination_of}
use Rattle.elevator_model.specs.Tours.{persons_where, persons_of, is_aboard}
use Rattle.elevator_model.specs.Partial.{may_stand}
use Rattle.tour_rules.specs.Leaving.{IsKept}
use Rattle.partial_tours.specs.Courses.{any_goes_to, empty_stop, with_call_on}
use Rattle.call_sets.proofs.BelowTests.{any_below-at, any_below-none, any_below-same, any_below-true}
use Rattle.call_sets.proofs.Sums.{sum_where-same}
use Rattle.tour_rules.proofs.BoundedTests.{AllClear-from, none-from}
use Rattle.tour_rules.proofs.Settled.{boards-call, boards_once_from}
use Rattle.tour_rules.proofs.RiderSums.{is_aboard-call, persons_of-call, destination_of-call}
use Rattle.partial_tours.proofs.Next.{board_more, board_other, persons_more, same_bool}
use Rattle.tour_rules.proofs.Measure.{not_among_below}

cond_or : (a b : Bool) (x : ℕ) → (a && b) ≡ false → cond (a || b) x 0 ≡ cond a x 0 + cond b x 0
cond_or true true x h = absurd (both_ways true h refl)
cond_or true false x h = omega arith
cond_or false b x h = omega arith

-- a sum over two tests that no number passes both of
sum-or : (n : ℕ) (a b : ℕ → Bool) (f : ℕ → ℕ) → ((k : ℕ) → (a k && b k) ≡ false) → sum_where n (λ k. a k || b k) f ≡ sum_where n a f + sum_where n b f
sum-or zero a b f apart = refl
sum-or (suc n) a b f apart = let r = sum-or n a b f apart in let here = cond_or (a n) (b n) (f n) (apart n) in omega (arith, r, here)

no_both : (carried off boards : Bool) → (boards ≡ true → carried ≡ false) → ((carried && off) && boards) ≡ false
no_both true off true h = absurd (both_ways true (h refl) refl)
no_both true off false h = and_right off false refl
no_both false off boards h = refl

-- who boards was not carried
pub boards_new : (s : Snapshot) (c : ℕ) (q : Progress) (stop : Stop) (r : ℕ) → IsKept s c q → may_stand s c q stop ≡ true → boards_at s stop r ≡ true
    → q.carried r ≡ false
boards_new s c q stop r kept stands h =
    let clear = AllClear-from (breaks s c none_taken q stop) rules_but_useless (none-from _ stands) in
    let fresh = boards_once_from s q stop clear.1.1.1.1.1.1.1.0 r h in
    let lt = boards-call s stop r h in
    false_from_ne_true (q.carried r) (λ e. elim (or_cases (q.boarded r) (is_aboard s c r) (kept.carried r e)) [
      | inl b ↦ both_ways (q.boarded r) fresh b
      | inr b ↦ both_ways (is_aboard s c r) (is_aboard-call s c r lt) b
    ])

-- the persons carried after a stop
pub carried_after : (s : Snapshot) (c : ℕ) (q : Progress) (stop : Stop) → IsKept s c q → may_stand s c q stop ≡ true
    → persons_where s (make_stop s c q stop).carried ≡ persons_where s (stays_on s q stop.floor) + persons_where s (boards_at s stop)
carried_after s c q stop kept stands =
    sum-or (rider_count s) (stays_on s q stop.floor) (boards_at s stop) (persons_of s)
    (λ r. no_both (q.carried r) (not (destination_of s r == stop.floor)) (boards_at s stop r) (boards_new s c q stop r kept stands))

-- those carried get off at a floor or stay on
pub off_or_on : (s : Snapshot) (q : Progress) (g : ℕ) → persons_where s q.carried ≡ persons_where s (gets_off s q g) + persons_where s (stays_on s q g)
off_or_on s q g =
    sum_where-same (rider_count s) q.carried (λ r. gets_off s q g r || stays_on s q g r) (persons_of s) (persons_of s)
    (λ r lt. either (q.carried r) (destination_of s r == g)) (λ r lt h. refl)
    ∙ sum-or (rider_count s) (gets_off s q g) (stays_on s q g) (persons_of s) (λ r. apart (q.carried r) (destination_of s r == g))
  where
    either : (a b : Bool) → a ≡ ((a && b) || (a && not b))
    either true true = refl
    either true false = refl
    either false b = refl

    apart : (a b : Bool) → ((a && b) && (a && not b)) ≡ false
    apart true true = refl
    apart true false = refl
    apart false b = refl

no_board_at : (s : Snapshot) (g r : ℕ) → boards_at s (empty_stop g) r ≡ false
no_board_at s g r = and_right (ltb r (call_count s)) false refl

or_none : (a b : Bool) → b ≡ false → (a || b) ≡ a
or_none true b h = refl
or_none false b h = h

-- who is carried once the car went on to a floor
pub carried_on : (s : Snapshot) (c : ℕ) (q : Progress) (g r : ℕ) → (make_stop s c q (empty_stop g)).carried r ≡ stays_on s q g r
carried_on s c q g r = or_none (stays_on s q g r) (boards_at s (empty_stop g) r) (no_board_at s g r)

pub boarded_on : (s : Snapshot) (c : ℕ) (q : Progress) (g r : ℕ) → (make_stop s c q (empty_stop g)).boarded r ≡ q.boarded r
boarded_on s c q g r = or_none (q.boarded r) (boards_at s (empty_stop g) r) (no_board_at s g r)

pub persons_on : (s : Snapshot) (c : ℕ) (q : Progress) (g : ℕ)
    → persons_where s q.carried ≡ persons_where s (gets_off s q g) + persons_where s (make_stop s c q (empty_stop g)).carried
persons_on s c q g =
    let parts = off_or_on s q g in
    let same = sum_where-same (rider_count s) (make_stop s c q (empty_stop g)).carried (stays_on s q g) (persons_of s) (persons_of s)
    (λ r lt. carried_on s c q g r) (λ r lt h. refl) in
    omega (arith, parts, same)

-- the floors to which someone is carried once the car went on to a floor
pub goes_on_to : (s : Snapshot) (c : ℕ) (q : Progress) (g f : ℕ) → (any_goes_to s q f && not (eqb f g)) ≡ any_goes_to s (make_stop s c q (empty_stop g)) f
goes_on_to s c q g f =
    elim (cases_Bool (eqb f g)) [
      | inl e ↦ ap (λ (b : Bool). any_goes_to s q f && not b) e ∙ and_right (any_goes_to s q f) false refl
          ∙ sym (any_below-none (rider_count s) _
          (λ r lt. ap (λ (b : Bool). b && (destination_of s r == f)) (carried_on s c q g r)
          ∙ ap (λ (x : ℕ). stays_on s q g r && (destination_of s r == x)) (eqb-true f g e) ∙ none (q.carried r) (destination_of s r == g)))
      | inr e ↦ ap (λ (b : Bool). any_goes_to s q f && not b) e ∙ and_true (any_goes_to s q f)
          ∙ any_below-same (rider_count s) _ _
          (λ r lt. other (q.carried r) (destination_of s r == g) (destination_of s r == f)
          (λ h k. eqb-false f g e (sym (eqb-true (destination_of s r) f k) ∙ eqb-true (destination_of s r) g h))
          ∙ ap (λ (b : Bool). b && (destination_of s r == f)) (sym (carried_on s c q g r)))
    ]
  where
    and_true : (b : Bool) → (b && true) ≡ b
    and_true true = refl
    and_true false = refl

    none : (a b : Bool) → ((a && not b) && b) ≡ false
    none true true = refl
    none true false = refl
    none false b = refl

    other : (a b d : Bool) → (b ≡ true → d ≡ true → ⊥) → (a && d) ≡ ((a && not b) && d)
    other true true true h = absurd (h refl refl)
    other true true false h = refl
    other true false d h = refl
    other false b d h = refl

-- ---- one call more

or_more : (a b : Bool) → (a || b) ≡ (b || a)
or_more true true = refl
or_more true false = refl
or_more false true = refl
or_more false false = refl

or_assoc : (a b d : Bool) → (a || (b || d)) ≡ ((a || b) || d)
or_assoc true b d = refl
or_assoc false b d = refl

or_true : (a : Bool) → (a || true) ≡ true
or_true true = refl
or_true false = refl

or_false : (a : Bool) → (a || false) ≡ a
or_false true = refl
or_false false = refl

pub boards_or : (s : Snapshot) (stop : Stop) (j r : ℕ) → j < call_count s → boards_at s (with_call_on stop j) r ≡ (boards_at s stop r || eqb r j)
boards_or s stop j r lt =
    elim (cases_Bool (eqb r j)) [
      | inl e ↦ ap (boards_at s (with_call_on stop j)) (eqb-true r j e) ∙ board_more s stop.floor stop.boards j lt
          ∙ sym (ap (λ (b : Bool). boards_at s stop r || b) e ∙ or_true (boards_at s stop r))
      | inr e ↦ board_other s stop.floor stop.boards j r (eqb-false r j e) ∙ sym (ap (λ (b : Bool). boards_at s stop r || b) e ∙ or_false (boards_at s stop r))
    ]

pub carried_more : (s : Snapshot) (c : ℕ) (q : Progress) (stop : Stop) (j r : ℕ) → j < call_count s
    → (make_stop s c q (with_call_on stop j)).carried r ≡ ((make_stop s c q stop).carried r || eqb r j)
carried_more s c q stop j r lt = ap (λ (b : Bool). stays_on s q stop.floor r || b) (boards_or s stop j r lt)
    ∙ or_assoc (stays_on s q stop.floor r) (boards_at s stop r) (eqb r j)

pub boarded_more : (s : Snapshot) (c : ℕ) (q : Progress) (stop : Stop) (j r : ℕ) → j < call_count s
    → (make_stop s c q (with_call_on stop j)).boarded r ≡ ((make_stop s c q stop).boarded r || eqb r j)
boarded_more s c q stop j r lt = ap (λ (b : Bool). q.boarded r || b) (boards_or s stop j r lt) ∙ or_assoc (q.boarded r) (boards_at s stop r) (eqb r j)

-- the persons carried with one call more
pub persons_with : (s : Snapshot) (c : ℕ) (q : Progress) (stop : Stop) (j : ℕ) → IsKept s c q → may_stand s c q stop ≡ true
    → may_stand s c q (with_call_on stop j) ≡ true → list_all (λ i. ltb i j) stop.boards ≡ true → j < call_count s
    → persons_where s (make_stop s c q (with_call_on stop j)).carried ≡ persons_where s (make_stop s c q stop).carried + (call_of s j).persons
persons_with s c q stop j kept old new rises lt =
    let one = carried_after s c q stop kept old in
    let two = carried_after s c q (with_call_on stop j) kept new in
    let more = persons_more s stop.floor stop.boards j lt (not_among_below stop.boards j rises) in
    let persons = persons_of-call s j lt in
    omega (arith, one, two, more, persons)

goes_forth : (s : Snapshot) (c : ℕ) (q : Progress) (stop : Stop) (j f r : ℕ) → j < call_count s → r < rider_count s → (make_stop s c q stop).carried r ≡ true
    → eqb (destination_of s r) f ≡ true → any_goes_to s (make_stop s c q (with_call_on stop j)) f ≡ true
goes_forth s c q stop j f r lt below h d =
    any_below-at (rider_count s) (gets_off s (make_stop s c q (with_call_on stop j)) f) r below
    (and_from _ _ (carried_more s c q stop j r lt ∙ or_left _ (eqb r j) h) d)

goes_here : (s : Snapshot) (c : ℕ) (q : Progress) (stop : Stop) (j f : ℕ) → j < call_count s → eqb f (call_of s j).destination ≡ true
    → any_goes_to s (make_stop s c q (with_call_on stop j)) f ≡ true
goes_here s c q stop j f lt e =
    any_below-at (rider_count s) (gets_off s (make_stop s c q (with_call_on stop j)) f) j (omega (arith, lt))
    (and_from _ _ (carried_more s c q stop j j lt ∙ or_right ((make_stop s c q stop).carried j) _ (eq-eqb j j refl))
    (eq-eqb _ f (destination_of-call s j lt ∙ sym (eqb-true f (call_of s j).destination e))))

goes_back : (s : Snapshot) (c : ℕ) (q : Progress) (stop : Stop) (j f r : ℕ) → j < call_count s → r < rider_count s
    → gets_off s (make_stop s c q (with_call_on stop j)) f r ≡ true → (any_goes_to s (make_stop s c q stop) f || eqb f (call_of s j).destination) ≡ true
goes_back s c q stop j f r lt below h =
    let parts = and_parts ((make_stop s c q (with_call_on stop j)).carried r) (eqb (destination_of s r) f) h in
    elim (or_cases ((make_stop s c q stop).carried r) (eqb r j) (sym (carried_more s c q stop j r lt) ∙ parts.0)) [
      | inl k ↦ or_left _ (eqb f (call_of s j).destination)
          (any_below-at (rider_count s) (gets_off s (make_stop s c q stop) f) r below (and_from _ _ k parts.1))
      | inr e ↦ or_right (any_goes_to s (make_stop s c q stop) f) _
          (eq-eqb f (call_of s j).destination
          (sym (eqb-true (destination_of s r) f parts.1) ∙ ap (destination_of s) (eqb-true r j e) ∙ destination_of-call s j lt))
    ]

-- the floors to which someone is carried with one call more
pub goes_with : (s : Snapshot) (c : ℕ) (q : Progress) (stop : Stop) (j f : ℕ) → j < call_count s
    → (any_goes_to s (make_stop s c q stop) f || eqb f (call_of s j).destination) ≡ any_goes_to s (make_stop s c q (with_call_on stop j)) f
goes_with s c q stop j f lt =
    same_bool _ _ (λ h. elim (or_cases (any_goes_to s (make_stop s c q stop) f) (eqb f (call_of s j).destination) h) [
      | inl k ↦ (let some = any_below-true (rider_count s) (gets_off s (make_stop s c q stop) f) k in
          let parts = and_parts ((make_stop s c q stop).carried some.0) (eqb (destination_of s some.0) f) some.2 in
          goes_forth s c q stop j f some.0 lt some.1 parts.0 parts.1)
      | inr e ↦ goes_here s c q stop j f lt e
    ]) (λ h. let some = any_below-true (rider_count s) (gets_off s (make_stop s c q (with_call_on stop j)) f) h in
    goes_back s c q stop j f some.0 lt some.1 some.2)
