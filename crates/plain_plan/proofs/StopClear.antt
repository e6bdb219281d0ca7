-- Stops that break no rule: one where nobody boards, and one where a call boards alone.
use Rattle.std.proofs.Common.{◌==◌, ◌≡◌, ℕ, ◌+◌, ◌-◌, ◌<◌, ◌≤◌, Bool, true, false, cond, not, ◌&&◌, ◌||◌, eqb, ltb, leb, List, [], ◌∷◌, refl, sym, ap, ◌∙◌}
use Rattle.std.proofs.Common.{subst, inl, inr, arith, None}
use Rattle.std.specs.List.{count_by}
use Rattle.std.proofs.lemmas.Bool.{or_from, or_left, and_parts, and_from, and_left, and_right, ltb-true, lt-ltb, le-ltb, leb-true, lt-leb, eqb-true, eq-eqb}
use Rattle.std.proofs.lemmas.Bool.{ne_eqb, cases_Bool, not_from_true, cond-true}
use Rattle.std.proofs.lemmas.List.Sums.{sum_by-cons}
use Rattle.elevator_model.specs.declared.Rule.TheVariants.{FirstStop, SameFloorTwice, UselessStop, Capacity, QueueOrder, Car, Floor, CallTwice, Origin}
use Rattle.call_sets.specs.Counting.{any_below}
use Rattle.elevator_model.specs.Snapshot.{Snapshot, call_count, call_of, group_of, spec_of, state_of, is_idle, is_possible, serves, can_take}
use Rattle.elevator_model.specs.Snapshot.{is_pinned_elsewhere}
use Rattle.elevator_model.specs.Tours.{Progress, breaks, rules_of_stop, boards_at, persons_where, stays_on, gets_off, overtakes, is_call_for, is_later_in_queue}
use Rattle.elevator_model.specs.Tours.{rider_count, persons_of, destination_of, turns_with, broken_at, none_taken, make_stop}
use Rattle.call_sets.proofs.BelowTests.{any_below-at, any_below-none}
use Rattle.call_sets.proofs.Sums.{sum_where-less, sum_where-none, sum_where-one}
use Rattle.tour_rules.proofs.BoundedTests.{first_rule-clear, same_function}
use Rattle.plain_plan.specs.Openings.{Reaches}
use Rattle.plain_plan.specs.PlainTours.{at}

-- everyone carried goes to floor g
abbrev pub AllGoTo : Snapshot → Progress → ℕ → Type 0
AllGoTo s p g = (r : ℕ) → r < rider_count s → p.carried r ≡ true → destination_of s r ≡ g

-- ---- the boards of a stop

pub one_board : (s : Snapshot) (g i : ℕ) → i < call_count s → boards_at s (at g (i ∷ [])) ≡ eqb i
one_board s g i below = same_function _ _ (λ j. same_at j)
  where
    same_at : (j : ℕ) → (ltb j (call_count s) && (eqb i j || false)) ≡ eqb i j
    same_at j =
        elim (cases_Bool (eqb i j)) [
          | inl e ↦ (let same = eqb-true i j e in
              and_from (ltb j (call_count s)) (eqb i j || false) (lt-ltb j (call_count s) (omega arith)) (or_left (eqb i j) false e) ∙ sym e)
          | inr e ↦ and_right (ltb j (call_count s)) (eqb i j || false) (or_from (eqb i j) false e refl) ∙ sym e
        ]

pub no_board : (s : Snapshot) (g : ℕ) → boards_at s (at g []) ≡ (λ _. false)
no_board s g = same_function _ _ (λ j. and_right (ltb j (call_count s)) false refl)

-- ---- sums

-- ---- the rules that all stops share

first_clear : (s : Snapshot) (c : ℕ) (p : Progress) (g : ℕ) (bs : List ℕ) → Reaches s c p g → breaks s c none_taken p (at g bs) FirstStop ≡ false
first_clear s c p g bs to =
    elim (cases_Bool p.begun) [ inl e ↦ and_left (not p.begun) _ (not_from_true _ e) | inr e ↦ and_right (not p.begun) _ (not_from_true _ (to.first e)) ]

floor_clear : (s : Snapshot) (c : ℕ) (p : Progress) (g : ℕ) (bs : List ℕ) → Reaches s c p g → breaks s c none_taken p (at g bs) SameFloorTwice ≡ false
floor_clear s c p g bs to =
    elim (cases_Bool p.begun) [
      | inl e ↦ and_right p.begun (eqb g p.floor) (ne_eqb g p.floor (λ same. to.apart e (sym same)))
      | inr e ↦ and_left p.begun (eqb g p.floor) e
    ]

pub no_turn : (s : Snapshot) (p : Progress) (f g : ℕ)
    → ((r : ℕ) → r < rider_count s → p.carried r ≡ true → (f < g → g ≤ destination_of s r) × (g < f → destination_of s r ≤ g)) → turns_with s p f g ≡ false
no_turn s p f g ahead = or_from _ _ up down
  where
    rider_up : (r : ℕ) → r < rider_count s → ltb f g ≡ true → (p.carried r && ltb (destination_of s r) g) ≡ false
    rider_up r b above =
        elim (cases_Bool (p.carried r)) [
          | inl e ↦ and_right (p.carried r) _ (le-ltb (destination_of s r) g ((ahead r b e).0 (ltb-true f g above)))
          | inr e ↦ and_left (p.carried r) _ e
        ]

    rider_down : (r : ℕ) → r < rider_count s → ltb g f ≡ true → (p.carried r && ltb g (destination_of s r)) ≡ false
    rider_down r b below =
        elim (cases_Bool (p.carried r)) [
          | inl e ↦ and_right (p.carried r) _ (le-ltb g (destination_of s r) ((ahead r b e).1 (ltb-true g f below)))
          | inr e ↦ and_left (p.carried r) _ e
        ]

    up : (ltb f g && any_below (rider_count s) (λ r. p.carried r && ltb (destination_of s r) g)) ≡ false
    up =
        elim (cases_Bool (ltb f g)) [
          | inl e ↦ and_right (ltb f g) _ (any_below-none (rider_count s) _ (λ r b. rider_up r b e))
          | inr e ↦ and_left (ltb f g) _ e
        ]

    down : (ltb g f && any_below (rider_count s) (λ r. p.carried r && ltb g (destination_of s r))) ≡ false
    down =
        elim (cases_Bool (ltb g f)) [
          | inl e ↦ and_right (ltb g f) _ (any_below-none (rider_count s) _ (λ r b. rider_down r b e))
          | inr e ↦ and_left (ltb g f) _ e
        ]

-- nobody turns where all go to the next floor
pub no_turn-all : (s : Snapshot) (p : Progress) (f g : ℕ) → AllGoTo s p g → turns_with s p f g ≡ false
no_turn-all s p f g all = no_turn s p f g (λ r b e. let to = all r b e in (λ _. omega arith, λ _. omega arith))

-- everyone gets off
pub none_stays : (s : Snapshot) (p : Progress) (g : ℕ) → AllGoTo s p g → (r : ℕ) → r < rider_count s → stays_on s p g r ≡ false
none_stays s p g all r b =
    elim (cases_Bool (p.carried r)) [
      | inl e ↦ and_right (p.carried r) _ (not_from_true _ (eq-eqb (destination_of s r) g (all r b e)))
      | inr e ↦ and_left (p.carried r) _ e
    ]

none_stay : (s : Snapshot) (p : Progress) (g : ℕ) → AllGoTo s p g → persons_where s (stays_on s p g) ≡ 0
none_stay s p g all = sum_where-none (rider_count s) (stays_on s p g) (persons_of s) (none_stays s p g all)

-- ---- nobody boards

-- those who stay are no more than those carried
pub fewer_stay : (s : Snapshot) (p : Progress) (g : ℕ) → persons_where s (stays_on s p g) ≤ persons_where s p.carried
fewer_stay s p g = sum_where-less (rider_count s) (stays_on s p g) p.carried (persons_of s) (λ k e. (and_parts (p.carried k) _ e).0)

-- A stop where nobody boards, and somebody gets off where that is needed.
pub empty_clear : (s : Snapshot) (c : ℕ) (p : Progress) (g : ℕ) → Reaches s c p g
    → ((p.begun || is_idle (state_of s c)) ≡ true → any_below (rider_count s) (gets_off s p g) ≡ true) → persons_where s p.carried ≤ (spec_of s c).capacity
    → serves s.building c g ≡ true → broken_at s c none_taken p (at g []) ≡ None
empty_clear s c p g to useful fits served =
    let st = at g [] in
    let boards = no_board s g in
    let use_clear : breaks s c none_taken p st UselessStop ≡ false =
    and_left _ (not (any_below (call_count s) (boards_at s st))) (elim (cases_Bool (p.begun || is_idle (state_of s c))) [
      | inl e ↦ and_right (p.begun || is_idle (state_of s c)) _ (not_from_true _ (useful e))
      | inr e ↦ and_left (p.begun || is_idle (state_of s c)) _ e
    ]) in
    let capacity : breaks s c none_taken p st Capacity ≡ false =
    le-ltb (spec_of s c).capacity _
    (let a = fewer_stay s p g in let b = ap (persons_where s) boards in let d = sum_where-none (rider_count s) (λ _. false) (persons_of s) (λ k _. refl) in
    omega (arith, a, b, d)) in
    let no_call = (λ (t : ℕ → Bool).
    any_below-none (call_count s) (λ j. boards_at s st j && t j) (λ j b. and_left (boards_at s st j) (t j) (ap (λ (u : ℕ → Bool). u j) boards))) in
    first_rule-clear (breaks s c none_taken p st) rules_of_stop (
      first_clear s c p g [] to,
      (
        floor_clear s c p g [] to,
        (
          use_clear,
          (
            to.no_turn,
            (
              capacity,
              (
                no_call (overtakes s p),
                (
                  refl,
                  (
                    not_from_true _ served,
                    (no_call (λ j. p.boarded j || false || leb 2 (count_by (λ x. x == j) [])), (no_call (λ j. not (eqb (call_of s j).origin g)), tt)),
                  ),
                ),
              ),
            ),
          ),
        ),
      ),
    )

-- ---- a call boards, alone

may_take : (s : Snapshot) (c : ℕ) (i : ℕ) → is_possible s c (call_of s i) ≡ true → can_take s.building c (call_of s i) ≡ true
may_take s c i h = (and_parts (not (is_pinned_elsewhere (call_of s i).pin c)) _ h).1

pub serves_destination : (s : Snapshot) (c : ℕ) (i : ℕ) → is_possible s c (call_of s i) ≡ true → serves s.building c (call_of s i).destination ≡ true
serves_destination s c i h = (and_parts _ (serves s.building c (call_of s i).destination) (may_take s c i h)).1

pub persons_fit : (s : Snapshot) (c : ℕ) (i : ℕ) → is_possible s c (call_of s i) ≡ true → (call_of s i).persons ≤ (spec_of s c).capacity
persons_fit s c i h =
    let parts = and_parts _ (serves s.building c (call_of s i).destination) (may_take s c i h) in
    leb-true (call_of s i).persons (spec_of s c).capacity
    (and_parts (leb (call_of s i).persons (spec_of s c).capacity) (serves s.building c (call_of s i).origin) parts.0).0

pub persons_of-call : (s : Snapshot) (i : ℕ) → i < call_count s → persons_of s i ≡ (call_of s i).persons
persons_of-call s i below = cond-true (ltb i (call_count s)) (call_of s i).persons (group_of s (i - call_count s)).persons (lt-ltb i (call_count s) below)

pub destination_of-call : (s : Snapshot) (i : ℕ) → i < call_count s → destination_of s i ≡ (call_of s i).destination
destination_of-call s i below =
    cond-true (ltb i (call_count s)) (call_of s i).destination (group_of s (i - call_count s)).destination (lt-ltb i (call_count s) below)

-- a test of calls that board at the stop fails where it fails for the one call
only : (n i : ℕ) (t : ℕ → Bool) → (i < n → t i ≡ false) → any_below n (λ j. eqb i j && t j) ≡ false
only n i t h =
    any_below-none n (λ j. eqb i j && t j) (λ j b. elim (cases_Bool (eqb i j)) [
      | inl e ↦ (let same = eqb-true i j e in and_right (eqb i j) (t j) (subst (λ (x : ℕ). t x ≡ false) same (h (omega arith))))
      | inr e ↦ and_left (eqb i j) (t j) e
    ])

-- the calls that boarded are none later of the queue of call i
abbrev pub NoneLater : Snapshot → Progress → ℕ → Type 0
NoneLater s p i = (k : ℕ) → k < call_count s → p.boarded k ≡ true → is_later_in_queue (call_of s k) (call_of s i) ≡ false

none_overtakes : (s : Snapshot) (p : Progress) (i : ℕ) → NoneLater s p i → overtakes s p i ≡ false
none_overtakes s p i first =
    any_below-none (call_count s) _ (λ k b. elim (cases_Bool (p.boarded k)) [
      | inl e ↦ and_right (p.boarded k) _ (first k b e)
      | inr e ↦ and_left (p.boarded k) _ e
    ])

count_one : (i j : ℕ) → count_by (λ x. x == j) (i ∷ []) ≤ 1
count_one i j = let c = sum_by-cons (λ y. cond (eqb y j) 1 0) i [] in at_most (eqb i j) c
  where
    at_most : (b : Bool) → count_by (λ x. x == j) (i ∷ []) ≡ cond b 1 0 + count_by (λ x. x == j) [] → count_by (λ x. x == j) (i ∷ []) ≤ 1
    at_most true c = omega (arith, c)
    at_most false c = omega (arith, c)

-- A call boards where all others get off.
pub board_clear : (s : Snapshot) (c i : ℕ) (p : Progress) → i < call_count s → is_possible s c (call_of s i) ≡ true → p.boarded i ≡ false → NoneLater s p i
    → Reaches s c p (call_of s i).origin → AllGoTo s p (call_of s i).origin → broken_at s c none_taken p (at (call_of s i).origin (i ∷ [])) ≡ None
board_clear s c i p below possible fresh first to all =
    let g = (call_of s i).origin in
    let st = at g (i ∷ []) in
    let boards = one_board s g i below in
    let riders : i < rider_count s = omega arith in
    let taken = and_parts _ (serves s.building c (call_of s i).destination) (may_take s c i possible) in
    let fits = and_parts (leb (call_of s i).persons (spec_of s c).capacity) (serves s.building c g) taken.0 in
    let useful : breaks s c none_taken p st UselessStop ≡ false =
    and_right _ (not (any_below (call_count s) (boards_at s st)))
    (not_from_true _ (any_below-at (call_count s) (boards_at s st) i below (ap (λ (t : ℕ → Bool). t i) boards ∙ eq-eqb i i refl))) in
    let capacity : breaks s c none_taken p st Capacity ≡ false =
    le-ltb (spec_of s c).capacity _
    (let le = leb-true (call_of s i).persons (spec_of s c).capacity fits.0 in let a = none_stay s p g all in let b = ap (persons_where s) boards in
    let d = sum_where-one (rider_count s) (persons_of s) i riders in let e = persons_of-call s i below in omega (arith, le, a, b, d, e)) in
    let queue : breaks s c none_taken p st QueueOrder ≡ false = ap (λ (t : ℕ → Bool). any_below (call_count s) (λ j. t j && overtakes s p j)) boards
    ∙ only (call_count s) i (overtakes s p) (λ _. none_overtakes s p i first) in
    let car : breaks s c none_taken p st Car ≡ false =
    or_from (not (is_call_for s c i)) false
    (not_from_true _ (and_from (ltb i (call_count s)) (is_possible s c (call_of s i)) (lt-ltb i (call_count s) below) possible)) refl in
    let floor : breaks s c none_taken p st Floor ≡ false = not_from_true _ fits.1 in
    let twice : breaks s c none_taken p st CallTwice ≡ false =
    ap (λ (t : ℕ → Bool). any_below (call_count s) (λ j. t j && (p.boarded j || false || leb 2 (count_by (λ x. x == j) (i ∷ []))))) boards
    ∙ only (call_count s) i (λ j. p.boarded j || false || leb 2 (count_by (λ x. x == j) (i ∷ [])))
    (λ _. or_from (p.boarded i || false) _ (or_from (p.boarded i) false fresh refl) (lt-leb 2 _ (let one = count_one i i in omega arith))) in
    let place : breaks s c none_taken p st Origin ≡ false =
    ap (λ (t : ℕ → Bool). any_below (call_count s) (λ j. t j && not (eqb (call_of s j).origin g))) boards
    ∙ only (call_count s) i (λ j. not (eqb (call_of s j).origin g)) (λ _. not_from_true _ (eq-eqb g g refl)) in
    first_rule-clear (breaks s c none_taken p st) rules_of_stop
    (first_clear s c p g (i ∷ []) to, (floor_clear s c p g (i ∷ []) to, (useful, (to.no_turn, (capacity, (queue, (car, (floor, (twice, (place, tt))))))))))

-- ---- after the stop

or_false : (b : Bool) → (b || false) ≡ b
or_false true = refl
or_false false = refl

pub boarded_more : (s : Snapshot) (c : ℕ) (p : Progress) (g i : ℕ) → i < call_count s → (k : ℕ)
    → (make_stop s c p (at g (i ∷ []))).boarded k ≡ (p.boarded k || eqb i k)
boarded_more s c p g i below k = ap (λ (t : ℕ → Bool). p.boarded k || t k) (one_board s g i below)

pub boarded_same : (s : Snapshot) (c : ℕ) (p : Progress) (g k : ℕ) → (make_stop s c p (at g [])).boarded k ≡ p.boarded k
boarded_same s c p g k = ap (λ (t : ℕ → Bool). p.boarded k || t k) (no_board s g) ∙ or_false (p.boarded k)

pub carried_less : (s : Snapshot) (c : ℕ) (p : Progress) (g k : ℕ) → (make_stop s c p (at g [])).carried k ≡ stays_on s p g k
carried_less s c p g k = ap (λ (t : ℕ → Bool). stays_on s p g k || t k) (no_board s g) ∙ or_false (stays_on s p g k)

-- where all others get off, the call alone is carried
pub carried_alone : (s : Snapshot) (c : ℕ) (p : Progress) (g i : ℕ) → i < call_count s → AllGoTo s p g → (r : ℕ) → r < rider_count s
    → (make_stop s c p (at g (i ∷ []))).carried r ≡ eqb i r
carried_alone s c p g i below all r b =
    ap (λ (t : ℕ → Bool). stays_on s p g r || t r) (one_board s g i below) ∙ ap (λ (x : Bool). x || eqb i r) (none_stays s p g all r b)
