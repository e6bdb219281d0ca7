-- Which calls of a set go one way, or begin between two floors.
use Rattle.std.proofs.Common.{Option, Some, None, ◌≡◌, ℕ, ◌+◌, ◌<◌, ◌≤◌, Bool, true, false, not, ◌&&◌, ◌||◌, eqb, leb, ltb, List, ◌∷◌, [], ◌++◌, length, get_or}
use Rattle.std.proofs.Common.{refl, sym, ap, ◌∙◌, inl, inr, arith, length-append}
use Rattle.std.proofs.lemmas.Bool.{and_parts, cases_Bool, eq-eqb, false≢true, le-leb, leb-true, lt-leb, lt-ltb, ltb-false, ltb-true, ne_eqb}
use Rattle.std.proofs.lemmas.List.{get_or_append_left, get_or_default, get_or_push}
use Rattle.std.proofs.Math.Nat.{eq-or-lt_of_le}
use Rattle.call_sets.specs.Counting.{has}
use Rattle.elevator_model.specs.Snapshot.{Snapshot, call_count, call_of}
use Rattle.elevator_model.specs.Tours.{Progress, is_upward, same_direction}
use Rattle.partial_tours.specs.Courses.{is_after}
use Rattle.route_bound.specs.ForcedRoute.{rides_along}
use Rattle.route_sums.specs.Origins.{AreBelowFloors, AreOrigins, begins_below}

-- ---- the table

pub none_below : (s : Snapshot) (sets : List ℕ) → sets ≡ [] → AreBelowFloors s 0 sets
none_below s sets e = record { size = ap length e; each = λ g j lt. absurd (omega (arith, lt)) }

pub one_below : (s : Snapshot) (n : ℕ) (sets new : List ℕ) (set : ℕ) → AreBelowFloors s n sets → new ≡ sets ++ set ∷ []
    → ((j : ℕ) → has set j ≡ begins_below s n j) → AreBelowFloors s (n + 1) new
one_below s n sets new set t is here =
    let one = length-append sets (set ∷ []) in
    let all = ap length is in
    let old = t.size in
    record {
      size = omega (arith, one, all, old);
      each = λ g j lt. elim (eq-or-lt_of_le (at_most g lt)) [
        | inl e ↦ ap (λ (xs : List ℕ). has (get_or xs g 0) j) is ∙ ap (λ (x : ℕ). has x j) (last g e) ∙ here j ∙ ap (λ (x : ℕ). begins_below s x j) (sym e)
        | inr less ↦ ap (λ (xs : List ℕ). has (get_or xs g 0) j) is
            ∙ ap (λ (x : ℕ). has x j) (get_or_append_left sets (set ∷ []) 0 g (omega (arith, old, less))) ∙ t.each g j less
      ];
    }
  where
    at_most : (g : ℕ) → g < n + 1 → g ≤ n
    at_most g lt = omega (arith, lt)

    last : (g : ℕ) → g ≡ n → get_or (sets ++ set ∷ []) g 0 ≡ set
    last g e =
        let size = t.size in
        get_or_push sets set 0 g (omega (arith, e, size))

below_at : (s : Snapshot) (sets : List ℕ) (g set j : ℕ) → AreBelowFloors s 65 sets → g ≤ 64 → set ≡ get_or sets g set → has set j ≡ begins_below s g j
below_at s sets g set j t le is =
    let n = t.size in
    ap (λ (x : ℕ). has x j) (is ∙ get_or_default sets g set 0 (omega (arith, n, le))) ∙ t.each g j (omega (arith, le))

-- ---- sets of calls

is_open : (calls j n : ℕ) → ((k : ℕ) → has calls k ≡ true → k < n) → has calls j ≡ true → ltb j n ≡ true
is_open calls j n within h = lt-ltb j n (within j h)

-- those that go up, and the others
pub going_up : (s : Snapshot) (upward : ℕ) (below : List ℕ) (calls found j : ℕ) (up : Bool) → AreOrigins s upward below
    → ((k : ℕ) → has calls k ≡ true → k < call_count s) → up ≡ true → has found j ≡ (has calls j && has upward j)
    → has found j ≡ (has calls j && same_direction up (is_upward (call_of s j)))
going_up s upward below calls found j up are within e is =
    let u = is_upward (call_of s j) in
    is ∙ ap (λ (b : Bool). has calls j && b) (are.upward_are j) ∙ kept (has calls j) (ltb j (call_count s)) u (is_open calls j (call_count s) within)
    ∙ ap (λ (b : Bool). has calls j && same_direction b u) (sym e)
  where
    kept : (h i u : Bool) → (h ≡ true → i ≡ true) → (h && (i && u)) ≡ (h && u)
    kept false i u k = refl
    kept true true u k = refl
    kept true false u k = absurd (false≢true (k refl))

pub going_down : (s : Snapshot) (upward : ℕ) (below : List ℕ) (calls found j : ℕ) (up : Bool) → AreOrigins s upward below
    → ((k : ℕ) → has calls k ≡ true → k < call_count s) → up ≡ false → has found j ≡ (has calls j && not (has upward j))
    → has found j ≡ (has calls j && same_direction up (is_upward (call_of s j)))
going_down s upward below calls found j up are within e is =
    let u = is_upward (call_of s j) in
    is ∙ ap (λ (b : Bool). has calls j && not b) (are.upward_are j) ∙ kept (has calls j) (ltb j (call_count s)) u (is_open calls j (call_count s) within)
    ∙ ap (λ (b : Bool). has calls j && same_direction b u) (sym e)
  where
    kept : (h i u : Bool) → (h ≡ true → i ≡ true) → (h && not (i && u)) ≡ (h && not u)
    kept false i u k = refl
    kept true true u k = refl
    kept true false u k = absurd (false≢true (k refl))

-- a floor that is not below another is at it or above
opposite : (g low : ℕ) → not (ltb g low) ≡ leb low g
opposite g low = elim (cases_Bool (ltb g low)) [
  | inl e ↦ ap not e ∙ sym (lt-leb low g (ltb-true g low e))
  | inr e ↦ ap not e ∙ sym (le-leb low g (ltb-false g low e))
]

and_turned : (a b : Bool) → (a && b) ≡ (b && a)
and_turned true true = refl
and_turned true false = refl
and_turned false true = refl
and_turned false false = refl

pub between_is : (s : Snapshot) (sets : ℕ) (below : List ℕ) (calls low high lower upper both found j : ℕ) → AreOrigins s sets below
    → ((k : ℕ) → has calls k ≡ true → k < call_count s) → low ≤ 64 → high ≤ 64 → lower ≡ get_or below low lower → upper ≡ get_or below high upper
    → has both j ≡ (has calls j && has upper j) → has found j ≡ (has both j && not (has lower j))
    → has found j ≡ (has calls j && (leb low (call_of s j).origin && ltb (call_of s j).origin high))
between_is s sets below calls low high lower upper both found j are within low_in high_in low_is high_is first is =
    let g = (call_of s j).origin in
    let i = ltb j (call_count s) in
    let under = below_at s below low lower j are.below_are low_in low_is in
    let over = below_at s below high upper j are.below_are high_in high_is in
    is ∙ ap (λ (b : Bool). b && not (has lower j)) (first ∙ ap (λ (b : Bool). has calls j && b) over)
    ∙ ap (λ (b : Bool). (has calls j && (i && ltb g high)) && not b) under
    ∙ kept (has calls j) i (ltb g high) (ltb g low) (is_open calls j (call_count s) within)
    ∙ ap (λ (b : Bool). has calls j && (ltb g high && b)) (opposite g low) ∙ ap (λ (b : Bool). has calls j && b) (and_turned (ltb g high) (leb low g))
  where
    kept : (h i a b : Bool) → (h ≡ true → i ≡ true) → ((h && (i && a)) && not (i && b)) ≡ (h && (a && not b))
    kept false i a b k = refl
    kept true true a b k = refl
    kept true false a b k = absurd (false≢true (k refl))

-- ---- at a floor, and beside it

at_floor : (f g : ℕ) → (leb f g && ltb g (f + 1)) ≡ eqb g f
at_floor f g = elim (cases_Bool (leb f g && ltb g (f + 1))) [
  | inl e ↦ (let parts = and_parts (leb f g) (ltb g (f + 1)) e in let low = leb-true f g parts.0 in let high = ltb-true g (f + 1) parts.1 in
      e ∙ sym (eq-eqb g f (omega (arith, low, high))))
  | inr e ↦ e ∙ sym (ne_eqb g f (λ same. apart same e))
]
  where
    apart : g ≡ f → (leb f g && ltb g (f + 1)) ≡ false → ⊥
    apart same e =
        let one = le-leb f g (omega (arith, same)) in
        let two = lt-ltb g (f + 1) (omega (arith, same)) in
        false≢true (sym e ∙ ap (λ (b : Bool). b && ltb g (f + 1)) one ∙ two)

pub not_passed_is : (s : Snapshot) (calls floor last here others after found j : ℕ)
    → has here j ≡ (has calls j && (leb floor (call_of s j).origin && ltb (call_of s j).origin (floor + 1))) → has others j ≡ (has calls j && not (has here j))
    → has after j ≡ (has here j && ltb last j) → has found j ≡ (has others j || has after j)
    → has found j ≡ (has calls j && (not (eqb (call_of s j).origin floor) || ltb last j))
not_passed_is s calls floor last here others after found j at off on is =
    let e = eqb (call_of s j).origin floor in
    let there : has here j ≡ (has calls j && e) = at ∙ ap (λ (b : Bool). has calls j && b) (at_floor floor (call_of s j).origin) in
    is ∙ ap (λ (b : Bool). b || has after j) (off ∙ ap (λ (b : Bool). has calls j && not b) there)
    ∙ ap (λ (b : Bool). (has calls j && not (has calls j && e)) || b) (on ∙ ap (λ (b : Bool). b && ltb last j) there) ∙ either (has calls j) e (ltb last j)
  where
    either : (h e a : Bool) → ((h && not (h && e)) || ((h && e) && a)) ≡ (h && (not e || a))
    either false e a = refl
    either true true a = refl
    either true false a = refl

-- downwards the floors from one on, before another, are those above the other up to the one
pub before_down : (from to g : ℕ) → (leb (to + 1) g && ltb g (from + 1)) ≡ (leb g from && ltb to g)
before_down from to g = ap (λ (b : Bool). b && ltb g (from + 1)) above ∙ ap (λ (b : Bool). ltb to g && b) under ∙ and_turned (ltb to g) (leb g from)
  where
    above : leb (to + 1) g ≡ ltb to g
    above = elim (cases_Bool (ltb to g)) [
      | inl e ↦ (let lt = ltb-true to g e in le-leb (to + 1) g (omega (arith, lt)) ∙ sym e)
      | inr e ↦ (let le = ltb-false to g e in lt-leb (to + 1) g (omega (arith, le)) ∙ sym e)
    ]

    under : ltb g (from + 1) ≡ leb g from
    under = elim (cases_Bool (ltb g (from + 1))) [
      | inl e ↦ (let lt = ltb-true g (from + 1) e in e ∙ sym (le-leb g from (omega (arith, lt))))
      | inr e ↦ (let le = ltb-false g (from + 1) e in e ∙ sym (lt-leb g from (omega (arith, le))))
    ]

-- ---- calls that ride along

pub rides_none : (s : Snapshot) (p : Progress) (up : Bool) (rest found j : ℕ) (last : Option ℕ) → last ≡ None
    → has found j ≡ (has rest j && same_direction up (is_upward (call_of s j))) → has found j ≡ (has rest j && rides_along s up p (is_after last) j)
rides_none s p up rest found j last none is =
    let d = same_direction up (is_upward (call_of s j)) in
    is ∙ ap (λ (b : Bool). has rest j && b) (all d (eqb (call_of s j).origin p.floor))
    ∙ ap (λ (o : Option ℕ). has rest j && rides_along s up p (is_after o) j) (sym none)
  where
    all : (d e : Bool) → d ≡ (d && (not e || true))
    all false e = refl
    all true true = refl
    all true false = refl

pub rides_some : (s : Snapshot) (p : Progress) (up : Bool) (rest way found j floor one : ℕ) (last : Option ℕ) → last ≡ Some one → floor ≡ p.floor
    → has way j ≡ (has rest j && same_direction up (is_upward (call_of s j)))
    → has found j ≡ (has way j && (not (eqb (call_of s j).origin floor) || ltb one j)) → has found j ≡ (has rest j && rides_along s up p (is_after last) j)
rides_some s p up rest way found j floor one last some at go is =
    let d = same_direction up (is_upward (call_of s j)) in
    let g = (call_of s j).origin in
    is ∙ ap (λ (b : Bool). b && (not (eqb g floor) || ltb one j)) go ∙ grouped (has rest j) d (not (eqb g floor) || ltb one j)
    ∙ ap (λ (f : ℕ). has rest j && (d && (not (eqb g f) || ltb one j))) at
    ∙ ap (λ (o : Option ℕ). has rest j && rides_along s up p (is_after o) j) (sym some)
  where
    grouped : (a b d : Bool) → ((a && b) && d) ≡ (a && (b && d))
    grouped true b d = refl
    grouped false b d = refl
