-- What turns add, whatever their order in a tour.
use Rattle.std.proofs.Common.{◌≡◌, ℕ, ◌+◌, ◌<◌, ◌≤◌, ◌⊎◌, Bool, true, false, cond, ◌||◌, eqb, leb, List, [], ◌∷◌, refl, sym, ap, subst, inl, inr, arith}
use Rattle.std.proofs.lemmas.Bool.{cases_Bool, cond_both, eq-eqb, eqb-true, false≢true, leb-false, leb-true, ne_eqb}
use Rattle.call_sets.specs.Counting.{sum_below}
use Rattle.elevator_model.specs.Snapshot.{Snapshot, call_of}
use Rattle.elevator_model.specs.Tours.{is_upward}
use Rattle.pricing_bound.specs.Costs.{sum_one_off}
use Rattle.route_bound.specs.Turns.{AreApart, AreInTurn, ComesFirst, EachTurn, Turn, sum_of_turns}

-- ---- the lesser of gain and delay

abbrev pub lesser : (gain delay : ℕ) → ℕ
lesser gain delay = cond (leb delay gain) delay gain

lesser_gain : (gain delay : ℕ) → lesser gain delay ≤ gain
lesser_gain gain delay =
    elim (cases_Bool (leb delay gain)) [
      | inl e ↦ (let le = leb-true delay gain e in let is = ap (λ (b : Bool). cond b delay gain) e in omega (arith, le, is))
      | inr e ↦ (let is = ap (λ (b : Bool). cond b delay gain) e in omega (arith, is))
    ]

pub lesser_delay : (gain delay : ℕ) → lesser gain delay ≤ delay
lesser_delay gain delay =
    elim (cases_Bool (leb delay gain)) [
      | inl e ↦ (let is = ap (λ (b : Bool). cond b delay gain) e in omega (arith, is))
      | inr e ↦ (let gt = leb-false delay gain e in let is = ap (λ (b : Bool). cond b delay gain) e in omega (arith, gt, is))
    ]

lesser_is : (gain delay : ℕ) → (lesser gain delay ≡ delay) ⊎ (lesser gain delay ≡ gain)
lesser_is gain delay =
    elim (cases_Bool (leb delay gain)) [ inl e ↦ inl (ap (λ (b : Bool). cond b delay gain) e) | inr e ↦ inr (ap (λ (b : Bool). cond b delay gain) e) ]

-- the greater gain may wait longer
swap : (greater less delay unit : ℕ) → less ≤ greater → lesser greater delay + lesser less (delay + unit) ≤ lesser less delay + lesser greater (delay + unit)
swap greater less delay unit h =
    let a = lesser_gain greater delay in
    let b = lesser_delay greater delay in
    let d = lesser_gain less (delay + unit) in
    let e = lesser_delay less (delay + unit) in
    elim (lesser_is less delay) [
      | inl f ↦ elim (lesser_is greater (delay + unit)) [ inl g ↦ omega (arith, h, a, b, d, e, f, g) | inr g ↦ omega (arith, h, a, b, d, e, f, g) ]
      | inr f ↦ elim (lesser_is greater (delay + unit)) [ inl g ↦ omega (arith, h, a, b, d, e, f, g) | inr g ↦ omega (arith, h, a, b, d, e, f, g) ]
    ]

-- ---- one turn is taken

abbrev pub is_listed : ℕ → List Turn → Bool
is_listed j [] = false
is_listed j (turn ∷ turns) = eqb turn.call j || is_listed j turns

abbrev pub without : ℕ → List Turn → List Turn
without j [] = []
without j (turn ∷ turns) = let rest = turn ∷ without j turns in cond (eqb turn.call j) turns rest

abbrev pub gain_of : ℕ → List Turn → ℕ
gain_of j [] = 0
gain_of j (turn ∷ turns) = cond (eqb turn.call j) turn.gain (gain_of j turns)

gain_least : (s : Snapshot) (turn : Turn) (j : ℕ) (turns : List Turn) → ComesFirst s turn turns → gain_of j turns ≤ turn.gain
gain_least s turn j [] first = omega arith
gain_least s turn j (next ∷ turns) first =
    let here = first.0.0 in
    let rest = gain_least s turn j turns first.1 in
    cond_both (eqb next.call j) next.gain (gain_of j turns) (λ (n : ℕ). n ≤ turn.gain) (λ e. here) (λ e. rest)

later_listed : (first : Bool) (rest : Bool) → (first || rest) ≡ true → first ≡ false → rest ≡ true
later_listed false rest h e = h
later_listed true rest h e = absurd (false≢true (sym e))

-- A call that takes its turn now leaves the others one stop more to wait for.
pub turn_taken : (s : Snapshot) (unit delay j : ℕ) (turns : List Turn) → AreInTurn s turns → is_listed j turns ≡ true
    → sum_of_turns unit delay turns ≤ lesser (gain_of j turns) delay + sum_of_turns unit (delay + unit) (without j turns)
turn_taken s unit delay j [] order listed = absurd (false≢true listed)
turn_taken s unit delay j (turn ∷ turns) order listed =
    let rest = λ (k : is_listed j turns ≡ true). turn_taken s unit (delay + unit) j turns order.1 k in
    let least = gain_least s turn j turns order.0 in
    by_call (eqb turn.call j) least (λ e. rest (later_listed (eqb turn.call j) (is_listed j turns) listed e)) refl
  where
    by_call : (b : Bool) → gain_of j turns ≤ turn.gain
        → (eqb turn.call j ≡ false
        → sum_of_turns unit (delay + unit) turns ≤ lesser (gain_of j turns) (delay + unit) + sum_of_turns unit (delay + unit + unit) (without j turns))
        → eqb turn.call j ≡ b → sum_of_turns unit delay (turn ∷ turns) ≤ lesser (cond b turn.gain (gain_of j turns)) delay + sum_of_turns unit (delay + unit)
        (cond b turns (turn ∷ without j turns))
    by_call true least rest e = omega arith
    by_call false least rest e =
        let on = rest e in
        let swapped = swap turn.gain (gain_of j turns) delay unit least in
        omega (arith, on, swapped)

-- ---- lists of turns

pub each_less : (P Q : Turn → Type 0) (turns : List Turn) → ((turn : Turn) → P turn → Q turn) → EachTurn P turns → EachTurn Q turns
each_less P Q [] h each = tt
each_less P Q (turn ∷ turns) h each = (h turn each.0, each_less P Q turns h each.1)

pub each_without : (P : Turn → Type 0) (j : ℕ) (turns : List Turn) → EachTurn P turns → EachTurn P (without j turns)
each_without P j [] each = tt
each_without P j (turn ∷ turns) each =
    let rest = each_without P j turns each.1 in
    cond_both (eqb turn.call j) turns (turn ∷ without j turns) (λ (ts : List Turn). EachTurn P ts) (λ e. each.1) (λ e. (each.0, rest))

first_without : (s : Snapshot) (turn : Turn) (j : ℕ) (turns : List Turn) → ComesFirst s turn turns → ComesFirst s turn (without j turns)
first_without s turn j [] first = tt
first_without s turn j (next ∷ turns) first =
    let rest = first_without s turn j turns first.1 in
    cond_both (eqb next.call j) turns (next ∷ without j turns) (λ (ts : List Turn). ComesFirst s turn ts) (λ e. first.1) (λ e. (first.0, rest))

pub order_without : (s : Snapshot) (j : ℕ) (turns : List Turn) → AreInTurn s turns → AreInTurn s (without j turns)
order_without s j [] order = tt
order_without s j (turn ∷ turns) order =
    let rest = order_without s j turns order.1 in
    cond_both (eqb turn.call j) turns (turn ∷ without j turns) (λ (ts : List Turn). AreInTurn s ts) (λ e. order.1)
    (λ e. (first_without s turn j turns order.0, rest))

-- the turn of a call that is listed
pub record ListedTurn (P : Turn → Type 0) (j : ℕ) : Type 0 where
  pub turn : Turn
  pub call : turn.call ≡ j
  pub holds : P turn

pub each_listed : (P : Turn → Type 0) (j : ℕ) (turns : List Turn) → EachTurn P turns → is_listed j turns ≡ true → ListedTurn P j
each_listed P j [] each listed = absurd (false≢true listed)
each_listed P j (turn ∷ turns) each listed =
    elim (cases_Bool (eqb turn.call j)) [
      | inl e ↦ record { turn = turn; call = eqb-true turn.call j e; holds = each.0 }
      | inr e ↦ each_listed P j turns each.1 (later_listed (eqb turn.call j) (is_listed j turns) listed e)
    ]

-- calls that come after one that takes its turn are of other queues
apart_first : (s : Snapshot) (turn : Turn) (turns : List Turn) → ComesFirst s turn turns → EachTurn (λ next. AreApart s turn.call next.call) turns
apart_first s turn [] first = tt
apart_first s turn (next ∷ turns) first = (first.0.1, apart_first s turn turns first.1)

apart_back : (s : Snapshot) (i j : ℕ) → AreApart s i j → AreApart s j i
apart_back s i j apart origin way = apart (sym origin) (sym way)

pub apart_without : (s : Snapshot) (j : ℕ) (turns : List Turn) → AreInTurn s turns → is_listed j turns ≡ true
    → EachTurn (λ next. AreApart s j next.call) (without j turns)
apart_without s j [] order listed = absurd (false≢true listed)
apart_without s j (turn ∷ turns) order listed =
    let rest = λ (k : is_listed j turns ≡ true). apart_without s j turns order.1 k in
    let own = apart_first s turn turns order.0 in
    cond_both (eqb turn.call j) turns (turn ∷ without j turns) (λ (ts : List Turn). EachTurn (λ next. AreApart s j next.call) ts)
    (λ e. subst (λ (i : ℕ). EachTurn (λ next. AreApart s i next.call) turns) (eqb-true turn.call j e) own)
    (λ e. (let listed_later = later_listed (eqb turn.call j) (is_listed j turns) listed e in
    let other = each_listed (λ next. AreApart s turn.call next.call) j turns own listed_later in
    (apart_back s turn.call j (subst (λ (i : ℕ). AreApart s turn.call i) other.call other.holds), rest listed_later)))

-- ---- sums over turns

abbrev pub sum_over : (ℕ → ℕ) → List Turn → ℕ
sum_over f [] = 0
sum_over f (turn ∷ turns) = f turn.call + sum_over f turns

pub sum_without : (f : ℕ → ℕ) (j : ℕ) (turns : List Turn) → is_listed j turns ≡ true → sum_over f turns ≡ f j + sum_over f (without j turns)
sum_without f j [] listed = absurd (false≢true listed)
sum_without f j (turn ∷ turns) listed =
    let rest = λ (k : is_listed j turns ≡ true). sum_without f j turns k in
    cond_both (eqb turn.call j) turns (turn ∷ without j turns) (λ (ts : List Turn). f turn.call + sum_over f turns ≡ f j + sum_over f ts)
    (λ e. ap (λ (i : ℕ). f i + sum_over f turns) (eqb-true turn.call j e))
    (λ e. let on = rest (later_listed (eqb turn.call j) (is_listed j turns) listed e) in omega (arith, on))

-- none takes its turn
pub turns_lost : (f : ℕ → ℕ) (unit delay : ℕ) (turns : List Turn) → EachTurn (λ turn. turn.gain ≤ f turn.call) turns
    → sum_of_turns unit delay turns ≤ sum_over f turns
turns_lost f unit delay [] each = omega arith
turns_lost f unit delay (turn ∷ turns) each =
    let here = each.0 in
    let least = lesser_gain turn.gain delay in
    let rest = turns_lost f unit (delay + unit) turns each.1 in
    omega (arith, here, least, rest)

sum_elsewhere : (f g : ℕ → ℕ) (turns : List Turn) → EachTurn (λ turn. f turn.call ≡ g turn.call) turns → sum_over f turns ≡ sum_over g turns
sum_elsewhere f g [] same = refl
sum_elsewhere f g (turn ∷ turns) same =
    let here = same.0 in
    let rest = sum_elsewhere f g turns same.1 in
    omega (arith, here, rest)

-- Different calls: their sum is at most that over all calls.
pub sum_over_le : (s : Snapshot) (n : ℕ) (f : ℕ → ℕ) (turns : List Turn) → EachTurn (λ turn. turn.call < n) turns → AreInTurn s turns
    → sum_over f turns ≤ sum_below n f
sum_over_le s n f [] below order = omega arith
sum_over_le s n f (turn ∷ turns) below order =
    let j = turn.call in
    let g : ℕ → ℕ = λ k. cond (eqb k j) 0 (f k) in
    let none : g j ≡ 0 = ap (λ (b : Bool). cond b 0 (f j)) (eq-eqb j j refl) in
    let apart = λ (next : Turn) (a : AreApart s j next.call) (same : next.call ≡ j).
    a (ap (λ (i : ℕ). (call_of s i).origin) (sym same)) (ap (λ (i : ℕ). is_upward (call_of s i)) (sym same)) in
    let same = sum_elsewhere f g turns
    (each_less (λ next. AreApart s j next.call) (λ next. f next.call ≡ g next.call) turns
    (λ next a. sym (ap (λ (b : Bool). cond b 0 (f next.call)) (ne_eqb next.call j (apart next a)))) (apart_first s turn turns order.0)) in
    let whole = sum_one_off n j g f (f j) below.0 (omega (arith, none)) (λ k ne. sym (ap (λ (b : Bool). cond b 0 (f k)) (ne_eqb k j ne))) in
    let rest = sum_over_le s n g turns below.1 order.1 in
    omega (arith, same, whole, rest)
