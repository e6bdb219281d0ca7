-- What is gathered along the forced route is what the bound adds for the calls that have not boarded, and what is settled
-- at its end is no more than what those carried cost on it.
use Rattle.std.proofs.Common.{◌≡◌, ℕ, ◌+◌, ◌≤◌, Bool, true, false, cond, not, ◌&&◌, ◌||◌, eqb, ltb, leb, List, [], ◌∷◌, refl, sym, ap, ◌∙◌, subst, arith}
use Rattle.std.specs.Prelude.{ℤ, pos, ◌+ℤ◌}
use Rattle.std.proofs.lemmas.Int.{ints}
use Rattle.std.proofs.lemmas.Bool.{and_from, and_right, and_parts, eqb-true, lt-ltb, ltb-true, both_ways}
use Rattle.call_sets.specs.Counting.{sum_where}
use Rattle.call_sets.proofs.Sums.{sum_below-add, sum_below-le, sum_where-less}
use Rattle.elevator_model.specs.Costs.{cost_of_rider, settled_cost}
use Rattle.elevator_model.specs.Snapshot.{Snapshot, call_count, call_of}
use Rattle.elevator_model.specs.Tours.{Progress, boards_at, destination_of, gets_off, rider_count}
use Rattle.tour_rules.specs.Leaving.{IsKept}
use Rattle.tour_rules.proofs.Settled.{IsKept-stop, settled_more_once}
use Rattle.partial_tours.specs.Courses.{empty_stop}
use Rattle.search_model.specs.Sums.{int_sum_below, int_sum_where}
use Rattle.search_model.proofs.SumLemmas.{int_sum-add, int_sum-same}
use Rattle.pricing_bound.specs.Costs.{rider-later}
use Rattle.pricing_bound.specs.GrowthLemmas.{no_boards}
use Rattle.route_bound.specs.ForcedRoute.{cost_on_route, halted, is_before, next_open, opens_at, part_if_boarded, route_end}
use Rattle.route_bound.specs.Moves.{next_here}
use Rattle.route_bound.specs.OnRoute.{AreBeyond, IsBeyond}
use Rattle.route_sums.specs.Gathering.{gathered}

-- ---- calls

-- a call boards at once, on the way, or after the last forced stop
one_place : (r a b : Bool) (x y z : ℕ) (g : ℕ → ℤ)
    → cond (r && (a && b)) (g x) (pos 0) +ℤ cond (r && not (a && b)) (g (cond a y z)) (pos 0) ≡ cond r (g (cond a (cond b x y) z)) (pos 0)
one_place true true true x y z g = omega (arith, ints)
one_place true true false x y z g = omega (arith, ints)
one_place true false b x y z g = omega (arith, ints)
one_place false a b x y z g = omega (arith, ints)

either_same : (a : Bool) (x : ℕ) → x ≡ cond a x x
either_same true x = refl
either_same false x = refl

pub gathered-is : (s : Snapshot) (c : ℕ) (price : ℕ → ℤ) (required along : ℕ → Bool) (up : Bool) (p : Progress) (fs : List ℕ) (rest : ℕ → Bool)
    → gathered s c price required along up p fs rest
    ≡ int_sum_where (call_count s) rest
    (λ j. part_if_boarded s c price required j
    (cond (along j) (opens_at s c up p fs (call_of s j).origin) (next_open s c (route_end s c p fs) (call_of s j).origin)))
gathered-is s c price required along up p [] rest =
    int_sum-same (call_count s) (λ j. cond (rest j) (part_if_boarded s c price required j (next_open s c p (call_of s j).origin)) (pos 0))
    (λ j. cond (rest j) (part_if_boarded s c price required j
    (cond (along j) (next_open s c p (call_of s j).origin) (next_open s c p (call_of s j).origin))) (pos 0))
    (λ j lt. ap (λ (m : ℕ). cond (rest j) (part_if_boarded s c price required j m) (pos 0)) (either_same (along j) (next_open s c p (call_of s j).origin)))
gathered-is s c price required along up p (f ∷ fs) rest =
    let q = halted s c p f in
    let b = λ (j : ℕ). is_before up p.floor f (call_of s j).origin in
    let x = λ (j : ℕ). next_open s c p (call_of s j).origin in
    let y = λ (j : ℕ). opens_at s c up q fs (call_of s j).origin in
    let z = λ (j : ℕ). next_open s c (route_end s c q fs) (call_of s j).origin in
    let later = gathered-is s c price required along up q fs (λ j. rest j && not (along j && b j)) in
    let here : ℕ → ℤ = λ j. cond (rest j && (along j && b j)) (part_if_boarded s c price required j (x j)) (pos 0) in
    let there : ℕ → ℤ = λ j. cond (rest j && not (along j && b j)) (part_if_boarded s c price required j (cond (along j) (y j) (z j))) (pos 0) in
    let all : ℕ → ℤ = λ j. cond (rest j) (part_if_boarded s c price required j (cond (along j) (cond (b j) (x j) (y j)) (z j))) (pos 0) in
    let added = int_sum-add (call_count s) here there in
    let same = int_sum-same (call_count s) (λ j. here j +ℤ there j) all
    (λ j lt. one_place (rest j) (along j) (b j) (x j) (y j) (z j) (part_if_boarded s c price required j)) in
    ap (λ (t : ℤ). int_sum_below (call_count s) here +ℤ t) later ∙ sym added ∙ same

-- ---- those carried

-- floor g lies beyond floor f
abbrev past : (up : Bool) → (f g : ℕ) → Bool
past true f g = ltb f g
past false f g = ltb g f

not_before : (up : Bool) (from to : ℕ) → is_before up from to to ≡ false
not_before true from to = and_right (leb from to) (ltb to to) (self_less to)
  where
    self_less : (n : ℕ) → ltb n n ≡ false
    self_less n = grind arith
not_before false from to = and_right (leb to from) (ltb to to) (self_less to)
  where
    self_less : (n : ℕ) → ltb n n ≡ false
    self_less n = grind arith

past_before : (up : Bool) (from to g : ℕ) → past up to g ≡ true → is_before up from to g ≡ false
past_before true from to g h = and_right (leb from g) (ltb g to) (let lt = ltb-true to g h in grind (arith, lt))
past_before false from to g h = and_right (leb g from) (ltb to g) (let lt = ltb-true g to h in grind (arith, lt))

past_on : (up : Bool) (from to g : ℕ) → IsBeyond up from to → past up to g ≡ true → past up from g ≡ true
past_on true from to g beyond h = let lt = ltb-true to g h in lt-ltb from g (omega (arith, beyond, lt))
past_on false from to g beyond h = let lt = ltb-true g to h in lt-ltb g from (omega (arith, beyond, lt))

past_at : (up : Bool) (from to g : ℕ) → IsBeyond up from to → g ≡ to → past up from g ≡ true
past_at true from to g beyond e = lt-ltb from g (omega (arith, beyond, e))
past_at false from to g beyond e = lt-ltb g from (omega (arith, beyond, e))

-- the doors are open at the stop itself when they are
opens_own : (s : Snapshot) (c : ℕ) (up : Bool) (q : Progress) (fs : List ℕ) → q.begun ≡ true → AreBeyond up q.floor fs → opens_at s c up q fs q.floor ≡ q.opened
opens_own s c up q [] begun order = next_here s c q q.floor begun refl
opens_own s c up q (f ∷ fs) begun order =
    ap (λ (b : Bool). cond b (next_open s c q q.floor) (opens_at s c up (halted s c q f) fs q.floor)) (starts up q.floor f order.0)
    ∙ next_here s c q q.floor begun refl
  where
    starts : (up : Bool) (from to : ℕ) → IsBeyond up from to → is_before up from to from ≡ true
    starts true from to h = and_from (leb from from) (ltb from to) (grind arith) (lt-ltb from to h)
    starts false from to h = and_from (leb from from) (ltb to from) (grind arith) (lt-ltb to from h)

one_rider : (k d x p1 p2 : Bool) (now later all : ℕ) → x ≡ false → (d ≡ true → p1 ≡ true) → (d ≡ true → now ≤ all) → (p2 ≡ true → p1 ≡ true)
    → (d ≡ false → p2 ≡ true → later ≤ all) → cond (k && d) now 0 + cond (((k && not d) || x) && p2) later 0 ≤ cond (k && p1) all 0
one_rider false d x p1 p2 now later all none a b e f = let z = none in
    subst (λ (v : Bool). cond false now 0 + cond ((false || v) && p2) later 0 ≤ 0) (sym z) (omega arith)
one_rider true true x p1 p2 now later all none a b e f =
    let le = b refl in
    subst (λ (v : Bool). now + cond ((false || v) && p2) later 0 ≤ cond p1 all 0) (sym none)
    (subst (λ (v : Bool). now + 0 ≤ cond v all 0) (sym (a refl)) (omega (arith, le)))
one_rider true false x p1 true now later all none a b e f =
    let le = f refl refl in
    subst (λ (v : Bool). 0 + later ≤ cond v all 0) (sym (e refl)) (omega (arith, le))
one_rider true false x p1 false now later all none a b e f = omega arith

-- what those carried cost who go on beyond
abbrev beyond_cost : Snapshot → ℕ → (up : Bool) → Progress → List ℕ → ℕ
beyond_cost s c up p fs = sum_where (rider_count s) (λ r. p.carried r && past up p.floor (destination_of s r)) (cost_on_route s c up p fs)

settled_beyond : (s : Snapshot) (c : ℕ) (up : Bool) (p : Progress) (fs : List ℕ) → IsKept s c p → AreBeyond up p.floor fs
    → settled_cost s c (route_end s c p fs) ≤ settled_cost s c p + beyond_cost s c up p fs
settled_beyond s c up p [] kept order = omega arith
settled_beyond s c up p (f ∷ fs) kept order =
    let q = halted s c p f in
    let later = settled_beyond s c up q fs (IsKept-stop s c p (empty_stop f) kept) order.1 in
    let more = settled_more_once s c p (empty_stop f) kept (λ j h. absurd (both_ways (boards_at s (empty_stop f) j) (no_boards s f j) h)) in
    let now : ℕ → ℕ = λ r. cond (gets_off s p f r) (cost_of_rider s r (p.boarded_at r) q.opened) 0 in
    let after : ℕ → ℕ = λ r. cond (q.carried r && past up f (destination_of s r)) (cost_on_route s c up q fs r) 0 in
    let sums = sum_below-add (rider_count s) now after in
    let each = sum_below-le (rider_count s) (λ r. now r + after r)
    (λ r. cond (p.carried r && past up p.floor (destination_of s r)) (cost_on_route s c up p (f ∷ fs) r) 0) (λ r lt. rider r) in
    omega (arith, later, more, sums, each)
  where
    rider : (r : ℕ) → cond (gets_off s p f r) (cost_of_rider s r (p.boarded_at r) (halted s c p f).opened) 0 + cond
        ((halted s c p f).carried r && past up f (destination_of s r)) (cost_on_route s c up (halted s c p f) fs r) 0 ≤ cond
        (p.carried r && past up p.floor (destination_of s r)) (cost_on_route s c up p (f ∷ fs) r) 0
    rider r =
        let q = halted s c p f in
        let d = destination_of s r in
        let boarded : q.boarded_at r ≡ p.boarded_at r = ap (λ (b : Bool). cond b q.opened (p.boarded_at r)) (no_boards s f r) in
        one_rider (p.carried r) (eqb d f) (boards_at s (empty_stop f) r) (past up p.floor d) (past up f d) (cost_of_rider s r (p.boarded_at r) q.opened)
        (cost_on_route s c up q fs r) (cost_on_route s c up p (f ∷ fs) r) (no_boards s f r) (λ e. past_at up p.floor f d order.0 (eqb-true d f e))
        (λ e. let same = eqb-true d f e in let own = opens_own s c up q fs refl order.1 in
        let way : opens_at s c up p (f ∷ fs) d ≡ q.opened = ap (opens_at s c up p (f ∷ fs)) same
        ∙ ap (λ (b : Bool). cond b (next_open s c p f) (opens_at s c up q fs f)) (not_before up p.floor f) ∙ own in
        rider-later s r (p.boarded_at r) q.opened (p.boarded_at r) (opens_at s c up p (f ∷ fs) d) (omega arith) (omega (arith, way)))
        (λ e. past_on up p.floor f d order.0 e)
        (λ e h. let way : opens_at s c up p (f ∷ fs) d ≡ opens_at s c up q fs d =
        ap (λ (b : Bool). cond b (next_open s c p d) (opens_at s c up q fs d)) (past_before up p.floor f d h) in
        rider-later s r (q.boarded_at r) (opens_at s c up q fs d) (p.boarded_at r) (opens_at s c up p (f ∷ fs) d) (omega (arith, boarded))
        (omega (arith, boarded, way)))

pub settled_on_route : (s : Snapshot) (c : ℕ) (up : Bool) (p : Progress) (fs : List ℕ) → IsKept s c p → AreBeyond up p.floor fs
    → settled_cost s c (route_end s c p fs) ≤ settled_cost s c p + sum_where (rider_count s) p.carried (cost_on_route s c up p fs)
settled_on_route s c up p fs kept order =
    let some = settled_beyond s c up p fs kept order in
    let less = sum_where-less (rider_count s) (λ r. p.carried r && past up p.floor (destination_of s r)) p.carried (cost_on_route s c up p fs)
    (λ r h. (and_parts (p.carried r) (past up p.floor (destination_of s r)) h).0) in
    omega (arith, some, less)
