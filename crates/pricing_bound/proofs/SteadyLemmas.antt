-- What calls that wait add grows evenly as long as none of them changes its pace.
use Rattle.std.proofs.Common.{◌≡◌, ◌==◌, ℕ, zero, suc, ◌+◌, ◌-◌, ◌*◌, ◌/◌, ◌^◌, ◌<◌, ◌≤◌, Bool, true, false, cond, not, ◌&&◌, ◌||◌, ltb, max, List, [], ◌∷◌}
use Rattle.std.proofs.Common.{refl, sym, ap, ◌∙◌, subst, arith}
use Rattle.std.specs.Prelude.{ℤ, pos, neg_ℤ, ◌+ℤ◌, ◌-ℤ◌, ◌≤ℤ◌, int_lt}
use Rattle.std.proofs.lemmas.Int.{ints}
use Rattle.std.proofs.lemmas.Bool.{and_parts, both_ways, eqb-true, eq-eqb, false≢true, false_from_ne_true, ltb-true, ltb-false, or_left, or_right}
use Rattle.std.proofs.Math.Nat.{div-mul-le_self, mul-le-mul_right, mul-le-mul_left}
use Rattle.call_sets.proofs.Sums.{sum_below-same, sum_where-step}
use Rattle.call_sets.specs.Counting.{has, members, sum_where, is_among}
use Rattle.elevator_model.specs.Snapshot.{IsAccepted, call_count}
use Rattle.price_scale.specs.Scale.{IsPrice}
use Rattle.search_model.specs.Bounds.{cost_if_alone}
use Rattle.search_model.specs.Prices.{scaled}
use Rattle.search_model.specs.Sums.{int_sum_where}
use Rattle.search_model.proofs.SumLemmas.{int_sum-same}
use Rattle.tour_rules.proofs.Stops.{most_calls_few}
use Rattle.pricing_bound.specs.declared.rates.Rate.{Rate}
use Rattle.pricing_bound.specs.declared.waiting.Growth.{Growth}
use Rattle.pricing_bound.specs.declared.waiting.Waiting.{Waiting}
use Rattle.pricing_bound.specs.Aims.{Aim}
use Rattle.pricing_bound.specs.Costs.{sum_one_off, int_sum_one_off}
use Rattle.pricing_bound.specs.Rates.{term_at, counts_at, adds_at, rise_at, wait_at}
use Rattle.pricing_bound.specs.Running.{IsEven, AreEven}
use Rattle.pricing_bound.proofs.Sizes.{IsWithin, int_sum-size, few_within, alone_small}
use Rattle.pricing_bound.proofs.WaitingLemmas.{AreOnce, among, among_has, members_once, counted_adds, dropped_adds}

-- ---- one call

next_rise : (first rise gap : ℕ) → first + rise * (gap + 1) - (first + rise * gap) ≡ rise
next_rise first rise gap = omega arith

pub rise_later : (a : Aim) (m until j k : ℕ) → IsEven a m until j → m ≤ k → k < until → rise_at a.snapshot k j ≡ rise_at a.snapshot m j
rise_later a m until j k even later before =
    let rise = rise_at a.snapshot m j in
    let first = cost_if_alone a.snapshot j m in
    let next = even (k + 1) (omega (arith, later)) (omega (arith, before)) in
    let here = even k later (omega (arith, before)) in
    let one : k + 1 - m ≡ k - m + 1 = omega (arith, later) in
    ap (λ (x : ℕ). x - cost_if_alone a.snapshot j k) (next ∙ ap (λ (n : ℕ). first + rise * n) one) ∙ ap (λ (x : ℕ). first + rise * (k - m + 1) - x) here
    ∙ next_rise first rise (k - m)

two_steps : (first rise x y : ℕ) → first + rise * (x + y) ≡ first + rise * x + rise * y
two_steps first rise x y = omega arith

even_later : (a : Aim) (m until j k : ℕ) → IsEven a m until j → m ≤ k → k < until → IsEven a k until j
even_later a m until j k even later before = λ l le most.
    let rise = rise_at a.snapshot m j in
    let first = cost_if_alone a.snapshot j m in
    let same = rise_later a m until j k even later before in
    let apart : l - m ≡ (k - m) + (l - k) = omega (arith, later, le) in
    even l (omega (arith, later, le)) most ∙ ap (λ (n : ℕ). first + rise * n) apart ∙ two_steps first rise (k - m) (l - k)
    ∙ ap (λ (x : ℕ). x + rise * (l - k)) (sym (even k later (omega (arith, before))))
    ∙ ap (λ (r : ℕ). cost_if_alone a.snapshot j k + r * (l - k)) (sym same)

grown : (first next rise : ℕ) (price : ℤ) → next ≡ first + rise → scaled next -ℤ price ≡ (scaled first -ℤ price) +ℤ scaled rise
grown first next rise price e = omega (arith, ints, e)

term_later : (a : Aim) (m until j k : ℕ) → IsEven a m until j → m ≤ k → k < until → term_at a k j ≡ term_at a m j +ℤ scaled (rise_at a.snapshot m j * (k - m))
term_later a m until j k even later before =
    grown (cost_if_alone a.snapshot j m) (cost_if_alone a.snapshot j k) (rise_at a.snapshot m j * (k - m)) (a.price j) (even k later (omega (arith, before)))

-- ---- call by call

pub not_left : {X : Type 0} (j left : ℕ) → j < 128 → has left j ≡ true → is_among j (members 128 left) ≡ false → X
not_left j left lt h none = absurd (both_ways _ none (among 128 left j lt h))

-- one call more, and the growth told no longer than that of each
pub even_step : (a : Aim) (m one : ℕ) (left rest : List ℕ) (calls until own new : ℕ) → left ≡ one ∷ rest
    → ((j : ℕ) → has calls j ≡ true → is_among j left ≡ false → IsEven a m until j) → IsEven a m own one → new ≤ until → new ≤ own → (j : ℕ)
    → has calls j ≡ true → is_among j rest ≡ false → IsEven a m new j
even_step a m one left rest calls until own new is so_far here first second j h none = by_place (one == j) refl
  where
    by_place : (v : Bool) → (one == j) ≡ v → IsEven a m new j
    by_place true e = λ k later most. subst (IsEven a m own) (eqb-true one j e) here k later (omega (arith, most, second))
    by_place false e = λ k later most. so_far j h (ap (is_among j) is ∙ ap (λ (b : Bool). b || is_among j rest) e ∙ none) k later (omega (arith, most, first))

-- how long a term stays below 0
pub stays_below : (term : ℤ) (slope depth gap : ℕ) → pos depth ≤ℤ neg_ℤ term → gap < depth / max (1000 * slope) 1
    → int_lt (term +ℤ scaled (slope * gap)) (pos 0) ≡ true
stays_below term slope depth gap deep soon =
    below (max (1000 * slope) 1) (omega arith) (omega arith) (depth / max (1000 * slope) 1) soon (div-mul-le_self depth (max (1000 * slope) 1))
  where
    below : (pace : ℕ) → 1000 * slope ≤ pace → 1 ≤ pace → (times : ℕ) → gap < times → times * pace ≤ depth
        → int_lt (term +ℤ scaled (slope * gap)) (pos 0) ≡ true
    below pace gentle some times less whole =
        let most : (gap + 1) * pace ≤ times * pace = mul-le-mul_right pace (next less) in
        let each = mul-le-mul_left gap gentle in
        less_than (slope * gap) (negative most each)
      where
        next : gap < times → gap + 1 ≤ times
        next lt = omega (arith, lt)

        negative : (gap + 1) * pace ≤ times * pace → gap * (1000 * slope) ≤ gap * pace → 1000 * (slope * gap) < depth
        negative most each = omega (arith, most, each, whole, some)

        less_than : (x : ℕ) → 1000 * x < depth → int_lt (term +ℤ scaled x) (pos 0) ≡ true
        less_than x lt = grind (arith, ints, lt, deep)

-- waits cost no more than at the steepest
wait_most : (wait over r l k : ℕ) → r ≤ l → wait * (k - r) + over * (k - l) ≤ (wait + over) * (k - r)
wait_most wait over r l k ordered =
    let less : k - l ≤ k - r = omega (arith, ordered) in
    let times = mul-le-mul_left over less in
    all (k - r) (k - l) times
  where
    all : (x y : ℕ) → over * y ≤ over * x → wait * x + over * y ≤ (wait + over) * x
    all x y times = omega (arith, times)

lower_still : (x y ride : ℕ) (term price : ℤ) → x ≤ y → term ≡ scaled ride -ℤ price → int_lt (term +ℤ scaled y) (pos 0) ≡ true
    → int_lt (scaled (x + ride) -ℤ price) (pos 0) ≡ true
lower_still x y ride term price le is below = grind (arith, ints, le, is, below)

pub below_at : (rate : Rate) (price term : ℤ) (depth k : ℕ) → rate.released ≤ rate.late → term ≡ scaled rate.ride -ℤ price → int_lt term (pos 0) ≡ true
    → pos depth ≤ℤ neg_ℤ term → k < rate.released + depth / max (1000 * (rate.wait + rate.over)) 1
    → int_lt (scaled (wait_at rate k + rate.ride) -ℤ price) (pos 0) ≡ true
below_at rate price term depth k ordered is now_below deep before = by_place (ltb rate.released k) refl
  where
    slope : ℕ
    slope = rate.wait + rate.over

    most : wait_at rate k ≤ slope * (k - rate.released)
    most = wait_most rate.wait rate.over rate.released rate.late k ordered

    soon : (times : ℕ) → k < rate.released + times → rate.released < k → k - rate.released < times
    soon times h lt = omega (arith, h, lt)

    none : (t : ℤ) → int_lt t (pos 0) ≡ true → int_lt (t +ℤ scaled 0) (pos 0) ≡ true
    none t h = grind (arith, ints, h)

    by_place : (v : Bool) → ltb rate.released k ≡ v → int_lt (scaled (wait_at rate k + rate.ride) -ℤ price) (pos 0) ≡ true
    by_place true e = lower_still (wait_at rate k) (slope * (k - rate.released)) rate.ride term price most is
        (stays_below term slope depth (k - rate.released) deep (soon (depth / max (1000 * slope) 1) before (ltb-true rate.released k e)))
    by_place false e =
        let past = ltb-false rate.released k e in
        let zero_gap : k - rate.released ≡ 0 = omega (arith, past) in
        let least = most in
        let no_wait : wait_at rate k ≤ 0 = subst (λ (n : ℕ). wait_at rate k ≤ n) (ap (λ (n : ℕ). slope * n) zero_gap ∙ times_none slope) least in
        lower_still (wait_at rate k) 0 rate.ride term price no_wait is (none term now_below)
      where
        times_none : (n : ℕ) → n * 0 ≡ 0
        times_none n = omega arith

-- ---- all that count

one_later : (b : Bool) (f g : ℤ) (r gap : ℕ) → (b ≡ true → g ≡ f +ℤ scaled (r * gap)) → cond b g (pos 0) ≡ cond b f (pos 0) +ℤ scaled (cond b r 0 * gap)
one_later true f g r gap h = h refl
one_later false f g r gap h = omega (arith, ints)

scaled_both : (x y gap : ℕ) → scaled ((x + y) * gap) ≡ scaled (x * gap) +ℤ scaled (y * gap)
scaled_both x y gap = let e : (x + y) * gap ≡ x * gap + y * gap = omega arith in ap scaled e ∙ apart (x * gap) (y * gap)
  where
    apart : (u v : ℕ) → scaled (u + v) ≡ scaled u +ℤ scaled v
    apart u v = omega (arith, ints)

pub sum_later : (n : ℕ) (test : ℕ → Bool) (f g : ℕ → ℤ) (r : ℕ → ℕ) (gap : ℕ) → ((j : ℕ) → test j ≡ true → g j ≡ f j +ℤ scaled (r j * gap))
    → int_sum_where n test g ≡ int_sum_where n test f +ℤ scaled (sum_where n test r * gap)
sum_later zero test f g r gap h = omega (arith, ints)
sum_later (suc n) test f g r gap h =
    let rest = sum_later n test f g r gap h in
    let here = one_later (test n) (f n) (g n) (r n) gap (h n) in
    let both = scaled_both (sum_where n test r) (cond (test n) (r n) 0) gap in
    omega (arith, ints, rest, here, both)

-- what calls add is what those of them add that count
adds_one : (b r : Bool) (t : ℤ) (counted : Bool) → counted ≡ (b && (r || int_lt t (pos 0)))
    → cond b (cond r t (cond (int_lt t (pos 0)) t (pos 0))) (pos 0) ≡ cond counted t (pos 0)
adds_one false r t counted e = ap (λ (v : Bool). cond v t (pos 0)) (sym e)
adds_one true r t counted e = by_test (r || int_lt t (pos 0)) refl
  where
    by_test : (v : Bool) → (r || int_lt t (pos 0)) ≡ v → cond r t (cond (int_lt t (pos 0)) t (pos 0)) ≡ cond counted t (pos 0)
    by_test true f = counted_adds r t f ∙ sym (ap (λ (v : Bool). cond v t (pos 0)) (e ∙ f))
    by_test false f = dropped_adds r t f ∙ sym (ap (λ (v : Bool). cond v t (pos 0)) (e ∙ f))

pub adds_counted : (a : Aim) (m calls counted : ℕ) → ((j : ℕ) → has counted j ≡ (has calls j && counts_at a m j))
    → int_sum_where (call_count a.snapshot) (has calls) (adds_at a m) ≡ int_sum_where (call_count a.snapshot) (has counted) (term_at a m)
adds_counted a m calls counted are =
    int_sum-same (call_count a.snapshot) (λ j. cond (has calls j) (adds_at a m j) (pos 0)) (λ j. cond (has counted j) (term_at a m j) (pos 0))
    (λ j lt. adds_one (has calls j) (a.required j) (term_at a m j) (has counted j) (are j))

term_or_none : (b : Bool) (alone : ℕ) (price : ℤ) → IsPrice price → alone ≤ 2400000000000000 → IsWithin (2 * 10 ^ 24) (cond b (scaled alone -ℤ price) (pos 0))
term_or_none true alone price h small = let l = h.0 in let m = h.1 in (omega (arith, ints, l, m, small), omega (arith, ints, l, m, small))
term_or_none false alone price h small = (omega (arith, ints), omega (arith, ints))

pub terms_size : (a : Aim) (m set : ℕ) → IsAccepted a.snapshot → ((j : ℕ) → IsPrice (a.price j)) → m < 10000000000
    → IsWithin (128 * (2 * 10 ^ 24)) (int_sum_where (call_count a.snapshot) (has set) (term_at a m))
terms_size a m set accepted prices early =
    few_within (call_count a.snapshot) (2 * 10 ^ 24) 128 _ (most_calls_few a.snapshot accepted)
    (int_sum-size (call_count a.snapshot) (λ j. cond (has set j) (term_at a m j) (pos 0)) (2 * 10 ^ 24)
    (λ j lt. term_or_none (has set j) (cost_if_alone a.snapshot j m) (a.price j) (prices j) (alone_small a.snapshot j m accepted lt early)))

-- of calls without one
still : (w new : Waiting) (one : ℕ) → ((j : ℕ) → has new.counted j ≡ (has w.counted j && not (j == one))) → (j : ℕ) → has new.counted j ≡ true
    → has w.counted j ≡ true
still w new one counted j e = (and_parts (has w.counted j) (not (j == one)) (sym (counted j) ∙ e)).0

others : (w new : Waiting) (one : ℕ) → ((j : ℕ) → has new.counted j ≡ (has w.counted j && not (j == one))) → (j : ℕ) → (j ≡ one → ⊥)
    → has new.counted j ≡ has w.counted j
others w new one counted j ne = counted j ∙ kept (has w.counted j) (j == one) (false_from_ne_true (j == one) (λ e. ne (eqb-true j one e)))
  where
    kept : (b c : Bool) → c ≡ false → (b && not c) ≡ b
    kept true c e = ap not e
    kept false c e = refl

-- what they add, of the calls of which they are those that count
pub adds_of : (a : Aim) (m calls : ℕ) (w : Waiting) → AreEven a w → w.moment ≡ m → ((j : ℕ) → has w.counted j ≡ (has calls j && counts_at a m j))
    → w.sum ≡ int_sum_where (call_count a.snapshot) (has calls) (adds_at a m)
adds_of a m calls w h moment counted = h.sum ∙ ap (λ (k : ℕ). int_sum_where (call_count a.snapshot) (has w.counted) (term_at a k)) moment
    ∙ sym (adds_counted a m calls w.counted counted)

-- the same parts
pub even_same : (a : Aim) (w new : Waiting) → AreEven a w → new.counted ≡ w.counted → new.sum ≡ w.sum → new.moment ≡ w.moment → new.growth ≡ w.growth
    → AreEven a new
even_same a w new h counted sum moment growth =
    put (AreEven a (record { counted = w.counted; sum = w.sum; moment = w.moment; growth = w.growth; place = new.place }))
    (record { calls = h.calls; sum = h.sum; low = h.low; high = h.high; slope = h.slope; gentle = h.gentle; even = h.even })
  where
    put : (P : Type 0) → AreEven a (record { counted = w.counted; sum = w.sum; moment = w.moment; growth = w.growth; place = new.place }) → AreEven a new
    put P all = subst (AreEven a)
        (ap (λ (x : ℕ). record { counted = x; sum = w.sum; moment = w.moment; growth = w.growth; place = new.place }) (sym counted)
        ∙ ap (λ (x : ℤ). record { counted = new.counted; sum = x; moment = w.moment; growth = w.growth; place = new.place }) (sym sum)
        ∙ ap (λ (x : ℕ). record { counted = new.counted; sum = new.sum; moment = x; growth = w.growth; place = new.place }) (sym moment)
        ∙ ap (λ (x : Growth). record { counted = new.counted; sum = new.sum; moment = new.moment; growth = x; place = new.place }) (sym growth)) all

-- at a later moment
pub even_on : (a : Aim) (m : ℕ) (w new : Waiting) → AreEven a w → w.moment ≤ m → m < w.growth.until → IsAccepted a.snapshot → ((j : ℕ) → IsPrice (a.price j))
    → m < 10000000000 → new.counted ≡ w.counted → new.sum ≡ w.sum +ℤ scaled (w.growth.slope * (m - w.moment)) → new.moment ≡ m → new.growth ≡ w.growth
    → AreEven a new
even_on a m w new h later before accepted prices early counted sum moment growth =
    let n = call_count a.snapshot in
    let grown_by = sum_later n (has w.counted) (term_at a w.moment) (term_at a m) (rise_at a.snapshot w.moment) (m - w.moment)
    (λ j e. term_later a w.moment w.growth.until j m (h.even j e) later before) in
    let paced = ap (λ (x : ℕ). w.sum +ℤ scaled (x * (m - w.moment))) h.slope
    ∙ ap (λ (z : ℤ). z +ℤ scaled (sum_where n (has w.counted) (rise_at a.snapshot w.moment) * (m - w.moment))) h.sum ∙ sym grown_by in
    let whole = sum ∙ paced in
    let size = terms_size a m w.counted accepted prices early in
    let low = size.0 in
    let high = size.1 in
    let same = sum_below-same n (λ j. cond (has w.counted j) (rise_at a.snapshot w.moment j) 0) (λ j. cond (has w.counted j) (rise_at a.snapshot m j) 0)
    (λ j lt. rises (has w.counted j) j refl) in
    let all : AreEven a (record { counted = w.counted; sum = new.sum; moment = m; growth = w.growth; place = new.place }) =
    record {
      calls = h.calls;
      sum = whole;
      low = omega (arith, ints, low, whole);
      high = omega (arith, ints, high, whole);
      slope = h.slope
          ∙ same;
      gentle = h.gentle;
      even = λ j e. even_later a w.moment w.growth.until j m (h.even j e) later before;
    } in
    even_same a (record { counted = w.counted; sum = new.sum; moment = m; growth = w.growth; place = new.place }) new all counted refl moment growth
  where
    rises : (v : Bool) → (j : ℕ) → has w.counted j ≡ v → cond v (rise_at a.snapshot w.moment j) 0 ≡ cond v (rise_at a.snapshot m j) 0
    rises true j e = sym (rise_later a w.moment w.growth.until j m (h.even j e) later before)
    rises false j e = refl

-- without a call
pub even_less : (a : Aim) (one : ℕ) (w new : Waiting) (term : ℤ) (slope : ℕ) → AreEven a w → has w.counted one ≡ true → IsAccepted a.snapshot
    → ((j : ℕ) → IsPrice (a.price j)) → w.moment < 10000000000 → term ≡ term_at a w.moment one → slope ≡ rise_at a.snapshot w.moment one
    → ((j : ℕ) → has new.counted j ≡ (has w.counted j && not (j == one))) → new.sum ≡ w.sum -ℤ term → new.moment ≡ w.moment
    → new.growth.slope + slope ≡ w.growth.slope → new.growth.until ≡ w.growth.until → AreEven a new
even_less a one w new term slope h is_in accepted prices early term_is slope_is counted sum moment less until =
    let n = call_count a.snapshot in
    let gone = without_it (has w.counted one) (one == one) (counted one) (eq-eqb one one refl) in
    let more = int_sum_one_off n one (λ j. cond (has new.counted j) (term_at a w.moment j) (pos 0))
    (λ j. cond (has w.counted j) (term_at a w.moment j) (pos 0)) (term_at a w.moment one) (h.calls one is_in)
    (one_more (has w.counted one) (has new.counted one) (term_at a w.moment one) is_in gone)
    (λ j ne. ap (λ (b : Bool). cond b (term_at a w.moment j) (pos 0)) (sym (others w new one counted j ne))) in
    let rises = sum_one_off n one (λ j. cond (has new.counted j) (rise_at a.snapshot w.moment j) 0)
    (λ j. cond (has w.counted j) (rise_at a.snapshot w.moment j) 0) (rise_at a.snapshot w.moment one) (h.calls one is_in)
    (one_rise (has w.counted one) (has new.counted one) (rise_at a.snapshot w.moment one) is_in gone)
    (λ j ne. ap (λ (b : Bool). cond b (rise_at a.snapshot w.moment j) 0) (sym (others w new one counted j ne))) in
    let old_sum = h.sum in
    let old_slope = h.slope in
    let whole : new.sum ≡ int_sum_where n (has new.counted) (term_at a w.moment) = omega (arith, ints, sum, old_sum, more, term_is) in
    let pace : new.growth.slope ≡ sum_where n (has new.counted) (rise_at a.snapshot w.moment) = omega (arith, less, old_slope, rises, slope_is) in
    let size = terms_size a w.moment new.counted accepted prices early in
    let low = size.0 in
    let high = size.1 in
    let gentle = h.gentle in
    record {
      calls = λ j e. h.calls j (still w new one counted j e);
      sum = whole ∙ ap (λ (m : ℕ). int_sum_where n (has new.counted) (term_at a m)) (sym moment);
      low = omega (arith, ints, low, whole);
      high = omega (arith, ints, high, whole);
      slope = pace ∙ ap (λ (m : ℕ). sum_where n (has new.counted) (rise_at a.snapshot m)) (sym moment);
      gentle = omega (arith, gentle, less);
      even = λ j e. subst (λ (m : ℕ). IsEven a m new.growth.until j) (sym moment)
          (subst (λ (u : ℕ). IsEven a w.moment u j) (sym until) (h.even j (still w new one counted j e)));
    }
  where
    without_it : (b c : Bool) → has new.counted one ≡ (b && not c) → c ≡ true → has new.counted one ≡ false
    without_it true c e f = e ∙ ap not f
    without_it false c e f = e

    one_more : (b c : Bool) (t : ℤ) → b ≡ true → c ≡ false → cond b t (pos 0) ≡ cond c t (pos 0) +ℤ t
    one_more true false t e f = omega (arith, ints)
    one_more b c t e f = cc

    one_rise : (b c : Bool) (t : ℕ) → b ≡ true → c ≡ false → cond b t 0 ≡ cond c t 0 + t
    one_rise true false t e f = omega arith
    one_rise b c t e f = cc

-- a call of those that wait grows by no more than all of them
pub slope_within : (a : Aim) (one : ℕ) (w : Waiting) (slope : ℕ) → AreEven a w → has w.counted one ≡ true → slope ≡ rise_at a.snapshot w.moment one
    → slope ≤ w.growth.slope
slope_within a one w slope h is_in is =
    let n = call_count a.snapshot in
    let step = sum_where-step n one (has w.counted) (has w.counted) (rise_at a.snapshot w.moment) (h.calls one is_in) is_in (λ j e. e) in
    let all = h.slope in
    omega (arith, step, all, is)

-- ---- those that cost no less than their prices are left out, call by call

abbrev pub costs_less : Aim → (m j : ℕ) → Bool
costs_less a m j = int_lt (term_at a m j) (pos 0)

-- the call costs less
pub one_stays : (a : Aim) (w : Waiting) (one : ℕ) → costs_less a w.moment one ≡ true → (j : ℕ)
    → has w.counted j ≡ (has w.counted j && (not (j == one) || costs_less a w.moment j))
one_stays a w one less j = by_place (j == one) refl
  where
    all : (b : Bool) → b ≡ (b && true)
    all true = refl
    all false = refl

    by_place : (v : Bool) → (j == one) ≡ v → has w.counted j ≡ (has w.counted j && (not v || costs_less a w.moment j))
    by_place true e = all (has w.counted j)
        ∙ ap (λ (b : Bool). has w.counted j && b) (sym (subst (λ (k : ℕ). costs_less a w.moment k ≡ true) (sym (eqb-true j one e)) less))
    by_place false e = all (has w.counted j)

-- it does not
pub one_goes : (a : Aim) (w : Waiting) (one : ℕ) (new : ℕ) → costs_less a w.moment one ≡ false → ((j : ℕ) → has new j ≡ (has w.counted j && not (j == one)))
    → (j : ℕ) → has new j ≡ (has w.counted j && (not (j == one) || costs_less a w.moment j))
one_goes a w one new more counted j = counted j ∙ by_place (j == one) refl
  where
    by_place : (v : Bool) → (j == one) ≡ v → (has w.counted j && not v) ≡ (has w.counted j && (not v || costs_less a w.moment j))
    by_place true e = ap (λ (b : Bool). has w.counted j && b) (sym (subst (λ (k : ℕ). costs_less a w.moment k ≡ false) (sym (eqb-true j one e)) more))
    by_place false e = refl

-- how far this is: those that are left are still counted
pub record AreSifted (a : Aim) (old : Waiting) (due : ℕ) (left : List ℕ) (w : Waiting) : Type 0 where
  pub are : AreEven a w
  pub moment : w.moment ≡ old.moment
  pub once : AreOnce left
  pub within : (j : ℕ) → is_among j left ≡ true → has due j ≡ true
  pub still : (j : ℕ) → is_among j left ≡ true → has w.counted j ≡ true
  pub counted : (j : ℕ) → has w.counted j ≡ (has old.counted j && (is_among j left || (not (has due j) || costs_less a old.moment j)))

pub none_sifted : (a : Aim) (old : Waiting) (due : ℕ) → AreEven a old → call_count a.snapshot ≤ 128 → ((j : ℕ) → has due j ≡ true → has old.counted j ≡ true)
    → AreSifted a old due (members 128 due) old
none_sifted a old due h few inside = record {
  are = h;
  moment = refl;
  once = members_once 128 due;
  within = λ j e. among_has 128 due j e;
  still = λ j e. inside j (among_has 128 due j e);
  counted = λ j. all (has old.counted j) (is_among j (members 128 due)) (has due j) (costs_less a old.moment j)
      (λ e d. among 128 due j (let near = h.calls j e in omega (arith, near, few)) d);
}
  where
    all : (b left d less : Bool) → (b ≡ true → d ≡ true → left ≡ true) → b ≡ (b && (left || (not d || less)))
    all false left d less p = refl
    all true true d less p = refl
    all true false true less p = absurd (false≢true (p refl refl))
    all true false false less p = refl

pub one_sifted : (a : Aim) (old : Waiting) (due : ℕ) (left rest : List ℕ) (one : ℕ) (w new : Waiting) → AreSifted a old due left w → left ≡ one ∷ rest
    → AreEven a new → new.moment ≡ w.moment → ((j : ℕ) → has new.counted j ≡ (has w.counted j && (not (j == one) || costs_less a w.moment j)))
    → AreSifted a old due rest new
one_sifted a old due left rest one w new h is are moment counted = record {
  are = are;
  moment = moment ∙ h.moment;
  once = once.1;
  within = λ j e. h.within j (later j e);
  still = λ j e. counted j ∙ kept (has w.counted j) (j == one) (costs_less a w.moment j) (h.still j (later j e)) (apart j e);
  counted = λ j. counted j ∙ ap (λ (m : ℕ). has w.counted j && (not (j == one) || costs_less a m j)) h.moment ∙ by_place j (j == one) refl;
}
  where
    once : AreOnce (one ∷ rest)
    once = subst AreOnce is h.once

    later : (j : ℕ) → is_among j rest ≡ true → is_among j left ≡ true
    later j e = ap (is_among j) is ∙ or_right (one == j) (is_among j rest) e

    apart : (j : ℕ) → is_among j rest ≡ true → (j == one) ≡ false
    apart j e = false_from_ne_true (j == one) (λ at. both_ways (is_among one rest) once.0 (sym (ap (λ (k : ℕ). is_among k rest) (eqb-true j one at)) ∙ e))

    kept : (b at less : Bool) → b ≡ true → at ≡ false → (b && (not at || less)) ≡ true
    kept true false less e f = refl
    kept b at less e f = cc

    first : is_among one left ≡ true
    first = ap (is_among one) is ∙ or_left (one == one) (is_among one rest) (eq-eqb one one refl)

    here : (b in_left in_rest d less : Bool) → in_left ≡ true → in_rest ≡ false → d ≡ true
        → ((b && (in_left || (not d || less))) && (not true || less)) ≡ (b && (in_rest || (not d || less)))
    here true true false true less e f g = refl
    here false in_left in_rest d less e f g = refl
    here b in_left in_rest d less e f g = cc

    elsewhere : (b c : Bool) → c ≡ true → b && c ≡ b
    elsewhere true c e = e
    elsewhere false c e = refl

    by_place : (j : ℕ) (v : Bool) → (j == one) ≡ v
        → (has w.counted j && (not v || costs_less a old.moment j)) ≡ (has old.counted j && (is_among j rest || (not (has due j) || costs_less a old.moment j)))
    by_place j true e =
        let at = eqb-true j one e in
        ap (λ (b : Bool). b && (not true || costs_less a old.moment j)) (h.counted j)
        ∙ here (has old.counted j) (is_among j left) (is_among j rest) (has due j) (costs_less a old.moment j) (ap (λ (k : ℕ). is_among k left) at ∙ first)
        (ap (λ (k : ℕ). is_among k rest) at ∙ once.0) (ap (has due) at ∙ h.within one first)
    by_place j false e = elsewhere (has w.counted j) (not false || costs_less a old.moment j) refl ∙ h.counted j
        ∙ ap (λ (b : Bool). has old.counted j && (b || (not (has due j) || costs_less a old.moment j)))
        (ap (is_among j) is ∙ ap (λ (b : Bool). b || is_among j rest)
        (false_from_ne_true (one == j) (λ f. both_ways (j == one) e (eq-eqb j one (sym (eqb-true one j f))))))

-- all are judged
pub all_sifted : (a : Aim) (old : Waiting) (due : ℕ) (left : List ℕ) (w : Waiting) → AreSifted a old due left w → left ≡ [] → (j : ℕ)
    → has w.counted j ≡ (has old.counted j && (not (has due j) || costs_less a old.moment j))
all_sifted a old due left w h is j = h.counted j
    ∙ ap (λ (b : Bool). has old.counted j && (b || (not (has due j) || costs_less a old.moment j))) (ap (is_among j) is)
