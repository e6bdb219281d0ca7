-- Rates of calls, one by one and as a list.
use Rattle.std.proofs.Common.{◌≡◌, ℕ, ◌+◌, ◌-◌, ◌*◌, ◌<◌, ◌≤◌, ◌^◌, Bool, true, false, ltb, List, [], ◌∷◌, ◌++◌, map, set, take, length, get_or, refl, sym, ap}
use Rattle.std.proofs.Common.{◌∙◌, subst, inl, inr, arith, length-append, ◌==◌}
use Rattle.std.specs.Prelude.{ℤ, pos, negsuc, neg_ℤ, ◌-ℤ◌, ◌≤ℤ◌, int_lt}
use Rattle.std.proofs.lemmas.Int.{ints, to_z-of_z}
use Rattle.std.proofs.lemmas.List.{get_or-map, get_or_past, get_or_append_left, get_or_push, get_or_default, length-map, get_or-set_same, get_or-set_other}
use Rattle.std.proofs.lemmas.List.{length-set, take_more, take_more_set, map-append}
use Rattle.std.proofs.lemmas.Bool.{ltb-true, ltb-false, eqb-true, eq-eqb, both_ways}
use Rattle.std.proofs.Math.Nat.{eq-or-lt_of_le}
use mir.Syntax.{w128}
use mir.Val.{SFits, to_z, of_z}
use Rattle.call_sets.specs.Counting.{has}
use Rattle.elevator_model.specs.declared.Call.{Call}
use Rattle.elevator_model.specs.Building.{Building}
use Rattle.elevator_model.specs.Snapshot.{Snapshot, call_count, call_of, no_call}
use Rattle.elevator_model.specs.Travel.{time_between}
use Rattle.price_scale.specs.Scale.{IsPrice, IsPriceSum}
use Rattle.elevator_model.specs.Costs.{cost_of_rider}
use Rattle.search_model.specs.Bounds.{cost_if_alone}
use Rattle.search_model.specs.Prices.{scaled, price_at}
use Rattle.tour_rules.specs.Leaving.{call_cost}
use Rattle.tour_rules.proofs.Settled.{cost_of_rider-call}
use Rattle.pricing_bound.specs.declared.rates.End.{End}
use Rattle.pricing_bound.specs.declared.rates.Rate.{Rate}
use Rattle.pricing_bound.specs.Rates.{AreEnds, AreRates, IsEnd, IsRate, wait_at}

-- ---- one rate

past : (m r p : ℕ) → m - r - p ≡ m - (r + p)
past m r p = omega arith

-- the products of the code and of the definition
multiplied : (persons ww pw tw ride wait late : ℕ)
    → persons * ww * wait + persons * pw * late + persons * tw * ride ≡ persons * ((ww * wait + pw * late) + tw * ride)
multiplied persons ww pw tw ride wait late = omega arith

cost_found : (b : Building) (call : Call) (boarded delivered : ℕ)
    → call.persons * b.wait_weight * (boarded - call.released) + call.persons * b.patience_weight *
    (boarded - (call.released + b.patience)) + call.persons * b.travel_weight * (delivered - boarded) ≡ call_cost b call boarded delivered
cost_found b call boarded delivered =
    multiplied call.persons b.wait_weight b.patience_weight b.travel_weight (delivered - boarded) (boarded - call.released)
    (boarded - (call.released + b.patience))
    ∙ ap (λ (x : ℕ). call.persons * ((b.wait_weight * (boarded - call.released) + b.patience_weight * x) + b.travel_weight * (delivered - boarded)))
    (sym (past boarded call.released b.patience))

-- the straight ride takes its time
straight : (s : Snapshot) (j : ℕ) (rate : Rate) (time : ℕ)
    → ((b d : ℕ) → (rate.wait * (b - rate.released) + rate.over * (b - rate.late)) + rate.travel * (d - b) ≡ cost_of_rider s j b d)
    → time ≡ time_between s.building.travel (call_of s j).origin (call_of s j).destination → rate.ride ≡ rate.travel * time → (m : ℕ)
    → (rate.wait * (m - rate.released) + rate.over * (m - rate.late)) + rate.ride ≡ cost_if_alone s j m
straight s j rate time cost is ride m =
    let whole : rate.ride ≡ rate.travel * (m + time - m) = ride ∙ ap (λ (x : ℕ). rate.travel * x) (sym (rides m time)) in
    ap (λ (x : ℕ). (rate.wait * (m - rate.released) + rate.over * (m - rate.late)) + x) whole ∙ cost m (m + time)
    ∙ ap (λ (t : ℕ). cost_of_rider s j m (m + t)) is
  where
    rides : (m t : ℕ) → m + t - m ≡ t
    rides m t = omega arith

pub rate_is : (s : Snapshot) (j : ℕ) (b : Building) (call : Call) (rate : Rate) (time : ℕ) → b ≡ s.building → call ≡ call_of s j → j < call_count s
    → time ≡ time_between b.travel call.origin call.destination → rate.released ≡ call.released → rate.late ≡ call.released + b.patience
    → rate.wait ≡ call.persons * b.wait_weight → rate.over ≡ call.persons * b.patience_weight → rate.travel ≡ call.persons * b.travel_weight
    → rate.ride ≡ rate.travel * time → rate.wait ≤ 8000 → rate.over ≤ 8000 → rate.travel ≤ 8000 → rate.to ≡ call.destination → rate.ride ≤ 160000000000
    → call.released ≤ 1000000000 → rate.price ≡ pos 0 → rate.below ≡ 0 → IsRate s j rate
rate_is s j b call rate time same_building same_call lt time_is released late wait over travel ride wait_small over_small travel_small to ride_small early
    price below =
    let cost = all_costs in
    record {
      cost = cost;
      alone = straight s j rate time cost
          (time_is ∙ ap (λ (x : Building). time_between x.travel call.origin call.destination) same_building
          ∙ ap (λ (x : Call). time_between s.building.travel x.origin x.destination) same_call) ride;
      wait = wait_small;
      over = over_small;
      travel = travel_small;
      to = to ∙ ap (λ (x : Call). x.destination) same_call;
      ride = ride_small;
      ordered = omega (arith, released, late);
      early = omega (arith, released, early);
      price = subst IsPrice (sym price) none_is_price;
      below = λ k before. absurd (omega (arith, before, below));
    }
  where
    none_is_price : IsPrice (pos 0)
    none_is_price = (omega (arith, ints), omega (arith, ints))

    all_costs : (m d : ℕ) → (rate.wait * (m - rate.released) + rate.over * (m - rate.late)) + rate.travel * (d - m) ≡ cost_of_rider s j m d
    all_costs m d =
        let code = ap (λ (x : ℕ). (x * (m - rate.released) + rate.over * (m - rate.late)) + rate.travel * (d - m)) wait
        ∙ ap (λ (x : ℕ). (call.persons * b.wait_weight * (m - rate.released) + x * (m - rate.late)) + rate.travel * (d - m)) over
        ∙ ap (λ (x : ℕ). (call.persons * b.wait_weight * (m - rate.released) + call.persons * b.patience_weight * (m - rate.late)) + x * (d - m)) travel
        ∙ ap (λ (x : ℕ). (call.persons * b.wait_weight * (m - x) + call.persons * b.patience_weight * (m - rate.late)) + call.persons * b.travel_weight *
        (d - m)) released ∙ ap (λ (x : ℕ).
        (call.persons * b.wait_weight * (m - call.released) + call.persons * b.patience_weight * (m - x)) + call.persons * b.travel_weight * (d - m))
        late in
        let of_call = ap (λ (x : Building). call_cost x call m d) same_building ∙ ap (λ (x : Call). call_cost s.building x m d) same_call in
        code ∙ cost_found b call m d ∙ of_call ∙ sym (cost_of_rider-call s j m d lt)

-- ---- how a wait grows

later_both : (wait over x y gap : ℕ) → wait * (x + gap) + over * (y + gap) ≡ wait * x + over * y + (wait + over) * gap
later_both wait over x y gap = omega arith

-- past its patience
pub late_even : (wait over r l m k : ℕ) → r ≤ l → l ≤ m → m ≤ k → wait * (k - r) + over * (k - l) ≡ wait * (m - r) + over * (m - l) + (wait + over) * (k - m)
late_even wait over r l m k ordered late later =
    let from : k - r ≡ (m - r) + (k - m) = omega (arith, ordered, late, later) in
    let past : k - l ≡ (m - l) + (k - m) = omega (arith, late, later) in
    ap (λ (x : ℕ). wait * x + over * (k - l)) from ∙ ap (λ (x : ℕ). wait * ((m - r) + (k - m)) + over * x) past ∙ later_both wait over (m - r) (m - l) (k - m)

pub late_next : (wait over r l m : ℕ) → r ≤ l → l ≤ m → wait * (m + 1 - r) + over * (m + 1 - l) ≡ wait * (m - r) + over * (m - l) + (wait + over)
late_next wait over r l m ordered late = late_even wait over r l m (m + 1) ordered late (omega arith)
    ∙ ap (λ (n : ℕ). wait * (m - r) + over * (m - l) + n) (one (wait + over) m)
  where
    one : (slope m : ℕ) → slope * (m + 1 - m) ≡ slope
    one slope m = let e : m + 1 - m ≡ 1 = omega arith in ap (λ (n : ℕ). slope * n) e ∙ times slope
      where
        times : (slope : ℕ) → slope * 1 ≡ slope
        times slope = omega arith

next_one : (wait over x : ℕ) → wait * (x + 1) + over * 0 ≡ wait * x + over * 0 + wait
next_one wait over x = omega arith

-- before its patience ends
pub early_next : (wait over r l m : ℕ) → r ≤ m → m < l → wait * (m + 1 - r) + over * (m + 1 - l) ≡ wait * (m - r) + over * (m - l) + wait
early_next wait over r l m begun early =
    let from : m + 1 - r ≡ (m - r) + 1 = omega (arith, begun) in
    let next : m + 1 - l ≡ 0 = omega (arith, early) in
    let none : m - l ≡ 0 = omega (arith, early) in
    ap (λ (x : ℕ). wait * x + over * (m + 1 - l)) from ∙ ap (λ (x : ℕ). wait * ((m - r) + 1) + over * x) next ∙ next_one wait over (m - r)
    ∙ ap (λ (x : ℕ). wait * (m - r) + over * x + wait) (sym none)

-- with the straight ride
pub alone_even : (s : Snapshot) (j : ℕ) (rate : Rate) (m k slope : ℕ) → IsRate s j rate → wait_at rate k ≡ wait_at rate m + slope * (k - m)
    → cost_if_alone s j k ≡ cost_if_alone s j m + slope * (k - m)
alone_even s j rate m k slope h even =
    let here = h.alone m in
    let later = h.alone k in
    omega (arith, here, later, even)

pub alone_rise : (s : Snapshot) (j : ℕ) (rate : Rate) (m slope : ℕ) → IsRate s j rate → wait_at rate (m + 1) ≡ wait_at rate m + slope
    → slope ≡ cost_if_alone s j (m + 1) - cost_if_alone s j m
alone_rise s j rate m slope h more =
    let here = h.alone m in
    let later = h.alone (m + 1) in
    omega (arith, here, later, more)

-- ---- the list

none_is_price : IsPrice (pos 0)
none_is_price = (omega (arith, ints), omega (arith, ints))

pub prices_are : (s : Snapshot) (rates : List Rate) (j : ℕ) → AreRates s rates → IsPrice (price_at (map (λ (rate : Rate). rate.price) rates) j)
prices_are s [] j h = none_is_price
prices_are s (first ∷ rates) j h = by_place (ltb j (length (first ∷ rates))) refl
  where
    by_place : (v : Bool) → ltb j (length (first ∷ rates)) ≡ v → IsPrice (price_at (map (λ (rate : Rate). rate.price) (first ∷ rates)) j)
    by_place true e =
        let lt = ltb-true j (length (first ∷ rates)) e in
        let size = h.size in
        subst IsPrice (sym (get_or-map (λ (rate : Rate). rate.price) (first ∷ rates) j first (pos 0) lt)) (h.each j first (omega (arith, lt, size))).price
    by_place false e =
        let past = ltb-false j (length (first ∷ rates)) e in
        let size = length-map (first ∷ rates) (λ (rate : Rate). rate.price) in
        subst IsPrice (sym (get_or_past (map (λ (rate : Rate). rate.price) (first ∷ rates)) j (pos 0) (omega (arith, past, size)))) none_is_price

pub price_read : (s : Snapshot) (rates : List Rate) (j : ℕ) (rate : Rate) → AreRates s rates → j < call_count s → rate ≡ get_or rates j rate
    → rate.price ≡ price_at (map (λ (r : Rate). r.price) rates) j
price_read s rates j rate h lt is =
    let size = h.size in
    ap (λ (r : Rate). r.price) is ∙ sym (get_or-map (λ (r : Rate). r.price) rates j rate (pos 0) (omega (arith, lt, size)))

pub rate_read : (s : Snapshot) (rates : List Rate) (j : ℕ) (rate : Rate) → AreRates s rates → j < call_count s → rate ≡ get_or rates j rate → IsRate s j rate
rate_read s rates j rate h lt is = subst (IsRate s j) (sym is) (h.each j rate lt)

-- this many rates
pub record AreFirstRates (s : Snapshot) (n : ℕ) (rates : List Rate) : Type 0 where
  pub size : length rates ≡ n
  pub each : (j : ℕ) (d : Rate) → j < n → IsRate s j (get_or rates j d)
  pub prices : map (λ (rate : Rate). rate.price) rates ≡ map (λ (_ : Call). pos 0) (take n s.calls)

pub no_rates : (s : Snapshot) (rates : List Rate) → rates ≡ [] → AreFirstRates s 0 rates
no_rates s rates e = record { size = ap length e; each = λ j d lt. absurd (omega arith); prices = ap (map (λ (rate : Rate). rate.price)) e }

pub rates_more : (s : Snapshot) (n : ℕ) (rates new : List Rate) (rate : Rate) → AreFirstRates s n rates → n < call_count s → new ≡ rates ++ rate ∷ []
    → IsRate s n rate → rate.price ≡ pos 0 → AreFirstRates s (n + 1) new
rates_more s n rates new rate h lt is here free =
    let one = length-append rates (rate ∷ []) in
    let all = ap length is in
    let old = h.size in
    record {
      size = omega (arith, one, all, old);
      each = λ j d less. subst (λ (xs : List Rate). IsRate s j (get_or xs j d)) (sym is) (elim (eq-or-lt_of_le (at_most j less)) [
        | inl e ↦ subst (λ (r : Rate). IsRate s j r) (sym (get_or_push rates rate d j (omega (arith, e, old))))
            (subst (λ (k : ℕ). IsRate s k rate) (sym e) here)
        | inr before ↦ subst (IsRate s j) (sym (get_or_append_left rates (rate ∷ []) d j (omega (arith, old, before)))) (h.each j d before)
      ]);
      prices = ap (map (λ (r : Rate). r.price)) is ∙ map-append (λ (r : Rate). r.price) rates (rate ∷ [])
          ∙ ap (λ (xs : List ℤ). xs ++ rate.price ∷ []) h.prices ∙ ap (λ (z : ℤ). map (λ (_ : Call). pos 0) (take n s.calls) ++ z ∷ []) free
          ∙ sym (ap (map (λ (_ : Call). pos 0)) (take_more s.calls n no_call lt)
          ∙ map-append (λ (_ : Call). pos 0) (take n s.calls) (get_or s.calls n no_call ∷ []));
    }
  where
    at_most : (k : ℕ) → k < n + 1 → k ≤ n
    at_most k lt = omega (arith, lt)

pub rates_set : (s : Snapshot) (rates new : List Rate) (j : ℕ) (rate : Rate) → AreRates s rates → j < length rates → new ≡ set rates j rate → IsRate s j rate
    → AreRates s new
rates_set s rates new j rate h lt new_is here =
    let size = h.size in
    let same = length-set rates j rate in
    let all = ap length new_is in
    record {
      size = omega (arith, size, same, all);
      each = λ k d less. subst (λ (xs : List Rate). IsRate s k (get_or xs k d)) (sym new_is) (by_place k d less (k == j) refl);
    }
  where
    by_place : (k : ℕ) (d : Rate) → k < call_count s → (v : Bool) → (k == j) ≡ v → IsRate s k (get_or (set rates j rate) k d)
    by_place k d less true e =
        let at = eqb-true k j e in
        subst (λ (i : ℕ). IsRate s i (get_or (set rates j rate) i d)) (sym at) (subst (IsRate s j) (sym (get_or-set_same rates j rate d lt)) here)
    by_place k d less false e = subst (IsRate s k) (sym (get_or-set_other rates j k rate d (λ at. both_ways (k == j) e (eq-eqb k j at)))) (h.each k d less)

pub prices_set : (rates new : List Rate) (prices : List ℤ) (j : ℕ) (rate : Rate) → map (λ (r : Rate). r.price) (take j rates) ≡ take j prices
    → j < length rates → j < length prices → rate.price ≡ get_or prices j rate.price → new ≡ set rates j rate
    → map (λ (r : Rate). r.price) (take (j + 1) new) ≡ take (j + 1) prices
prices_set rates new prices j rate so_far lt less is new_is =
    ap (λ (xs : List Rate). map (λ (r : Rate). r.price) (take (j + 1) xs)) new_is ∙ ap (map (λ (r : Rate). r.price)) (take_more_set rates j rate lt)
    ∙ map-append (λ (r : Rate). r.price) (take j rates) (rate ∷ []) ∙ ap (λ (xs : List ℤ). xs ++ rate.price ∷ []) so_far
    ∙ ap (λ (z : ℤ). take j prices ++ z ∷ []) is ∙ sym (take_more prices j rate.price less)

-- the entry that is read with a default
pub read_same : (rates : List Rate) (j : ℕ) (d : Rate) → j < length rates → get_or rates j d ≡ get_or rates j (get_or rates j d)
read_same rates j d lt = get_or_default rates j d (get_or rates j d) lt

pub all_rates : (s : Snapshot) (n : ℕ) (rates : List Rate) → AreFirstRates s n rates → n ≡ call_count s → AreRates s rates
all_rates s n rates h e = let size = h.size in record { size = omega (arith, size, e); each = λ j d lt. h.each j d (omega (arith, lt, e)) }

-- before an end the calls that are not early to it cost less than their prices
pub less_before : (s : Snapshot) (rates : List Rate) (ends : List End) (place : ℕ) (end : End) (j k : ℕ) → AreRates s rates → AreEnds rates ends
    → place < length ends → end ≡ get_or ends place end → k < end.until → j < call_count s → has end.early j ≡ false
    → int_lt (scaled (cost_if_alone s j k) -ℤ price_at (map (λ (rate : Rate). rate.price) rates) j) (pos 0) ≡ true
less_before s [] ends place end j k h are within is before lt late = let size = h.size in absurd (omega (arith, size, lt))
less_before s (first ∷ rates) ends place end j k h are within is before lt late =
    let all : List Rate = first ∷ rates in
    let size = h.size in
    let rate = get_or all j first in
    let inside : j < length all = omega (arith, size, lt) in
    let its = h.each j first lt in
    let told : end.until ≤ rate.below = subst (λ (e : End). IsEnd all e) (sym is) (are place end within) j first inside late in
    let price = price_read s all j rate h lt (read_same all j first inside) in
    let same = ap (λ (n : ℕ). int_lt (scaled n -ℤ rate.price) (pos 0)) (its.alone k)
    ∙ ap (λ (z : ℤ). int_lt (scaled (cost_if_alone s j k) -ℤ z) (pos 0)) price in
    sym same ∙ its.below k (omega (arith, before, told))

-- a number of 128 bits, written and read back
pub stored : (z : ℤ) → neg_ℤ (pos (10 ^ 30)) ≤ℤ z → z ≤ℤ pos (10 ^ 30) → to_z w128 (of_z w128 z) ≡ z
stored z low high = to_z-of_z w128 z (fits_128 z low high)
  where
    fits_128 : (z : ℤ) → neg_ℤ (pos (10 ^ 30)) ≤ℤ z → z ≤ℤ pos (10 ^ 30) → SFits w128 z
    fits_128 (pos n) low high = record { sfits = omega (arith, ints, high) }
    fits_128 (negsuc n) low high = record { sfits = omega (arith, ints, low) }

pub stored_price : (z : ℤ) → IsPrice z → to_z w128 (of_z w128 z) ≡ z
stored_price z h = let low = h.0 in let high = h.1 in stored z (omega (arith, ints, low)) (omega (arith, ints, high))

pub stored_is : (z : ℤ) (prices : List ℤ) (j : ℕ) (read : ℤ) → IsPrice z → z ≡ read → read ≡ get_or prices j read → j < length prices
    → to_z w128 (of_z w128 z) ≡ get_or prices j (to_z w128 (of_z w128 z))
stored_is z prices j read h same is lt = stored_price z h ∙ same ∙ is ∙ get_or_default prices j read (to_z w128 (of_z w128 z)) lt

pub stored_in_range : (z : ℤ) → IsPrice z → IsPrice (to_z w128 (of_z w128 z))
stored_in_range z h = subst IsPrice (sym (stored_price z h)) h

-- a term, as the code finds it
pub term_found : (cost price : ℤ) (z : ℕ) → cost ≡ scaled z → z ≤ 2 * 10 ^ 15 → IsPrice price
    → to_z w128 (of_z w128 (to_z w128 (of_z w128 cost) -ℤ to_z w128 (of_z w128 price))) ≡ scaled z -ℤ price
term_found cost price z is small h =
    let low = h.0 in
    let high = h.1 in
    let one = stored cost (omega (arith, ints, is)) (omega (arith, ints, is, small)) in
    let two = stored_price price h in
    let both : (to_z w128 (of_z w128 cost) -ℤ to_z w128 (of_z w128 price)) ≡ (scaled z -ℤ price) = ap (λ (x : ℤ). x -ℤ to_z w128 (of_z w128 price)) (one ∙ is)
    ∙ ap (λ (x : ℤ). scaled z -ℤ x) two in
    ap (λ (x : ℤ). to_z w128 (of_z w128 x)) both ∙ stored (scaled z -ℤ price) (omega (arith, ints, low, high)) (omega (arith, ints, small, low, high))

pub size_set : (rates new : List Rate) (n j : ℕ) (rate : Rate) → n ≡ length rates → new ≡ set rates j rate → n ≡ length new
size_set rates new n j rate e is =
    let same = length-set rates j rate in
    let all = ap length is in
    omega (arith, e, same, all)

pub stored_paid : (z : ℤ) → IsPriceSum z → to_z w128 (of_z w128 z) ≡ z
stored_paid z h = let low = h.0 in let high = h.1 in stored z (omega (arith, ints, low)) (omega (arith, ints, high))

pub stored_term : (z : ℤ) → neg_ℤ (pos (2 * 10 ^ 24)) ≤ℤ z → z ≤ℤ pos (2 * 10 ^ 24) → to_z w128 (of_z w128 z) ≡ z
stored_term z low high = stored z (omega (arith, ints, low)) (omega (arith, ints, high))

pub stored_less : (x y : ℤ) → neg_ℤ (pos (10 ^ 29)) ≤ℤ x → x ≤ℤ pos (10 ^ 29) → IsPriceSum y
    → to_z w128 (of_z w128 (to_z w128 (of_z w128 x) -ℤ to_z w128 (of_z w128 y))) ≡ x -ℤ y
stored_less x y a b h =
    let c = h.0 in
    let d = h.1 in
    let one = stored x (omega (arith, ints, a)) (omega (arith, ints, b)) in
    let two = stored_paid y h in
    let both : (to_z w128 (of_z w128 x) -ℤ to_z w128 (of_z w128 y)) ≡ (x -ℤ y) = ap (λ (z : ℤ). z -ℤ to_z w128 (of_z w128 y)) one
    ∙ ap (λ (z : ℤ). x -ℤ z) two in
    ap (λ (z : ℤ). to_z w128 (of_z w128 z)) both ∙ stored (x -ℤ y) (omega (arith, ints, a, d)) (omega (arith, ints, b, c))
