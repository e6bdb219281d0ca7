-- The rates of calls, one by one and as a list.
use Rattle.std.proofs.Common.{◌≡◌, ℕ, ◌+◌, ◌-◌, ◌*◌, ◌/◌, ◌<◌, ◌≤◌, Bool, true, false, cond, List, set, length, get_or, sym, ap, ◌∙◌, subst, inl, inr, arith}
use Rattle.std.specs.Prelude.{ℤ, pos, neg_ℤ, ◌-ℤ◌, ◌≤ℤ◌, int_lt}
use Rattle.std.proofs.lemmas.Int.{ints}
use Rattle.std.proofs.lemmas.List.{get_or-set_same, get_or-set_other, length-set}
use Rattle.std.proofs.Math.Nat.{eq-or-lt_of_le, lt-mul-div-succ, mul-le-mul_left}
use Rattle.elevator_model.specs.declared.Call.{Call}
use Rattle.elevator_model.specs.Building.{Building}
use Rattle.elevator_model.specs.Snapshot.{Snapshot, call_count, call_of}
use Rattle.search_model.specs.Prices.{scaled}
use Rattle.tour_rules.specs.Leaving.{call_cost}
use Rattle.tour_rules.proofs.Settled.{cost_of_rider-call}
use Rattle.route_bound.specs.ForcedRoute.{cost_if_boarded, least_ride}
use Rattle.route_sums.specs.CallRates.{IsCallRate}
use Rattle.route_sums.specs.Rows.{HasRow, cost_at}
use Rattle.route_sums.specs.declared.rates.CallRate.{CallRate}

-- ---- one rate

past : (m r p : ℕ) → m - (r + p) ≡ m - r - p
past m r p = omega arith

-- the products of the code and of the definition
multiplied : (persons ww pw tw ride wait late : ℕ)
    → (persons * ww * wait + persons * pw * late) + persons * tw * ride ≡ persons * ((ww * wait + pw * late) + tw * ride)
multiplied persons ww pw tw ride wait late = omega arith

rode : (m t : ℕ) → t ≡ m + t - m
rode m t = omega arith

cost_found : (b : Building) (call : Call) (rate : CallRate) (t m : ℕ) → rate.released ≡ call.released → rate.late ≡ call.released + b.patience
    → rate.wait ≡ call.persons * b.wait_weight → rate.over ≡ call.persons * b.patience_weight → rate.ride ≡ call.persons * b.travel_weight * t
    → cost_at rate m ≡ call_cost b call m (m + t)
cost_found b call rate t m released late wait over ride =
    let p = call.persons in
    let code : cost_at rate m
    ≡ (p * b.wait_weight * (m - call.released) + p * b.patience_weight * (m - (call.released + b.patience))) + p * b.travel_weight * t =
    ap (λ (x : ℕ). (x * (m - rate.released) + rate.over * (m - rate.late)) + rate.ride) wait
    ∙ ap (λ (x : ℕ). (p * b.wait_weight * (m - x) + rate.over * (m - rate.late)) + rate.ride) released
    ∙ ap (λ (x : ℕ). (p * b.wait_weight * (m - call.released) + x * (m - rate.late)) + rate.ride) over
    ∙ ap (λ (x : ℕ). (p * b.wait_weight * (m - call.released) + p * b.patience_weight * (m - x)) + rate.ride) late
    ∙ ap (λ (x : ℕ). (p * b.wait_weight * (m - call.released) + p * b.patience_weight * (m - (call.released + b.patience))) + x) ride in
    code ∙ ap (λ (x : ℕ). (p * b.wait_weight * (m - call.released) + p * b.patience_weight * x) + p * b.travel_weight * t) (past m call.released b.patience)
    ∙ multiplied p b.wait_weight b.patience_weight b.travel_weight t (m - call.released) (m - call.released - b.patience)
    ∙ ap (λ (x : ℕ). p * ((b.wait_weight * (m - call.released) + b.patience_weight * (m - call.released - b.patience)) + b.travel_weight * x)) (rode m t)

not_counted : (r : Bool) (t : ℤ) → r ≡ false → pos 0 ≤ℤ t → cond r t (cond (int_lt t (pos 0)) t (pos 0)) ≡ pos 0
not_counted true t e h = absurd (cc)
not_counted false t e h = grind (arith, ints, h)

pub rate_is : (s : Snapshot) (c j : ℕ) (b : Building) (call : Call) (rate : CallRate) (price : ℤ) (required : Bool) (time : ℕ) → b ≡ s.building
    → call ≡ call_of s j → j < call_count s → time ≡ least_ride s c j → rate.origin ≡ call.origin → rate.released ≡ call.released
    → rate.late ≡ call.released + b.patience → rate.wait ≡ call.persons * b.wait_weight → rate.over ≡ call.persons * b.patience_weight
    → rate.ride ≡ call.persons * b.travel_weight * time → rate.wait ≤ 8000 → rate.over ≤ 8000 → rate.ride ≤ 1600000000000 → rate.price ≡ price
    → rate.is_required ≡ required → rate.released ≤ 1000000000 → (rate.has_row ≡ true → HasRow required price)
    → ((k : ℕ) → k ≤ 99100000000 → rate.enough ≤ k → (required ≡ false) × (pos 0 ≤ℤ (scaled (rate.wait * (k - rate.released) + rate.ride) -ℤ price)))
    → IsCallRate s c j price required rate
rate_is s c j b call rate price required time same_building same_call lt time_is origin released late wait over ride wait_small over_small ride_small price_is
    binds free has_row enough =
    let cost : (m : ℕ) → cost_at rate m ≡ cost_if_boarded s c j m = λ m. cost_found b call rate time m released late wait over ride
    ∙ ap (λ (x : Building). call_cost x call m (m + time)) same_building ∙ ap (λ (x : Call). call_cost s.building x m (m + time)) same_call
    ∙ ap (λ (t : ℕ). call_cost s.building (call_of s j) m (m + t)) time_is ∙ sym (cost_of_rider-call s j m (m + least_ride s c j) lt) in
    record {
      origin = origin ∙ ap (λ (x : Call). x.origin) same_call;
      binds = binds;
      cost = cost;
      wait = wait_small;
      over = over_small;
      ride = ride_small;
      worth = price_is;
      released = free;
      has_row = has_row;
      enough = λ m early le. let at = enough m early le in
          not_counted required (scaled (cost_if_boarded s c j m) -ℤ price) at.0
          (more (rate.wait * (m - rate.released)) (rate.over * (m - rate.late)) rate.ride (cost_if_boarded s c j m) price at.1 (cost m));
    }
  where
    more : (x y r cost : ℕ) (price : ℤ) → pos 0 ≤ℤ (scaled (x + r) -ℤ price) → (x + y) + r ≡ cost → pos 0 ≤ℤ (scaled cost -ℤ price)
    more x y r cost price h e = omega (arith, ints, h, e)

-- ---- the moment from which on it adds nothing

regrouped : (w t : ℕ) → 1000 * w * t ≡ 1000 * (w * t)
regrouped w t = omega arith

pub enough_at : (wait released ride k depth : ℕ) (price term : ℤ) → 0 < 1000 * wait → pos depth ≡ neg_ℤ term → term ≡ scaled ride -ℤ price
    → released + depth / (1000 * wait) + 1 ≤ k → pos 0 ≤ℤ (scaled (wait * (k - released) + ride) -ℤ price)
enough_at wait released ride k depth price term some deep is le =
    let lt = lt-mul-div-succ depth some in
    let waited = mul-le-mul_left (1000 * wait) (long (depth / (1000 * wait)) le) in
    closed depth (1000 * wait * (depth / (1000 * wait) + 1)) (wait * (k - released)) deep lt (through waited (regrouped wait (k - released)))
  where
    long : (q : ℕ) → released + q + 1 ≤ k → q + 1 ≤ k - released
    long q h = omega (arith, h)

    through : {u v w : ℕ} → u ≤ v → v ≡ w → u ≤ w
    through h e = omega (arith, h, e)

    closed : (gap most waits : ℕ) → pos gap ≡ neg_ℤ term → gap < most → most ≤ 1000 * waits → pos 0 ≤ℤ (scaled (waits + ride) -ℤ price)
    closed gap most waits deep lt le = omega (arith, ints, is, deep, lt, le)

-- ---- the list

-- those before a place are set
pub record AreSetBefore (s : Snapshot) (c : ℕ) (prices : ℕ → ℤ) (required : ℕ → Bool) (n : ℕ) (rates : List CallRate) : Type 0 where
  pub size : length rates ≡ call_count s
  pub each : (j : ℕ) (d : CallRate) → j < n → IsCallRate s c j (prices j) (required j) (get_or rates j d)

pub one_set : (s : Snapshot) (c : ℕ) (prices : ℕ → ℤ) (required : ℕ → Bool) (n : ℕ) (rates new : List CallRate) (rate : CallRate)
    → AreSetBefore s c prices required n rates → n < call_count s → IsCallRate s c n (prices n) (required n) rate → new ≡ set rates n rate
    → AreSetBefore s c prices required (n + 1) new
one_set s c prices required n rates new rate h lt is same =
    subst (AreSetBefore s c prices required (n + 1)) (sym same) (record {
      size = length-set rates n rate ∙ h.size;
      each = λ j d before. elim (eq-or-lt_of_le (below before)) [
        | inl e ↦ subst (λ (k : ℕ). IsCallRate s c k (prices k) (required k) (get_or (set rates n rate) k d)) (sym e)
            (subst (IsCallRate s c n (prices n) (required n)) (sym (get_or-set_same rates n rate d (let size = h.size in omega (arith, lt, size)))) is)
        | inr less ↦ subst (IsCallRate s c j (prices j) (required j)) (sym (get_or-set_other rates n j rate d (λ e. absurd (omega (arith, e, less)))))
            (h.each j d less)
      ];
    })
  where
    below : {j : ℕ} → j < n + 1 → j ≤ n
    below h = omega (arith, h)
