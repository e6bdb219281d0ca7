-- What a mixture costs, against prices and worths at the root.
use Rattle.std.proofs.Common.{◌≡◌, ℕ, zero, suc, ◌+◌, ◌*◌, ◌<◌, ◌==◌, Bool, true, false, not, cond, List, [], ◌∷◌, map, ℤ, pos, ◌+ℤ◌, ◌-ℤ◌, ◌*ℤ◌, ◌≤ℤ◌, refl}
use Rattle.std.proofs.Common.{sym, ap, ◌∙◌, subst, inl, inr, arith}
use Rattle.std.specs.Prelude.{nat_lt, count_by, All}
use Rattle.std.specs.List.{list_all}
use Rattle.std.proofs.lemmas.Int.{ints}
use Rattle.std.proofs.lemmas.Bool.{cases_Bool, and_parts, eqb-true, cond-false}
use Rattle.std.proofs.lemmas.List.Elements.{All-head, All-tail}
use Rattle.std.proofs.lemmas.List.Sums.{sum_by-cons}
use Rattle.call_sets.specs.Counting.{any_below}
use Rattle.elevator_model.specs.Snapshot.{Snapshot, call_count, car_count}
use Rattle.elevator_model.specs.Costs.{cost_of}
use Rattle.elevator_model.specs.Plans.{is_boarded_in}
use Rattle.search_model.specs.declared.PriceOf.{PriceOf}
use Rattle.search_model.specs.declared.WorthOf.{WorthOf}
use Rattle.search_model.specs.Sums.{int_sum_below, int_sum_where, int_sum_by}
use Rattle.search_model.specs.Nodes.{root_of}
use Rattle.search_model.specs.Prices.{scaled, prices_of_tour, value_of, IsWorth}
use Rattle.search_model.specs.Certificates.{are_each_once, price_in, worth_in, sum_of_leaf}
use Rattle.search_model.proofs.SumLemmas.{int_sum-same, int_sum-at}
use Rattle.search_model.proofs.LeafLemmas.{int_sum_by-keys}
use Rattle.half_plans.specs.declared.Share.{Share}
use Rattle.half_plans.specs.Mixtures.{weight_where, mixture_cost, IsShare, IsMixture, MixtureLaw}

-- ---- weights times numbers

times_le : (w : ℕ) (a b : ℤ) → a ≤ℤ b → (pos w *ℤ a) ≤ℤ (pos w *ℤ b)
times_le zero a b h = omega (arith, ints)
times_le (suc w) a b h = (let rest = times_le w a b h in omega (arith, ints, rest, h))

weighed : (w cost : ℕ) (p : ℤ) → (pos w *ℤ (scaled cost -ℤ p)) ≡ (scaled (w * cost) -ℤ (pos w *ℤ p))
weighed zero cost p = omega (arith, ints)
weighed (suc w) cost p = (let rest = weighed w cost p in omega (arith, ints, rest))

spread : (w : ℕ) (a b : ℤ) → (pos w *ℤ (a +ℤ b)) ≡ ((pos w *ℤ a) +ℤ (pos w *ℤ b))
spread zero a b = omega (arith, ints)
spread (suc w) a b = (let rest = spread w a b in omega (arith, ints, rest))

no_times : (w : ℕ) → (pos w *ℤ pos 0) ≡ pos 0
no_times zero = refl
no_times (suc w) = (let rest = no_times w in omega (arith, ints, rest))

into : (b : Bool) (w : ℕ) (a z : ℤ) → (pos w *ℤ (a +ℤ cond b z (pos 0))) ≡ ((pos w *ℤ a) +ℤ cond b (pos w *ℤ z) (pos 0))
into true w a z = spread w a z
into false w a z = spread w a (pos 0) ∙ ap (λ (y : ℤ). (pos w *ℤ a) +ℤ y) (no_times w)

one_more : (b : Bool) (w rest : ℕ) (z : ℤ) → (cond b (pos w *ℤ z) (pos 0) +ℤ (pos rest *ℤ z)) ≡ (pos (cond b w 0 + rest) *ℤ z)
one_more true w rest z = omega (arith, ints)
one_more false w rest z = omega (arith, ints)

-- ---- sums over the shares, the other way round

none_weighed : (n : ℕ) (f : ℕ → ℤ) → int_sum_below n (λ j. pos 0 *ℤ f j) ≡ pos 0
none_weighed zero f = refl
none_weighed (suc n) f = (let before = none_weighed n f in omega (arith, ints, before))

share_more : (n : ℕ) (test : ℕ → Bool) (w : ℕ) (weights : ℕ → ℕ) (f : ℕ → ℤ)
    → ((pos w *ℤ int_sum_where n test f) +ℤ int_sum_below n (λ j. pos (weights j) *ℤ f j)) ≡ int_sum_below n (λ j. pos (cond (test j) w 0 + weights j) *ℤ f j)
share_more zero test w weights f = omega (arith, ints)
share_more (suc n) test w weights f =
    let before = share_more n test w weights f in
    let split = into (test n) w (int_sum_where n test f) (f n) in
    let here = one_more (test n) w (weights n) (f n) in
    omega (arith, ints, before, split, here)

by_test : (n : ℕ) (test : Share → ℕ → Bool) (f : ℕ → ℤ) (shares : List Share)
    → int_sum_by (λ (x : Share). pos x.weight *ℤ int_sum_where n (test x) f) shares
    ≡ int_sum_below n (λ j. pos (weight_where (λ (x : Share). test x j) shares) *ℤ f j)
by_test n test f [] = sym (none_weighed n f)
by_test n test f (x ∷ shares) =
    ap (λ (z : ℤ). (pos x.weight *ℤ int_sum_where n (test x) f) +ℤ z) (by_test n test f shares)
    ∙ share_more n (test x) x.weight (λ j. weight_where (λ (y : Share). test y j) shares) f
    ∙ int_sum-same n (λ j. pos (cond (test x j) x.weight 0 + weight_where (λ (y : Share). test y j) shares) *ℤ f j)
    (λ j. pos (weight_where (λ (y : Share). test y j) (x ∷ shares)) *ℤ f j)
    (λ j lt. ap (λ (k : ℕ). pos k *ℤ f j) (sym (sum_by-cons (λ (y : Share). cond (test y j) y.weight 0) x shares)))

evenly : (n : ℕ) (weights : ℕ → ℕ) (whole : ℕ) (f : ℕ → ℤ) → ((j : ℕ) → j < n → weights j ≡ whole)
    → int_sum_below n (λ j. pos (weights j) *ℤ f j) ≡ (pos whole *ℤ int_sum_below n f)
evenly zero weights whole f same = omega (arith, ints)
evenly (suc n) weights whole f same =
    let before = evenly n weights whole f (λ j lt. same j (omega (arith, lt))) in
    let here = ap (λ (k : ℕ). pos k *ℤ f n) (same n (omega arith)) in
    let split = spread whole (int_sum_below n f) (f n) in
    omega (arith, ints, before, here, split)

-- ---- the worth of one car

same_key : (a k : ℕ) (f : ℕ → ℤ) → cond (a == k) (f k) (pos 0) ≡ cond (a == k) (f a) (pos 0)
same_key a k f =
    elim (cases_Bool (a == k)) [
      | inl e ↦ ap (λ (i : ℕ). cond (a == k) (f i) (pos 0)) (sym (eqb-true a k e))
      | inr e ↦ cond-false (a == k) (f k) (pos 0) e ∙ sym (cond-false (a == k) (f a) (pos 0) e)
    ]

at_car : (n a : ℕ) (f : ℕ → ℤ) → a < n → int_sum_where n (λ k. a == k) f ≡ f a
at_car n a f lt =
    int_sum-same n (λ k. cond (a == k) (f k) (pos 0)) (λ k. cond (a == k) (f a) (pos 0)) (λ k _. same_key a k f) ∙ int_sum-at n a (f a) lt

-- ---- a mixture against prices and worths

abbrev worth_of_share : Snapshot → (ℕ → ℤ) → Share → ℤ
worth_of_share s worth x = pos x.weight *ℤ int_sum_where (car_count s) (λ c. x.car == c) worth

abbrev prices_of_share : Snapshot → (ℕ → ℤ) → Share → ℤ
prices_of_share s price x = pos x.weight *ℤ int_sum_where (call_count s) (is_boarded_in x.tour) price

module _ (s : Snapshot) (price worth : ℕ → ℤ) (worths : (c : ℕ) → c < car_count s → IsWorth s (root_of s) c price (worth c)) where
  share_le : (x : Share) → IsShare s x → worth_of_share s worth x ≤ℤ (scaled (x.weight * cost_of s x.car x.tour) -ℤ prices_of_share s price x)
  share_le x is =
      let at : int_sum_where (car_count s) (λ c. x.car == c) worth ≡ worth x.car = at_car (car_count s) x.car worth is.car in
      let low = times_le x.weight (worth x.car) (value_of s x.car price x.tour) (worths x.car is.car x.tour is.tour) in
      subst (λ (z : ℤ). (pos x.weight *ℤ z) ≤ℤ (scaled (x.weight * cost_of s x.car x.tour) -ℤ prices_of_share s price x)) (sym at)
      (subst (λ (z : ℤ). (pos x.weight *ℤ worth x.car) ≤ℤ z) (weighed x.weight (cost_of s x.car x.tour) (prices_of_tour s price x.tour)) low)

  shares_le : (shares : List Share) → All (IsShare s) shares
      → int_sum_by (worth_of_share s worth) shares ≤ℤ (scaled (mixture_cost s shares) -ℤ int_sum_by (prices_of_share s price) shares)
  shares_le [] all = omega (arith, ints)
  shares_le (x ∷ shares) all =
      let first = share_le x (All-head (IsShare s) x shares all) in
      let rest = shares_le shares (All-tail (IsShare s) x shares all) in
      let costs = sum_by-cons (λ (y : Share). y.weight * cost_of s y.car y.tour) x shares in
      omega (arith, ints, first, rest, costs)

  -- whatever prices and worths at the root are, the whole times their sum is no more than the cost in thousandths
  pub mixture-le : (shares : List Share) (whole cost : ℕ) → IsMixture s shares whole cost
      → (pos whole *ℤ (int_sum_below (call_count s) price +ℤ int_sum_below (car_count s) worth)) ≤ℤ scaled cost
  mixture-le shares whole cost is =
      let all = shares_le shares is.each in
      let cars = by_test (car_count s) (λ x c. x.car == c) worth shares
      ∙ evenly (car_count s) (λ c. weight_where (λ (x : Share). x.car == c) shares) whole worth is.cars in
      let calls = by_test (call_count s) (λ x j. is_boarded_in x.tour j) price shares
      ∙ evenly (call_count s) (λ j. weight_where (λ (x : Share). is_boarded_in x.tour j) shares) whole price is.calls in
      let costs = is.cost in
      let split = spread whole (int_sum_below (call_count s) price) (int_sum_below (car_count s) worth) in
      omega (arith, ints, all, cars, calls, costs, split)

pub mixture_bounds : MixtureLaw
mixture_bounds s shares whole cost leaf is root =
    let both = and_parts (are_each_once (call_count s) (map (λ (p : PriceOf). p.call) leaf.prices))
    (are_each_once (car_count s) (map (λ (w : WorthOf). w.car) leaf.worths)) root.whole in
    let calls = and_parts (list_all (λ k. nat_lt k (call_count s)) (map (λ (p : PriceOf). p.call) leaf.prices))
    (not (any_below (call_count s) (λ k. not (count_by (λ x. x == k) (map (λ (p : PriceOf). p.call) leaf.prices) == 1)))) both.0 in
    let cars = and_parts (list_all (λ k. nat_lt k (car_count s)) (map (λ (w : WorthOf). w.car) leaf.worths))
    (not (any_below (car_count s) (λ k. not (count_by (λ x. x == k) (map (λ (w : WorthOf). w.car) leaf.worths) == 1)))) both.1 in
    let prices : int_sum_below (call_count s) (price_in leaf) ≡ int_sum_by (λ (p : PriceOf). p.price) leaf.prices =
    int_sum_by-keys (call_count s) (λ (p : PriceOf). p.call) (λ (p : PriceOf). p.price) leaf.prices calls.0 in
    let stated : int_sum_below (car_count s) (worth_in leaf) ≡ int_sum_by (λ (w : WorthOf). w.worth) leaf.worths =
    int_sum_by-keys (car_count s) (λ (w : WorthOf). w.car) (λ (w : WorthOf). w.worth) leaf.worths cars.0 in
    let sums : (int_sum_below (call_count s) (price_in leaf) +ℤ int_sum_below (car_count s) (worth_in leaf)) ≡ sum_of_leaf leaf =
    ap (λ (z : ℤ). z +ℤ int_sum_below (car_count s) (worth_in leaf)) prices ∙ ap (λ (z : ℤ). int_sum_by (λ (p : PriceOf). p.price) leaf.prices +ℤ z) stated
    in
    subst (λ (z : ℤ). (pos whole *ℤ z) ≤ℤ scaled cost) sums (mixture-le s (price_in leaf) (worth_in leaf) root.worths shares whole cost is)
