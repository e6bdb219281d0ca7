-- What the leaf that a sheet states has for each call and car.
use Rattle.std.proofs.Common.{◌≡◌, ℕ, zero, suc, ◌+◌, ◌<◌, ◌≤◌, ◌==◌, Bool, true, false, not, cond, List, [], ◌∷◌, length, map, get_or, refl, ap, ◌∙◌, inl, inr}
use Rattle.std.proofs.Common.{arith}
use Rattle.std.specs.Prelude.{ℤ, pos, ◌+ℤ◌, nat_lt, count_by, sum_by}
use Rattle.std.specs.List.{list_all}
use Rattle.std.proofs.lemmas.Int.{ints}
use Rattle.std.proofs.lemmas.Bool.{cases_lt, cases_eq, both_ways, and_from, eqb-true, eq-eqb, not_from_false, lt-ltb}
use Rattle.std.proofs.lemmas.List.Sums.{sum_by-cons}
use Rattle.call_sets.proofs.BelowTests.{any_below-none}
use Rattle.search_model.specs.declared.PriceOf.{PriceOf}
use Rattle.search_model.specs.declared.WorthOf.{WorthOf}
use Rattle.search_model.specs.Sums.{int_sum_by}
use Rattle.call_sets.specs.Counting.{any_below}
use Rattle.elevator_model.specs.Snapshot.{Snapshot, car_count, call_count}
use Rattle.search_model.specs.Prices.{price_at}
use Rattle.search_model.specs.Certificates.{price_in, worth_in, claim_in, sum_of_leaf, are_each_once, has_whole_lists}
use Rattle.search_tree.specs.Sheets.{PriceSheet, worth_of_car, sum_of_worths, sum_of_sheet, prices_from, worths_from, leaf_with}

-- ---- sums

prices_from-sum : (i : ℕ) (prices : List ℤ) → int_sum_by (λ (p : PriceOf). p.price) (prices_from i prices) ≡ int_sum_by (λ (x : ℤ). x) prices
prices_from-sum i [] = refl
prices_from-sum i (x ∷ prices) = ap (λ (z : ℤ). x +ℤ z) (prices_from-sum (i + 1) prices)

worths_from-sum : (claim i : ℕ) (worths : List ℤ) → int_sum_by (λ (w : WorthOf). w.worth) (worths_from claim i worths) ≡ sum_of_worths worths
worths_from-sum claim i [] = refl
worths_from-sum claim i (w ∷ worths) = ap (λ (z : ℤ). w +ℤ z) (worths_from-sum claim (i + 1) worths)

pub sum_of_leaf-sheet : (claim : ℕ) (sheet : PriceSheet) → sum_of_leaf (leaf_with claim sheet) ≡ sum_of_sheet sheet
sum_of_leaf-sheet claim sheet =
    ap (λ (z : ℤ). z +ℤ int_sum_by (λ (w : WorthOf). w.worth) (worths_from claim 0 sheet.worths)) (prices_from-sum 0 sheet.prices)
    ∙ ap (λ (z : ℤ). int_sum_by (λ (x : ℤ). x) sheet.prices +ℤ z) (worths_from-sum claim 0 sheet.worths)

-- ---- what is stated of one

neq : (i j : ℕ) → (i ≡ j → ⊥) → (i == j) ≡ false
neq i j ne = elim (cases_eq i j) [ inl e ↦ absurd (ne e) | inr _ ↦ neq_by (i == j) refl ]
  where
    neq_by : (b : Bool) → (i == j) ≡ b → (i == j) ≡ false
    neq_by true e = absurd (ne (eqb-true i j e))
    neq_by false e = e

zero_plus : (z : ℤ) → (pos 0 +ℤ z) ≡ z
zero_plus z = omega (arith, ints)

plus_zero : (z : ℤ) → (z +ℤ pos 0) ≡ z
plus_zero z = omega (arith, ints)

abbrev stated_price : ℕ → List PriceOf → ℤ
stated_price j xs = int_sum_by (λ (p : PriceOf). cond (p.call == j) p.price (pos 0)) xs

-- a call before the first one is not stated
price-before : (i j : ℕ) (prices : List ℤ) → j < i → stated_price j (prices_from i prices) ≡ pos 0
price-before i j [] lt = refl
price-before i j (x ∷ prices) lt =
    ap (λ (b : Bool). cond b x (pos 0) +ℤ stated_price j (prices_from (i + 1) prices)) (neq i j (λ e. omega (arith, e, lt)))
    ∙ zero_plus (stated_price j (prices_from (i + 1) prices)) ∙ price-before (i + 1) j prices (omega (arith, lt))

price-at : (i k j : ℕ) (prices : List ℤ) → i + k ≡ j → stated_price j (prices_from i prices) ≡ get_or prices k (pos 0)
price-at i k j [] e = refl
price-at i zero j (x ∷ prices) e =
    ap (λ (b : Bool). cond b x (pos 0) +ℤ stated_price j (prices_from (i + 1) prices)) (eq-eqb i j (omega (arith, e)))
    ∙ ap (λ (z : ℤ). x +ℤ z) (price-before (i + 1) j prices (omega (arith, e))) ∙ plus_zero x
price-at i (suc k) j (x ∷ prices) e =
    ap (λ (b : Bool). cond b x (pos 0) +ℤ stated_price j (prices_from (i + 1) prices)) (neq i j (λ same. omega (arith, e, same)))
    ∙ zero_plus (stated_price j (prices_from (i + 1) prices)) ∙ price-at (i + 1) k j prices (omega (arith, e))

pub price_in-sheet : (claim : ℕ) (sheet : PriceSheet) → price_in (leaf_with claim sheet) ≡ price_at sheet.prices
price_in-sheet claim sheet = λ i j. price-at 0 j j sheet.prices (omega arith) i

abbrev stated_worth : ℕ → List WorthOf → ℤ
stated_worth c xs = int_sum_by (λ (w : WorthOf). cond (w.car == c) w.worth (pos 0)) xs

worth-before : (claim i c : ℕ) (worths : List ℤ) → c < i → stated_worth c (worths_from claim i worths) ≡ pos 0
worth-before claim i c [] lt = refl
worth-before claim i c (w ∷ worths) lt =
    ap (λ (b : Bool). cond b w (pos 0) +ℤ stated_worth c (worths_from claim (i + 1) worths)) (neq i c (λ e. omega (arith, e, lt)))
    ∙ zero_plus (stated_worth c (worths_from claim (i + 1) worths)) ∙ worth-before claim (i + 1) c worths (omega (arith, lt))

worth-at : (claim i k c : ℕ) (worths : List ℤ) → i + k ≡ c → stated_worth c (worths_from claim i worths) ≡ get_or worths k (pos 0)
worth-at claim i k c [] e = refl
worth-at claim i zero c (w ∷ worths) e =
    ap (λ (b : Bool). cond b w (pos 0) +ℤ stated_worth c (worths_from claim (i + 1) worths)) (eq-eqb i c (omega (arith, e)))
    ∙ ap (λ (z : ℤ). w +ℤ z) (worth-before claim (i + 1) c worths (omega (arith, e))) ∙ plus_zero w
worth-at claim i (suc k) c (w ∷ worths) e =
    ap (λ (b : Bool). cond b w (pos 0) +ℤ stated_worth c (worths_from claim (i + 1) worths)) (neq i c (λ same. omega (arith, e, same)))
    ∙ zero_plus (stated_worth c (worths_from claim (i + 1) worths)) ∙ worth-at claim (i + 1) k c worths (omega (arith, e))

pub worth_in-sheet : (claim : ℕ) (sheet : PriceSheet) (c : ℕ) → worth_in (leaf_with claim sheet) c ≡ worth_of_car sheet c
worth_in-sheet claim sheet c = worth-at claim 0 c c sheet.worths (omega arith)

abbrev stated_claim : ℕ → List WorthOf → ℕ
stated_claim c xs = sum_by (λ (w : WorthOf). cond (w.car == c) w.claim 0) xs

claims-cons : (claim i c : ℕ) (w : ℤ) (worths : List ℤ)
    → stated_claim c (worths_from claim i (w ∷ worths)) ≡ cond (i == c) claim 0 + stated_claim c (worths_from claim (i + 1) worths)
claims-cons claim i c w worths =
    sum_by-cons (λ (v : WorthOf). cond (v.car == c) v.claim 0) (record { car = i; worth = w; claim = claim }) (worths_from claim (i + 1) worths)

claim-before : (claim i c : ℕ) (worths : List ℤ) → c < i → stated_claim c (worths_from claim i worths) ≡ 0
claim-before claim i c [] lt = refl
claim-before claim i c (w ∷ worths) lt =
    claims-cons claim i c w worths
    ∙ ap (λ (b : Bool). cond b claim 0 + stated_claim c (worths_from claim (i + 1) worths)) (neq i c (λ e. omega (arith, e, lt)))
    ∙ (let none = claim-before claim (i + 1) c worths (omega (arith, lt)) in omega (arith, none))

claim-at : (claim i k c : ℕ) (worths : List ℤ) → i + k ≡ c → k < length worths → stated_claim c (worths_from claim i worths) ≡ claim
claim-at claim i k c [] e lt = absurd (omega (arith, lt))
claim-at claim i zero c (w ∷ worths) e lt =
    claims-cons claim i c w worths ∙ ap (λ (b : Bool). cond b claim 0 + stated_claim c (worths_from claim (i + 1) worths)) (eq-eqb i c (omega (arith, e)))
    ∙ (let none = claim-before claim (i + 1) c worths (omega (arith, e)) in omega (arith, none))
claim-at claim i (suc k) c (w ∷ worths) e lt =
    claims-cons claim i c w worths
    ∙ ap (λ (b : Bool). cond b claim 0 + stated_claim c (worths_from claim (i + 1) worths)) (neq i c (λ same. omega (arith, e, same)))
    ∙ (let rest = claim-at claim (i + 1) k c worths (omega (arith, e)) (omega (arith, lt)) in omega (arith, rest))

pub claim_in-sheet : (claim : ℕ) (sheet : PriceSheet) (c : ℕ) → c < length sheet.worths → claim_in (leaf_with claim sheet) c ≡ claim
claim_in-sheet claim sheet c lt = claim-at claim 0 c c sheet.worths (omega arith) lt

-- ---- each once

-- n numbers from i on
abbrev numbers : (i n : ℕ) → List ℕ
numbers i zero = []
numbers i (suc n) = i ∷ numbers (i + 1) n

calls-numbers : (i : ℕ) (prices : List ℤ) → map (λ (p : PriceOf). p.call) (prices_from i prices) ≡ numbers i (length prices)
calls-numbers i [] = refl
calls-numbers i (x ∷ prices) = ap (λ (ks : List ℕ). i ∷ ks) (calls-numbers (i + 1) prices)

cars-numbers : (claim i : ℕ) (worths : List ℤ) → map (λ (w : WorthOf). w.car) (worths_from claim i worths) ≡ numbers i (length worths)
cars-numbers claim i [] = refl
cars-numbers claim i (w ∷ worths) = ap (λ (ks : List ℕ). i ∷ ks) (cars-numbers claim (i + 1) worths)

all-below : (m i n : ℕ) → i + n ≤ m → list_all (λ k. nat_lt k m) (numbers i n) ≡ true
all-below m i zero h = refl
all-below m i (suc n) h =
    and_from (nat_lt i m) (list_all (λ k. nat_lt k m) (numbers (i + 1) n)) (lt-ltb i m (omega (arith, h))) (all-below m (i + 1) n (omega (arith, h)))

counted-cons : (k i n : ℕ) → count_by (λ x. x == k) (numbers i (suc n)) ≡ cond (i == k) 1 0 + count_by (λ x. x == k) (numbers (i + 1) n)
counted-cons k i n = sum_by-cons (λ (x : ℕ). cond (x == k) 1 0) i (numbers (i + 1) n)

count-before : (k i n : ℕ) → k < i → count_by (λ x. x == k) (numbers i n) ≡ 0
count-before k i zero lt = refl
count-before k i (suc n) lt =
    counted-cons k i n ∙ ap {B = ℕ} (λ (b : Bool). cond b 1 0 + count_by (λ x. x == k) (numbers (i + 1) n)) (neq i k (λ e. omega (arith, e, lt)))
    ∙ (let none = count-before k (i + 1) n (omega (arith, lt)) in omega (arith, none))

count-within : (k i n : ℕ) → i ≤ k → k < i + n → count_by (λ x. x == k) (numbers i n) ≡ 1
count-within k i zero le lt = absurd (omega (arith, le, lt))
count-within k i (suc n) le lt = by_case (i == k) refl (λ after. count-within k (i + 1) n (omega (arith, after)) (omega (arith, lt)))
  where
    by_case : (b : Bool) → (i == k) ≡ b → (i < k → count_by (λ x. x == k) (numbers (i + 1) n) ≡ 1) → count_by (λ x. x == k) (numbers i (suc n)) ≡ 1
    by_case true e rest =
        let at = eqb-true i k e in
        let none = count-before k (i + 1) n (omega (arith, at)) in
        counted-cons k i n ∙ ap {B = ℕ} (λ (b : Bool). cond b 1 0 + count_by (λ x. x == k) (numbers (i + 1) n)) e ∙ omega (arith, none)
    by_case false e rest =
        let apart : i < k = elim (cases_lt i k) [ inl less ↦ less | inr past ↦ absurd (both_ways (i == k) e (eq-eqb i k (omega (arith, le, past)))) ] in
        let one = rest apart in
        counted-cons k i n ∙ ap {B = ℕ} (λ (b : Bool). cond b 1 0 + count_by (λ x. x == k) (numbers (i + 1) n)) e ∙ omega (arith, one)

each-once : (n : ℕ) → are_each_once n (numbers 0 n) ≡ true
each-once n =
    and_from (list_all (λ k. nat_lt k n) (numbers 0 n)) (not (any_below n (λ k. not (count_by (λ x. x == k) (numbers 0 n) == 1))))
    (all-below n 0 n (omega arith))
    (not_from_false (any_below n (λ k. not (count_by (λ x. x == k) (numbers 0 n) == 1)))
    (any_below-none n (λ k. not (count_by (λ x. x == k) (numbers 0 n) == 1))
    (λ k lt. ap (λ (x : ℕ). not (x == 1)) (count-within k 0 n (omega arith) (omega (arith, lt))))))

pub whole_lists-sheet : (claim : ℕ) (s : Snapshot) (sheet : PriceSheet) → length sheet.prices ≡ call_count s → length sheet.worths ≡ car_count s
    → has_whole_lists s (leaf_with claim sheet) ≡ true
whole_lists-sheet claim s sheet calls cars =
    and_from (are_each_once (call_count s) (map (λ (p : PriceOf). p.call) (prices_from 0 sheet.prices)))
    (are_each_once (car_count s) (map (λ (w : WorthOf). w.car) (worths_from claim 0 sheet.worths)))
    (ap (are_each_once (call_count s)) (calls-numbers 0 sheet.prices ∙ ap (numbers 0) calls) ∙ each-once (call_count s))
    (ap (are_each_once (car_count s)) (cars-numbers claim 0 sheet.worths ∙ ap (numbers 0) cars) ∙ each-once (car_count s))
