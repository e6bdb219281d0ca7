-- A set as two halves of 64 numbers.
use Rattle.std.proofs.Common.{◌≡◌, ℕ, ◌+◌, ◌-◌, ◌*◌, ◌/◌, ◌%◌, ◌^◌, ◌<◌, ◌≤◌, Bool, true, false, not, ◌&&◌, ◌||◌, eqb, leb, ltb, refl, sym, ap, ◌∙◌, subst, inl}
use Rattle.std.proofs.Common.{inr, arith}
use Rattle.std.specs.Int.{bit_at, bit_not, w64}
use Rattle.std.specs.Int.RustNames.{bit_or, bit_and}
use Rattle.std.proofs.lemmas.Nat.Bits.{bit_at-lt, bit_at-zero, bit_at_cat_low, bit_at_cat_high, same_from_bits}
use Rattle.std.proofs.lemmas.Bool.{cases_eq, cases_lt, ne_eqb}
use Rattle.std.proofs.lemmas.Bool.Decides.{nat_tests}
use Rattle.call_sets.specs.Counting.{has}
use Rattle.call_sets.proofs.Bits.{has_and, has_or, has_lowest, has_zero, has_none_above, has_with, has_without, has_from}

pub has_low : (n k : ℕ) → k < 64 → has (bit_and n (2 ^ 64 - 1)) k ≡ has n k
has_low n k lt =
    let both = has_and n (2 ^ 64 - 1) k in
    let ones = has_lowest 64 k in
    grind (arith, nat_tests, both, ones)

-- a number is its high half behind which its low half stands
split : (n : ℕ) → n / 2 ^ 64 * 2 ^ 64 + n % 2 ^ 64 ≡ n
split n = omega arith

pub has_high : (n k : ℕ) → has (n / 2 ^ 64) k ≡ has n (k + 64)
has_high n k =
    let place : k + 64 - 64 ≡ k = omega arith in
    let there = bit_at_cat_high (n / 2 ^ 64) 64 (n % 2 ^ 64) (k + 64) (omega arith) (omega arith) in
    let whole = ap (λ (m : ℕ). bit_at m (k + 64)) (split n) in
    let here = ap (λ (i : ℕ). bit_at (n / 2 ^ 64) i) place in
    ap (λ (x : ℕ). eqb x 1) (sym here ∙ sym there ∙ whole)

shifted : (high : ℕ) → high < 2 ^ 64 → high * 2 ^ 64 % 2 ^ 128 ≡ high * 2 ^ 64 + 0
shifted high small = omega arith

pub has_in_low : (low high k : ℕ) → high < 2 ^ 64 → k < 64 → has (bit_or (high * 2 ^ 64 % 2 ^ 128) low) k ≡ has low k
has_in_low low high k small lt =
    let none : has (high * 2 ^ 64 % 2 ^ 128) k ≡ false = ap (λ (n : ℕ). has n k) (shifted high small) ∙ ap (λ (x : ℕ). eqb x 1) (bit_at_cat_low high 64 0 k lt)
    ∙ has_zero k in
    has_or (high * 2 ^ 64 % 2 ^ 128) low k ∙ ap (λ (b : Bool). b || has low k) none

pub has_in_high : (low high k : ℕ) → low < 2 ^ 64 → high < 2 ^ 64 → has (bit_or (high * 2 ^ 64 % 2 ^ 128) low) (k + 64) ≡ has high k
has_in_high low high k few small =
    let place : k + 64 - 64 ≡ k = omega arith in
    let there : has (high * 2 ^ 64 % 2 ^ 128) (k + 64) ≡ has high k = ap (λ (n : ℕ). has n (k + 64)) (shifted high small)
    ∙ ap (λ (x : ℕ). eqb x 1) (bit_at_cat_high high 64 0 (k + 64) (omega arith) (omega arith)) ∙ ap (has high) place in
    let none = has_none_above 64 low (k + 64) few (omega arith) in
    let both = has_or (high * 2 ^ 64 % 2 ^ 128) low (k + 64) in
    grind (arith, nat_tests, both, there, none)

-- what holds of both halves holds of all numbers
pub by_halves : (f g : ℕ → Bool) → ((k : ℕ) → k < 64 → f k ≡ g k) → ((k : ℕ) → f (k + 64) ≡ g (k + 64)) → (k : ℕ) → f k ≡ g k
by_halves f g low high k =
    elim (cases_lt k 64) [ inl lt ↦ low k lt | inr le ↦ (let back : k - 64 + 64 ≡ k = omega arith in sym (ap f back) ∙ high (k - 64) ∙ ap g back) ]

-- a set that is made of two halves has what f says where its halves have it
pub made_of : (made low high : ℕ) (f : ℕ → Bool) → ((k : ℕ) → k < 64 → has made k ≡ has low k) → ((k : ℕ) → has made (k + 64) ≡ has high k)
    → ((k : ℕ) → k < 64 → has low k ≡ f k) → ((k : ℕ) → has high k ≡ f (k + 64)) → (k : ℕ) → has made k ≡ f k
made_of made low high f in_low in_high low_is high_is =
    by_halves (has made) f (λ k lt. in_low k lt ∙ low_is k lt) (λ k. in_high k ∙ high_is k)

with_none : (b : Bool) (k one : ℕ) → (k ≡ one → ⊥) → b ≡ (b || eqb k one)
with_none b k one ne = let other = ne_eqb k one ne in grind (arith, nat_tests, other)

-- a call more in the low half
pub with_low : (set low high made call : ℕ) → call < 64 → ((k : ℕ) → k < 64 → has low k ≡ has set k) → ((k : ℕ) → has high k ≡ has set (k + 64))
    → ((k : ℕ) → k < 64 → has made k ≡ has (bit_or low (1 * 2 ^ call % 2 ^ 64)) k) → ((k : ℕ) → has made (k + 64) ≡ has high k) → (k : ℕ)
    → has made k ≡ (has set k || eqb k call)
with_low set low high made call within low_is high_is in_low in_high =
    made_of made (bit_or low (1 * 2 ^ call % 2 ^ 64)) high (λ k. has set k || eqb k call) in_low in_high
    (λ k lt. has_with w64 low call k within ∙ ap (λ (b : Bool). b || eqb k call) (low_is k lt))
    (λ k. high_is k ∙ with_none (has set (k + 64)) (k + 64) call (λ same. omega arith))

-- and in the high half
pub with_high : (set low high made call : ℕ) → 64 ≤ call → call < 128 → ((k : ℕ) → k < 64 → has low k ≡ has set k) → ((k : ℕ) → has high k ≡ has set (k + 64))
    → ((k : ℕ) → k < 64 → has made k ≡ has low k) → ((k : ℕ) → has made (k + 64) ≡ has (bit_or high (1 * 2 ^ (call - 64) % 2 ^ 64)) k) → (k : ℕ)
    → has made k ≡ (has set k || eqb k call)
with_high set low high made call from within low_is high_is in_low in_high =
    made_of made low (bit_or high (1 * 2 ^ (call - 64) % 2 ^ 64)) (λ k. has set k || eqb k call) in_low in_high
    (λ k lt. low_is k lt ∙ with_none (has set k) k call (λ same. omega arith))
    (λ k. has_with w64 high (call - 64) k (omega arith) ∙ ap (λ (b : Bool). b || eqb k (call - 64)) (high_is k)
    ∙ ap (λ (b : Bool). has set (k + 64) || b) (same_place k))
  where
    same_place : (k : ℕ) → eqb k (call - 64) ≡ eqb (k + 64) call
    same_place k = grind (arith, nat_tests)

without_none : (b : Bool) (k one : ℕ) → (k ≡ one → ⊥) → b ≡ (b && not (eqb k one))
without_none b k one ne = let other = ne_eqb k one ne in grind (arith, nat_tests, other)

pub without_low : (set low high made call : ℕ) → call < 64 → low < 2 ^ 64 → ((k : ℕ) → k < 64 → has low k ≡ has set k)
    → ((k : ℕ) → has high k ≡ has set (k + 64)) → ((k : ℕ) → k < 64 → has made k ≡ has (bit_and low (bit_not w64 (1 * 2 ^ call % 2 ^ 64))) k)
    → ((k : ℕ) → has made (k + 64) ≡ has high k) → (k : ℕ) → has made k ≡ (has set k && not (eqb k call))
without_low set low high made call within small low_is high_is in_low in_high =
    made_of made (bit_and low (bit_not w64 (1 * 2 ^ call % 2 ^ 64))) high (λ k. has set k && not (eqb k call)) in_low in_high
    (λ k lt. has_without w64 low call k within small ∙ ap (λ (b : Bool). b && not (eqb k call)) (low_is k lt))
    (λ k. high_is k ∙ without_none (has set (k + 64)) (k + 64) call (λ same. omega arith))

pub without_high : (set low high made call : ℕ) → 64 ≤ call → call < 128 → high < 2 ^ 64 → ((k : ℕ) → k < 64 → has low k ≡ has set k)
    → ((k : ℕ) → has high k ≡ has set (k + 64)) → ((k : ℕ) → k < 64 → has made k ≡ has low k)
    → ((k : ℕ) → has made (k + 64) ≡ has (bit_and high (bit_not w64 (1 * 2 ^ (call - 64) % 2 ^ 64))) k) → (k : ℕ) → has made k ≡ (has set k && not (eqb k call))
without_high set low high made call from within small low_is high_is in_low in_high =
    made_of made low (bit_and high (bit_not w64 (1 * 2 ^ (call - 64) % 2 ^ 64))) (λ k. has set k && not (eqb k call)) in_low in_high
    (λ k lt. low_is k lt ∙ without_none (has set k) k call (λ same. omega arith))
    (λ k. has_without w64 high (call - 64) k (omega arith) small ∙ ap (λ (b : Bool). b && not (eqb k (call - 64))) (high_is k)
    ∙ ap (λ (b : Bool). has set (k + 64) && not b) (same_place k))
  where
    same_place : (k : ℕ) → eqb k (call - 64) ≡ eqb (k + 64) call
    same_place k = grind (arith, nat_tests)

-- no number from 128 on is in the set
pub none_from_128 : (set high k : ℕ) → high < 2 ^ 64 → ((k : ℕ) → has high k ≡ has set (k + 64)) → 128 ≤ k → has set k ≡ false
none_from_128 set high k small high_is far =
    let back : k - 64 + 64 ≡ k = omega arith in
    sym (ap (has set) back) ∙ sym (high_is (k - 64)) ∙ has_none_above 64 high (k - 64) small (omega arith)

pub without_far : (set high call : ℕ) → 128 ≤ call → high < 2 ^ 64 → ((k : ℕ) → has high k ≡ has set (k + 64)) → (k : ℕ)
    → has set k ≡ (has set k && not (eqb k call))
without_far set high call far small high_is k =
    elim (cases_eq k call) [
      | inl e ↦ (let none : has set k ≡ false = none_from_128 set high k small high_is (omega (arith, e, far)) in
          none ∙ ap (λ (b : Bool). b && not (eqb k call)) (sym none))
      | inr ne ↦ without_none (has set k) k call ne
    ]

all_pass : (b : Bool) (index k : ℕ) → index < k → b ≡ (b && ltb index k)
all_pass b index k lt = let t : ltb index k ≡ true = grind (arith, nat_tests) in grind (arith, nat_tests, t)

none_pass : (b : Bool) (index k : ℕ) → k ≤ index → false ≡ (b && ltb index k)
none_pass b index k le = let t : ltb index k ≡ false = grind (arith, nat_tests) in grind (arith, nat_tests, t)

pub above_low : (set low high made index : ℕ) → index < 63 → low < 2 ^ 64 → ((k : ℕ) → k < 64 → has low k ≡ has set k)
    → ((k : ℕ) → has high k ≡ has set (k + 64)) → ((k : ℕ) → k < 64 → has made k ≡ has (bit_and low ((2 ^ 64 - 1) * 2 ^ (index + 1) % 2 ^ 64)) k)
    → ((k : ℕ) → has made (k + 64) ≡ has high k) → (k : ℕ) → has made k ≡ (has set k && ltb index k)
above_low set low high made index within small low_is high_is in_low in_high =
    made_of made (bit_and low ((2 ^ 64 - 1) * 2 ^ (index + 1) % 2 ^ 64)) high (λ k. has set k && ltb index k) in_low in_high
    (λ k lt. has_from 64 low (index + 1) k small (omega arith) ∙ ap (λ (b : Bool). b && leb (index + 1) k) (low_is k lt)
    ∙ ap (λ (b : Bool). has set k && b) (test k))
    (λ k. high_is k ∙ all_pass (has set (k + 64)) index (k + 64) (omega arith))
  where
    test : (k : ℕ) → leb (index + 1) k ≡ ltb index k
    test k = grind (arith, nat_tests)

pub above_high : (set high made index : ℕ) → 63 ≤ index → index < 127 → high < 2 ^ 64 → ((k : ℕ) → has high k ≡ has set (k + 64))
    → ((k : ℕ) → k < 64 → has made k ≡ has 0 k) → ((k : ℕ) → has made (k + 64) ≡ has (bit_and high ((2 ^ 64 - 1) * 2 ^ (index - 63) % 2 ^ 64)) k) → (k : ℕ)
    → has made k ≡ (has set k && ltb index k)
above_high set high made index from within small high_is in_low in_high =
    made_of made 0 (bit_and high ((2 ^ 64 - 1) * 2 ^ (index - 63) % 2 ^ 64)) (λ k. has set k && ltb index k) in_low in_high
    (λ k lt. has_zero k ∙ none_pass (has set k) index k (omega arith))
    (λ k. has_from 64 high (index - 63) k small (omega arith) ∙ ap (λ (b : Bool). b && leb (index - 63) k) (high_is k)
    ∙ ap (λ (b : Bool). has set (k + 64) && b) (test k))
  where
    test : (k : ℕ) → leb (index - 63) k ≡ ltb index (k + 64)
    test k = grind (arith, nat_tests)

pub above_far : (set high index k : ℕ) → 127 ≤ index → high < 2 ^ 64 → ((k : ℕ) → has high k ≡ has set (k + 64)) → has 0 k ≡ (has set k && ltb index k)
above_far set high index k far small high_is =
    has_zero k ∙ elim (cases_lt index k) [
      | inl lt ↦ ap (λ (b : Bool). b && ltb index k) (sym (none_from_128 set high k small high_is (omega (arith, lt, far))))
      | inr le ↦ none_pass (has set k) index k le
    ]

-- the least member is in the low half
pub least_there : (set low place : ℕ) → ((k : ℕ) → k < 64 → has low k ≡ has set k) → place < 64 → bit_at low place ≡ 1 → has set place ≡ true
least_there set low place low_is within one = sym (low_is place within) ∙ ap (λ (x : ℕ). eqb x 1) one

pub none_before : (set low place : ℕ) → ((k : ℕ) → k < 64 → has low k ≡ has set k) → place < 64 → ((k : ℕ) → k < place → bit_at low k ≡ 0) → (k : ℕ)
    → k < place → has set k ≡ false
none_before set low place low_is within none k lt = sym (low_is k (omega (arith, lt, within))) ∙ ap (λ (x : ℕ). eqb x 1) (none k lt)

-- or in the high one
pub least_up : (set high place : ℕ) → ((k : ℕ) → has high k ≡ has set (k + 64)) → bit_at high place ≡ 1 → has set (64 + place) ≡ true
least_up set high place high_is one =
    let same : 64 + place ≡ place + 64 = omega arith in
    ap (has set) same ∙ sym (high_is place) ∙ ap (λ (x : ℕ). eqb x 1) one

pub none_before_up : (set low high place : ℕ) → low ≡ 0 → ((k : ℕ) → k < 64 → has low k ≡ has set k) → ((k : ℕ) → has high k ≡ has set (k + 64))
    → ((k : ℕ) → k < place → bit_at high k ≡ 0) → (k : ℕ) → k < 64 + place → has set k ≡ false
none_before_up set low high place zero low_is high_is none k lt =
    elim (cases_lt k 64) [
      | inl below ↦ sym (low_is k below) ∙ ap (λ (n : ℕ). has n k) zero ∙ has_zero k
      | inr from ↦ (let back : k - 64 + 64 ≡ k = omega arith in
          sym (ap (has set) back) ∙ sym (high_is (k - 64)) ∙ ap (λ (x : ℕ). eqb x 1) (none (k - 64) (omega (arith, lt, from))))
    ]

-- a set of two empty halves
pub none_in_both : (set low high : ℕ) → low ≡ 0 → high ≡ 0 → ((k : ℕ) → k < 64 → has low k ≡ has set k) → ((k : ℕ) → has high k ≡ has set (k + 64)) → (k : ℕ)
    → has set k ≡ false
none_in_both set low high no_low no_high low_is high_is =
    by_halves (has set) (λ k. false) (λ k lt. sym (low_is k lt) ∙ ap (λ (n : ℕ). has n k) no_low ∙ has_zero k)
    (λ k. sym (high_is k) ∙ ap (λ (n : ℕ). has n k) no_high ∙ has_zero k)

no_bit : (x : ℕ) → x < 2 → eqb x 1 ≡ false → x ≡ 0
no_bit x lt not_one = grind (arith, nat_tests, not_one, lt)

pub empty_is_zero : (set : ℕ) → ((k : ℕ) → has set k ≡ false) → set ≡ 0
empty_is_zero set none = same_from_bits set 0 (λ i. no_bit (bit_at set i) (bit_at-lt set i) (none i) ∙ sym (bit_at-zero i))
