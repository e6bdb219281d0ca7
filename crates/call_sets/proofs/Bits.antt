-- What the operations on bits do to a set.
use Rattle.std.proofs.Common.{◌≡◌, ℕ, Decides, ◌+◌, ◌-◌, ◌*◌, ◌/◌, ◌%◌, ◌^◌, ◌<◌, ◌≤◌, suc, Bool, true, false, not, ◌&&◌, ◌||◌, ◌⊎◌, eqb, leb, ltb, le-leb, min}
use Rattle.std.proofs.Common.{max, refl, sym, ap, ◌∙◌, subst, inl, inr, arith}
use Rattle.std.specs.Int.{bit_at, bit_not, Width}
use Rattle.std.specs.Int.RustNames.{bit_or, bit_and}
use Rattle.std.proofs.lemmas.Nat.Bits.{bit_at_and, bit_at_or, bit_at_not, bit_at-lt, bit_at_above, bit_at_set_same, bit_at_set_other, bit_at_clear_same}
use Rattle.std.proofs.lemmas.Nat.Bits.{bit_at_clear_other, bit_at_mask_below, bit_at_mask_inside, bit_at-zero, bit_at_ones, bit_at_ones_above, ones_shl}
use Rattle.std.proofs.lemmas.Bool.{cases_eq, cases_lt, eq-eqb, ne_eqb}
use Rattle.std.proofs.Math.Nat.{div-eq_of_lt, lt-div-mul-add, pow-suc}
use Rattle.std.proofs.lemmas.Nat.{pow_pos, leading_top, div-mul-add}
use Rattle.std.specs.Int.Count.{count_leading_zeros}
use Rattle.std.proofs.lemmas.Bool.Decides.{nat_tests, Decides-like, Decides-eqb}
use mir.Val.{bits}
use Rattle.call_sets.specs.Counting.{has}

two_cases : (x : ℕ) → x < 2 → (x ≡ 0) ⊎ (x ≡ 1)
two_cases x h = elim (cases_eq x 0) [ inl e ↦ inl e | inr ne ↦ inr (omega arith) ]

min_bits : (x y : ℕ) → x < 2 → y < 2 → eqb (min x y) 1 ≡ (eqb x 1 && eqb y 1)
min_bits x y p q = grind (arith, nat_tests)

max_bits : (x y : ℕ) → x < 2 → y < 2 → eqb (max x y) 1 ≡ (eqb x 1 || eqb y 1)
max_bits x y p q = grind (arith, nat_tests)

opposite : (x : ℕ) → x < 2 → eqb (1 - x) 1 ≡ not (eqb x 1)
opposite x h = grind (arith, nat_tests)

pub has_and : (a b k : ℕ) → has (bit_and a b) k ≡ (has a k && has b k)
has_and a b k = ap (λ (x : ℕ). eqb x 1) (bit_at_and a b k) ∙ min_bits (bit_at a k) (bit_at b k) (bit_at-lt a k) (bit_at-lt b k)

pub has_or : (a b k : ℕ) → has (bit_or a b) k ≡ (has a k || has b k)
has_or a b k = ap (λ (x : ℕ). eqb x 1) (bit_at_or a b k) ∙ max_bits (bit_at a k) (bit_at b k) (bit_at-lt a k) (bit_at-lt b k)

-- a number below 2 ^ width has no member from the width on
pub has_none_above : (width set k : ℕ) → set < 2 ^ width → width ≤ k → has set k ≡ false
has_none_above width set k small above = ap (λ (x : ℕ). eqb x 1) (bit_at_above set width k small above)

pub has_zero : (k : ℕ) → has 0 k ≡ false
has_zero k = ap (λ (x : ℕ). eqb x 1) (bit_at-zero k)

and_same : (a : ℕ) (k : ℕ) (x y : Bool) → has a k ≡ false → (has a k && x) ≡ (has a k && y)
and_same a k x y e = ap (λ (z : Bool). z && x) e ∙ sym (ap (λ (z : Bool). z && y) e)

pub has_minus : (w : Width) (a b k : ℕ) → a < 2 ^ bits w → b < 2 ^ bits w → has (bit_and a (bit_not w b)) k ≡ (has a k && not (has b k))
has_minus w a b k ha hb =
    has_and a (bit_not w b) k ∙ elim (cases_lt k (bits w)) [
      | inl lt ↦ ap (λ (x : Bool). has a k && x) (ap (λ (x : ℕ). eqb x 1) (bit_at_not w b k hb lt) ∙ opposite (bit_at b k) (bit_at-lt b k))
      | inr le ↦ and_same a k (has (bit_not w b) k) (not (has b k)) (has_none_above (bits w) a k ha le)
    ]

or_false : (b : Bool) → b ≡ (b || false)
or_false true = refl
or_false false = refl

or_true : (b : Bool) → true ≡ (b || true)
or_true true = refl
or_true false = refl

pub has_with : (w : Width) (set one k : ℕ) → one < bits w → has (bit_or set (1 * 2 ^ one % 2 ^ bits w)) k ≡ (has set k || eqb k one)
has_with w set one k within =
    elim (cases_eq k one) [
      | inl e ↦ subst (λ (x : ℕ). has (bit_or set (1 * 2 ^ one % 2 ^ bits w)) x ≡ (has set x || eqb x one)) (sym e)
          (ap (λ (x : ℕ). eqb x 1) (bit_at_set_same w set one within) ∙ or_true (has set one) ∙ ap (λ (x : Bool). has set one || x) (sym (eq-eqb one one refl)))
      | inr ne ↦ ap (λ (x : ℕ). eqb x 1) (bit_at_set_other w set one within k ne) ∙ or_false (has set k)
          ∙ ap (λ (x : Bool). has set k || x) (sym (ne_eqb k one ne))
    ]

and_true : (b : Bool) → b ≡ (b && true)
and_true true = refl
and_true false = refl

and_false : (b : Bool) → false ≡ (b && false)
and_false true = refl
and_false false = refl

pub has_without : (w : Width) (set one k : ℕ) → one < bits w → set < 2 ^ bits w
    → has (bit_and set (bit_not w (1 * 2 ^ one % 2 ^ bits w))) k ≡ (has set k && not (eqb k one))
has_without w set one k within small =
    elim (cases_eq k one) [
      | inl e ↦ subst (λ (x : ℕ). has (bit_and set (bit_not w (1 * 2 ^ one % 2 ^ bits w))) x ≡ (has set x && not (eqb x one))) (sym e)
          (ap (λ (x : ℕ). eqb x 1) (bit_at_clear_same w set one within) ∙ and_false (has set one)
          ∙ ap (λ (x : Bool). has set one && not x) (sym (eq-eqb one one refl)))
      | inr ne ↦ elim (cases_lt k (bits w)) [
        | inl lt ↦ ap (λ (x : ℕ). eqb x 1) (bit_at_clear_other w set one within k lt ne) ∙ and_true (has set k)
            ∙ ap (λ (x : Bool). has set k && not x) (sym (ne_eqb k one ne))
        | inr le ↦ has_and set (bit_not w (1 * 2 ^ one % 2 ^ bits w)) k
            ∙ and_same set k (has (bit_not w (1 * 2 ^ one % 2 ^ bits w)) k) (not (eqb k one)) (has_none_above (bits w) set k small le)
      ]
    ]

-- what is not a member stays none without another number
pub has_without_none : (width set one k : ℕ) → set < 2 ^ width → width ≤ one → has set k ≡ (has set k && not (eqb k one))
has_without_none width set one k small beyond =
    elim (cases_eq k one) [
      | inl e ↦ (let none : has set k ≡ false = has_none_above width set k small (omega arith) in none ∙ ap (λ (x : Bool). x && not (eqb k one)) (sym none))
      | inr ne ↦ and_true (has set k) ∙ ap (λ (x : Bool). has set k && not x) (sym (ne_eqb k one ne))
    ]

-- the members from an index on
pub has_from : (width set low k : ℕ) → set < 2 ^ width → low ≤ width → has (bit_and set ((2 ^ width - 1) * 2 ^ low % 2 ^ width)) k ≡ (has set k && leb low k)
has_from width set low k small within =
    ap (λ (m : ℕ). has (bit_and set m) k) (ones_shl width low within) ∙ has_and set (2 ^ width - 2 ^ low) k ∙ elim (cases_lt k width) [
      | inl lt ↦ elim (cases_lt k low) [
        | inl below ↦ ap (λ (x : Bool). has set k && x) (ap (λ (x : ℕ). eqb x 1) (bit_at_mask_below low width k below) ∙ sym (lt-leb_false below))
        | inr from ↦ ap (λ (x : Bool). has set k && x) (ap (λ (x : ℕ). eqb x 1) (bit_at_mask_inside low width k from lt) ∙ sym (le-leb low k from))
      ]
      | inr le ↦ and_same set k (has (2 ^ width - 2 ^ low) k) (leb low k) (has_none_above width set k small le)
    ]
  where
    lt-leb_false : k < low → leb low k ≡ false
    lt-leb_false below = grind (arith, nat_tests)

-- none is above the last number
pub has_past : (width set index k : ℕ) → set < 2 ^ width → width ≤ index + 1 → false ≡ (has set k && ltb index k)
has_past width set index k small beyond =
    elim (cases_lt index k) [
      | inl lt ↦ ap (λ (x : Bool). x && ltb index k) (sym (has_none_above width set k small (omega arith)))
      | inr le ↦ and_false (has set k) ∙ ap (λ (x : Bool). has set k && x) (sym (le-ltb_false index k le))
    ]
  where
    le-ltb_false : (index k : ℕ) → k ≤ index → ltb index k ≡ false
    le-ltb_false index k le = grind (arith, nat_tests)

-- a set without a number from `bound` on
pub Decides-below : (set bound : ℕ) → Decides (eqb (set / 2 ^ bound) 0) (set < 2 ^ bound)
Decides-below set bound =
    Decides-like (eqb (set / 2 ^ bound) 0)
    (λ (e : set / 2 ^ bound ≡ 0). let upper : set < set / 2 ^ bound * 2 ^ bound + 2 ^ bound = lt-div-mul-add (pow_pos bound) in
    let scaled : set / 2 ^ bound * 2 ^ bound ≡ 0 = rw e (omega arith) in omega arith)
    (λ (below : set < 2 ^ bound). div-eq_of_lt below)
    (Decides-eqb (set / 2 ^ bound) 0)

-- the set of the lowest numbers
pub has_lowest : (bound k : ℕ) → has (2 ^ bound - 1) k ≡ ltb k bound
has_lowest bound k =
    elim (cases_lt k bound) [
      | inl lt ↦ (let e = ap (λ (x : ℕ). eqb x 1) (bit_at_ones bound k lt) in grind (arith, nat_tests, e))
      | inr le ↦ (let e = ap (λ (x : ℕ). eqb x 1) (bit_at_ones_above bound k le) in grind (arith, nat_tests, e))
    ]

-- a set with one member more: that one, and the others
pub with-here : (set more one : ℕ) → ((k : ℕ) → has more k ≡ (has set k || eqb k one)) → has more one ≡ true
with-here set more one added = added one ∙ ap (λ (b : Bool). has set one || b) (eq-eqb one one refl) ∙ sym (or_true (has set one))

pub with-others : (set more one : ℕ) → ((k : ℕ) → has more k ≡ (has set k || eqb k one)) → (other : ℕ) → (other ≡ one → ⊥) → has more other ≡ has set other
with-others set more one added other ne = added other ∙ ap (λ (b : Bool). has set other || b) (ne_eqb other one ne) ∙ sym (or_false (has set other))

-- the greatest bit of a number that is not 0
pub greatest_bit : (width n : ℕ) → 0 < n → n < 2 ^ width → (j : ℕ) × (count_leading_zeros width n + (j + 1) ≡ width) × (bit_at n j ≡ 1)
    × ((i : ℕ) → j < i → bit_at n i ≡ 0)
greatest_bit width n pos low =
    let top = leading_top width n pos low in
    let j = top.0 in
    let sum : count_leading_zeros width n + (j + 1) ≡ width = omega (arith, top.1) in
    let above : n < 2 ^ (j + 1) = subst (λ (k : ℕ). n < 2 ^ k) (next j) top.3 in
    let twice : 2 ^ (j + 1) ≡ 2 ^ j * 2 = ap (λ (k : ℕ). 2 ^ k) (sym (next j)) ∙ pow-suc 2 j in
    let front : 1 * 2 ^ j + (n - 2 ^ j) ≡ n = omega (arith, top.2) in
    let one : n / 2 ^ j ≡ 1 = ap (λ (x : ℕ). x / 2 ^ j) (sym front) ∙ div-mul-add 1 (2 ^ j) (n - 2 ^ j) (omega (arith, top.2, above, twice)) in
    (j, sum, ap (λ (x : ℕ). x % 2) one, λ i lt. bit_at_above n (j + 1) i above (omega (arith, lt)))
  where
    next : (j : ℕ) → suc j ≡ j + 1
    next j = omega arith
