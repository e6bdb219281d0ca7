-- A step along a direction goes where its parts point.
use Rattle.std.proofs.Common.{◌≡◌, ℕ, ◌+◌, ◌<◌, ◌≤◌, ℤ, pos, negsuc, ◌+ℤ◌, ◌*ℤ◌, ◌≤ℤ◌, zero, suc, Option, None, Some, List, length, set, get_or, ap, sym, subst}
use Rattle.std.proofs.Common.{◌∙◌, inl, inr, arith}
use Rattle.std.specs.Prelude.{SomeIff, unwrap_or}
use Rattle.std.specs.Int.{Width, w128, saturate_signed, CanDivide}
use Rattle.std.specs.Int.RustNames.{int_div}
use Rattle.std.proofs.lemmas.Int.{ints, clamps}
use Rattle.std.proofs.lemmas.List.{get_or-set_same, get_or-set_other}
use Rattle.std.proofs.Math.Nat.{eq-or-lt_of_le}
use native.Mathlib.Nat.{zero-div}
use Rattle.price_scale.specs.Scale.{IsPrice, cut}
use Rattle.search_model.specs.Prices.{price_at}
use Rattle.price_ascent.specs.Steps.{FollowsPart}

-- ---- what is cut at the ends of a type keeps its sign

pub saturated-up : (w : Width) (z : ℤ) → pos 0 ≤ℤ z → pos 0 ≤ℤ saturate_signed w z
saturated-up w (pos n) h = omega (arith, ints)
saturated-up w (negsuc n) h = absurd (omega (arith, ints, h))

pub saturated-down : (w : Width) (z : ℤ) → z ≤ℤ pos 0 → saturate_signed w z ≤ℤ pos 0
saturated-down w (pos n) h = omega (arith, ints, h)
saturated-down w (negsuc n) h = omega (arith, ints)

-- ---- so do products and quotients

pub times-up : (a b : ℤ) → pos 0 ≤ℤ a → pos 0 ≤ℤ b → pos 0 ≤ℤ (a *ℤ b)
times-up (pos a) (pos b) ha hb = omega (arith, ints)
times-up (negsuc a) b ha hb = absurd (omega (arith, ints, ha))
times-up (pos a) (negsuc b) ha hb = absurd (omega (arith, ints, hb))

pub times-down : (a b : ℤ) → pos 0 ≤ℤ a → b ≤ℤ pos 0 → (a *ℤ b) ≤ℤ pos 0
times-down (pos a) (pos zero) ha hb = omega (arith, ints)
times-down (pos a) (pos (suc b)) ha hb = absurd (omega (arith, ints, hb))
times-down (pos a) (negsuc b) ha hb = omega (arith, ints)
times-down (negsuc a) b ha hb = absurd (omega (arith, ints, ha))

pub square-up : (a : ℤ) → pos 0 ≤ℤ (a *ℤ a)
square-up (pos a) = omega (arith, ints)
square-up (negsuc a) = omega (arith, ints)

quotient-up : (a d : ℤ) (q : Option ℤ) → SomeIff q (CanDivide w128 a d) (int_div a d) → pos 0 ≤ℤ a → pos 0 ≤ℤ d → pos 0 ≤ℤ unwrap_or q (pos 0)
quotient-up a d None h ha hd = omega (arith, ints)
quotient-up (pos a) (pos d) (Some q) h ha hd = let e = h.1 in omega (arith, ints, e)
quotient-up (negsuc a) d (Some q) h ha hd = absurd (omega (arith, ints, ha))
quotient-up (pos a) (negsuc d) (Some q) h ha hd = absurd (omega (arith, ints, hd))

quotient-down : (a d : ℤ) (q : Option ℤ) → SomeIff q (CanDivide w128 a d) (int_div a d) → a ≤ℤ pos 0 → pos 0 ≤ℤ d → unwrap_or q (pos 0) ≤ℤ pos 0
quotient-down a d None h ha hd = omega (arith, ints)
quotient-down (pos zero) (pos d) (Some q) h ha hd = let e = h.1 ∙ ap pos (zero-div d) in omega (arith, ints, e)
quotient-down (pos (suc a)) (pos d) (Some q) h ha hd = absurd (omega (arith, ints, ha))
quotient-down (negsuc a) (pos d) (Some q) h ha hd = let e = h.1 in omega (arith, ints, e)
quotient-down a (negsuc d) (Some q) h ha hd = absurd (omega (arith, ints, hd))

-- ---- a price that moves by a change

saturated-above : (x z : ℤ) → IsPrice x → x ≤ℤ z → x ≤ℤ saturate_signed w128 z
saturated-above x (pos n) price h = let high = price.1 in omega (arith, ints, h, high)
saturated-above x (negsuc n) price h = omega (arith, ints, h)

saturated-below : (x z : ℤ) → IsPrice x → z ≤ℤ x → saturate_signed w128 z ≤ℤ x
saturated-below x (pos n) price h = omega (arith, ints, h)
saturated-below x (negsuc n) price h = let low = price.0 in omega (arith, ints, h, low)

cut-above : (x z : ℤ) → IsPrice x → x ≤ℤ z → x ≤ℤ cut z
cut-above x z price h = let high = price.1 in omega (arith, ints, clamps, h, high)

cut-below : (x z : ℤ) → IsPrice x → z ≤ℤ x → cut z ≤ℤ x
cut-below x z price h = let low = price.0 in omega (arith, ints, clamps, h, low)

-- a price that moves by the quotient of a product of its part
pub follows : (from way part square product to : ℤ) (q : Option ℤ) → IsPrice from → pos 0 ≤ℤ way → pos 0 ≤ℤ square
    → product ≡ saturate_signed w128 (way *ℤ part) → SomeIff q (CanDivide w128 product square) (int_div product square)
    → to ≡ cut (saturate_signed w128 (from +ℤ unwrap_or q (pos 0))) → FollowsPart part from to
follows from way part square product to q price forward positive product_is quotient to_is =
    record {
      up = λ h.
          let change = quotient-up product square q quotient
          (subst (λ (z : ℤ). pos 0 ≤ℤ z) (sym product_is) (saturated-up w128 (way *ℤ part) (times-up way part forward h))) positive in
          subst (λ (z : ℤ). from ≤ℤ z) (sym to_is)
          (cut-above from (saturate_signed w128 (from +ℤ unwrap_or q (pos 0))) price
          (saturated-above from (from +ℤ unwrap_or q (pos 0)) price (omega (arith, ints, change))));
      down = λ h.
          let change = quotient-down product square q quotient
          (subst (λ (z : ℤ). z ≤ℤ pos 0) (sym product_is) (saturated-down w128 (way *ℤ part) (times-down way part forward h))) positive in
          subst (λ (z : ℤ). z ≤ℤ from) (sym to_is)
          (cut-below from (saturate_signed w128 (from +ℤ unwrap_or q (pos 0))) price
          (saturated-below from (from +ℤ unwrap_or q (pos 0)) price (omega (arith, ints, change))));
    }

-- one price more follows its part
pub followed_more : (direction from next : List ℤ) (n : ℕ) (new : ℤ) → n < length next
    → ((j : ℕ) → j < n → FollowsPart (get_or direction j (pos 0)) (price_at from j) (price_at next j))
    → FollowsPart (get_or direction n (pos 0)) (price_at from n) new → (j : ℕ) → j < n + 1
    → FollowsPart (get_or direction j (pos 0)) (price_at from j) (price_at (set next n new) j)
followed_more direction from next n new within before here j lt =
    let le : j ≤ n = omega (arith, lt) in
    elim (eq-or-lt_of_le le) [
      | inl e ↦ subst (λ (z : ℤ). FollowsPart (get_or direction j (pos 0)) (price_at from j) z)
          (sym (ap (price_at (set next n new)) e ∙ get_or-set_same next n new (pos 0) within))
          (subst (λ (k : ℕ). FollowsPart (get_or direction k (pos 0)) (price_at from k) new) (sym e) here)
      | inr less ↦ subst (λ (z : ℤ). FollowsPart (get_or direction j (pos 0)) (price_at from j) z)
          (sym (get_or-set_other next n j new (pos 0) (λ same. omega (arith, same, less)))) (before j less)
    ]
