-- The first of the least, one number more.
use Rattle.std.proofs.Common.{◌≡◌, ℕ, ◌+◌, ◌<◌, ◌≤◌, ◌&&◌, Bool, true, false, refl, sym, subst, inl, inr, arith, rules, Option, None, Some}
use Rattle.std.specs.Prelude.{ℤ, ◌≤ℤ◌, ◌<ℤ◌, int_lt, IfSome}
use Rattle.std.proofs.lemmas.Int.{ints}
use Rattle.std.proofs.Math.Nat.{eq-or-lt_of_le}
use Rattle.what_if.specs.Ends.{IsFirstLeast, IsFirstLeastAt, is_less}

-- a number below n + 1 is below n, or it is n
last-or : (n : ℕ) (P : ℕ → Type 0) → ((c : ℕ) → c < n → P c) → P n → (c : ℕ) → c < n + 1 → P c
last-or n P before here c below =
    let le : c ≤ n = omega (arith, below) in
    elim (eq-or-lt_of_le le) [ inl e ↦ subst P (sym e) here | inr lt ↦ before c lt ]

both : (a b : Bool) → (a && b) ≡ true → (a ≡ true) × (b ≡ true)
both true true h = (refl, refl)
both true false h = absurd cc
both false b h = absurd cc

never : (b : Bool) → b ≡ false → b ≡ true → ⊥
never true e f = absurd (cc e)
never false e f = absurd (cc f)

int-less : (a b : ℤ) → int_lt a b ≡ true → a <ℤ b
int-less a b h = grind (arith, ints)

int-not-less : (a b : ℤ) → int_lt a b ≡ false → b ≤ℤ a
int-not-less a b h = grind (arith, ints)

-- the number n is taken
pub first-taken : (test : ℕ → Bool) (key : ℕ → ℤ) (n : ℕ) (best : Option ℕ) → (test n && is_less key n best) ≡ true → IsFirstLeast test key n best
    → IsFirstLeast test key (n + 1) (Some n)
first-taken test key n None h none =
    record {
      below = omega arith;
      passes = (both (test n) true h).0;
      least = last-or n (λ c. test c ≡ true → key n ≤ℤ key c) (λ c low passes. absurd (never (test c) (none c low) passes)) (λ passes. omega (arith, ints));
      first = λ c low passes. absurd (never (test c) (none c low) passes);
    }
first-taken test key n (Some b) h best =
    let parts = both (test n) (int_lt (key n) (key b)) h in
    let less : key n <ℤ key b = int-less (key n) (key b) parts.1 in
    record {
      below = omega arith;
      passes = parts.0;
      least = last-or n (λ c. test c ≡ true → key n ≤ℤ key c) (λ c low passes. (let le = best.least c low passes in omega (arith, ints, le, less)))
          (λ passes. omega (arith, ints));
      first = λ c low passes. (let le = best.least c low passes in omega (arith, ints, le, less));
    }

-- it is not
pub first-kept : (test : ℕ → Bool) (key : ℕ → ℤ) (n : ℕ) (best : Option ℕ) → (test n && is_less key n best) ≡ false → IsFirstLeast test key n best
    → IsFirstLeast test key (n + 1) best
first-kept test key n None h none = last-or n (λ c. test c ≡ false) none (alone (test n) h)
  where
    alone : (a : Bool) → (a && true) ≡ false → a ≡ false
    alone true h = absurd cc
    alone false h = refl
first-kept test key n (Some b) h best =
    record {
      below = (let below = best.below in omega (arith, below));
      passes = best.passes;
      least = last-or n (λ c. test c ≡ true → key b ≤ℤ key c) best.least
          (λ passes. int-not-less (key n) (key b) (other (test n) (int_lt (key n) (key b)) passes h));
      first = best.first;
    }
  where
    other : (a b : Bool) → a ≡ true → (a && b) ≡ false → b ≡ false
    other true b e h = h
    other false b e h = absurd cc

-- the number so far is one below n
pub first-below : (test : ℕ → Bool) (key : ℕ → ℤ) (n b : ℕ) (best : Option ℕ) → best ≡ Some b → IsFirstLeast test key n best → IsFirstLeastAt test key n b
first-below test key n b best e h = subst (IsFirstLeast test key n) e h

-- where there is a number so far, it is below any greater bound
pub first-some : (test : ℕ → Bool) (key : ℕ → ℤ) (n m : ℕ) (best : Option ℕ) → n ≤ m → IsFirstLeast test key n best → IfSome best (λ c. c < m)
first-some test key n m None le h = search rules
first-some test key n m (Some b) le h = let below = h.below in omega (arith, le, below)
