-- Sets that are made in one pass.
use Rattle.std.proofs.Common.{◌≡◌, ℕ, suc, ◌+◌, Bool, true, false, ◌&&◌, ◌||◌, eqb, ltb, refl, sym, ap, ◌∙◌, inl, inr, arith}
use Rattle.std.proofs.lemmas.Bool.{cases_Bool, eqb-true, eqb-false, eq-eqb, ne_eqb, lt-ltb, le-ltb, ltb-true, ltb-false}
use Rattle.std.proofs.lemmas.Nat.Bits.{bit_at-zero}
use Rattle.call_sets.specs.Counting.{has, any_below}

or_nothing : (b p : Bool) → (b || (false && p)) ≡ b
or_nothing true p = refl
or_nothing false p = refl

-- the members so far, and one number more is tested
pub scan_more : (set new j : ℕ) (passes : Bool) (test : ℕ → Bool) → ((k : ℕ) → has set k ≡ (ltb k j && test k))
    → ((k : ℕ) → has new k ≡ (has set k || (eqb k j && passes))) → passes ≡ test j → (k : ℕ) → has new k ≡ (ltb k (j + 1) && test k)
scan_more set new j passes test old more same k =
    elim (cases_Bool (eqb k j)) [ inl e ↦ here (eqb-true k j e) e | inr e ↦ other (eqb-false k j e) e ]
  where
    here : k ≡ j → eqb k j ≡ true → has new k ≡ (ltb k (j + 1) && test k)
    here is e =
        more k ∙ ap (λ (b : Bool). b || (eqb k j && passes)) (old k ∙ ap (λ (b : Bool). b && test k) (le-ltb k j (omega (arith, is))))
        ∙ ap (λ (b : Bool). b && passes) e ∙ same ∙ sym (ap test is) ∙ sym (ap (λ (b : Bool). b && test k) (lt-ltb k (j + 1) (omega (arith, is))))

    bound : (k ≡ j → ⊥) → ltb k j ≡ ltb k (j + 1)
    bound ne = elim (cases_Bool (ltb k j)) [
      | inl e ↦ (let lt = ltb-true k j e in e ∙ sym (lt-ltb k (j + 1) (omega (arith, lt))))
      | inr e ↦ (let le = ltb-false k j e in e ∙ sym (le-ltb k (j + 1) (omega (arith, le, ne))))
    ]

    other : (k ≡ j → ⊥) → eqb k j ≡ false → has new k ≡ (ltb k (j + 1) && test k)
    other ne e =
        more k ∙ ap (λ (b : Bool). has set k || (b && passes)) e ∙ or_nothing (has set k) passes ∙ old k ∙ ap (λ (b : Bool). b && test k) (bound ne)

-- before the first number
pub scan_none : (set : ℕ) (test : ℕ → Bool) → set ≡ 0 → (k : ℕ) → has set k ≡ (ltb k 0 && test k)
scan_none set test e k = ap (λ (s : ℕ). has s k) e ∙ ap (λ (x : ℕ). eqb x 1) (bit_at-zero k) ∙ sym (ap (λ (b : Bool). b && test k) (le-ltb k 0 (omega arith)))

-- a test that holds below the bound alone
pub below_twice : (j n k : ℕ) (p : Bool) → k ≡ n → (ltb j k && (ltb j n && p)) ≡ (ltb j n && p)
below_twice j n k p e = ap (λ (x : ℕ). ltb j x && (ltb j n && p)) e ∙ twice (ltb j n) p
  where
    twice : (b p : Bool) → (b && (b && p)) ≡ (b && p)
    twice true p = refl
    twice false p = refl

-- some number below the bound passes, and one more is tested
pub any_more : (set new g d j : ℕ) (passes : Bool) (test : ℕ → ℕ → Bool) → ((f : ℕ) → has set f ≡ any_below j (test f))
    → ((f : ℕ) → has new f ≡ (has set f || (eqb f d && passes))) → ((f : ℕ) → (eqb f d && passes) ≡ test f j) → has new g ≡ any_below (j + 1) (test g)
any_more set new g d j passes test old more same =
    more g ∙ ap (λ (b : Bool). b || (eqb g d && passes)) (old g) ∙ ap (λ (b : Bool). any_below j (test g) || b) (same g) ∙ next j
  where
    after : (n : ℕ) → suc n ≡ n + 1
    after n = omega arith

    next : (n : ℕ) → (any_below n (test g) || test g n) ≡ any_below (n + 1) (test g)
    next n = ap (λ (m : ℕ). any_below m (test g)) (after n)

pub either_way : (p : Bool) (a b : ℕ) → (eqb a b && p) ≡ (p && eqb b a)
either_way p a b = ap (λ (x : Bool). x && p) (same_turned a b) ∙ turn (eqb b a) p
  where
    turn : (x y : Bool) → (x && y) ≡ (y && x)
    turn true true = refl
    turn true false = refl
    turn false true = refl
    turn false false = refl

    same_turned : (a b : ℕ) → eqb a b ≡ eqb b a
    same_turned a b = elim (cases_Bool (eqb a b)) [
      | inl e ↦ e ∙ sym (eq-eqb b a (sym (eqb-true a b e)))
      | inr e ↦ e ∙ sym (ne_eqb b a (λ same. eqb-false a b e (sym same)))
    ]
