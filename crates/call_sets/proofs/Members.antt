-- The list of the members of a set.
use Rattle.std.proofs.Common.{◌≡◌, ℕ, zero, suc, ◌+◌, ◌<◌, ◌≤◌, Bool, true, false, cond, not, ◌&&◌, eqb, List, [], ◌∷◌, filter, refl, sym, ap, ◌∙◌, subst, inl}
use Rattle.std.proofs.Common.{inr, arith}
use Rattle.std.specs.List.{range_with_len}
use Rattle.std.proofs.lemmas.Bool.{eq-eqb, ne_eqb}
use Rattle.std.proofs.Math.Nat.{eq-or-lt_of_le}
use Rattle.call_sets.specs.Counting.{has, members}

kept : (p : ℕ → Bool) (a n : ℕ) → p a ≡ true → filter p (range_with_len a (suc n)) ≡ a ∷ filter p (range_with_len (a + 1) n)
kept p a n e = ap (λ (b : Bool). cond b (a ∷ filter p (range_with_len (a + 1) n)) (filter p (range_with_len (a + 1) n))) e

dropped : (p : ℕ → Bool) (a n : ℕ) → p a ≡ false → filter p (range_with_len a (suc n)) ≡ filter p (range_with_len (a + 1) n)
dropped p a n e = ap (λ (b : Bool). cond b (a ∷ filter p (range_with_len (a + 1) n)) (filter p (range_with_len (a + 1) n))) e

none_in : (p : ℕ → Bool) (a n : ℕ) → ((k : ℕ) → p k ≡ false) → filter p (range_with_len a n) ≡ []
none_in p a zero h = refl
none_in p a (suc n) h = dropped p a n (h a) ∙ none_in p (a + 1) n h

same_in : (p q : ℕ → Bool) (a n : ℕ) → ((k : ℕ) → a ≤ k → p k ≡ q k) → filter p (range_with_len a n) ≡ filter q (range_with_len a n)
same_in p q a zero h = refl
same_in p q a (suc n) h =
    let later = same_in p q (a + 1) n (λ k b. h k (omega arith)) in
    let here = h a (omega arith) in
    ap (λ (b : Bool). cond b (a ∷ filter p (range_with_len (a + 1) n)) (filter p (range_with_len (a + 1) n))) here
    ∙ ap (λ (xs : List ℕ). cond (q a) (a ∷ xs) xs) later

not_itself : (b : Bool) (k one : ℕ) → (k ≡ one → ⊥) → b ≡ (b && not (eqb k one))
not_itself true k one ne = sym (ap not (ne_eqb k one ne))
not_itself false k one ne = refl

itself : (b : Bool) (k : ℕ) → (b && not (eqb k k)) ≡ false
itself true k = ap not (eq-eqb k k refl)
itself false k = refl

first_in : (p q : ℕ → Bool) (a n one : ℕ) → a ≤ one → one < a + n → p one ≡ true → ((k : ℕ) → k < one → p k ≡ false)
    → ((k : ℕ) → q k ≡ (p k && not (eqb k one))) → filter p (range_with_len a n) ≡ one ∷ filter q (range_with_len a n)
first_in p q a zero one from within here before others = absurd (omega arith)
first_in p q a (suc n) one from within here before others =
    elim (eq-or-lt_of_le from) [
      | inl e ↦ at_once e
      | inr lt ↦ (let none = before a lt in let gone : q a ≡ false = others a ∙ ap (λ (b : Bool). b && not (eqb a one)) none in
          dropped p a n none ∙ first_in p q (a + 1) n one (omega arith) (omega arith) here before others
          ∙ ap (λ (xs : List ℕ). one ∷ xs) (sym (dropped q a n gone)))
    ]
  where
    at_once : a ≡ one → filter p (range_with_len a (suc n)) ≡ one ∷ filter q (range_with_len a (suc n))
    at_once e =
        let taken : p a ≡ true = subst (λ (k : ℕ). p k ≡ true) (sym e) here in
        let gone : q a ≡ false = others a ∙ subst (λ (k : ℕ). (p a && not (eqb a k)) ≡ false) e (itself (p a) a) in
        kept p a n taken
        ∙ ap (λ (xs : List ℕ). a ∷ xs) (same_in p q (a + 1) n (λ k b. not_itself (p k) k one (λ (same : k ≡ one). omega arith) ∙ sym (others k)))
        ∙ ap (λ (k : ℕ). k ∷ filter q (range_with_len (a + 1) n)) e ∙ ap (λ (xs : List ℕ). one ∷ xs) (sym (dropped q a n gone))

pub members-none : (bound set : ℕ) → ((k : ℕ) → has set k ≡ false) → members bound set ≡ []
unfolding members
members-none bound set h = none_in (has set) 0 bound h

pub members-least : (bound set rest one : ℕ) → one < bound → has set one ≡ true → ((k : ℕ) → k < one → has set k ≡ false)
    → ((k : ℕ) → has rest k ≡ (has set k && not (eqb k one))) → members bound set ≡ one ∷ members bound rest
unfolding members
members-least bound set rest one within here before others = first_in (has set) (has rest) 0 bound one (omega arith) (omega arith) here before others
