-- The nearest floor to a floor.
use Rattle.std.proofs.Common.{◌≡◌, ℕ, ◌+◌, ◌<◌, ◌≤◌, min, Bool, true, false, ltb, List, [], ◌∷◌, ◌++◌, length, get_or, refl, sym, ap, ◌∙◌, subst, inl, inr}
use Rattle.std.proofs.Common.{arith, length-append}
use Rattle.std.proofs.lemmas.Bool.{ltb-true, ltb-false}
use Rattle.std.proofs.lemmas.List.{get_or_append_left, get_or_push}
use Rattle.std.proofs.Math.Nat.{eq-or-lt_of_le}
use Rattle.elevator_model.specs.Travel.{Square, time_between}
use Rattle.pricing_bound.specs.Rates.{IsNearest, IsTimeFrom}

-- of the floors below n
pub record IsNearestBelow (t : Square) (f n time : ℕ) : Type 0 where
  pub there : IsTimeFrom t f time
  pub least : (g : ℕ) → g < n → (g ≡ f → ⊥) → time ≤ time_between t f g
  pub small : time ≤ 20000000

at_most : (k n : ℕ) → k < n + 1 → k ≤ n
at_most k n lt = omega (arith, lt)

-- one floor more
pub nearer : (t : Square) (f n time way new : ℕ) → IsNearestBelow t f n time → n < t.floors → (n ≡ f → ⊥) → way ≡ time_between t f n → new ≡ min time way
    → IsNearestBelow t f (n + 1) new
nearer t f n time way new h lt apart is new_is = by_order (ltb way time) refl
  where
    near : (g time' : ℕ) → time' ≤ time → time' ≤ way → g < n + 1 → (g ≡ f → ⊥) → time' ≤ time_between t f g
    near g time' le here less other = elim (eq-or-lt_of_le (at_most g n less)) [
      | inl e ↦ (let there = ap (time_between t f) e in omega (arith, here, is, there))
      | inr before ↦ (let far = h.least g before other in omega (arith, le, far))
    ]

    by_order : (v : Bool) → ltb way time ≡ v → IsNearestBelow t f (n + 1) new
    by_order true e =
        let less = ltb-true way time e in
        let same : new ≡ way = omega (arith, new_is, less) in
        let small = h.small in
        record {
          there = (n, lt, apart, same ∙ is);
          least = λ g lt_g other. near g new (omega (arith, same, less)) (omega (arith, same)) lt_g other;
          small =
              omega (arith, same, less, small);
        }
    by_order false e =
        let more = ltb-false way time e in
        let same : new ≡ time = omega (arith, new_is, more) in
        let small = h.small in
        record {
          there = subst (IsTimeFrom t f) (sym same) h.there;
          least =
              λ g lt_g other. near g new (omega (arith, same)) (omega (arith, same, more)) lt_g other;
          small = omega (arith, same, small);
        }

-- the floor itself
pub nearer_itself : (t : Square) (f n time new : ℕ) → IsNearestBelow t f n time → n ≡ f → new ≡ time → IsNearestBelow t f (n + 1) new
nearer_itself t f n time new h here same =
    let small = h.small in
    record {
      there = subst (IsTimeFrom t f) (sym same) h.there;
      least = λ g less other. elim (eq-or-lt_of_le (at_most g n less)) [
        | inl e ↦ absurd (other (e ∙ here))
        | inr before ↦ (let far = h.least g before other in omega (arith, far, same))
      ];
      small = omega (arith, same, small);
    }

-- the times of the floors below n
pub record AreNearestBelow (t : Square) (n : ℕ) (times : List ℕ) : Type 0 where
  pub size : length times ≡ n
  pub each : (f : ℕ) → f < n → IsNearest t f (get_or times f 0)
  pub small : (f : ℕ) → f < n → get_or times f 0 ≤ 20000000

pub nearest_more : (t : Square) (n time : ℕ) (times new : List ℕ) → AreNearestBelow t n times → IsNearest t n time → time ≤ 20000000 → new ≡ times ++ time ∷ []
    → AreNearestBelow t (n + 1) new
nearest_more t n time times new h here small is =
    let one = length-append times (time ∷ []) in
    let all = ap length is in
    let old = h.size in
    record {
      size = omega (arith, one, all, old);
      each = λ f less. by_place (IsNearest t) f less h.each here;
      small = λ f less. by_place (λ _ x. x ≤ 20000000) f less h.small small;
    }
  where
    by_place : (P : ℕ → ℕ → Type 0) (f : ℕ) → f < n + 1 → ((g : ℕ) → g < n → P g (get_or times g 0)) → P n time → P f (get_or new f 0)
    by_place P f less before last =
        let old = h.size in
        subst (λ (xs : List ℕ). P f (get_or xs f 0)) (sym is) (elim (eq-or-lt_of_le (at_most f n less)) [
          | inl e ↦ subst (P f) (sym (get_or_push times time 0 f (omega (arith, e, old)))) (subst (λ (k : ℕ). P k time) (sym e) last)
          | inr lt ↦ subst (P f) (sym (get_or_append_left times (time ∷ []) 0 f (omega (arith, old, lt)))) (before f lt)
        ])
