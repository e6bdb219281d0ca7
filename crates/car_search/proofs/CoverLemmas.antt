-- What the cars reach.
use Rattle.std.proofs.Common.{◌≡◌, ℕ, ◌+◌, ◌<◌, ◌≤◌, ◌||◌, ◌∙◌, Bool, List, [], ◌∷◌, length, get_or, true, false, true≢false, refl, sym, ap, subst, arith}
use Rattle.std.proofs.lemmas.List.{get_or_read}
use Rattle.call_sets.specs.Counting.{has}
use Rattle.car_search.specs.declared.candidates.Candidate.{Candidate}
use Rattle.car_search.specs.declared.candidates.CarChoice.{CarChoice}
use Rattle.car_search.specs.Choosing.{TakesAll, Reaches}
use Rattle.car_search.proofs.NumberLemmas.{last_or_before}

neither : (a b : Bool) → (a || b) ≡ false → (a ≡ false) × (b ≡ false)
neither true b h = absurd (true≢false h)
neither false b h = (refl, h)

module _ {T C : Type 0} (times : C → ℕ → ℕ) where
  pub reaches_alike : (p q : ℕ → ℕ) (c : ℕ) (cars : List (CarChoice T C)) → ((d : ℕ) → c ≤ d → p d ≡ q d) → Reaches times p c cars → Reaches times q c cars
  reaches_alike p q c [] same reaches = tt
  reaches_alike p q c (car ∷ cars) same reaches =
      let here : p c ≡ q c = same c (omega arith) in
      let next : p (c + 1) ≡ q (c + 1) = same (c + 1) (omega arith) in (
        subst (TakesAll times car.candidates.items) here reaches.0,
        (λ j h. subst (λ (k : ℕ). has k j ≡ false) next (reaches.1 j (subst (λ (k : ℕ). has k j ≡ false) (sym here) h))),
        reaches_alike p q (c + 1) cars (λ d le. same d (omega (arith, le))) reaches.2,
      )

  -- the first n candidates take no call that is not in the set
  abbrev pub TakesFirst : List (Candidate T C) → (n calls : ℕ) → Type 0
  TakesFirst items n calls =
      (i : ℕ) (d : Candidate T C) → i < n → (j : ℕ) → has calls j ≡ false → times (get_or items i d).calls j ≡ 0

  -- the calls of one candidate more
  pub takes_more : (items : List (Candidate T C)) (calls own more n : ℕ) (y : Candidate T C) → n < length items → y ≡ get_or items n y
      → ((j : ℕ) → has own j ≡ false → times y.calls j ≡ 0) → ((k : ℕ) → has more k ≡ (has calls k || has own k)) → TakesFirst items n calls
      → TakesFirst items (n + 1) more
  takes_more items calls own more n y within at takes union before i d lt j h =
      let parts = neither (has calls j) (has own j) (sym (union j) ∙ h) in
      last_or_before i n lt
      (λ e. subst (λ (x : Candidate T C). times x.calls j ≡ 0) (get_or_read items n y within at d ∙ sym (ap (λ (k : ℕ). get_or items k d) e))
      (takes j parts.1)) (λ less. before i d less j parts.0)
