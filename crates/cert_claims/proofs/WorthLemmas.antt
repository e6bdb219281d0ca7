-- The claim that a count gives.
use Rattle.std.proofs.Common.{◌≡◌, ℕ, zero, suc, ◌<◌, ◌≤◌, List, [], ◌∷◌, length, take, refl, sym, ap, ◌∙◌, subst, arith, Some, None}
use Rattle.std.specs.Prelude.{ℤ, max}
use Rattle.elevator_model.specs.declared.Move.{Move}
use Rattle.elevator_model.specs.declared.Stop.{Stop}
use Rattle.elevator_model.specs.Snapshot.{Snapshot, IsAccepted, car_count}
use Rattle.elevator_model.specs.Partial.{course_of}
use Rattle.search_model.specs.declared.Leaf.{Leaf}
use Rattle.search_model.specs.Nodes.{Node, IsNodeOf, allows, requires_of}
use Rattle.search_model.specs.Certificates.{price_in, worth_in}
use Rattle.search_model.specs.Kept.{kept_list}
use Rattle.search_model.specs.Verdicts.{first_under, kept_at, tour_under_at}
use Rattle.kept_tours.specs.declared.counts.Count.TheVariants.{Whole, Longer, Under}
use Rattle.kept_tours.specs.Counting.{IsCounted}
use Rattle.kept_tours.proofs.WorthLemmas.{both_none, first_parts, none_of_worth}
use Rattle.cert_claims.specs.Due.{claim_due}
use Rattle.cert_claims.specs.Leaves.{HasWorths}

-- one that is found in front is found in the whole
front_none : (s : Snapshot) (c : ℕ) (price : ℕ → ℤ) (worth : ℤ) (n : ℕ) (lists : List (List Move)) → first_under s c price worth lists ≡ None
    → first_under s c price worth (take n lists) ≡ None
front_none s c price worth zero lists h = refl
front_none s c price worth (suc n) [] h = refl
front_none s c price worth (suc n) (moves ∷ lists) h =
    let both = first_parts (tour_under_at s c price worth (course_of s c moves)) (first_under s c price worth lists) h in
    both_none (tour_under_at s c price worth (course_of s c moves)) (first_under s c price worth (take n lists)) both.0
    (front_none s c price worth n lists both.1)

module _ (s : Snapshot) (node : Node) (leaf : Leaf) (c limit : ℕ) (ok : IsAccepted s) (car : c < car_count s) (is : IsNodeOf s node)
    (worths : HasWorths s node leaf) where
  none : first_under s c (price_in leaf) (worth_in leaf c) (kept_at s node leaf c) ≡ None
  none = none_of_worth s node c (price_in leaf) (worth_in leaf c) ok car (λ j d few h. is.within j d h) (worths c car)

  pub whole_claim : (worth : ℤ) (tour : List Stop) (n claim : ℕ) → worth ≡ worth_in leaf c → IsCounted s node leaf c worth limit tour (Whole n)
      → claim ≡ max n 1 → 1 ≤ limit → (claim ≡ claim_due s node leaf c) × (claim ≤ limit)
  whole_claim worth tour n claim same counted is_claim low =
      let length_is : length (kept_at s node leaf c) ≡ n =
      ap (λ (z : ℤ). length (kept_list s c (price_in leaf) (allows node c) (requires_of node c) z)) (sym same) ∙ counted.counted in
      let within = counted.within in
      (omega (arith, is_claim, length_is), omega (arith, is_claim, within, low))

  pub longer_claim : (worth : ℤ) (tour : List Stop) → worth ≡ worth_in leaf c → IsCounted s node leaf c worth limit tour Longer
      → limit < claim_due s node leaf c
  longer_claim worth tour same counted =
      let longer : limit < length (kept_at s node leaf c) =
      subst (λ (z : ℤ). limit < length (kept_list s c (price_in leaf) (allows node c) (requires_of node c) z)) same counted.longer in
      omega (arith, longer)

  pub under_claim : (worth : ℤ) (tour : List Stop) (value : ℤ) → worth ≡ worth_in leaf c → IsCounted s node leaf c worth limit tour (Under value)
      → limit < claim_due s node leaf c
  under_claim worth tour value same counted =
      let found : first_under s c (price_in leaf) (worth_in leaf c) (take limit (kept_at s node leaf c)) ≡ Some tour =
      subst (λ (z : ℤ). first_under s c (price_in leaf) z (take limit (kept_list s c (price_in leaf) (allows node c) (requires_of node c) z)) ≡ Some tour)
      same counted.first in
      let front = front_none s c (price_in leaf) (worth_in leaf c) limit (kept_at s node leaf c) none in
      absurd (some_none (sym front ∙ found))
    where
      some_none : {X : Type 0} {x : X} → None ≡ Some x → ⊥
      some_none e = cc
