-- What is judged of a leaf.
use Rattle.std.proofs.Common.{◌≡◌, ℕ, zero, suc, ◌<◌, ◌≤◌, Bool, true, false, not, cond, List, length, take, sym, ap, ◌∙◌, subst, inl, inr, arith, Option, Some}
use Rattle.std.proofs.Common.{None}
use Rattle.std.specs.Prelude.{ℤ, int_lt, nat_lt}
use Rattle.std.proofs.Math.Nat.{eq-or-lt_of_le}
use Rattle.std.proofs.lemmas.Bool.{cond-true, cond-false, le-ltb, lt-ltb}
use Rattle.std.proofs.lemmas.List.{take_all}
use Rattle.elevator_model.specs.declared.Stop.{Stop}
use Rattle.elevator_model.specs.Snapshot.{Snapshot, car_count}
use Rattle.elevator_model.specs.Plans.{first_of}
use Rattle.search_model.specs.declared.Leaf.{Leaf}
use Rattle.search_model.specs.declared.Reason.{Reason}
use Rattle.search_model.specs.declared.Reason.TheVariants.{Sum, Lists, Under as IsUnder}
use Rattle.search_model.specs.Nodes.{Node}
use Rattle.search_model.specs.Certificates.{has_whole_lists, sum_of_leaf, sum_needed, price_in, worth_in, claim_in}
use Rattle.search_model.specs.Verdicts.{first_under, kept_at, reason_of_visit, reason_of_car, reason_of_cars, reason_of_leaf}
use Rattle.kept_tours.specs.declared.counts.Count.{Count}
use Rattle.kept_tours.specs.declared.counts.Count.TheVariants.{Whole, Longer, Under}
use Rattle.kept_tours.specs.declared.entries.Stake.{Stake}
use Rattle.kept_tours.specs.Counting.{IsCounted}
use Rattle.cert_checker.specs.Judging.{reason_of_count}

-- the first car with a reason gives the leaf's
pub cars_first : (s : Snapshot) (k : ℕ) (node : Node) (leaf : Leaf) (n c : ℕ) (reason : Reason) → c < n → reason_of_cars s k node leaf c ≡ None
    → reason_of_car s k node leaf c ≡ Some reason → reason_of_cars s k node leaf n ≡ Some reason
cars_first s k node leaf zero c reason lt none here = absurd (omega (arith, lt))
cars_first s k node leaf (suc n) c reason lt none here =
    let le : c ≤ n = omega (arith, lt) in
    elim (eq-or-lt_of_le le) [
      | inl same ↦ ap (λ (o : Option Reason). first_of o (reason_of_car s k node leaf n)) (ap (reason_of_cars s k node leaf) (sym same) ∙ none)
          ∙ ap (reason_of_car s k node leaf) (sym same) ∙ here
      | inr below ↦ ap (λ (o : Option Reason). first_of o (reason_of_car s k node leaf n)) (cars_first s k node leaf n c reason below none here)
    ]

-- its lists are whole, and its sum is too small
pub leaf_sum : (s : Snapshot) (bound k : ℕ) (node : Node) (leaf : Leaf) (need got : ℤ) → has_whole_lists s leaf ≡ true → need ≡ sum_needed bound
    → got ≡ sum_of_leaf leaf → int_lt got need ≡ true → Some (Sum k need got) ≡ reason_of_leaf s bound k node leaf
leaf_sum s bound k node leaf need got whole need_is got_is low =
    let cars = reason_of_cars s k node leaf (car_count s) in
    let less : int_lt (sum_of_leaf leaf) (sum_needed bound) ≡ true = ap (λ (z : ℤ). int_lt z (sum_needed bound)) (sym got_is) ∙ ap (int_lt got) (sym need_is)
    ∙ low in
    ap (λ (z : ℤ). Some (Sum k z got)) need_is ∙ ap (λ (z : ℤ). Some (Sum k (sum_needed bound) z)) got_is
    ∙ sym (cond-false (not (has_whole_lists s leaf)) (Some (Lists k))
    (cond (int_lt (sum_of_leaf leaf) (sum_needed bound)) (Some (Sum k (sum_needed bound) (sum_of_leaf leaf))) cars) (ap not whole)
    ∙ cond-true (int_lt (sum_of_leaf leaf) (sum_needed bound)) (Some (Sum k (sum_needed bound) (sum_of_leaf leaf))) cars less)

-- its lists are whole, and its sum is enough
pub leaf_cars : (s : Snapshot) (bound k : ℕ) (node : Node) (leaf : Leaf) (need got : ℤ) → has_whole_lists s leaf ≡ true → need ≡ sum_needed bound
    → got ≡ sum_of_leaf leaf → int_lt got need ≡ false → reason_of_cars s k node leaf (car_count s) ≡ reason_of_leaf s bound k node leaf
leaf_cars s bound k node leaf need got whole need_is got_is enough =
    let cars = reason_of_cars s k node leaf (car_count s) in
    let no_less : int_lt (sum_of_leaf leaf) (sum_needed bound) ≡ false = ap (λ (z : ℤ). int_lt z (sum_needed bound)) (sym got_is)
    ∙ ap (int_lt got) (sym need_is) ∙ enough in
    sym (cond-false (not (has_whole_lists s leaf)) (Some (Lists k))
    (cond (int_lt (sum_of_leaf leaf) (sum_needed bound)) (Some (Sum k (sum_needed bound) (sum_of_leaf leaf))) cars) (ap not whole)
    ∙ cond-false (int_lt (sum_of_leaf leaf) (sum_needed bound)) (Some (Sum k (sum_needed bound) (sum_of_leaf leaf))) cars no_less)

-- ---- a car

visited : (s : Snapshot) (k : ℕ) (leaf : Leaf) (c : ℕ) (longer longer' : Bool) (first first' : Option (List Stop)) → longer ≡ longer' → first ≡ first'
    → reason_of_visit s k leaf c longer first ≡ reason_of_visit s k leaf c longer' first'
visited s k leaf c longer longer' first first' e e' = ap (λ (b : Bool). reason_of_visit s k leaf c b first) e ∙ ap (reason_of_visit s k leaf c longer') e'

-- the count of a car's kept list up to its claim gives the car's reason
pub counted_reason : (s : Snapshot) (k : ℕ) (node : Node) (leaf : Leaf) (c : ℕ) (tour : List Stop) (count : Count)
    → IsCounted s node leaf c (worth_in leaf c) (claim_in leaf c) tour count
    → reason_of_count k c (record { worth = worth_in leaf c; claim = claim_in leaf c }) count tour ≡ reason_of_car s k node leaf c
counted_reason s k node leaf c tour (Whole n) h =
    let kept = kept_at s node leaf c in
    let counted = h.counted in
    let within = h.within in
    let few : length kept ≤ claim_in leaf c = omega (arith, counted, within) in
    let first : first_under s c (price_in leaf) (worth_in leaf c) (take (claim_in leaf c) kept) ≡ None =
    ap (first_under s c (price_in leaf) (worth_in leaf c)) (take_all (claim_in leaf c) kept few) ∙ h.none in
    sym (visited s k leaf c (nat_lt (claim_in leaf c) (length kept)) false
    (first_under s c (price_in leaf) (worth_in leaf c) (take (claim_in leaf c) kept)) None (le-ltb (claim_in leaf c) (length kept) few) first)
counted_reason s k node leaf c tour Longer h =
    let kept = kept_at s node leaf c in
    sym (visited s k leaf c (nat_lt (claim_in leaf c) (length kept)) true
    (first_under s c (price_in leaf) (worth_in leaf c) (take (claim_in leaf c) kept)) None (lt-ltb (claim_in leaf c) (length kept) h.longer) h.none)
counted_reason s k node leaf c tour (Under value) h =
    ap (λ (z : ℤ). Some (IsUnder k c (worth_in leaf c) z tour)) h.value_is
    ∙ sym (ap (reason_of_visit s k leaf c (nat_lt (claim_in leaf c) (length (kept_at s node leaf c)))) h.first)

-- of a stake that is the leaf's
pub car_reason : (s : Snapshot) (k : ℕ) (node : Node) (leaf : Leaf) (c : ℕ) (stake : Stake) (tour : List Stop) (count : Count) → stake.worth ≡ worth_in leaf c
    → stake.claim ≡ claim_in leaf c → IsCounted s node leaf c stake.worth stake.claim tour count
    → reason_of_count k c stake count tour ≡ reason_of_car s k node leaf c
car_reason s k node leaf c stake tour count worth claim counted =
    let here = subst (λ (w : ℤ). IsCounted s node leaf c w stake.claim tour count) worth counted in
    let there = subst (λ (n : ℕ). IsCounted s node leaf c (worth_in leaf c) n tour count) claim here in
    ap (λ (z : Stake). reason_of_count k c z count tour) (λ i. record { worth = worth i; claim = claim i }) ∙ counted_reason s k node leaf c tour count there
