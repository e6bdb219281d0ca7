-- The pairs of a car's tours as candidates.
use Rattle.std.proofs.Common.{◌≡◌, ℕ, zero, suc, ◌+◌, ◌*◌, ◌^◌, ◌<◌, ◌≤◌, List, [], ◌∷◌, ◌++◌, length, get_or, ℤ, pos, neg_ℤ, ◌+ℤ◌, ◌-ℤ◌, ◌≤ℤ◌, refl, sym, ap}
use Rattle.std.proofs.Common.{◌∙◌, subst, inl, inr, arith, length-append}
use Rattle.std.proofs.lemmas.Int.{ints}
use Rattle.std.proofs.lemmas.Bool.{cases_lt}
use Rattle.std.proofs.lemmas.List.{get_or_push, get_or_append_left, get_or_default, get_or_read}
use Rattle.std.specs.List.Sorted.{IsPermutation}
use Rattle.std.proofs.lemmas.List.Sorted.{length_permutation, All-permutation, Contains-permutation}
use Rattle.call_sets.specs.Counting.{has}
use Rattle.elevator_model.specs.declared.Stop.{Stop}
use Rattle.elevator_model.specs.Snapshot.{Snapshot}
use Rattle.elevator_model.specs.Costs.{cost_of}
use Rattle.elevator_model.specs.Plans.{is_boarded_in}
use Rattle.car_search.proofs.NumberLemmas.{last_or_before}
use Rattle.car_search.proofs.SortLemmas.{each_sorted, place_sorted}
use Rattle.car_search.specs.Counts.{one_if}
use Rattle.half_plans.specs.declared.Pair.{Pair}
use Rattle.half_plans.specs.declared.candidates.PricedTour.{PricedTour}
use Rattle.half_plans.specs.PairPlans.{tour_at, IsPairBelow, pair_count}
use Rattle.half_plans.specs.Choosing.{PairCandidate, CarPairs, no_candidate, candidate_at}
use Rattle.car_search.specs.Choosing.{IsSmall}
use Rattle.half_plans.specs.Choices.{IsCandidate, AreCandidates}
use Rattle.half_plans.specs.Priced.{reduced_cost_of_pair, IsPriced, AreNear, IsPricedTour, ArePricedTours, no_tour, priced_at, candidate_of, IsMade, place_of}
use Rattle.half_plans.specs.Priced.{AreMade}

-- ---- places of pairs

count_up : (a b : ℕ) → a ≤ b → pair_count a ≤ pair_count b
count_up a zero le = (let none : a ≡ 0 = omega (arith, le) in subst (λ (k : ℕ). pair_count k ≤ 0) (sym none) (omega arith))
count_up a (suc b) le =
    elim (cases_lt a (suc b)) [
      | inl lt ↦ (let before = count_up a b (omega (arith, lt)) in omega (arith, before))
      | inr past ↦ (let same : a ≡ suc b = omega (arith, le, past) in subst (λ (k : ℕ). pair_count k ≤ pair_count (suc b)) (sym same) (omega arith))
    ]

place_before : (p q : Pair) → p.first ≤ p.second → p.second < q.second → place_of p < place_of q
place_before p q ordered lt =
    let up = count_up (suc p.second) q.second (omega (arith, lt)) in
    omega (arith, up, ordered)

one_place : (p q : Pair) → p.first ≤ p.second → q.first ≤ q.second → place_of p ≡ place_of q → p ≡ q
one_place p q first second same =
    let rows : p.second ≡ q.second = row in
    let counts = ap pair_count rows in
    let columns : p.first ≡ q.first = omega (arith, same, counts) in
    ap (λ (k : ℕ). made k p.second) columns ∙ ap (made q.first) rows
  where
    made : ℕ → ℕ → Pair
    made a b = record { first = a; second = b }

    row : p.second ≡ q.second
    row =
        elim (cases_lt p.second q.second) [
          | inl lt ↦ absurd (let before = place_before p q first lt in omega (arith, before, same))
          | inr past ↦ elim (cases_lt q.second p.second) [
            | inl lt ↦ absurd (let before = place_before q p second lt in omega (arith, before, same))
            | inr over ↦ omega (arith, past, over)
          ]
        ]

-- ---- one candidate more

pub made_more : (least : ℤ) (tours : List PricedTour) (xs : List PairCandidate) (y : PairCandidate) → AreMade least tours xs → IsMade least tours y
    → place_of y.item ≡ length xs → AreMade least tours (xs ++ y ∷ [])
made_more least tours xs y made one at = record {
  each = λ i lt. each i (omega (arith, lt, long));
  placed = λ pair ordered lt. placed pair ordered (omega (arith, lt, long));
}
  where
    long : length (xs ++ y ∷ []) ≡ length xs + 1
    long = length-append xs (y ∷ [])

    last : candidate_at (xs ++ y ∷ []) (length xs) ≡ y
    last = get_or_push xs y no_candidate (length xs) refl

    each : (i : ℕ) → i < length xs + 1 → IsMade least tours (candidate_at (xs ++ y ∷ []) i)
    each i lt =
        last_or_before i (length xs) lt (λ e. subst (IsMade least tours) (sym (ap (candidate_at (xs ++ y ∷ [])) e ∙ last)) one)
        (λ less. subst (IsMade least tours) (sym (get_or_append_left xs (y ∷ []) no_candidate i less)) (made.each i less))

    placed : (pair : Pair) → pair.first ≤ pair.second → place_of pair < length xs + 1 → (candidate_at (xs ++ y ∷ []) (place_of pair)).item ≡ pair
    placed pair ordered lt =
        last_or_before (place_of pair) (length xs) lt
        (λ e. ap (λ (k : ℕ). (candidate_at (xs ++ y ∷ []) k).item) e ∙ ap (λ (x : PairCandidate). x.item) last
        ∙ one_place y.item pair one.places.ordered ordered (at ∙ sym e))
        (λ less. ap (λ (x : PairCandidate). x.item) (get_or_append_left xs (y ∷ []) no_candidate (place_of pair) less) ∙ made.placed pair ordered less)

pub made_none : (least : ℤ) (tours : List PricedTour) → AreMade least tours []
made_none least tours = record { each = λ i lt. absurd (omega (arith, lt)); placed = λ pair ordered lt. absurd (omega (arith, lt)) }

pub is_made : (least : ℤ) (tours : List PricedTour) (pair : Pair) (x y : PricedTour) (made : PairCandidate) → IsPairBelow (length tours) pair
    → x ≡ get_or tours pair.first x → y ≡ get_or tours pair.second y → made ≡ candidate_of least pair x y → IsMade least tours made
is_made least tours pair x y made below first second is =
    let ordered = below.ordered in
    let within = below.within in
    let at_first : x ≡ priced_at tours pair.first = get_or_read tours pair.first x (omega (arith, ordered, within)) first no_tour in
    let at_second : y ≡ priced_at tours pair.second = get_or_read tours pair.second y within second no_tour in
    subst (IsMade least tours)
    (sym (is ∙ ap (λ (z : PricedTour). candidate_of least pair z y) at_first ∙ ap (candidate_of least pair (priced_at tours pair.first)) at_second))
    (record { places = below; is = refl })

-- ---- what the candidates are

module _ (s : Snapshot) (c : ℕ) (prices : List ℤ) (tours : List (List Stop)) (priced : List PricedTour) (least : ℤ)
    (are : ArePricedTours s c prices tours priced) (near : AreNear least priced) where
  one : (k : ℕ) → k < length priced → IsPricedTour s c prices (tour_at tours k) (priced_at priced k)
  one k lt = are.each k no_tour lt

  made-candidate : (x : PairCandidate) → IsMade least priced x → IsCandidate s c tours x
  made-candidate x made =
      let ordered = made.places.ordered in
      let within = made.places.within in
      let first = one x.item.first (omega (arith, ordered, within)) in
      let second = one x.item.second within in
      let counted = are.counted in
      record {
        places = record { ordered = ordered; within = omega (arith, within, counted) };
        cost = ap (λ (y : PairCandidate). y.cost) made.is ∙ ap (λ (n : ℕ). n + (priced_at priced x.item.second).cost) first.cost
            ∙ ap (λ (n : ℕ). cost_of s c (tour_at tours x.item.first) + n) second.cost;
        times = λ j. ap (λ (y : PairCandidate). one_if (has y.calls.first j) + one_if (has y.calls.second j)) made.is
            ∙ ap (λ b. one_if b + one_if (has (priced_at priced x.item.second).calls j)) (first.calls j)
            ∙ ap (λ b. one_if (is_boarded_in (tour_at tours x.item.first) j) + one_if b) (second.calls j);
      }

  pub made-candidates : (xs : List PairCandidate) → AreMade least priced xs → length xs ≡ pair_count (length priced) → AreCandidates s c tours xs
  made-candidates xs made long = record {
    counted = long ∙ ap pair_count are.counted;
    each = λ i lt. made-candidate (candidate_at xs i) (made.each i lt);
    all = λ pair below. found pair below;
  }
    where
      found : (pair : Pair) → IsPairBelow (length tours) pair → (i : ℕ) × (i < length xs) × ((candidate_at xs i).item ≡ pair)
      found pair below =
          let ordered = below.ordered in
          let within = below.within in
          let counted = are.counted in
          let up = count_up (suc pair.second) (length priced) (omega (arith, within, counted)) in
          let lt : place_of pair < length xs = omega (arith, up, ordered, long) in
          (place_of pair, lt, made.placed pair ordered lt)

  made-excess : (x : PairCandidate) → IsMade least priced x → x.excess ≡ reduced_cost_of_pair prices x -ℤ (least +ℤ least)
  made-excess x made =
      let ordered = made.places.ordered in
      let within = made.places.within in
      let a = priced_at priced x.item.first in
      let b = priced_at priced x.item.second in
      let first = (one x.item.first (omega (arith, ordered, within))).reduced in
      let second = (one x.item.second within).reduced in
      let both : ((a.reduced -ℤ least) +ℤ (b.reduced -ℤ least)) ≡ reduced_cost_of_pair prices (candidate_of least x.item a b) -ℤ (least +ℤ least) =
      omega (arith, ints, first, second) in
      ap (λ (y : PairCandidate). y.excess) made.is ∙ both ∙ ap (λ (y : PairCandidate). reduced_cost_of_pair prices y -ℤ (least +ℤ least)) (sym made.is)

  made-small : (x : PairCandidate) → IsMade least priced x → IsSmall x
  made-small x made =
      let ordered = made.places.ordered in
      let within = made.places.within in
      let first = near.each x.item.first no_tour (omega (arith, ordered, within)) in
      let second = near.each x.item.second no_tour within in
      let above_first = near.above x.item.first no_tour (omega (arith, ordered, within)) in
      let above_second = near.above x.item.second no_tour within in
      let low = near.low in
      let first_cost = first.cost in
      let second_cost = second.cost in
      let first_high = first.high in
      let second_high = second.high in
      subst IsSmall (sym made.is) (record {
        cost = omega (arith, first_cost, second_cost);
        low = omega (arith, ints, above_first, above_second);
        high = omega (arith, ints, first_high, second_high, low);
      })

  pub made-priced : (x : CarPairs) → AreMade least priced x.candidates.items → x.least ≡ (least +ℤ least) → IsPriced prices x
  made-priced x made is =
      let low = near.low in
      let high = near.high in
      record {
        low = omega (arith, ints, low, is);
        high = omega (arith, ints, high, is);
        excess = λ i lt. made-excess (candidate_at x.candidates.items i) (made.each i lt)
            ∙ ap (λ (z : ℤ). reduced_cost_of_pair prices (candidate_at x.candidates.items i) -ℤ z) (sym is);
        small = λ i d lt.
            subst IsSmall (get_or_default x.candidates.items i no_candidate d lt) (made-small (candidate_at x.candidates.items i) (made.each i lt));
      }

-- ---- in another order

pub candidates-sorted : (s : Snapshot) (c : ℕ) (tours : List (List Stop)) (xs ys : List PairCandidate) → IsPermutation xs ys → AreCandidates s c tours xs
    → AreCandidates s c tours ys
candidates-sorted s c tours xs ys moved are = record {
  counted = length_permutation xs ys moved ∙ are.counted;
  each = λ i lt. each_sorted no_candidate xs ys moved (IsCandidate s c tours) are.each i lt;
  all = λ pair below. found pair below;
}
  where
    found : (pair : Pair) → IsPairBelow (length tours) pair → (i : ℕ) × (i < length ys) × ((candidate_at ys i).item ≡ pair)
    found pair below =
        let before = are.all pair below in
        let after = place_sorted no_candidate xs ys moved before.0 before.1 in
        (after.0, after.1, ap (λ (y : PairCandidate). y.item) after.2 ∙ before.2)

-- the same least reduced cost, and the candidates in another order
pub priced-sorted : (prices : List ℤ) (x y : CarPairs) → y.least ≡ x.least → IsPermutation x.candidates.items y.candidates.items → IsPriced prices x
    → IsPriced prices y
priced-sorted prices x y same moved priced = record {
  low = subst (λ (z : ℤ). neg_ℤ (pos (4 * 10 ^ 26)) ≤ℤ z) (sym same) priced.low;
  high = subst (λ (z : ℤ). z ≤ℤ pos (4 * 10 ^ 26)) (sym same) priced.high;
  excess = subst (λ (z : ℤ). (i : ℕ) → i < length y.candidates.items
      → (candidate_at y.candidates.items i).excess ≡ reduced_cost_of_pair prices (candidate_at y.candidates.items i) -ℤ z) (sym same)
      (each_sorted no_candidate x.candidates.items y.candidates.items moved
      (λ (k : PairCandidate). k.excess ≡ reduced_cost_of_pair prices k -ℤ x.least) priced.excess);
  small = All-permutation IsSmall x.candidates.items y.candidates.items moved priced.small;
}
