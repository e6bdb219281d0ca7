-- Leaves and trees with lesser worths.
use Rattle.std.proofs.Common.{◌≡◌, ℕ, ◌+◌, ◌*◌, ◌/◌, ◌^◌, ◌<◌, ◌≤◌, ◌==◌, Bool, true, false, cond, ◌&&◌, List, [], ◌∷◌, length, map, refl, sym, ap, ◌∙◌, subst}
use Rattle.std.proofs.Common.{inl, inr, arith, ◌⊎◌, to_z, of_z, FitsSigned}
use Rattle.std.specs.Prelude.{ℤ, pos, negsuc, neg_ℤ, ◌+ℤ◌, ◌-ℤ◌, ◌*ℤ◌, ◌≤ℤ◌, int_lt, unsigned_abs, max, All}
use Rattle.std.proofs.Math.Nat.{div-le_self, mul-div-le}
use Rattle.std.proofs.lemmas.Bool.{cases_lt}
use Rattle.std.specs.Int.{w128}
use Rattle.std.proofs.lemmas.Int.{ints, to_z_pos}
use Rattle.std.proofs.lemmas.List.{length-map}
use Rattle.std.proofs.lemmas.List.Elements.{All-nil, All-cons, All-head, All-tail}
use Rattle.std.proofs.lemmas.List.Sums.{sum_by-cons}
use Rattle.elevator_model.specs.Snapshot.{Snapshot, IsAccepted, call_count, car_count}
use Rattle.search_model.specs.declared.PriceOf.{PriceOf}
use Rattle.search_model.specs.declared.WorthOf.{WorthOf}
use Rattle.search_model.specs.declared.Leaf.{Leaf}
use Rattle.search_model.specs.declared.Twig.{Twig}
use Rattle.search_model.specs.declared.Twig.TheVariants.{Split, Leaf as Tip}
use Rattle.search_model.specs.Sums.{int_sum_by}
use Rattle.search_model.specs.Nodes.{Node}
use Rattle.search_model.specs.Certificates.{IsSound, IsSoundLeaf, TreePlace, Placed, are_each_once, has_whole_lists, is_filled, placed_from, places_after}
use Rattle.search_model.specs.Certificates.{sum_needed, sum_of_leaf}
use Rattle.kept_tours.specs.Leaves.{HasWorthSize}
use Rattle.kept_tours.proofs.EntryLemmas.{stored}
use Rattle.kept_tours.proofs.LeafLemmas.{whole_few}
use Rattle.cert_claims.specs.Due.{HasCars, worths_of, worths_of_tree}
use Rattle.cert_claims.specs.Lowered.{CanBeLowered, IsWideLeaf}
use Rattle.cert_claims.specs.Lowering.{IsSizedTwig, lowered_leaf, lowered_tree, lowered_worth, share_of}
use Rattle.cert_claims.proofs.LeafLemmas.{keys-map}

-- ---- sums

module _ {X : Type 0} (f : X → ℤ) (most : ℕ) where
  abbrev Within : X → Type 0
  Within x = (neg_ℤ (pos most) ≤ℤ f x) × (f x ≤ℤ pos most)

  sum_within : (xs : List X) → All Within xs → (neg_ℤ (pos (length xs * most)) ≤ℤ int_sum_by f xs) × (int_sum_by f xs ≤ℤ pos (length xs * most))
  sum_within [] all = (omega (arith, ints), omega (arith, ints))
  sum_within (x ∷ xs) all =
      let here = All-head Within x xs all in
      let rest = sum_within xs (All-tail Within x xs all) in
      let low = here.0 in
      let high = here.1 in
      let less = rest.0 in
      let more = rest.1 in
      let step : length (x ∷ xs) * most ≡ length xs * most + most = omega arith in
      (omega (arith, ints, low, less, step), omega (arith, ints, high, more, step))

-- what the prices and worths of a wide leaf sum to
pub sum_small : (bound : ℕ) (leaf : Leaf) → IsWideLeaf bound leaf → (neg_ℤ (pos (10 ^ 29)) ≤ℤ sum_of_leaf leaf) × (sum_of_leaf leaf ≤ℤ pos (10 ^ 29))
sum_small bound leaf wide =
    let of_prices = sum_within (λ (p : PriceOf). p.price) (10 ^ 24) leaf.prices wide.sizes.prices in
    let of_worths = sum_within (λ (w : WorthOf). w.worth) (10 ^ 27) leaf.worths wide.sizes.worths in
    let prices = wide.prices in
    let worths = wide.worths in
    let low = of_prices.0 in
    let high = of_prices.1 in
    let low' = of_worths.0 in
    let high' = of_worths.1 in
    (omega (arith, ints, prices, worths, low, low'), omega (arith, ints, prices, worths, high, high'))

-- ---- how far a worth falls

abs_small : (z : ℤ) → pos 0 ≤ℤ z → z ≤ℤ pos (10 ^ 30) → unsigned_abs z ≤ 10 ^ 30
abs_small (pos n) low high = omega (arith, ints, high)
abs_small (negsuc n) low high = absurd (omega (arith, ints, low))

module _ (bound : ℕ) (leaf : Leaf) (sum needed : ℤ) (wide : IsWideLeaf bound leaf) (small : bound < 2 ^ 64) (sum_is : sum ≡ sum_of_leaf leaf)
    (needed_is : needed ≡ sum_needed bound) where
  abbrev kept : ℤ
  kept = to_z w128 (of_z w128 sum) -ℤ to_z w128 (of_z w128 needed)

  abbrev slack : ℤ
  slack = sum_of_leaf leaf -ℤ sum_needed bound

  kept_is : kept ≡ slack
  kept_is =
      let sizes = sum_small bound leaf wide in
      let low = sizes.0 in
      let high = sizes.1 in
      let one = stored sum (omega (arith, ints, low, sum_is)) (omega (arith, ints, high, sum_is)) in
      let other = stored needed (omega (arith, ints, needed_is, small)) (omega (arith, ints, needed_is, small)) in
      omega (arith, ints, one, other, sum_is, needed_is)

  slack_small : (pos 0 ≤ℤ slack) × (slack ≤ℤ pos (10 ^ 30))
  slack_small = (let enough = wide.enough in let high = (sum_small bound leaf wide).1 in (omega (arith, ints, enough), omega (arith, ints, high, small)))

  kept_stored : to_z w128 (of_z w128 kept) ≡ slack
  kept_stored = (let both = slack_small in let low = both.0 in let high = both.1 in
      ap (λ (z : ℤ). to_z w128 (of_z w128 z)) kept_is ∙ stored slack (omega (arith, ints, low)) (omega (arith, ints, high)))

  pub slack_fits : FitsSigned w128 kept
  slack_fits = subst (FitsSigned w128) (sym kept_is) (fits slack slack_small.0 slack_small.1)
    where
      fits : (z : ℤ) → pos 0 ≤ℤ z → z ≤ℤ pos (10 ^ 30) → FitsSigned w128 z
      fits (pos n) low high = record { sfits = omega (arith, ints, high) }
      fits (negsuc n) low high = absurd (omega (arith, ints, low))

  -- the slack as a number
  module _ (number parts : ℕ) (number_is : number ≡ unsigned_abs (to_z w128 (of_z w128 kept))) where
    number_small : number ≤ 10 ^ 30
    number_small = (let e = number_is ∙ ap unsigned_abs kept_stored in let most = abs_small slack slack_small.0 slack_small.1 in omega (arith, e, most))

    part_small : number / parts < 2 ^ 127
    part_small = (let less = div-le_self number parts in let most = number_small in omega (arith, less, most))

    pub share_fits : FitsSigned w128 (pos (number / parts))
    share_fits = record { sfits = part_small }

    pub share_is : parts ≡ max 1 (length leaf.worths) → to_z w128 (number / parts) ≡ share_of bound leaf
    share_is e = to_z_pos w128 (number / parts) part_small
        ∙ ap pos (ap (λ (m : ℕ). number / m) e ∙ ap (λ (n : ℕ). n / max 1 (length leaf.worths)) (number_is ∙ ap unsigned_abs kept_stored))

-- it is of a size that can be taken off
pub share_by : (bound : ℕ) (leaf : Leaf) (by : ℤ) → IsWideLeaf bound leaf → bound < 2 ^ 64 → by ≡ share_of bound leaf → (pos 0 ≤ℤ to_z w128 (of_z w128 by))
    × (to_z w128 (of_z w128 by) ≤ℤ pos (10 ^ 31))
share_by bound leaf by wide small is =
    let slack = slack_small bound leaf (sum_of_leaf leaf) (sum_needed bound) wide small refl refl in
    let number = unsigned_abs (sum_of_leaf leaf -ℤ sum_needed bound) in
    let most = abs_small (sum_of_leaf leaf -ℤ sum_needed bound) slack.0 slack.1 in
    let less = div-le_self number (max 1 (length leaf.worths)) in
    let kept = stored by (omega (arith, ints, is)) (omega (arith, ints, is, most, less)) in
    (omega (arith, ints, kept, is), omega (arith, ints, kept, is, most, less))

-- ---- one worth

pub lowered_less : (by : ℤ) (w : WorthOf) → pos 0 ≤ℤ by → (lowered_worth by w).worth ≤ℤ w.worth
lowered_less by w le = by_test (int_lt (w.worth -ℤ by) (neg_ℤ (pos (10 ^ 27))))
  where
    by_test : (b : Bool) → cond b w.worth (w.worth -ℤ by) ≤ℤ w.worth
    by_test true = omega (arith, ints)
    by_test false = omega (arith, ints, le)

lowered_near : (by : ℤ) (w : WorthOf) → pos 0 ≤ℤ by → w.worth ≤ℤ ((lowered_worth by w).worth +ℤ by)
lowered_near by w le = by_test (int_lt (w.worth -ℤ by) (neg_ℤ (pos (10 ^ 27))))
  where
    by_test : (b : Bool) → w.worth ≤ℤ (cond b w.worth (w.worth -ℤ by) +ℤ by)
    by_test true = omega (arith, ints, le)
    by_test false = omega (arith, ints)

lowered_size : (by : ℤ) (w : WorthOf) → pos 0 ≤ℤ by → HasWorthSize w → HasWorthSize (lowered_worth by w)
lowered_size by w le size =
    let low = size.0 in
    let high = size.1 in
    let less = lowered_less by w le in
    (by_test (int_lt (w.worth -ℤ by) (neg_ℤ (pos (10 ^ 27)))) refl, omega (arith, ints, high, less))
  where
    by_test : (b : Bool) → int_lt (w.worth -ℤ by) (neg_ℤ (pos (10 ^ 27))) ≡ b → neg_ℤ (pos (10 ^ 27)) ≤ℤ cond b w.worth (w.worth -ℤ by)
    by_test true e = size.0
    by_test false e = omega (arith, ints, e)

-- ---- one leaf

share_low : (bound : ℕ) (leaf : Leaf) → pos 0 ≤ℤ share_of bound leaf
share_low bound leaf = omega (arith, ints)

module _ (by : ℤ) (low : pos 0 ≤ℤ by) where
  sum_near : (worths : List WorthOf)
      → int_sum_by (λ (w : WorthOf). w.worth) worths ≤ℤ (int_sum_by (λ (w : WorthOf). w.worth) (map (lowered_worth by) worths) +ℤ (pos (length worths) *ℤ by))
  sum_near [] = omega (arith, ints)
  sum_near (w ∷ worths) =
      let here = lowered_near by w low in
      let rest = sum_near worths in
      let step : pos (length (w ∷ worths)) *ℤ by ≡ (pos (length worths) *ℤ by) +ℤ by = omega (arith, ints) in
      omega (arith, ints, here, rest, step)

  worth_less : (c : ℕ) (worths : List WorthOf)
      → int_sum_by (λ (w : WorthOf). cond (w.car == c) w.worth (pos 0)) (map (lowered_worth by) worths) ≤ℤ int_sum_by
      (λ (w : WorthOf). cond (w.car == c) w.worth (pos 0)) worths
  worth_less c [] = omega (arith, ints)
  worth_less c (w ∷ worths) =
      let rest = worth_less c worths in
      let here = by_test (w.car == c) in
      omega (arith, ints, rest, here)
    where
      by_test : (b : Bool) → cond b (lowered_worth by w).worth (pos 0) ≤ℤ cond b w.worth (pos 0)
      by_test true = lowered_less by w low
      by_test false = omega (arith, ints)

  sizes_lowered : (worths : List WorthOf) → All HasWorthSize worths → All HasWorthSize (map (lowered_worth by) worths)
  sizes_lowered [] all = All-nil HasWorthSize
  sizes_lowered (w ∷ worths) all =
      All-cons HasWorthSize (lowered_worth by w) (map (lowered_worth by) worths) (lowered_size by w low (All-head HasWorthSize w worths all))
      (sizes_lowered worths (All-tail HasWorthSize w worths all))

-- a part of a number, as often as there are parts
times_share : (k n : ℕ) → n * (k / max 1 n) ≤ k
times_share k n = by_cases (cases_lt n 1)
  where
    by_cases : (n < 1) ⊎ (1 ≤ n) → n * (k / max 1 n) ≤ k
    by_cases (inl none) = (let e : n ≡ 0 = omega (arith, none) in omega (arith, ap (λ (m : ℕ). m * (k / max 1 n)) e))
    by_cases (inr some) = (let e : max 1 n ≡ n = omega (arith, some) in let le = mul-div-le k n in omega (arith, le, ap (λ (m : ℕ). n * (k / m)) e))

pub enough_lowered : (bound : ℕ) (leaf : Leaf) → sum_needed bound ≤ℤ sum_of_leaf leaf → sum_needed bound ≤ℤ sum_of_leaf (lowered_leaf bound leaf)
enough_lowered bound leaf enough =
    let by = share_of bound leaf in
    let near = sum_near by (share_low bound leaf) leaf.worths in
    let slack = unsigned_abs (sum_of_leaf leaf -ℤ sum_needed bound) in
    let is : pos slack ≡ sum_of_leaf leaf -ℤ sum_needed bound = abs_is (sum_of_leaf leaf -ℤ sum_needed bound) (omega (arith, ints, enough)) in
    let share = times_share slack (length leaf.worths) in
    let times : pos (length leaf.worths) *ℤ by ≡ pos (length leaf.worths * (slack / max 1 (length leaf.worths))) = refl in
    omega (arith, ints, near, is, share, times)
  where
    abs_is : (z : ℤ) → pos 0 ≤ℤ z → pos (unsigned_abs z) ≡ z
    abs_is (pos n) low = refl
    abs_is (negsuc n) low = absurd (omega (arith, ints, low))

module _ (s : Snapshot) (node : Node) (bound : ℕ) (leaf : Leaf) where
  abbrev lowered : Leaf
  lowered = lowered_leaf bound leaf

  whole_lowered : has_whole_lists s leaf ≡ true → has_whole_lists s lowered ≡ true
  whole_lowered whole =
      ap (λ (keys : List ℕ). are_each_once (call_count s) (map (λ (p : PriceOf). p.call) leaf.prices) && are_each_once (car_count s) keys)
      (keys-map (lowered_worth (share_of bound leaf)) (λ (w : WorthOf). w.car) leaf.worths (λ w. refl)) ∙ whole

  pub sound_lowered : IsSoundLeaf s bound node leaf → IsSoundLeaf s bound node lowered
  sound_lowered sound = record {
    whole = whole_lowered sound.whole;
    enough = enough_lowered bound leaf sound.enough;
    worths = λ c lt tour is. (
        let less = worth_less (share_of bound leaf) (share_low bound leaf) c leaf.worths in
        let worth = sound.worths c lt tour is in
        omega (arith, ints, less, worth));
  }

-- ---- trees

module _ (bound : ℕ) where
  pub filled_lowered : (places : List TreePlace) (twigs : List Twig) → is_filled places (lowered_tree bound twigs) ≡ is_filled places twigs
  filled_lowered [] [] = refl
  filled_lowered (place ∷ places) [] = refl
  filled_lowered [] (twig ∷ twigs) = refl
  filled_lowered (place ∷ places) (Split j part ∷ twigs) = filled_lowered (places_after place (Split j part) places) twigs
  filled_lowered (place ∷ places) (Tip leaf ∷ twigs) = filled_lowered places twigs

  pub worths_lowered : (twigs : List Twig) → worths_of_tree (lowered_tree bound twigs) ≡ worths_of_tree twigs
  worths_lowered [] = refl
  worths_lowered (Split j part ∷ twigs) =
      let rest = worths_lowered twigs in
      let one = sum_by-cons worths_of (Split j part) (lowered_tree bound twigs) in
      let other = sum_by-cons worths_of (Split j part) twigs in
      omega (arith, rest, one, other)
  worths_lowered (Tip leaf ∷ twigs) =
      let rest = worths_lowered twigs in
      let one = sum_by-cons worths_of (Tip (lowered_leaf bound leaf)) (lowered_tree bound twigs) in
      let other = sum_by-cons worths_of (Tip leaf) twigs in
      let same = length-map leaf.worths (lowered_worth (share_of bound leaf)) in
      omega (arith, rest, one, other, same)

  pub cars_lowered : (twigs : List Twig) → All HasCars twigs → All HasCars (lowered_tree bound twigs)
  cars_lowered [] all = All-nil HasCars
  cars_lowered (Split j part ∷ twigs) all =
      All-cons HasCars (Split j part) (lowered_tree bound twigs) (All-head HasCars (Split j part) twigs all)
      (cars_lowered twigs (All-tail HasCars (Split j part) twigs all))
  cars_lowered (Tip leaf ∷ twigs) all =
      All-cons HasCars (Tip (lowered_leaf bound leaf)) (lowered_tree bound twigs) tt (cars_lowered twigs (All-tail HasCars (Tip leaf) twigs all))

  pub worths_below : (leaf : Leaf) → All HasWorthSize leaf.worths → All HasWorthSize (lowered_leaf bound leaf).worths
  worths_below leaf all = sizes_lowered (share_of bound leaf) (share_low bound leaf) leaf.worths all

  module _ (s : Snapshot) where
    abbrev Sound : Placed → Type 0
    Sound p = IsSound s bound p.place p.twig

    pub tree_lowered : (places : List TreePlace) (twigs : List Twig) → All Sound (placed_from places twigs)
        → All Sound (placed_from places (lowered_tree bound twigs))
    tree_lowered places [] sound = sound
    tree_lowered [] (twig ∷ twigs) sound = All-nil Sound
    tree_lowered (place ∷ places) (Split j part ∷ twigs) sound =
        let here : Placed = record { place = place; twig = Split j part } in
        let later = placed_from (places_after place (Split j part) places) twigs in
        All-cons Sound here (placed_from (places_after place (Split j part) places) (lowered_tree bound twigs)) (All-head Sound here later sound)
        (tree_lowered (places_after place (Split j part) places) twigs (All-tail Sound here later sound))
    tree_lowered (place ∷ places) (Tip leaf ∷ twigs) sound =
        let here : Placed = record { place = place; twig = Tip leaf } in
        let new : Placed = record { place = place; twig = Tip (lowered_leaf bound leaf) } in
        let later = placed_from places twigs in
        All-cons Sound new (placed_from places (lowered_tree bound twigs)) (sound_lowered s place.node bound leaf (All-head Sound here later sound))
        (tree_lowered places twigs (All-tail Sound here later sound))

    -- each leaf of a proved tree can be lowered
    pub all_can : IsAccepted s → (places : List TreePlace) (twigs : List Twig) → is_filled places twigs ≡ true → All Sound (placed_from places twigs)
        → All IsSizedTwig twigs → All (CanBeLowered bound) twigs
    all_can ok places [] filled sound sized = All-nil (CanBeLowered bound)
    all_can ok [] (twig ∷ twigs) filled sound sized = absurd cc
    all_can ok (place ∷ places) (Split j part ∷ twigs) filled sound sized =
        let here : Placed = record { place = place; twig = Split j part } in
        let later = placed_from (places_after place (Split j part) places) twigs in
        All-cons (CanBeLowered bound) (Split j part) twigs tt
        (all_can ok (places_after place (Split j part) places) twigs filled (All-tail Sound here later sound)
        (All-tail IsSizedTwig (Split j part) twigs sized))
    all_can ok (place ∷ places) (Tip leaf ∷ twigs) filled sound sized =
        let here : Placed = record { place = place; twig = Tip leaf } in
        let later = placed_from places twigs in
        let own = All-head Sound here later sound in
        let few = whole_few s leaf ok own.whole in
        let wide : IsWideLeaf bound leaf =
        record { prices = few.0; worths = few.1; sizes = All-head IsSizedTwig (Tip leaf) twigs sized; enough = own.enough } in
        All-cons (CanBeLowered bound) (Tip leaf) twigs wide
        (all_can ok places twigs filled (All-tail Sound here later sound) (All-tail IsSizedTwig (Tip leaf) twigs sized))

-- a tree that proves a bound proves each lesser one
module _ (s : Snapshot) (from bound : ℕ) (le : bound ≤ from) where
  sound_less : (p : Placed) → IsSound s from p.place p.twig → IsSound s bound p.place p.twig
  sound_less p sound = of p.place p.twig sound
    where
      of : (place : TreePlace) (twig : Twig) → IsSound s from place twig → IsSound s bound place twig
      of place (Split j part) is = is
      of place (Tip leaf) is = record { whole = is.whole; enough = (let enough = is.enough in omega (arith, ints, enough, le)); worths = is.worths }

  pub all_less : (placed : List Placed) → All (λ (p : Placed). IsSound s from p.place p.twig) placed
      → All (λ (p : Placed). IsSound s bound p.place p.twig) placed
  all_less [] all = All-nil (λ (p : Placed). IsSound s bound p.place p.twig)
  all_less (p ∷ placed) all =
      All-cons (λ (q : Placed). IsSound s bound q.place q.twig) p placed (sound_less p (All-head (λ (q : Placed). IsSound s from q.place q.twig) p placed all))
      (all_less placed (All-tail (λ (q : Placed). IsSound s from q.place q.twig) p placed all))
