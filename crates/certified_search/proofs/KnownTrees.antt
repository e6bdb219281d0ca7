-- The tree of a certificate, of which the claims are due and few, has a text, which is not too long.
use Rattle.std.proofs.Common.{◌≡◌, ℕ, ◌+◌, ◌*◌, ◌^◌, ◌<◌, ◌≤◌, Bool, true, List, [], ◌∷◌, length, map, get_or, refl, sym, ap, ◌∙◌, subst, inl, inr, arith}
use Rattle.std.specs.Prelude.{All, sum_by}
use Rattle.std.proofs.lemmas.Bool.{cases_lt, both_ways, and_parts}
use Rattle.std.proofs.lemmas.List.{length-map}
use Rattle.std.proofs.lemmas.List.Elements.{All-nil, All-cons, All-head, All-tail}
use Rattle.std.proofs.lemmas.List.Sums.{sum_by-cons, get_or-le-sum_by}
use Rattle.call_sets.specs.Counting.{has}
use Rattle.call_sets.proofs.Bits.{has_none_above}
use Rattle.elevator_model.specs.Snapshot.{Snapshot, IsAccepted, car_count, call_count, call_of, is_possible}
use Rattle.search_model.specs.declared.PriceOf.{PriceOf}
use Rattle.search_model.specs.declared.WorthOf.{WorthOf}
use Rattle.search_model.specs.declared.Leaf.{Leaf}
use Rattle.search_model.specs.declared.Twig.{Twig}
use Rattle.search_model.specs.declared.Twig.TheVariants.{Split, Leaf as Tip}
use Rattle.search_model.specs.Nodes.{Node, IsNodeOf, set_of, set_where, is_part}
use Rattle.search_model.specs.Certificates.{TreePlace, Placed, IsSound, are_each_once, claim_in, is_filled, is_whole, placed_from, placed_twigs, places_after}
use Rattle.search_model.specs.Certificates.{root_place}
use Rattle.cert_claims.specs.Due.{StatesDue, claims_of as stated_claims, claims_of_tree, worths_of, worths_of_tree}
use Rattle.search_model.proofs.NodeLemmas.{part-from}
use Rattle.search_model.proofs.SetLemmas.{set_where-below}
use Rattle.search_model.proofs.SnapshotNodes.{root_is_node, first_is_node, second_is_node, set_of-root}
use Rattle.search_model.proofs.TreeLemmas.{part-index}
use Rattle.search_tree.specs.Sheets.{IsSizedTwig}
use Rattle.kept_tours.proofs.EntryLemmas.{all_at, claims_once, once-from, once-length}
use Rattle.tour_cost.proofs.Short.{calls-le}
use Rattle.cert_text.specs.Trees.{IsWorthWithin, IsLeafWithin, IsSplitWithin, IsTwigWithin, IsWithin, IsKnownLeaf, IsKnownTwig, AreTwigsKnown, claims_of}
use Rattle.cert_text.specs.Trees.{sum_of_claims}
use Rattle.cert_text.specs.Texts.{cert_text}
use Rattle.cert_text.specs.Written.{HasText}
use Rattle.cert_text.proofs.TreeLemmas.{filled_back}
use Rattle.cert_text.proofs.WithinLemmas.{whole_within}
use Rattle.cert_text.proofs.LengthLemmas.{HasAtMost, cert_length_of_answer, leaves_of, leaves_of_whole, splits_of}
use Rattle.tour_cost.proofs.Served.{cars-le}

-- what is known of a twig at its place
pub record IsKnown (s : Snapshot) (bound : ℕ) (place : TreePlace) (twig : Twig) : Type 0 where
  pub sound : IsSound s bound place twig
  pub sized : IsSizedTwig twig

-- and of each, at the places that they fill
abbrev pub AreKnown : Snapshot → (bound : ℕ) → List TreePlace → List Twig → Type 0
AreKnown s bound places [] = Unit {0}
AreKnown s bound [] (twig ∷ twigs) = ⊥
AreKnown s bound (place ∷ places) (twig ∷ twigs) = IsKnown s bound place twig × AreKnown s bound (places_after place twig places) twigs

module _ (s : Snapshot) (bound : ℕ) where
  pub are_known : (places : List TreePlace) (twigs : List Twig) → is_filled places twigs ≡ true
      → All (λ (p : Placed). IsSound s bound p.place p.twig) (placed_from places twigs) → All IsSizedTwig twigs → AreKnown s bound places twigs
  are_known places [] filled sound sized = tt
  are_known [] (twig ∷ twigs) filled sound sized = absurd cc
  are_known (place ∷ places) (twig ∷ twigs) filled sound sized =
      let Sound : Placed → Type 0 = λ p. IsSound s bound p.place p.twig in
      let here : Placed = record { place = place; twig = twig } in
      let later = placed_from (places_after place twig places) twigs in (
        record { sound = All-head Sound here later sound; sized = All-head IsSizedTwig twig twigs sized },
        are_known (places_after place twig places) twigs filled (All-tail Sound here later sound) (All-tail IsSizedTwig twig twigs sized),
      )

-- ---- splits

module _ (s : Snapshot) where
  -- a set of a node has cars of the building alone
  car_below : (node : Node) (j c : ℕ) → IsNodeOf s node → j < call_count s → has (set_of node j) c ≡ true → c < car_count s
  car_below node j c is lt h =
      let possible : ℕ → Bool = λ d. is_possible s d (call_of s j) in
      let in_root : has (set_where (car_count s) possible) c ≡ true = sym (ap (λ (x : ℕ). has x c) (set_of-root s j lt)) ∙ is.within j c h in
      elim (cases_lt c (car_count s)) [
        | inl few ↦ few
        | inr past ↦ absurd
            (both_ways _ (has_none_above (car_count s) (set_where (car_count s) possible) c (set_where-below (car_count s) possible) past) in_root)
      ]

  call_of_split : (node : Node) (j part : ℕ) → IsNodeOf s node → is_part (set_of node j) part ≡ true → j < call_count s
  call_of_split node j part is h = subst (λ (n : ℕ). j < n) is.calls (part-index node j part h)

  split_fits : (node : Node) (j part : ℕ) → IsNodeOf s node → is_part (set_of node j) part ≡ true → part < 2 ^ 16 → IsSplitWithin s j part
  split_fits node j part is h small =
      let call = call_of_split node j part is h in
      record { call = call; cars = λ c e. car_below node j c is call (in_set c e); set = small }
    where
      in_set : (c : ℕ) → has part c ≡ true → has (set_of node j) c ≡ true
      in_set c e =
          elim (cases_lt c 16) [
            | inl few ↦ (part-from (set_of node j) part h).within c few e
            | inr past ↦ absurd (both_ways _ (has_none_above 16 part c small past) e)
          ]

-- ---- leaves

module _ (s : Snapshot) (bound : ℕ) (place : TreePlace) (leaf : Leaf) (known : IsKnown s bound place (Tip leaf)) where
  each_once : (are_each_once (call_count s) (map (λ (p : PriceOf). p.call) leaf.prices) ≡ true)
      × (are_each_once (car_count s) (map (λ (w : WorthOf). w.car) leaf.worths) ≡ true)
  each_once = and_parts (are_each_once (call_count s) (map (λ (p : PriceOf). p.call) leaf.prices))
      (are_each_once (car_count s) (map (λ (w : WorthOf). w.car) leaf.worths)) known.sound.whole

  call_at : (k : ℕ) (d : PriceOf) → k < length leaf.prices → (get_or leaf.prices k d).call < call_count s
  call_at k d lt = all_at (λ (p : PriceOf). p.call) (call_count s) leaf.prices k d
      (once-from (call_count s) (map (λ (p : PriceOf). p.call) leaf.prices) each_once.0).below lt

  car_at : (k : ℕ) (d : WorthOf) → k < length leaf.worths → (get_or leaf.worths k d).car < car_count s
  car_at k d lt = all_at (λ (w : WorthOf). w.car) (car_count s) leaf.worths k d
      (once-from (car_count s) (map (λ (w : WorthOf). w.car) leaf.worths) each_once.1).below lt

  pub leaf_known : IsKnownLeaf s leaf
  leaf_known = record { prices = call_at; worths = car_at }

  claim_at : (k : ℕ) (d : WorthOf) → k < length leaf.worths → claim_in leaf (get_or leaf.worths k d).car ≡ (get_or leaf.worths k d).claim
  claim_at k d lt =
      let c = (get_or leaf.worths k d).car in
      let each = once-from (car_count s) (map (λ (w : WorthOf). w.car) leaf.worths) each_once.1 in
      claims_once (λ (x : WorthOf). x.car) (λ (x : WorthOf). x.claim) c leaf.worths k d lt refl (each.once c (car_at k d lt))

  price_count : length leaf.prices ≡ call_count s
  price_count = sym (length-map leaf.prices (λ (p : PriceOf). p.call)) ∙ once-length (call_count s) (map (λ (p : PriceOf). p.call) leaf.prices) each_once.0

  worth_count : length leaf.worths ≡ car_count s
  worth_count = sym (length-map leaf.worths (λ (w : WorthOf). w.car)) ∙ once-length (car_count s) (map (λ (w : WorthOf). w.car) leaf.worths) each_once.1

  pub leaf_small : IsAccepted s → HasAtMost 128 16 (Tip leaf)
  leaf_small accepted =
      let prices = price_count in
      let worths = worth_count in
      let calls = calls-le s accepted in
      let cars = cars-le s accepted in
      (omega (arith, prices, calls), omega (arith, worths, cars))

  module _ (due : StatesDue s place (Tip leaf)) (few : stated_claims (Tip leaf) ≤ 10000000000) where
    worths_fit : All (IsWorthWithin s) leaf.worths
    worths_fit k d lt =
        let car = car_at k d lt in
        let claim = claim_at k d lt in
        let stated = due (get_or leaf.worths k d).car car in
        let size = known.sized.worths k d lt in
        let part = get_or-le-sum_by (λ (w : WorthOf). w.claim) leaf.worths k d lt in
        record { car = car; worth_low = size.0; worth_high = size.1; claim_low = omega (arith, claim, stated); claim_high = omega (arith, part, few) }

    pub leaf_fits : IsLeafWithin s leaf
    leaf_fits = record { prices = λ k d lt. record { call = call_at k d lt; price = known.sized.prices k d lt }; worths = worths_fit }

-- ---- trees

-- each twig is a split or a leaf
all_counted : (tree : List Twig) → length tree ≡ sum_by splits_of tree + sum_by leaves_of tree
all_counted [] = refl
all_counted (Split j part ∷ tree) =
    let rest = all_counted tree in
    let splits = sum_by-cons splits_of (Split j part) tree in
    let leaves = sum_by-cons leaves_of (Split j part) tree in
    omega (arith, rest, splits, leaves)
all_counted (Tip leaf ∷ tree) =
    let rest = all_counted tree in
    let splits = sum_by-cons splits_of (Tip leaf) tree in
    let leaves = sum_by-cons leaves_of (Tip leaf) tree in
    omega (arith, rest, splits, leaves)

-- the claims as the text and as the pass add them up
same_claims : (tree : List Twig) → sum_of_claims tree ≡ claims_of_tree tree
same_claims [] = refl
same_claims (Split j part ∷ tree) =
    let rest = same_claims tree in
    let one = sum_by-cons claims_of (Split j part) tree in
    let other = sum_by-cons stated_claims (Split j part) tree in
    omega (arith, rest, one, other)
same_claims (Tip leaf ∷ tree) =
    let rest = same_claims tree in
    let one = sum_by-cons claims_of (Tip leaf) tree in
    let other = sum_by-cons stated_claims (Tip leaf) tree in
    omega (arith, rest, one, other)

-- each place has a node
abbrev HaveNodes : Snapshot → List TreePlace → Type 0
HaveNodes s [] = Unit {0}
HaveNodes s (place ∷ places) = IsNodeOf s place.node × HaveNodes s places

module _ (s : Snapshot) (accepted : IsAccepted s) (bound : ℕ) where
  twigs_known : (places : List TreePlace) (twigs : List Twig) → HaveNodes s places → AreKnown s bound places twigs → AreTwigsKnown s twigs
  twigs_known places [] nodes known = All-nil (IsKnownTwig s)
  twigs_known [] (twig ∷ twigs) nodes known = absurd known
  twigs_known (place ∷ places) (Split j part ∷ twigs) nodes known =
      let is = nodes.0 in
      let h = known.0.sound in
      let small = known.0.sized in
      let call = call_of_split s place.node j part is h in
      let own = split_fits s place.node j part is h small in
      All-cons (IsKnownTwig s) (Split j part) twigs (record { call = call; cars = own.cars })
      (twigs_known (places_after place (Split j part) places) twigs
      (first_is_node s place.node j part small is call h, (second_is_node s place.node j part is call h, nodes.1)) known.1)
  twigs_known (place ∷ places) (Tip leaf ∷ twigs) nodes known =
      All-cons (IsKnownTwig s) (Tip leaf) twigs (leaf_known s bound place leaf known.0) (twigs_known places twigs nodes.1 known.1)

  pub tree_known : (tree : List Twig) → is_whole s tree ≡ true → All (λ (p : Placed). IsSound s bound p.place p.twig) (placed_twigs s tree)
      → All IsSizedTwig tree → AreTwigsKnown s tree
  tree_known tree whole sound sized =
      twigs_known (root_place s ∷ []) tree (root_is_node s accepted, tt) (are_known s bound (root_place s ∷ []) tree whole sound sized)

  abbrev pub IsDue : Placed → Type 0
  IsDue p = StatesDue s p.place p.twig

  -- within what is left of the claims
  twigs_fit : (places : List TreePlace) (twigs : List Twig) → HaveNodes s places → AreKnown s bound places twigs → All IsDue (placed_from places twigs)
      → claims_of_tree twigs ≤ 10000000000 → All (IsTwigWithin s) twigs
  twigs_fit places [] nodes known due few = All-nil (IsTwigWithin s)
  twigs_fit [] (twig ∷ twigs) nodes known due few = absurd known
  twigs_fit (place ∷ places) (Split j part ∷ twigs) nodes known due few =
      let is = nodes.0 in
      let h = known.0.sound in
      let small = known.0.sized in
      let call = call_of_split s place.node j part is h in
      let here : Placed = record { place = place; twig = Split j part } in
      let later = placed_from (places_after place (Split j part) places) twigs in
      let claims = sum_by-cons stated_claims (Split j part) twigs in
      All-cons (IsTwigWithin s) (Split j part) twigs (split_fits s place.node j part is h small)
      (twigs_fit (places_after place (Split j part) places) twigs
      (first_is_node s place.node j part small is call h, (second_is_node s place.node j part is call h, nodes.1)) known.1 (All-tail IsDue here later due)
      (omega (arith, few, claims)))
  twigs_fit (place ∷ places) (Tip leaf ∷ twigs) nodes known due few =
      let here : Placed = record { place = place; twig = Tip leaf } in
      let later = placed_from places twigs in
      let claims = sum_by-cons stated_claims (Tip leaf) twigs in
      All-cons (IsTwigWithin s) (Tip leaf) twigs (leaf_fits s bound place leaf known.0 (All-head IsDue here later due) (omega (arith, few, claims)))
      (twigs_fit places twigs nodes.1 known.1 (All-tail IsDue here later due) (omega (arith, few, claims)))

  twigs_small : (places : List TreePlace) (twigs : List Twig) → AreKnown s bound places twigs → All (HasAtMost 128 16) twigs
  twigs_small places [] known = All-nil (HasAtMost 128 16)
  twigs_small [] (twig ∷ twigs) known = absurd known
  twigs_small (place ∷ places) (Split j part ∷ twigs) known =
      All-cons (HasAtMost 128 16) (Split j part) twigs tt (twigs_small (places_after place (Split j part) places) twigs known.1)
  twigs_small (place ∷ places) (Tip leaf ∷ twigs) known =
      All-cons (HasAtMost 128 16) (Tip leaf) twigs (leaf_small s bound place leaf known.0 accepted) (twigs_small places twigs known.1)

  worths_in : (places : List TreePlace) (twigs : List Twig) → AreKnown s bound places twigs → worths_of_tree twigs ≤ 16 * sum_by leaves_of twigs
  worths_in places [] known = omega arith
  worths_in [] (twig ∷ twigs) known = absurd known
  worths_in (place ∷ places) (Split j part ∷ twigs) known =
      let rest = worths_in (places_after place (Split j part) places) twigs known.1 in
      let worths = sum_by-cons worths_of (Split j part) twigs in
      let leaves = sum_by-cons leaves_of (Split j part) twigs in
      omega (arith, rest, worths, leaves)
  worths_in (place ∷ places) (Tip leaf ∷ twigs) known =
      let rest = worths_in places twigs known.1 in
      let worths = sum_by-cons worths_of (Tip leaf) twigs in
      let leaves = sum_by-cons leaves_of (Tip leaf) twigs in
      let few = (leaf_small s bound place leaf known.0 accepted).1 in
      omega (arith, rest, worths, leaves, few)

  module _ (tree : List Twig) (whole : is_whole s tree ≡ true) (sound : All (λ (p : Placed). IsSound s bound p.place p.twig) (placed_twigs s tree))
      (sized : All IsSizedTwig tree) where
    known : AreKnown s bound (root_place s ∷ []) tree
    known = are_known s bound (root_place s ∷ []) tree whole sound sized

    leaves_few : length tree ≤ 16001 → sum_by leaves_of tree ≤ 8001
    leaves_few short =
        let leaves = leaves_of_whole tree (filled_back (root_place s ∷ []) tree whole) in
        let all = all_counted tree in
        omega (arith, leaves, all, short)

    pub worths_few : length tree ≤ 16001 → worths_of_tree tree ≤ 128016
    worths_few short =
        let worths = worths_in (root_place s ∷ []) tree known in
        let leaves = leaves_few short in
        omega (arith, worths, leaves)

    pub tree_within : All IsDue (placed_twigs s tree) → claims_of_tree tree ≤ 10000000000 → IsWithin s tree
    tree_within due few =
        whole_within s tree (twigs_fit (root_place s ∷ []) tree (root_is_node s accepted, tt) known due few) whole (omega (arith, few, same_claims tree))

    pub tree_short : length tree ≤ 16001 → HasText s tree → length (cert_text s tree) ≤ 60000000
    tree_short short text =
        let size = cert_length_of_answer s tree accepted text (twigs_small (root_place s ∷ []) tree known) (leaves_few short) in
        omega (arith, size)
