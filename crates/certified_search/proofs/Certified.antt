-- What the pass over the claims answers of a search's tree.
use Rattle.std.proofs.Common.{◌≡◌, ℕ, zero, suc, ◌<◌, ◌≤◌, Bool, true, false, List, [], ◌∷◌, length, map, get_or, refl, sym, ap, ◌∙◌, subst, inl, inr, arith}
use Rattle.std.specs.Prelude.{All}
use Rattle.std.proofs.lemmas.Int.{ints}
use Rattle.std.proofs.lemmas.List.{length-map}
use Rattle.std.proofs.lemmas.Option.{get_or_from_slice_get, slice_get_within}
use Rattle.std.proofs.lemmas.List.Elements.{All-nil, All-cons, All-head, All-tail}
use Rattle.elevator_model.specs.Snapshot.{Snapshot, IsAccepted}
use Rattle.search_model.specs.declared.WorthOf.{WorthOf}
use Rattle.search_model.specs.declared.Leaf.{Leaf}
use Rattle.search_model.specs.declared.Stated.{Stated}
use Rattle.search_model.specs.declared.Twig.{Twig}
use Rattle.search_model.specs.declared.Twig.TheVariants.{Split, Leaf as Tip}
use Rattle.search_model.specs.Certificates.{is_whole}
use Rattle.search_model.specs.Solving.{floor_of_bound}
use Rattle.search_tree.specs.Sheets.{IsSizedLeaf, IsSizedTwig}
use Rattle.assign_branch.specs.Pricings.{IsWorthSize}
use Rattle.snapshot_solver.specs.Starts.{IsStartLeaf}
use Rattle.cert_text.specs.Trees.{AreTwigsKnown}
use Rattle.cert_claims.specs.declared.stating.Claimed.{Claimed}
use Rattle.cert_claims.specs.declared.stating.LastResort.{LastResort}
use Rattle.cert_claims.specs.Lowering.{IsSizedTwig as HasSizes, lesser_bounds, lowered_tree, lowered_twig}
use Rattle.cert_claims.proofs.LoweringLemmas.{worths_below}
use Rattle.cert_claims.specs.Due.{HasCars, due_of_tree, most_of_tree}
use Rattle.cert_claims.specs.Stating.{DifferInClaims, IsClaimed, IsLastResort, IsLesser, without_claim, without_claims}
use Rattle.certified_search.specs.Certified.{IsCertified}
use Rattle.certified_search.proofs.KnownTrees.{tree_known}

-- ---- sizes do not look at claims

worths_there : (worths : List WorthOf) → All (λ (w : WorthOf). IsWorthSize w.worth) worths
    → All (λ (w : WorthOf). IsWorthSize w.worth) (map without_claim worths)
worths_there [] all = all
worths_there (w ∷ worths) all =
    let P : WorthOf → Type 0 = λ w. IsWorthSize w.worth in
    All-cons P (without_claim w) (map without_claim worths) (All-head P w worths all) (worths_there worths (All-tail P w worths all))

worths_back : (worths : List WorthOf) → All (λ (w : WorthOf). IsWorthSize w.worth) (map without_claim worths)
    → All (λ (w : WorthOf). IsWorthSize w.worth) worths
worths_back [] all = all
worths_back (w ∷ worths) all =
    let P : WorthOf → Type 0 = λ w. IsWorthSize w.worth in
    All-cons P w worths (All-head P (without_claim w) (map without_claim worths) all)
    (worths_back worths (All-tail P (without_claim w) (map without_claim worths) all))

twig_there : (twig : Twig) → IsSizedTwig twig → IsSizedTwig (without_claims twig)
twig_there (Split j part) small = small
twig_there (Tip leaf) sized = record { prices = sized.prices; worths = worths_there leaf.worths sized.worths }

twig_back : (twig : Twig) → IsSizedTwig (without_claims twig) → IsSizedTwig twig
twig_back (Split j part) small = small
twig_back (Tip leaf) sized = record { prices = sized.prices; worths = worths_back leaf.worths sized.worths }

tree_there : (tree : List Twig) → All IsSizedTwig tree → All IsSizedTwig (map without_claims tree)
tree_there [] all = all
tree_there (twig ∷ tree) all =
    All-cons IsSizedTwig (without_claims twig) (map without_claims tree) (twig_there twig (All-head IsSizedTwig twig tree all))
    (tree_there tree (All-tail IsSizedTwig twig tree all))

tree_back : (tree : List Twig) → All IsSizedTwig (map without_claims tree) → All IsSizedTwig tree
tree_back [] all = all
tree_back (twig ∷ tree) all =
    All-cons IsSizedTwig twig tree (twig_back twig (All-head IsSizedTwig (without_claims twig) (map without_claims tree) all))
    (tree_back tree (All-tail IsSizedTwig (without_claims twig) (map without_claims tree) all))

cars_of : (twig : Twig) → IsSizedTwig twig → HasCars twig
cars_of (Split j part) small = small
cars_of (Tip leaf) sized = tt

pub tree_cars : (tree : List Twig) → All IsSizedTwig tree → All HasCars tree
tree_cars [] all = All-nil HasCars
tree_cars (twig ∷ tree) all =
    All-cons HasCars twig tree (cars_of twig (All-head IsSizedTwig twig tree all)) (tree_cars tree (All-tail IsSizedTwig twig tree all))

-- ---- sizes of lesser worths

sizes_of_twig : (twig : Twig) → IsSizedTwig twig → HasSizes twig
sizes_of_twig (Split j part) small = tt
sizes_of_twig (Tip leaf) sized = record { prices = sized.prices; worths = sized.worths }

pub tree_sizes : (tree : List Twig) → All IsSizedTwig tree → All HasSizes tree
tree_sizes [] all = All-nil HasSizes
tree_sizes (twig ∷ tree) all =
    All-cons HasSizes twig tree (sizes_of_twig twig (All-head IsSizedTwig twig tree all)) (tree_sizes tree (All-tail IsSizedTwig twig tree all))

twig_below : (bound : ℕ) (twig : Twig) → IsSizedTwig twig → IsSizedTwig (lowered_twig bound twig)
twig_below bound (Split j part) small = small
twig_below bound (Tip leaf) sized = record { prices = sized.prices; worths = worths_below bound leaf sized.worths }

sized_below : (bound : ℕ) (tree : List Twig) → All IsSizedTwig tree → All IsSizedTwig (lowered_tree bound tree)
sized_below bound [] all = All-nil IsSizedTwig
sized_below bound (twig ∷ tree) all =
    All-cons IsSizedTwig (lowered_twig bound twig) (lowered_tree bound tree) (twig_below bound twig (All-head IsSizedTwig twig tree all))
    (sized_below bound tree (All-tail IsSizedTwig twig tree all))

-- ---- the last resort

pub start_is_last : (s : Snapshot) (leaf : Leaf) (bound : ℕ) → bound ≡ floor_of_bound s → IsStartLeaf s leaf → IsLastResort s bound leaf
start_is_last s leaf bound is start = record {
  sound = record { whole = start.whole; enough = (let sum = start.sum in omega (arith, ints, sum, is)); worths = start.worths };
  claims = start.claims;
  few = start.kept;
}

-- ---- what the pass answers

-- a lesser bound lies between the least one and the greatest
lesser_least : (bound least k d : ℕ) → least ≤ bound → k < length (lesser_bounds bound least) → least ≤ get_or (lesser_bounds bound least) k d
lesser_least bound least zero d le lt = omega arith
lesser_least bound least (suc zero) d le lt = omega arith
lesser_least bound least (suc (suc zero)) d le lt = omega arith
lesser_least bound least (suc (suc (suc k))) d le lt = absurd (omega (arith, lt))

module _ (s : Snapshot) (accepted : IsAccepted s) (stated : Stated) (tree : List Twig) (resort : LastResort) (limit : ℕ) (claimed : Claimed)
    (is : IsClaimed s stated tree resort limit claimed) where
  -- as many twigs
  length_as : (other : List Twig) → DifferInClaims claimed.tree.twigs other → length claimed.tree.twigs ≡ length other
  length_as other differ = sym (length-map claimed.tree.twigs without_claims) ∙ ap (λ (l : List Twig). length l) differ ∙ length-map other without_claims

  module _ (whole : is_whole s tree ≡ true) where
    claimed_short : length claimed.tree.twigs ≤ length tree
    claimed_short = by_cut claimed.cut refl
      where
        some : (twigs : List Twig) → is_whole s twigs ≡ true → 1 ≤ length twigs
        some [] h = absurd cc
        some (twig ∷ twigs) h = omega arith

        by_cut : (b : Bool) → claimed.cut ≡ b → length claimed.tree.twigs ≤ length tree
        by_cut true e =
            elim (is.lesser e) [
              | inl lowered ↦
                  (let same = length_as (lowered_tree claimed.bound tree) lowered.tree_is in let there = length-map tree (lowered_twig claimed.bound) in
                  omega (arith, same, there))
              | inr last ↦ (let one = ap (λ (l : List Twig). length l) last.tree_is in let more = some tree whole in omega (arith, one, more))
            ]
        by_cut false e = (let same = length_as tree (is.whole e).1 in omega (arith, same))

    claimed_least : resort.bound ≤ stated.bound → resort.bound ≤ claimed.bound
    claimed_least le = by_cut claimed.cut refl
      where
        by_cut : (b : Bool) → claimed.cut ≡ b → resort.bound ≤ claimed.bound
        by_cut true e =
            elim (is.lesser e) [
              | inl lowered ↦
                  (let bounds = lesser_bounds stated.bound resort.bound in
                  let at = get_or_from_slice_get bounds lowered.place claimed.bound 0 lowered.bound_is in
                  let low = lesser_least stated.bound resort.bound lowered.place 0 le (slice_get_within bounds lowered.place claimed.bound lowered.bound_is) in
                  omega (arith, at, low))
              | inr last ↦ (let same = last.bound_is in omega (arith, same))
            ]
        by_cut false e = (let same = (is.whole e).0 in omega (arith, same, le))

    pub certified : resort.bound ≡ floor_of_bound s → IsStartLeaf s resort.leaf → floor_of_bound s ≤ stated.bound
        → IsCertified s limit stated tree claimed.bound claimed.tree.twigs
    certified floor start le =
        record {
          proves = is.proves;
          low = is.low;
          least = (let low = claimed_least (omega (arith, floor, le)) in omega (arith, low, floor));
          short = claimed_short;
          due = is.due;
          few = is.few;
          whole = λ few. by_cut claimed.cut refl few;
          cut = λ over. record {
            leaf = resort.leaf;
            start = start;
            lesser = subst (λ (r : LastResort). IsLesser s stated.bound tree r limit claimed.bound claimed.tree.twigs)
                (λ i. record { leaf = resort.leaf; bound = floor i }) (is.lesser (is.cut.1 over));
          };
        }
      where
        by_cut : (b : Bool) → claimed.cut ≡ b → due_of_tree s tree ≤ most_of_tree limit tree → (claimed.bound ≡ stated.bound)
            × DifferInClaims claimed.tree.twigs tree
        by_cut true e few = absurd (let over = is.cut.0 e in omega (arith, over, few))
        by_cut false e few = is.whole e

  module _ (sized : All IsSizedTwig tree) (resort_sized : IsSizedLeaf resort.leaf) (whole : is_whole s tree ≡ true) where
    -- the same sizes, but for claims
    sized_as : (other : List Twig) → DifferInClaims claimed.tree.twigs other → All IsSizedTwig other → All IsSizedTwig claimed.tree.twigs
    sized_as other differ all = tree_back claimed.tree.twigs (subst (All IsSizedTwig) (sym differ) (tree_there other all))

    pub claimed_sized : All IsSizedTwig claimed.tree.twigs
    claimed_sized = by_cut claimed.cut refl
      where
        by_cut : (b : Bool) → claimed.cut ≡ b → All IsSizedTwig claimed.tree.twigs
        by_cut true e =
            elim (is.lesser e) [
              | inl lowered ↦ sized_as (lowered_tree claimed.bound tree) lowered.tree_is (sized_below claimed.bound tree sized)
              | inr last ↦ subst (All IsSizedTwig) (sym last.tree_is) (All-cons IsSizedTwig (Tip resort.leaf) [] resort_sized (All-nil IsSizedTwig))
            ]
        by_cut false e = sized_as tree (is.whole e).1 sized

    pub claimed_known : AreTwigsKnown s claimed.tree.twigs
    claimed_known = tree_known s accepted claimed.bound claimed.tree.twigs is.proves.whole is.proves.sound claimed_sized
