-- What the tree of a search proves.
use Rattle.std.proofs.Common.{◌≡◌, ℕ, Bool, true, false, List, [], ◌∷◌, map, refl, sym, ap, subst, arith}
use Rattle.std.specs.Prelude.{ℤ, pos, ◌-ℤ◌, ◌≤ℤ◌, int_lt, ◌⊎◌, IsTrue, Option, Some, None}
use Rattle.std.specs.Int.{int_min}
use Rattle.std.proofs.lemmas.Int.{ints, int_min_is}
use Rattle.elevator_model.specs.declared.Stop.{Stop}
use Rattle.elevator_model.specs.Snapshot.{Snapshot}
use Rattle.elevator_model.specs.Plans.{IsFeasiblePlan, plan_cost_of}
use Rattle.search_model.specs.Sums.{rounded_up}
use Rattle.search_model.specs.Nodes.{Node, set_of, is_part}
use Rattle.search_model.specs.Prices.{price_at, IsWorth}
use Rattle.search_model.specs.Certificates.{TreePlace, places_after, root_place, IsSound, IsSoundLeaf, Proves, price_in, worth_in, sum_needed}
use Rattle.search_model.specs.Solving.{ReachesLeast, HasPartialTours, least_bound, lesser_bound, bound_of_leaf, IsPriced, IsPricedTree}
use Rattle.search_model.proofs.RoundLemmas.{rounded_up-least}
use Rattle.search_tree.specs.declared.branches.SplitAt.{SplitAt}
use Rattle.search_tree.specs.declared.branches.Branch.{Branch}
use Rattle.search_tree.specs.Sheets.{worth_of_car, sum_of_sheet, leaf_of}
use Rattle.search_tree.specs.Branches.{twig_of, twig_at}
use Rattle.search_tree.specs.Standing.{AllStand, AllInTree, IsLeafIn, IsKindIn, IsBranchAt, IfLeaf, IsPricedAt, AreLeastIn, bound_of_sheet}
use Rattle.search_tree.proofs.StandingLemmas.{stand-more, stand-both, stand-filled, stand-placed}
use Rattle.search_tree.proofs.LeafFacts.{sum_of_leaf-sheet, price_in-sheet, worth_in-sheet, whole_lists-sheet}

-- ---- the bound

-- it is at most the bound of each leaf
abbrev pub IsAbove : ℤ → TreePlace → Branch → Type 0
IsAbove z place b = IfLeaf b.split (z ≤ℤ bound_of_sheet b.sheet)

above-lower : (z y : ℤ) → z ≤ℤ y → (place : TreePlace) (b : Branch) → IsAbove y place b → IsAbove z place b
above-lower z y le place b h = by_kind b.split h
  where
    by_kind : (x : Option SplitAt) → IfLeaf x (y ≤ℤ bound_of_sheet b.sheet) → IfLeaf x (z ≤ℤ bound_of_sheet b.sheet)
    by_kind None h = omega (arith, ints, le, h)
    by_kind (Some at) h = tt

min-first : (x y : ℤ) → int_min x y ≤ℤ x
min-first x y = omega (arith, ints, int_min_is x y)

min-second : (x y : ℤ) → int_min x y ≤ℤ y
min-second x y = omega (arith, ints, int_min_is x y)

pub bound-of-leaves : (cost : ℕ) (P : TreePlace → Branch → Type 0) (places : List TreePlace) (tree : List Branch) → AllStand P places tree
    → AllStand (IsAbove (least_bound cost (map twig_of tree))) places tree
bound-of-leaves cost P [] [] h = tt
bound-of-leaves cost P [] (b ∷ tree) h = absurd h
bound-of-leaves cost P (place ∷ places) [] h = absurd h
bound-of-leaves cost P (place ∷ places) (b ∷ tree) h = by_kind b.split refl (bound-of-leaves cost P (places_after place (twig_of b) places) tree h.1)
  where
    rest : ℤ
    rest = least_bound cost (map twig_of tree)

    by_kind : (x : Option SplitAt) → b.split ≡ x → AllStand (IsAbove rest) (places_after place (twig_of b) places) tree
        → IfLeaf b.split (lesser_bound rest (twig_of b) ≤ℤ bound_of_sheet b.sheet)
        × AllStand (IsAbove (lesser_bound rest (twig_of b))) (places_after place (twig_of b) places) tree
    by_kind None e later =
        let is : lesser_bound rest (twig_of b) ≡ int_min (bound_of_leaf (leaf_of b.sheet)) rest =
        ap (λ (y : Option SplitAt). lesser_bound rest (twig_at y b.sheet)) e in
        let same : bound_of_leaf (leaf_of b.sheet) ≡ bound_of_sheet b.sheet = ap rounded_up (sum_of_leaf-sheet 0 b.sheet) in
        let first = min-first (bound_of_leaf (leaf_of b.sheet)) rest in
        let second = min-second (bound_of_leaf (leaf_of b.sheet)) rest in (
          subst (λ (y : Option SplitAt). IfLeaf y (lesser_bound rest (twig_of b) ≤ℤ bound_of_sheet b.sheet)) (sym e) (omega (arith, ints, is, same, first)),
          stand-more (IsAbove rest) (IsAbove (lesser_bound rest (twig_of b)))
              (above-lower (lesser_bound rest (twig_of b)) rest (omega (arith, ints, is, second))) (places_after place (twig_of b) places) tree later,
        )
    by_kind (Some at) e later =
        let is : lesser_bound rest (twig_of b) ≡ rest = ap (λ (y : Option SplitAt). lesser_bound rest (twig_at y b.sheet)) e in (
          subst (λ (y : Option SplitAt). IfLeaf y (lesser_bound rest (twig_of b) ≤ℤ bound_of_sheet b.sheet)) (sym e) tt,
          subst (λ (z : ℤ). AllStand (IsAbove z) (places_after place (twig_of b) places) tree) (sym is) later,
        )

-- a sum whose rounded units are at least the bound is enough
enough : (bound : ℕ) (sum : ℤ) → pos bound ≤ℤ rounded_up sum → sum_needed bound ≤ℤ sum
enough bound sum le = by_test (int_lt sum (sum_needed bound)) refl
  where
    by_test : (b : Bool) → int_lt sum (sum_needed bound) ≡ b → sum_needed bound ≤ℤ sum
    by_test true e =
        let most = (rounded_up-least sum).least (pos bound -ℤ pos 1) (omega (arith, ints, e)) in
        absurd (omega (arith, ints, le, most))
    by_test false e = omega (arith, ints, e)

-- ---- what the tree proves

module _ (s : Snapshot) (most_tours : ℕ) where
  leaf-sound : (bound : ℕ) (place : TreePlace) (b : Branch) → b.node ≡ place.node → IsLeafIn s most_tours b.node b → pos bound ≤ℤ bound_of_sheet b.sheet
      → IsSoundLeaf s bound place.node (leaf_of b.sheet)
  leaf-sound bound place b e leaf le =
      record {
        whole = whole_lists-sheet 0 s b.sheet leaf.sheet.calls leaf.sheet.cars;
        enough = (let sum = sum_of_leaf-sheet 0 b.sheet in let big = enough bound (sum_of_sheet b.sheet) le in omega (arith, ints, sum, big));
        worths = λ c lt.
            subst (λ (n : Node). IsWorth s n c (price_in (leaf_of b.sheet)) (worth_in (leaf_of b.sheet) c)) e
            (subst (λ (p : ℕ → ℤ). IsWorth s b.node c p (worth_in (leaf_of b.sheet) c)) (sym (price_in-sheet 0 b.sheet))
            (subst (IsWorth s b.node c (price_at b.sheet.prices)) (sym (worth_in-sheet 0 b.sheet c)) (leaf.sheet.worths c lt)));
      }

  branch-sound : (bound : ℕ) (place : TreePlace) (b : Branch) → IsBranchAt s most_tours place b → IsAbove (pos bound) place b
      → IsSound s bound place (twig_of b)
  branch-sound bound place b is above = by_kind b.split is.kind above
    where
      by_kind : (x : Option SplitAt) → IsKindIn s most_tours b.node b x → IfLeaf x (pos bound ≤ℤ bound_of_sheet b.sheet)
          → IsSound s bound place (twig_at x b.sheet)
      by_kind None leaf le = leaf-sound bound place b is.node leaf le
      by_kind (Some at) part le = subst (λ (n : Node). IsTrue (is_part (set_of n at.call) at.part)) is.node part

  pub tree-proves : (plan : List (List Stop)) (cost bound : ℕ) (tree : List Branch) → IsFeasiblePlan s plan → plan_cost_of s plan ≡ cost
      → pos bound ≡ least_bound cost (map twig_of tree) → AllInTree (IsBranchAt s most_tours) s tree → Proves s plan cost bound (map twig_of tree)
  tree-proves plan cost bound tree feasible costs is h =
      let above = bound-of-leaves cost (IsBranchAt s most_tours) (root_place s ∷ []) tree h in
      let above' = subst (λ (z : ℤ). AllStand (IsAbove z) (root_place s ∷ []) tree) (sym is) above in
      let Both : TreePlace → Branch → Type 0 = λ (place : TreePlace) (b : Branch). IsBranchAt s most_tours place b × IsAbove (pos bound) place b in
      let both = stand-both (IsBranchAt s most_tours) (IsAbove (pos bound)) Both (λ place b p q. (p, q)) (root_place s ∷ []) tree h above' in
      record {
        feasible = feasible;
        costs = costs;
        whole = stand-filled (IsBranchAt s most_tours) (root_place s ∷ []) tree h;
        sound = stand-placed Both (IsSound s bound) (λ place b p. branch-sound bound place b p.0 p.1) (root_place s ∷ []) tree both;
      }

  branch-priced : (place : TreePlace) (b : Branch) → IsPricedAt s most_tours place b → IsPriced s most_tours place (twig_of b)
  branch-priced place b h = by_kind b.split h
    where
      by_kind : (x : Option SplitAt) → IfLeaf x (AreLeastIn s most_tours place.above b.sheet) → IsPriced s most_tours place (twig_at x b.sheet)
      by_kind None least =
          λ c lt. subst (λ (w : ℤ). ReachesLeast s place.above c (price_in (leaf_of b.sheet)) w ⊎ HasPartialTours s place.above c most_tours)
          (sym (worth_in-sheet 0 b.sheet c))
          (subst (λ (p : ℕ → ℤ). ReachesLeast s place.above c p (worth_of_car b.sheet c) ⊎ HasPartialTours s place.above c most_tours)
          (sym (price_in-sheet 0 b.sheet)) (least c lt))
      by_kind (Some at) least = tt

  pub tree-priced : (tree : List Branch) → AllInTree (IsPricedAt s most_tours) s tree → IsPricedTree s most_tours (map twig_of tree)
  tree-priced tree h = stand-placed (IsPricedAt s most_tours) (IsPriced s most_tours) branch-priced (root_place s ∷ []) tree h
