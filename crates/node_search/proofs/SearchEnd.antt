-- What a search that has ended answers.
use Rattle.std.proofs.Common.{◌≡◌, ℕ, suc, ◌^◌, ◌<◌, ◌≤◌, false, List, [], ◌∷◌, length, map, refl, sym, ap, ◌∙◌, subst, inl, inr, arith}
use Rattle.std.proofs.Common.{to_z, of_z, w64}
use mir.Val.{Fits as FitsWord}
use Rattle.std.specs.Int.{w128}
use lib.Dec.{T}
use lib.Signed.{non_neg}
use lib.IntN.{nat_abs}
use Rattle.std.specs.Prelude.{min, ℤ, pos, negsuc, ◌≤ℤ◌, ◌<ℤ◌, ◌⊎◌, IsTrue, Option, Some, None, Result, Ok, Err, IfOk}
use Rattle.std.specs.List.{list_any}
use Rattle.std.proofs.lemmas.Int.{ints, int_min_is}
use Rattle.std.proofs.lemmas.Bool.{both_ways}
use Rattle.std.proofs.lemmas.List.Elements.{All-weaker}
use Rattle.elevator_model.specs.declared.Stop.{Stop}
use Rattle.elevator_model.specs.Snapshot.{Snapshot, car_count}
use Rattle.search_model.specs.declared.Turn.{Turn}
use Rattle.search_model.specs.declared.Twig.{Twig}
use Rattle.search_model.specs.declared.Twig.TheVariants.{Split, Leaf as Tip}
use Rattle.search_model.specs.declared.StopReason.{StopReason}
use Rattle.search_model.specs.declared.StopReason.TheVariants.{Solved, Rounds, Moves, Told}
use Rattle.search_model.specs.Certificates.{TreePlace, places_after, root_place}
use Rattle.search_model.specs.Solving.{HasChoice, IsEnding, IsFound, IsReason, IsOutOfMoves, is_split, bound_of_leaf, least_bound, sum_of_turn}
use Rattle.search_tree.specs.declared.branches.SplitAt.{SplitAt}
use Rattle.search_tree.specs.declared.branches.Branch.{Branch}
use Rattle.search_tree.specs.Sheets.{PriceSheet, sum_of_sheet}
use Rattle.search_tree.specs.Branches.{at_place, twig_at, twig_of}
use Rattle.search_tree.specs.Standing.{AllInTree, AllStand, IfLeaf, IsAtLeast, IsResting, IsRestingAt, bound_of_sheet, pricings_of}
use Rattle.search_tree.proofs.EndLaws.{IsAbove}
use Rattle.search_tree.proofs.TreeLaws.{of_leaf, if_leaf}
use Rattle.search_tree.proofs.StandingLemmas.{stand-at}
use Rattle.search_tree.proofs.FoundLaws.{IsStuck, IsStuckAt, IsSpentEnd, bound_exists, found, least-of-leaves, out_of_moves, out_of_rounds, some_below}
use Rattle.node_search.specs.declared.best.Best.{Best}
use Rattle.node_search.specs.declared.found.Found.{Found}
use Rattle.node_search.specs.declared.root.Root.{Root}
use Rattle.node_search.specs.declared.search.Search.{Search}
use Rattle.node_search.specs.Best.{IsBest}
use Rattle.node_search.specs.Roots.{IsRoot, leaf_of_root}
use Rattle.node_search.specs.Searches.{HasGoneOn, HasRun, IsAtRest, IsLeft, IsSearching}
use Rattle.node_search.specs.Found.{HasTurnsAbove, IsAnswerOf, IsBegun, IsBelow, IsEnded, IsReasonOf, IsTurned, least_of}
use Rattle.node_search.proofs.RootTurns.{root_branch}
use Rattle.root_turns.proofs.TurnPrices.{stored}
use Rattle.node_search.proofs.SearchStart.{branches_alone, lone_stands, so_far, turns_above}

-- what stands below the root stands after some rounds
pub begun_after : (s : Snapshot) (rounds most_tours : ℕ) (start : PriceSheet) (turns : List Turn) (old new : Search)
    → IsBegun s rounds most_tours start turns old → IsSearching s most_tours new → HasGoneOn s rounds old new
    → IsBegun s rounds most_tours start turns new
begun_after s rounds most_tours start turns old new begun searching run =
    record {
      searching = searching;
      above = record {
        sheet = begun.above.sheet;
        root_turns = begun.above.root_turns;
        few_turns = begun.above.few_turns;
        above_start = run.sums (sum_of_sheet start) begun.above.above_start;
        above_turns =
            All-weaker (λ (turn : Turn). AllInTree (IsAtLeast (sum_of_turn turn)) s old.tree.branches)
            (λ (turn : Turn). AllInTree (IsAtLeast (sum_of_turn turn)) s new.tree.branches)
            (λ turn h. run.sums (sum_of_turn turn) h) turns begun.above.above_turns;
        tours = λ enough other feasible of. (let le = begun.above.tours enough other feasible of in let cheaper = run.cheaper in omega (arith, le, cheaper));
      };
      few = run.few;
      many = begun.many;
    }

-- and after all of them
pub ended_of : (s : Snapshot) (rounds most_tours : ℕ) (start : PriceSheet) (turns : List Turn) (old new : Search) → IsBegun s rounds most_tours start turns old
    → IsSearching s most_tours new → HasRun s rounds old new → IsEnded s rounds most_tours start turns new
ended_of s rounds most_tours start turns old new begun searching run =
    record {
      begun = begun_after s rounds most_tours start turns old new begun searching
          (record { cheaper = run.cheaper; few = run.few; sums = run.sums });
      ended = run.ended;
    }

-- ---- the bound

pub least-cost : (cost : ℕ) (twigs : List Twig) → least_bound cost twigs ≤ℤ pos cost
least-cost cost [] = omega (arith, ints)
least-cost cost (Split j part ∷ twigs) = least-cost cost twigs
least-cost cost (Tip leaf ∷ twigs) =
    let rest = least-cost cost twigs in
    let is = int_min_is (bound_of_leaf leaf) (least_bound cost twigs) in
    omega (arith, ints, rest, is)

pub bound_natural : (s : Snapshot) (most_tours : ℕ) (start : PriceSheet) (turns : List Turn) (tree : List Branch) (best : Best) → IsBest s best
    → HasTurnsAbove s most_tours start turns tree best.cost → pos 0 ≤ℤ sum_of_sheet start → pos 0 ≤ℤ least_of best.cost tree
bound_natural s most_tours start turns tree best is above natural =
    bound_exists s start tree best.plan best.cost above.sheet natural above.above_start is.feasible is.costs

-- ---- a root that is not open

-- Its tree is one leaf, whose bound is not below the cost.
pub found_solved : (s : Snapshot) (rounds most_tours : ℕ) (start : PriceSheet) (root : Root) (bound : ℕ) → 1 ≤ car_count s
    → IsTurned s rounds most_tours start root → pos root.best.cost ≤ℤ bound_of_sheet (leaf_of_root root).sheet
    → pos bound ≡ least_of root.best.cost root.tree.branches
    → IsFound start.prices (bound_of_sheet start) s rounds most_tours root.best.plan root.best.cost bound
    (map twig_of root.tree.branches) root.series.turns.items Solved
found_solved s rounds most_tours start root bound cars turned closed bound_is =
    found s rounds most_tours start root.series.turns.items root.tree.branches root.best.plan root.best.cost bound (root.best.cost ≡ bound) (record {
      sheet = above.sheet;
      root_turns = above.root_turns;
      few_turns = above.few_turns;
      branches = branches_alone s rounds most_tours start root (so_far s rounds most_tours start root turned);
      above_start = above.above_start;
      above_turns = above.above_turns;
    }) (let one = ap length is.lone in omega (arith, one)) is.best.feasible is.best.costs bound_is many above.tours solved
  where
    is : IsRoot s most_tours root
    is = turned.stands

    above : HasTurnsAbove s most_tours start root.series.turns.items root.tree.branches root.best.cost
    above = turns_above s rounds most_tours start root (so_far s rounds most_tours start root turned) cars

    high : pos root.best.cost ≤ℤ bound_of_sheet is.branch.sheet
    high = subst (λ (b : Branch). pos root.best.cost ≤ℤ bound_of_sheet b.sheet) (root_branch s most_tours root is) closed

    leaves : AllInTree (IsAbove (pos root.best.cost)) s root.tree.branches
    leaves = subst (AllInTree (IsAbove (pos root.best.cost)) s) (sym is.lone)
        (lone_stands (IsAbove (pos root.best.cost)) s is.branch is.leaf (of_leaf (pos root.best.cost ≤ℤ bound_of_sheet is.branch.sheet) is.branch.split high))

    solved : root.best.cost ≡ bound
    solved =
        let low = least-of-leaves (pos root.best.cost) root.best.cost (omega (arith, ints)) (root_place s ∷ []) root.tree.branches leaves in
        let most = least-cost root.best.cost (map twig_of root.tree.branches) in
        omega (arith, ints, low, most, bound_is)

    unsplit : list_any is_split (map twig_of root.tree.branches) ≡ false
    unsplit = ap (λ (bs : List Branch). list_any is_split (map twig_of bs)) is.lone
        ∙ ap (λ (x : Option SplitAt). list_any is_split (twig_at x is.branch.sheet ∷ [])) is.leaf

    many : HasChoice s → IsTrue (list_any is_split (map twig_of root.tree.branches)) ⊎ (bound < root.best.cost) → length root.series.turns.items ≡ min rounds 20
    many choice (inl some) = absurd (both_ways (list_any is_split (map twig_of root.tree.branches)) unsplit some)
    many choice (inr less) = let same = solved in absurd (omega (arith, less, same))

-- ---- a search below the root

-- What stands below the root is an answer, for whatever reason the search ended.
pub found_begun : (Reason : Type 0) (s : Snapshot) (rounds most_tours : ℕ) (start : PriceSheet) (turns : List Turn) (x : Search)
    → IsBegun s rounds most_tours start turns x → (bound : ℕ) → pos bound ≡ least_of x.best.cost x.tree.branches → Reason
    → IsEnding Reason start.prices (bound_of_sheet start) s rounds most_tours x.best.plan x.best.cost bound (map twig_of x.tree.branches) turns
found_begun Reason s rounds most_tours start turns x begun bound bound_is reason =
    let above = begun.above in
    let way = begun.searching.under_way in
    found s rounds most_tours start turns x.tree.branches x.best.plan x.best.cost bound Reason (record {
      sheet = above.sheet;
      root_turns = above.root_turns;
      few_turns = above.few_turns;
      branches = way.tree.branches;
      above_start = above.above_start;
      above_turns = above.above_turns;
    }) (let size = begun.searching.size in let few = begun.few in omega (arith, size, few)) way.best.feasible way.best.costs bound_is
    (λ choice _. begun.many choice) above.tours reason

module _ (s : Snapshot) (rounds most_tours : ℕ) (start : PriceSheet) (turns : List Turn) (x : Search) (ended : IsEnded s rounds most_tours start turns x) where
  abbrev tree : List Branch
  tree = x.tree.branches

  abbrev cost : ℕ
  cost = x.best.cost

  pub found_ended : (bound : ℕ) (why : StopReason) → pos bound ≡ least_of x.best.cost x.tree.branches
      → IsReason s rounds most_tours x.best.cost bound (map twig_of x.tree.branches) why
      → IsFound start.prices (bound_of_sheet start) s rounds most_tours x.best.plan x.best.cost bound (map twig_of x.tree.branches) turns why
  found_ended bound why bound_is reason =
      found_begun (IsReason s rounds most_tours x.best.cost bound (map twig_of x.tree.branches) why) s rounds most_tours start turns x ended.begun bound
      bound_is reason

  resting_at : (k : ℕ) → IsBelow x.best.cost x.tree.branches k → IsResting s x.best.cost (at_place x.tree.branches k)
  resting_at k below =
      if_leaf (IsResting s x.best.cost (at_place x.tree.branches k)) (at_place x.tree.branches k).split below.leaf
      (stand-at (IsRestingAt s x.best.cost) k (root_place s ∷ []) x.tree.branches below.in_tree ended.begun.searching.under_way.tree.resting).1

  -- a leaf that is left below the cost was spent
  pub left_spent : (k : ℕ) → IsBelow x.best.cost x.tree.branches k → IsAtRest s x → (at_place x.tree.branches k).spent ≡ None → ⊥
  left_spent k below rest none =
      let left = rest k below.in_tree in
      let high = (resting_at k below).single (left.single below.leaf below.below) (left.was below.leaf below.below) none in
      let low = below.below in
      omega (arith, ints, high, low)

  pub below_at : (bound : ℕ) → pos bound ≡ least_of x.best.cost x.tree.branches → bound < x.best.cost → (k : ℕ) × IsBelow x.best.cost x.tree.branches k
  below_at bound bound_is lt =
      let at = some_below x.best.cost bound x.tree.branches bound_is lt in
      (at.0, record { in_tree = at.1.in_tree; leaf = at.1.leaf; below = at.1.below })

  stuck : (b : Branch) → IsRestingAt s x.best.cost (root_place s) b → IsLeft s x.best.cost b → IsStuckAt s x.best.cost (root_place s) b
  stuck b resting left = by_kind b.split refl resting
    where
      spent : b.split ≡ None → IsResting s x.best.cost b → bound_of_sheet b.sheet <ℤ pos x.best.cost → (o : Option ℕ) → b.spent ≡ o → IsSpentEnd s b
      spent leaf rests below None e =
          let high = rests.single (left.single leaf below) (left.was leaf below) e in
          absurd (omega (arith, ints, high, below))
      spent leaf rests below (Some car) e = record { single = left.single leaf below; car = car; spent = e }

      by_kind : (o : Option SplitAt) → b.split ≡ o → IfLeaf o (IsResting s x.best.cost b) → IfLeaf o (IsStuck s x.best.cost b)
      by_kind None leaf rests = λ below. spent leaf rests below b.spent refl
      by_kind (Some at) leaf rests = tt

  stuck_all : (places : List TreePlace) (bs : List Branch) → AllStand (IsRestingAt s x.best.cost) places bs
      → ((k : ℕ) → k < length bs → IsLeft s x.best.cost (at_place bs k)) → AllStand (IsStuckAt s x.best.cost) places bs
  stuck_all [] [] h left = tt
  stuck_all [] (b ∷ bs) h left = absurd h
  stuck_all (place ∷ places) [] h left = absurd h
  stuck_all (place ∷ places) (b ∷ bs) h left =
      (stuck b h.0 (left 0 (omega arith)), stuck_all (places_after place (twig_of b) places) bs h.1 (λ k lt. left (suc k) (omega (arith, lt))))

  -- Why it ended.
  pub reason_is : (bound : ℕ) (why : StopReason) → pos bound ≡ least_of x.best.cost x.tree.branches → IsReasonOf s most_tours x why
      → IsReason s rounds most_tours x.best.cost bound (map twig_of x.tree.branches) why
  reason_is bound Solved bound_is high =
      let most = least-cost x.best.cost (map twig_of x.tree.branches) in
      omega (arith, ints, high, most, bound_is)
  reason_is bound (Rounds done) bound_is why =
      let low = why.below in
      let lt : bound < x.best.cost = omega (arith, ints, low, bound_is) in
      let way = ended.begun.searching.under_way in
      let all : x.done ≡ rounds = (elim ended.ended [
        | inl e ↦ e
        | inr rest ↦ (let at = below_at bound bound_is lt in absurd (left_spent at.0 at.1 rest (why.unspent rest at.0 at.1)))
      ]) in
      out_of_rounds s rounds most_tours x.best.cost bound done x.tree.branches way.tree.priced way.tree.branches
      (subst (λ (n : ℕ). n ≤ pricings_of x.tree.branches) (sym why.done_is) ended.begun.searching.pricings) (why.done_is ∙ all) lt
  reason_is bound (Moves car count) bound_is why =
      let low = why.below in
      let lt : bound < x.best.cost = omega (arith, ints, low, bound_is) in
      let way = ended.begun.searching.under_way in
      subst (λ (n : ℕ). IsOutOfMoves s most_tours x.best.cost bound car n (map twig_of x.tree.branches)) (sym why.count_is)
      (out_of_moves s most_tours x.best.cost bound car x.tree.branches why.place
      (stuck_all (root_place s ∷ []) x.tree.branches way.tree.resting why.rest) way.tree.priced way.tree.branches lt why.at.in_tree why.at.leaf
      why.at.below why.spent)
  reason_is bound Told bound_is why = absurd why

-- ---- the bound in 64 bits

natural_fits : (z : ℤ) (cost : ℕ) → cost < 2 ^ 64 → pos 0 ≤ℤ z → z ≤ℤ pos cost → T (non_neg z) × FitsWord w64 (nat_abs z)
natural_fits (pos n) cost few low high = (tt, record { fits = omega (arith, ints, few, high) })
natural_fits (negsuc n) cost few low high = absurd (omega (arith, ints, low))

pub natural_cast : (z : ℤ) (cost : ℕ) → cost < 2 ^ 64 → pos 0 ≤ℤ z → z ≤ℤ pos cost → T (non_neg (to_z w128 (of_z w128 z)))
    × FitsWord w64 (nat_abs (to_z w128 (of_z w128 z)))
natural_cast z cost few low high =
    subst (λ (y : ℤ). T (non_neg y) × FitsWord w64 (nat_abs y)) (sym (stored z (omega (arith, ints, low)) (omega (arith, ints, few, high))))
    (natural_fits z cost few low high)

-- ---- the answer

-- what holds of the parts holds of the answer that is made of them
pub answer_is : (P : List (List Stop) → (cost bound : ℕ) → List Twig → List Turn → StopReason → Type 0) (tree : List Branch) (best : Best)
    (turns : List Turn) (why : StopReason) (f : Found) → IsAnswerOf tree best turns why f
    → P best.plan best.cost f.stated.bound (map twig_of tree) turns why → P f.stated.plan f.stated.cost f.stated.bound f.tree.twigs f.turns f.why
answer_is P tree best turns why f is h =
    let a = subst (λ (p : List (List Stop)). P p best.cost f.stated.bound (map twig_of tree) turns why) (sym is.plan) h in
    let b = subst (λ (n : ℕ). P f.stated.plan n f.stated.bound (map twig_of tree) turns why) (sym is.cost) a in
    let c = subst (λ (ts : List Twig). P f.stated.plan f.stated.cost f.stated.bound ts turns why) (sym is.twigs) b in
    let d = subst (λ (ts : List Turn). P f.stated.plan f.stated.cost f.stated.bound f.tree.twigs ts why) (sym is.turns_are) c in
    subst (λ (w : StopReason). P f.stated.plan f.stated.cost f.stated.bound f.tree.twigs f.turns w) (sym is.why_is) d

pub answer_found : (start : List ℤ) (least : ℤ) (s : Snapshot) (rounds most_tours : ℕ) (tree : List Branch) (best : Best) (turns : List Turn)
    (why : StopReason) (f : Found) → IsAnswerOf tree best turns why f
    → IsFound start least s rounds most_tours best.plan best.cost f.stated.bound (map twig_of tree) turns why
    → IsFound start least s rounds most_tours f.stated.plan f.stated.cost f.stated.bound f.tree.twigs f.turns f.why
answer_found start least s rounds most_tours = answer_is (IsFound start least s rounds most_tours)

pub if_ok : {X E : Type 0} (r : Result X E) (P Q : X → Type 0) → ((x : X) → P x → Q x) → IfOk r P → IfOk r Q
if_ok (Ok x) P Q f h = f x h
if_ok (Err e) P Q f h = tt
