-- A leaf that was priced: it rests, or it is split.
use Rattle.std.proofs.Common.{◌≡◌, ℕ, ◌^◌, ◌<◌, ◌≤◌, true, false, not, ◌&&◌, List, [], ◌∷◌, length, set, refl, sym, ap, ◌∙◌, subst, arith}
use Rattle.std.specs.Prelude.{ℤ, pos, ◌≤ℤ◌, Option, Some, None, is_some, IfSome, MatchOption}
use Rattle.std.proofs.lemmas.Int.{ints}
use Rattle.std.proofs.lemmas.Bool.{and_parts, both_ways, not-true}
use Rattle.std.proofs.lemmas.List.{length-set, get_or-set_other, get_or-set_same}
use Rattle.call_sets.specs.Counting.{has, any_below}
use Rattle.call_sets.proofs.BelowTests.{any_below-true}
use Rattle.elevator_model.specs.Snapshot.{Snapshot, car_count, call_count}
use Rattle.search_model.specs.declared.TurnOf.{TurnOf}
use Rattle.search_model.specs.Nodes.{Node, IsNodeOf, set_of, is_part}
use Rattle.search_model.specs.Certificates.{TreePlace, places_after, root_place}
use Rattle.search_model.proofs.SetLemmas.{has-single}
use Rattle.search_model.proofs.NodeLemmas.{part-from}
use Rattle.search_tree.specs.declared.branches.Branch.{Branch}
use Rattle.search_tree.specs.declared.branches.SplitAt.{SplitAt}
use Rattle.search_tree.specs.Sheets.{AreTurnSizes, sum_of_sheet, sheet_of_turn}
use Rattle.search_tree.specs.Branches.{AreSingle, at_place, no_branch, noted, twig_of, twig_at, split_at, first_part, second_part, split_tree}
use Rattle.search_tree.specs.Standing.{AllInTree, IsBranchAt, IsTreeOf, IsResting, IsAtLeast, IsLeafIn, bound_of_sheet, pricings_of}
use Rattle.search_tree.proofs.StandingLemmas.{stand-set, stand-split, stand-at, set-sum, noted_split, split_tree-noted, split_branch-before}
use Rattle.search_tree.proofs.StandingLemmas.{split_branch-length, split_branch-more}
use Rattle.search_tree.proofs.TurnLaws.{IsNotedSheet, noted-sheet}
use Rattle.search_tree.proofs.TreeLaws.{tree-noted, tree-split, if_leaf, of_leaf, leaf_of_kind}
use Rattle.node_search.specs.declared.search.Search.{Search}
use Rattle.node_search.specs.Best.{IsBest}
use Rattle.node_search.specs.Searches.{IsUnderWay, IsPricingOf, HasSettled, IsSplit}

-- a set of which one member alone is left has no part
pub single_no_part : (calls call part : ℕ) (node : Node) → call < calls → is_part (set_of node call) part ≡ true → AreSingle calls node → ⊥
single_no_part calls call part node lt h single =
    let both = and_parts (any_below 16 (has part) && any_below 16 (λ d. has (set_of node call) d && not (has part d)))
    (not (any_below 16 (λ d. has part d && not (has (set_of node call) d)))) h in
    let two = and_parts (any_below 16 (has part)) (any_below 16 (λ d. has (set_of node call) d && not (has part d))) both.0 in
    let member = any_below-true 16 (has part) two.0 in
    let other = any_below-true 16 (λ d. has (set_of node call) d && not (has part d)) two.1 in
    let parts = and_parts (has (set_of node call) other.0) (not (has part other.0)) other.2 in
    let in_set : has (set_of node call) member.0 ≡ true = (part-from (set_of node call) part h).within member.0 member.1 member.2 in
    let one : set_of node call ≡ 2 ^ member.0 = single call lt member.0 in_set in
    let same : other.0 ≡ member.0 = has-single member.0 other.0 (subst (λ (x : ℕ). has x other.0 ≡ true) one parts.0) in
    both_ways (has part other.0) (not-true (has part other.0) parts.1) (subst (λ (x : ℕ). has part x ≡ true) (sym same) member.2)

-- where a call with two cars or more is found, some call has two cars left
pub choice_many : (calls : ℕ) (node : Node) (o : Option SplitAt) → MatchOption o (AreSingle calls node) (λ at. (at.call < calls) × AreSingle at.call node)
    → IfSome o (λ at. is_part (set_of node at.call) at.part ≡ true) → is_some o ≡ true → AreSingle calls node → ⊥
choice_many calls node None m p e single = both_ways false refl e
choice_many calls node (Some at) m p e single = single_no_part calls at.call at.part node m.0 p single

-- where none is found, each call has one car left
pub choice_none : (calls : ℕ) (node : Node) (o : Option SplitAt) → MatchOption o (AreSingle calls node) (λ at. (at.call < calls) × AreSingle at.call node)
    → is_some o ≡ false → AreSingle calls node
choice_none calls node None lone e = lone
choice_none calls node (Some at) lone e = absurd (both_ways true e refl)

-- the sizes of a pricing of a leaf, and its node
module _ (s : Snapshot) (most_tours : ℕ) (x : Search) (k : ℕ) (prices : List ℤ) (cars : List TurnOf) (way : IsUnderWay s most_tours x)
    (pricing : IsPricingOf s most_tours x k prices cars) where
  in_leaf : IsLeafIn s most_tours (at_place x.tree.branches k).node (at_place x.tree.branches k)
  in_leaf =
      let at = stand-at (IsBranchAt s most_tours) k (root_place s ∷ []) x.tree.branches pricing.within way.tree.branches in
      leaf_of_kind s most_tours (at_place x.tree.branches k).node (at_place x.tree.branches k) pricing.leaf at.1.kind

  pub pricing_calls : length prices ≡ length (at_place x.tree.branches k).sheet.prices
  pricing_calls = pricing.answers.calls ∙ sym in_leaf.sheet.calls

  pub pricing_cars : length cars ≡ length (at_place x.tree.branches k).sheet.worths
  pricing_cars = pricing.answers.count ∙ sym in_leaf.sheet.cars

  pub pricing_sizes : AreTurnSizes cars
  pricing_sizes = λ c lt. (pricing.answers.each c (let count = pricing.answers.count in omega (arith, lt, count))).size

  pub pricing_node : IsNodeOf s (at_place x.tree.branches k).node
  pricing_node = (stand-at (IsBranchAt s most_tours) k (root_place s ∷ []) x.tree.branches pricing.within way.tree.branches).1.is_node

-- ---- the leaf after its pricing

module _ (tree mid : List Branch) (k : ℕ) (prices : List ℤ) (cars : List TurnOf) (within : k < length tree)
    (is : mid ≡ set tree k (noted (at_place tree k) prices cars)) where
  pub noted_at : at_place mid k ≡ noted (at_place tree k) prices cars
  noted_at = ap (λ (bs : List Branch). at_place bs k) is ∙ get_or-set_same tree k (noted (at_place tree k) prices cars) no_branch within

  pub within_after : k < length mid
  within_after = let count = ap length is ∙ length-set tree k (noted (at_place tree k) prices cars) in omega (arith, within, count)

  pub part_after : (call part : ℕ) → is_part (set_of (at_place tree k).node call) part ≡ true → is_part (set_of (at_place mid k).node call) part ≡ true
  part_after call part h = subst (λ (a : Branch). is_part (set_of a.node call) part ≡ true) (sym noted_at) h

-- ---- when a leaf rests

pub single_rests : (s : Snapshot) (cost : ℕ) (b : Branch) → AreSingle (call_count s) b.node → (b.spent ≡ None → pos cost ≤ℤ bound_of_sheet b.sheet)
    → IsResting s cost b
single_rests s cost b single h = record { single = λ _ was none. h none; many = λ some most. absurd (some single) }

pub open_rests : (s : Snapshot) (cost call part : ℕ) (b : Branch) → call < call_count s → is_part (set_of b.node call) part ≡ true
    → (20 ≤ b.rounds → pos cost ≤ℤ bound_of_sheet b.sheet) → IsResting s cost b
open_rests s cost call part b lt is h =
    record { single = λ single was none. absurd (single_no_part (call_count s) call part b.node lt is single); many = λ some most. h most }

module _ (s : Snapshot) (most_tours : ℕ) (few_cars : car_count s ≤ 16) (old new : Search) (k : ℕ) (prices : List ℤ) (cars : List TurnOf)
    (way : IsUnderWay s most_tours old) (pricing : IsPricingOf s most_tours old k prices cars) (best : IsBest s new.best)
    (cheaper : new.best.cost ≤ old.best.cost) (done : new.done ≡ old.done) where
  abbrev b : Branch
  b = at_place old.tree.branches k

  abbrev noted_b : Branch
  noted_b = noted (at_place old.tree.branches k) prices cars

  abbrev n : Branch → Branch
  n a = noted a prices cars

  sheet : IsNotedSheet s most_tours b.node b.sheet (sheet_of_turn prices cars) noted_b.sheet
  sheet =
      let at = stand-at (IsBranchAt s most_tours) k (root_place s ∷ []) old.tree.branches pricing.within way.tree.branches in
      noted-sheet s most_tours b.node b prices cars (leaf_of_kind s most_tours b.node b pricing.leaf at.1.kind) pricing.begins pricing.answers

  pub sheet-takes : sum_of_sheet (sheet_of_turn prices cars) ≤ℤ sum_of_sheet noted_b.sheet
  sheet-takes = sheet.takes

  same_after : (place : TreePlace) (rest : List TreePlace) → places_after place (twig_of noted_b) rest ≡ places_after place (twig_of b) rest
  same_after place rest = ap (λ (x : Option SplitAt). places_after place (twig_at x noted_b.sheet) rest) pricing.leaf
      ∙ ap (λ (x : Option SplitAt). places_after place (twig_at x b.sheet) rest) (sym pricing.leaf)

  rises : (z : ℤ) (place : TreePlace) → IsAtLeast z place b → z ≤ℤ sum_of_sheet noted_b.sheet
  rises z place h =
      let was = if_leaf (z ≤ℤ sum_of_sheet b.sheet) b.split pricing.leaf h in
      let up = sheet.rises in
      omega (arith, ints, was, up)

  -- ---- it rests

  module _ (is : new.tree.branches ≡ set old.tree.branches k (noted (at_place old.tree.branches k) prices cars))
      (rests : IsResting s new.best.cost (noted (at_place old.tree.branches k) prices cars)) where
    pub rests_way : IsUnderWay s most_tours new
    rests_way =
        record {
          best = best;
          tree = subst (IsTreeOf s most_tours new.best.cost) (sym is)
              (tree-noted s most_tours old.best.cost new.best.cost few_cars cheaper old.tree.branches k pricing.within pricing.leaf pricing.few prices cars
              pricing.begins pricing.answers way.tree rests);
        }

    pub rests_settled : HasSettled s old new k
    rests_settled =
        let count = ap length is ∙ length-set old.tree.branches k noted_b in
        let sum = set-sum (λ (a : Branch). a.rounds) old.tree.branches k noted_b pricing.within in
        let all = ap pricings_of is in
        record {
          cheaper = cheaper;
          pricings = omega (arith, sum, all);
          least = omega (arith, count);
          size = omega (arith, count);
          before = λ i lt. ap (λ (tree : List Branch). at_place tree i) is ∙ get_or-set_other old.tree.branches k i noted_b _ (λ e. omega (arith, e, lt));
          done = done;
          sums = λ z h.
              subst (AllInTree (IsAtLeast z) s) (sym is)
              (stand-set (IsBranchAt s most_tours) (IsAtLeast z) noted_b k (root_place s ∷ []) old.tree.branches pricing.within
              (λ place p q. of_leaf (z ≤ℤ sum_of_sheet noted_b.sheet) b.split (rises z place q)) same_after way.tree.branches h);
        }

  -- ---- it is split

  module _ (call part : ℕ) (small : part < 2 ^ 16) (part_is : is_part (set_of (at_place old.tree.branches k).node call) part ≡ true)
      (is : new.tree.branches ≡ split_tree (set old.tree.branches k (noted (at_place old.tree.branches k) prices cars)) k call part) where
    pub split_way : IsUnderWay s most_tours new
    split_way =
        record {
          best = best;
          tree = subst (IsTreeOf s most_tours new.best.cost) (sym is)
              (tree-split s most_tours old.best.cost new.best.cost few_cars cheaper old.tree.branches k pricing.within pricing.leaf pricing.few prices cars
              pricing.begins pricing.answers way.tree call part small part_is);
        }

    is_noted : new.tree.branches ≡ noted_split n call part old.tree.branches k
    is_noted = is ∙ split_tree-noted n call part k old.tree.branches pricing.within

    pub split_settled : HasSettled s old new k
    split_settled =
        let count = ap length is_noted
        ∙ split_branch-length (λ a. split_at (n a) call part) (λ a. first_part (n a) call part)
        (λ a. second_part (n a) call part) old.tree.branches k pricing.within in
        let sum = split_branch-more (λ (a : Branch). a.rounds) (λ a. split_at (n a) call part) (λ a. first_part (n a) call part)
        (λ a. second_part (n a) call part) old.tree.branches k pricing.within (λ a. omega arith) in
        let all = ap pricings_of is_noted in
        record {
          cheaper = cheaper;
          pricings = omega (arith, sum, all);
          least = omega (arith, count);
          size = omega (arith, count);
          before = λ i lt. ap (λ (tree : List Branch). at_place tree i) is_noted
              ∙ split_branch-before (λ a. split_at (n a) call part) (λ a. first_part (n a) call part)
              (λ a. second_part (n a) call part) old.tree.branches k i lt;
          done = done;
          sums = λ z h.
              subst (AllInTree (IsAtLeast z) s) (sym is_noted)
              (stand-split (IsBranchAt s most_tours) (IsAtLeast z) n call part k (root_place s ∷ []) old.tree.branches pricing.within pricing.leaf
              (λ place p q. (let up = rises z place q in (tt, up, up))) way.tree.branches h);
        }

  -- ---- what is known of the code's tree before it is split

  module _ (mid : List Branch) (mid_is : mid ≡ set old.tree.branches k (noted (at_place old.tree.branches k) prices cars)) where
    -- it is not split
    pub rests_open : (call part : ℕ) → call < call_count s → is_part (set_of (at_place old.tree.branches k).node call) part ≡ true
        → (20 ≤ (at_place mid k).rounds → pos new.best.cost ≤ℤ bound_of_sheet (at_place mid k).sheet) → IsResting s new.best.cost noted_b
    rests_open call part lt part_is h =
        open_rests s new.best.cost call part noted_b lt part_is
        (subst (λ (a : Branch). 20 ≤ a.rounds → pos new.best.cost ≤ℤ bound_of_sheet a.sheet)
        (noted_at old.tree.branches mid k prices cars pricing.within mid_is) h)

    module _ (grown : IsSplit k mid new.tree.branches) where
      at_noted : IsSplit k (set old.tree.branches k noted_b) new.tree.branches
      at_noted = subst (λ (bs : List Branch). IsSplit k bs new.tree.branches) mid_is grown

      part_at : is_part (set_of b.node at_noted.call) at_noted.part ≡ true
      part_at = subst (λ (a : Branch). is_part (set_of a.node at_noted.call) at_noted.part ≡ true)
          (get_or-set_same old.tree.branches k noted_b no_branch pricing.within) at_noted.is

      pub grown_way : IsUnderWay s most_tours new
      grown_way = split_way at_noted.call at_noted.part at_noted.small part_at at_noted.split

      pub grown_settled : HasSettled s old new k
      grown_settled = split_settled at_noted.call at_noted.part at_noted.small part_at at_noted.split
