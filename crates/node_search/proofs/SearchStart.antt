-- What a search below the root begins with.
use Rattle.std.proofs.Common.{◌≡◌, ℕ, ◌^◌, ◌<◌, ◌≤◌, eqb, Bool, true, false, List, [], ◌∷◌, length, refl, sym, ap, ◌∙◌, subst, inl, inr, arith}
use Rattle.std.specs.Prelude.{min, ℤ, pos, ◌≤ℤ◌, ◌⊎◌, Option, None}
use Rattle.std.specs.List.{Contains}
use Rattle.std.proofs.lemmas.Bool.{both_ways, eq-eqb, eqb-true}
use Rattle.std.proofs.lemmas.List.Elements.{All-weaker}
use Rattle.std.proofs.lemmas.List.Sums.{sum_by-cons}
use Rattle.call_sets.specs.Counting.{has, sum_where}
use Rattle.call_sets.proofs.BelowTests.{any_below-true}
use Rattle.call_sets.proofs.Sums.{sum_where-same, sum_where-one}
use Rattle.elevator_model.specs.declared.Stop.{Stop}
use Rattle.elevator_model.specs.Snapshot.{Snapshot, IsAccepted, car_count, call_count, call_of, is_possible}
use Rattle.elevator_model.specs.Plans.{IsFeasiblePlan, tour_of}
use Rattle.search_model.specs.declared.Turn.{Turn}
use Rattle.search_model.specs.Nodes.{IsNodeOf, root_of, set_of, is_part}
use Rattle.search_model.specs.Certificates.{TreePlace, places_after, root_place}
use Rattle.search_model.specs.Solving.{HasChoice, AreRootTurns, IsTourOfTurns, sum_of_turn, turn_of_car}
use Rattle.search_model.proofs.SetLemmas.{has-single, has-set_where}
use Rattle.search_model.proofs.SnapshotNodes.{set_of-root}
use Rattle.restricted_master.specs.Pools.{tours_of_car}
use Rattle.search_tree.specs.declared.branches.SplitAt.{SplitAt}
use Rattle.search_tree.specs.declared.branches.Branch.{Branch}
use Rattle.search_tree.specs.Sheets.{PriceSheet, sum_of_sheet}
use Rattle.search_tree.specs.Branches.{AreSingle, at_place, twig_at, split_at, first_part, second_part, split_tree}
use Rattle.search_tree.specs.Standing.{Holding, AllInTree, AllStand, IsAtLeast, IsBranchAt, IsPricedAt, IsResting, IsRestingAt, IsTreeOf, bound_of_sheet}
use Rattle.search_tree.specs.Standing.{pricings_of}
use Rattle.search_tree.proofs.StandingLemmas.{stand-split, noted_split, first_place, second_place}
use Rattle.search_tree.proofs.TreeLaws.{of_leaf, priced-above, split-branches, split-priced, split-resting}
use Rattle.node_search.specs.declared.best.Best.{Best}
use Rattle.node_search.specs.declared.root.Root.{Root}
use Rattle.node_search.specs.declared.search.Search.{Search}
use Rattle.node_search.specs.Best.{IsBest}
use Rattle.root_turns.specs.Dues.{IsTurnBelow}
use Rattle.node_search.specs.Roots.{IsRoot, leaf_of_root}
use Rattle.node_search.specs.Searches.{IsSplit}
use Rattle.node_search.specs.Found.{HasTurnsAbove, IsBegun, IsCheapestOfTurns, IsKeptRoot, IsOpenRoot, IsTurned, IsTurnedSoFar}
use Rattle.node_search.proofs.RootTurns.{root_branch, root_node}

-- ---- a choice

possible-one : (s : Snapshot) (j : ℕ) → j < call_count s → AreSingle (call_count s) (root_of s) → IsNodeOf s (root_of s)
    → sum_where (car_count s) (λ c. is_possible s c (call_of s j)) (λ _. 1) ≡ 1
possible-one s j lt single is_node =
    let found = any_below-true (car_count s) (has (set_of (root_of s) j)) (is_node.some j lt) in
    of_member found.0 found.1 found.2 (single j lt found.0 found.2)
  where
    of_member : (c : ℕ) → c < car_count s → has (set_of (root_of s) j) c ≡ true → set_of (root_of s) j ≡ 2 ^ c
        → sum_where (car_count s) (λ d. is_possible s d (call_of s j)) (λ _. 1) ≡ 1
    of_member c below own is =
        sum_where-same (car_count s) (λ d. is_possible s d (call_of s j)) (eqb c) (λ _. 1) (λ _. 1) (λ d lt'. by_test d lt' (has (2 ^ c) d) refl)
        (λ d lt' e. refl) ∙ sum_where-one (car_count s) (λ _. 1) c below
      where
        member : (d : ℕ) → d < car_count s → is_possible s d (call_of s j) ≡ has (2 ^ c) d
        member d lt' = sym (has-set_where (car_count s) (λ e. is_possible s e (call_of s j)) d lt') ∙ ap (λ (x : ℕ). has x d) (sym (set_of-root s j lt))
            ∙ ap (λ (x : ℕ). has x d) is

        apart : (d : ℕ) → has (2 ^ c) d ≡ false → (b : Bool) → eqb c d ≡ b → eqb c d ≡ false
        apart d none true e =
            absurd (both_ways (has (2 ^ c) d) none (subst (λ (k : ℕ). has (2 ^ c) k ≡ true) (eqb-true c d e) (subst (λ (x : ℕ). has x c ≡ true) is own)))
        apart d none false e = e

        by_test : (d : ℕ) → d < car_count s → (b : Bool) → has (2 ^ c) d ≡ b → is_possible s d (call_of s j) ≡ eqb c d
        by_test d lt' true e = member d lt' ∙ e ∙ sym (eq-eqb c d (sym (has-single c d e)))
        by_test d lt' false e = member d lt' ∙ e ∙ sym (apart d e (eqb c d) refl)

-- where some call has two possible cars, some set of the root has two
pub choice_open : (s : Snapshot) → IsNodeOf s (root_of s) → HasChoice s → AreSingle (call_count s) (root_of s) → ⊥
choice_open s is_node choice single =
    let one = possible-one s choice.0 choice.1 single is_node in
    let two = choice.2 in
    omega (arith, one, two)

-- ---- the turns' tours

module _ (s : Snapshot) (most_tours : ℕ) (root : Root) (is : IsRoot s most_tours root) (cars : 1 ≤ car_count s) where
  pooled_tour : (c : ℕ) (tour : List Stop) → c < car_count s → IsTourOfTurns root.series.turns.items c tour → Contains (tours_of_car root.best.pool c) tour
  pooled_tour c tour lt at = is.pooled at.0 at.1 at.2 c tour lt (ap (λ (t : Turn). (turn_of_car t c).tour) at.3 ∙ at.4)

  some_turn : (c : ℕ) (tour : List Stop) → IsTourOfTurns root.series.turns.items c tour → 0 < length root.series.turns.items
  some_turn c tour at = let lt = at.2 in omega (arith, lt)

  pub turns_cheapest : IsCheapestOfTurns s most_tours root.best.cost root.series.turns.items
  turns_cheapest enough other feasible of =
      let same = is.best.snapshot in
      is.covered (some_turn 0 (tour_of other 0) (of 0 cars)) enough other (record {
        feasible = subst (λ (x : Snapshot). IsFeasiblePlan x other) (sym same) feasible;
        pooled = λ c lt. (let below = subst (λ (x : Snapshot). c < car_count x) same lt in pooled_tour c (tour_of other c) below (of c below));
      })

-- ---- a tree of one leaf

pub lone_stands : (P : Holding) (s : Snapshot) (b : Branch) → b.split ≡ None → P (root_place s) b → AllInTree P s (b ∷ [])
lone_stands P s b leaf h =
    (h, subst (λ (x : Option SplitAt). AllStand P (places_after (root_place s) (twig_at x b.sheet) []) []) (sym leaf) tt)

module _ (s : Snapshot) (rounds most_tours : ℕ) (start : PriceSheet) (root : Root) (far : IsTurnedSoFar s rounds most_tours start root) where
  abbrev stands : IsRoot s most_tours root
  stands = far.stands

  abbrev lone : Branch
  lone = stands.branch

  lone_is : leaf_of_root root ≡ lone
  lone_is = root_branch s most_tours root stands

  -- a sum that is not above the leaf's
  at_least : (z : ℤ) → z ≤ℤ sum_of_sheet lone.sheet → AllInTree (IsAtLeast z) s root.tree.branches
  at_least z le =
      subst (AllInTree (IsAtLeast z) s) (sym stands.lone) (lone_stands (IsAtLeast z) s lone stands.leaf (of_leaf (z ≤ℤ sum_of_sheet lone.sheet) lone.split le))

  pub branches_alone : AllInTree (IsBranchAt s most_tours) s root.tree.branches
  branches_alone = subst (AllInTree (IsBranchAt s most_tours) s) (sym stands.lone) (lone_stands (IsBranchAt s most_tours) s lone stands.leaf stands.at)

  pub turns_above : 1 ≤ car_count s → HasTurnsAbove s most_tours start root.series.turns.items root.tree.branches root.best.cost
  turns_above cars =
      record {
        sheet = far.sheet;
        root_turns = subst (λ (ps : List ℤ). AreRootTurns s most_tours ps root.series.turns.items) far.start_is stands.series.root_turns;
        few_turns = stands.few_turns;
        above_start = at_least (sum_of_sheet start) (subst (λ (a : Branch). sum_of_sheet start ≤ℤ sum_of_sheet a.sheet) lone_is far.rises);
        above_turns = All-weaker (IsTurnBelow (sum_of_sheet lone.sheet)) (λ (turn : Turn). AllInTree (IsAtLeast (sum_of_turn turn)) s root.tree.branches)
            (λ turn h. at_least (sum_of_turn turn) h) root.series.turns.items stands.takes;
        tours = turns_cheapest s most_tours root stands cars;
      }

-- what stands after all turns stands after some
pub so_far : (s : Snapshot) (rounds most_tours : ℕ) (start : PriceSheet) (root : Root) → IsTurned s rounds most_tours start root
    → IsTurnedSoFar s rounds most_tours start root
so_far s rounds most_tours start root turned =
    record { stands = turned.stands; start_is = turned.start_is; sheet = turned.sheet; rises = turned.rises; few = turned.due.few }

module _ (s : Snapshot) (rounds most_tours : ℕ) (start : PriceSheet) (root : Root) (turned : IsTurned s rounds most_tours start root) where
  abbrev is : IsRoot s most_tours root
  is = turned.stands

  abbrev b : Branch
  b = is.branch

  leaf_is : leaf_of_root root ≡ b
  leaf_is = root_branch s most_tours root is

  choice_many : HasChoice s → IsOpenRoot root → length root.series.turns.items ≡ min rounds 20
  choice_many choice is_open = turned.due.many (choice_open s (root_node s most_tours root is) choice) is_open

  -- ---- the root was priced, and is open

  module _ (few_cars : car_count s ≤ 16) (some_cars : 1 ≤ car_count s) (is_open : IsOpenRoot root) where
    was : 0 < b.rounds
    was = let some = turned.due.begun is_open in let same = is.rounds in omega (arith, some, same)

    priced : IsPricedAt s most_tours (root_place s) b
    priced = priced-above s most_tours few_cars (root_place s) b is.at was

    -- it is not split

    rests : ((AreSingle (call_count s) (root_of s) → ⊥) → length root.series.turns.items < 20) → IsResting s root.best.cost b
    rests few =
        record {
          single = λ single _ none.
              subst (λ (a : Branch). pos root.best.cost ≤ℤ bound_of_sheet a.sheet) leaf_is
              (turned.due.single (subst (AreSingle (call_count s)) is.at.node single) is_open (subst (λ (a : Branch). a.spent ≡ None) (sym leaf_is) none));
          many = λ some most.
              (let below = few (λ single. some (subst (AreSingle (call_count s)) (sym is.at.node) single)) in let same = is.rounds in
              absurd (omega (arith, below, same, most)));
        }

    tree_alone : ((AreSingle (call_count s) (root_of s) → ⊥) → length root.series.turns.items < 20) → IsTreeOf s most_tours root.best.cost root.tree.branches
    tree_alone few =
        subst (IsTreeOf s most_tours root.best.cost) (sym is.lone) (record {
          branches = lone_stands (IsBranchAt s most_tours) s b is.leaf is.at;
          priced = lone_stands (IsPricedAt s most_tours) s b is.leaf priced;
          resting = lone_stands (IsRestingAt s root.best.cost) s b is.leaf (of_leaf (IsResting s root.best.cost b) b.split (rests few));
        })

    rounds_alone : pricings_of root.tree.branches ≡ length root.series.turns.items
    rounds_alone = ap pricings_of is.lone ∙ (let sum = sum_by-cons (λ (a : Branch). a.rounds) b [] in let same = is.rounds in omega (arith, sum, same))

    pub begun_alone : (x : Search) → x.tree.branches ≡ root.tree.branches → x.best ≡ root.best → x.done ≡ length root.series.turns.items
        → ((AreSingle (call_count s) (root_of s) → ⊥) → length root.series.turns.items < 20) → IsBegun s rounds most_tours start root.series.turns.items x
    begun_alone x tree best done few =
        let cost : x.best.cost ≡ root.best.cost = ap (λ (a : Best). a.cost) best in
        record {
          searching = record {
            under_way = record {
              best = subst (IsBest s) (sym best) is.best;
              tree = subst (λ (n : ℕ). IsTreeOf s most_tours n x.tree.branches) (sym cost)
                  (subst (IsTreeOf s most_tours root.best.cost) (sym tree) (tree_alone few));
            };
            begun = (let some = turned.due.begun is_open in omega (arith, some, done));
            pricings = (let same = ap pricings_of tree in let all = rounds_alone in omega (arith, same, all, done));
            size = (let one = ap length tree in let one' = ap length is.lone in omega (arith, one, one'));
          };
          above = subst (HasTurnsAbove s most_tours start root.series.turns.items x.tree.branches) (sym cost)
              (subst (λ (bs : List Branch). HasTurnsAbove s most_tours start root.series.turns.items bs root.best.cost) (sym tree)
              (turns_above s rounds most_tours start root (so_far s rounds most_tours start root turned) some_cars));
          few = (let most = turned.due.few in omega (arith, most, done));
          many = λ choice. choice_many choice is_open;
        }

    -- it is split

    module _ (tree : List Branch) (split : IsSplit 0 root.tree.branches tree) where
      part_is : is_part (set_of b.node split.call) split.part ≡ true
      part_is = subst (λ (a : Branch). is_part (set_of a.node split.call) split.part ≡ true) leaf_is split.is

      abbrev same : Branch → Branch
      same a = a

      is_split : tree ≡ noted_split same split.call split.part (b ∷ []) 0
      is_split = split.split ∙ ap (λ (bs : List Branch). split_tree bs 0 split.call split.part) is.lone

      parts : (Q : Holding)
          → ((place : TreePlace) → IsBranchAt s most_tours place b → Q place b → Q place (split_at b split.call split.part)
          × Q (first_place place split.call split.part) (first_part b split.call split.part)
          × Q (second_place place split.call split.part) (second_part b split.call split.part)) → Q (root_place s) b → AllInTree Q s tree
      parts Q f h =
          subst (AllInTree Q s) (sym is_split)
          (stand-split (IsBranchAt s most_tours) Q same split.call split.part 0 (root_place s ∷ []) (b ∷ []) (omega arith) is.leaf f
          (lone_stands (IsBranchAt s most_tours) s b is.leaf is.at) (lone_stands Q s b is.leaf h))

      tree_split : IsTreeOf s most_tours root.best.cost tree
      tree_split =
          record {
            branches = parts (IsBranchAt s most_tours)
                (λ place p q. split-branches s most_tours few_cars b split.call split.part split.small part_is is.at.is_node place p is.leaf) is.at;
            priced = parts (IsPricedAt s most_tours)
                (λ place p q. split-priced s most_tours few_cars b split.call split.part split.small part_is is.at.is_node place p is.leaf was) priced;
            resting = split_rests;
          }
        where
          split_rests : AllInTree (IsRestingAt s root.best.cost) s tree
          split_rests =
              subst (AllInTree (IsRestingAt s root.best.cost) s) (sym is_split)
              (let three = split-resting s most_tours few_cars b split.call split.part split.small part_is is.at.is_node root.best.cost (root_place s) in
              (three.0, (three.1, (three.2, tt))))

      least_split : (z : ℤ) → z ≤ℤ sum_of_sheet b.sheet → AllInTree (IsAtLeast z) s tree
      least_split z le =
          parts (IsAtLeast z) (λ place p q. (tt, le, le)) (of_leaf (z ≤ℤ sum_of_sheet b.sheet) b.split le)

      turns_split : HasTurnsAbove s most_tours start root.series.turns.items tree root.best.cost
      turns_split =
          record {
            sheet = turned.sheet;
            root_turns = subst (λ (ps : List ℤ). AreRootTurns s most_tours ps root.series.turns.items) turned.start_is is.series.root_turns;
            few_turns = is.few_turns;
            above_start = least_split (sum_of_sheet start) (subst (λ (a : Branch). sum_of_sheet start ≤ℤ sum_of_sheet a.sheet) leaf_is turned.rises);
            above_turns =
                All-weaker (IsTurnBelow (sum_of_sheet b.sheet)) (λ (turn : Turn). AllInTree (IsAtLeast (sum_of_turn turn)) s tree)
                (λ turn h. least_split (sum_of_turn turn) h) root.series.turns.items is.takes;
            tours = turns_cheapest s most_tours root is some_cars;
          }

      rounds_split : pricings_of tree ≡ length root.series.turns.items
      rounds_split =
          ap pricings_of is_split ∙ (let f : Branch → ℕ = λ (a : Branch). a.rounds in
          let one = sum_by-cons f (split_at b split.call split.part) (first_part b split.call split.part ∷ second_part b split.call split.part ∷ []) in
          let two = sum_by-cons f (first_part b split.call split.part) (second_part b split.call split.part ∷ []) in
          let three = sum_by-cons f (second_part b split.call split.part) [] in
          let same = is.rounds in
          omega (arith, one, two, three, same))

      pub begun_split : (x : Search) → x.tree.branches ≡ tree → x.best ≡ root.best → x.done ≡ length root.series.turns.items
          → IsBegun s rounds most_tours start root.series.turns.items x
      begun_split x tree_is best done =
          let cost : x.best.cost ≡ root.best.cost = ap (λ (a : Best). a.cost) best in
          record {
            searching = record {
              under_way = record {
                best = subst (IsBest s) (sym best) is.best;
                tree = subst (λ (n : ℕ). IsTreeOf s most_tours n x.tree.branches) (sym cost)
                    (subst (IsTreeOf s most_tours root.best.cost) (sym tree_is) tree_split);
              };
              begun = (let some = turned.due.begun is_open in omega (arith, some, done));
              pricings = (let same = ap pricings_of tree_is in let all = rounds_split in omega (arith, same, all, done));
              size = (let some = turned.due.begun is_open in let one = ap length tree_is in let three = ap length is_split in
                  omega (arith, one, three, some, done));
            };
            above = subst (HasTurnsAbove s most_tours start root.series.turns.items x.tree.branches) (sym cost)
                (subst (λ (bs : List Branch). HasTurnsAbove s most_tours start root.series.turns.items bs root.best.cost) (sym tree_is) turns_split);
            few = (let most = turned.due.few in omega (arith, most, done));
            many = λ choice. choice_many choice is_open;
          }

-- ---- the search that begins

pub begun_is : (s : Snapshot) (rounds most_tours : ℕ) (start : PriceSheet) (root : Root) → IsTurned s rounds most_tours start root → IsAccepted s
    → car_count s ≤ 16 → IsOpenRoot root → (x : Search) → x.best ≡ root.best → x.done ≡ length root.series.turns.items
    → IsSplit 0 root.tree.branches x.tree.branches
    ⊎ IsKeptRoot (call_count s) (length root.series.turns.items) root.tree.branches x.tree.branches
    → IsBegun s rounds most_tours start root.series.turns.items x
begun_is s rounds most_tours start root turned accepted few_cars is_open x best done grown =
    elim grown [
      | inl split ↦ begun_split s rounds most_tours start root turned few_cars accepted.building.cars_low is_open x.tree.branches split x refl best done
      | inr kept ↦ begun_alone s rounds most_tours start root turned few_cars accepted.building.cars_low is_open x kept.same best done
          (λ many. kept.few (λ single. many (subst (AreSingle (call_count s)) root_node_is single)))
    ]
  where
    root_node_is : (at_place root.tree.branches 0).node ≡ root_of s
    root_node_is = ap (λ (b : Branch). b.node) (root_branch s most_tours root turned.stands) ∙ turned.stands.at.node
