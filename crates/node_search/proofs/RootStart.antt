-- The root before its first turn, and after the turns that are due.
use Rattle.std.proofs.Common.{◌≤◌, rules, ◌≡◌, ℕ, List, length, refl, sym, ap, ◌∙◌, subst, arith}
use Rattle.std.specs.Prelude.{ℤ, All}
use Rattle.std.proofs.lemmas.Int.{ints}
use Rattle.elevator_model.specs.Snapshot.{Snapshot}
use Rattle.search_model.specs.declared.Turn.{Turn}
use Rattle.search_model.specs.Nodes.{root_of}
use Rattle.search_model.specs.Certificates.{root_place}
use Rattle.search_tree.specs.declared.branches.Branch.{Branch}
use Rattle.search_tree.specs.Sheets.{PriceSheet, sum_of_sheet}
use Rattle.search_tree.specs.Branches.{at_place, leaf_at}
use Rattle.search_tree.specs.Standing.{IsBranchAt, IsLeafIn, IsSheetIn}
use Rattle.node_search.specs.declared.root.Root.{Root}
use Rattle.root_turns.specs.Dues.{IsTurnBelow, start_of_turns}
use Rattle.root_turns.specs.Pools.{IsPooled}
use Rattle.root_turns.specs.Series.{IsTurnSeries}
use Rattle.node_search.specs.Roots.{IsRoot, IsNewRoot, HasTurned, start_of_series}
use Rattle.node_search.specs.Found.{IsTurnedSoFar}

module _ (s : Snapshot) (most_tours : ℕ) (start : PriceSheet) (root : Root) (is : IsNewRoot s start root) (within : IsSheetIn s (root_of s) start) where
  abbrev branch : Branch
  branch = leaf_at (root_of s) start 0

  in_leaf : IsLeafIn s most_tours (root_of s) branch
  in_leaf = record { sheet = within; priced = λ lt. absurd (omega (arith, lt)); spent = tt }

  at : IsBranchAt s most_tours (root_place s) branch
  at =
      record {
        node = refl;
        is_node = is.node;
        above = record { fewer = λ c j lt h. h; more = λ c j lt h. h };
        few = omega arith;
        kind = in_leaf;
      }

  none : length root.series.turns.items ≡ 0
  none = ap length is.turns

  start_is : start_of_series root.series ≡ start.prices
  start_is = ap (λ (ts : List Turn). start_of_turns ts root.series.prices.items) is.turns ∙ is.prices

  pub new_root : IsRoot s most_tours root
  new_root =
      record {
        branch = branch;
        lone = is.tree;
        at = at;
        leaf = refl;
        rounds = sym none;
        begins = λ _. sym is.prices;
        best = is.best;
        series = subst (λ (ps : List ℤ). IsTurnSeries s most_tours ps root.series) (sym start_is) (is.series most_tours within.calls);
        few_turns = (let no = none in omega (arith, no));
        takes = subst (All (IsTurnBelow (sum_of_sheet start))) (sym is.turns) (search rules);
        pooled = subst (All (IsPooled s root.best.pool)) (sym is.turns) (search rules);
        few = λ c. (let most = is.few c in omega (arith, most));
        covered = λ lt. absurd (let no = none in omega (arith, lt, no));
      }

  pub so_far_is : (rounds : ℕ) (new : Root) → IsRoot s most_tours new → HasTurned root new → length new.series.turns.items ≤ rounds
      → IsTurnedSoFar s rounds most_tours start new
  so_far_is rounds new stands turned few =
      record {
        stands = stands;
        start_is = turned.start ∙ start_is;
        sheet = within;
        rises = (let up = turned.rises in let was = ap (λ (bs : List Branch). sum_of_sheet (at_place bs 0).sheet) is.tree in omega (arith, ints, up, was));
        few = few;
      }
