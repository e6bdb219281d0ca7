-- What turns keep of the root.
use Rattle.std.proofs.Common.{◌≡◌, ℕ, ◌+◌, ◌≤◌, List, [], ◌∷◌, length, set, ◌++◌, refl, sym, ap, ◌∙◌, subst, arith}
use Rattle.std.specs.Prelude.{ℤ, All, Option, Some, None, is_some, true, false}
use Rattle.std.proofs.lemmas.Bool.{both_ways}
use Rattle.std.proofs.lemmas.Int.{ints}
use Rattle.search_model.specs.declared.Turn.{Turn}
use Rattle.restricted_master.specs.Pools.{TourPool, IsMadeOf, tours_of_car}
use Rattle.search_tree.specs.declared.branches.Branch.{Branch}
use Rattle.search_tree.specs.Sheets.{sum_of_sheet, sheet_of_turn}
use Rattle.search_tree.specs.Branches.{at_place, noted}
use Rattle.search_tree.specs.Standing.{IsLeafIn}
use Rattle.search_tree.proofs.TurnLaws.{IsNotedSheet, noted-sheet}
use Rattle.search_tree.proofs.TreeLaws.{leaf_of_kind}
use Rattle.elevator_model.specs.Snapshot.{Snapshot, call_count}
use Rattle.search_model.specs.declared.TurnOf.{TurnOf}
use Rattle.search_model.specs.Nodes.{Node, IsNodeOf, root_of}
use Rattle.search_tree.specs.Answers.{AreAnswersIn}
use Rattle.node_search.specs.declared.best.Best.{Best}
use Rattle.node_search.specs.declared.root.Root.{Root}
use Rattle.node_search.specs.Best.{IsBest}
use Rattle.root_turns.specs.Dues.{start_of_turns, turn_with}
use Rattle.root_turns.specs.Pools.{IsPooled}
use Rattle.root_turns.specs.Series.{HasPushed}
use Rattle.node_search.specs.Roots.{IsRoot, HasTaken, HasTurned, HasOneTurn, leaf_of_root, start_of_series}
use Rattle.root_turns.proofs.TurnLists.{start-more}

-- a turn more leaves the prices of the first one
pub start_pushed : (old new : Root) (cars : List TurnOf) → HasPushed old.series new.series cars
    → start_of_series new.series ≡ start_of_series old.series
start_pushed old new cars pushed =
    ap (λ (ts : List Turn). start_of_turns ts new.series.prices.items) pushed.turns
    ∙ start-more old.series.turns.items (turn_with old.series.prices.items cars) new.series.prices.items

-- ---- what stands of a root

pub root_leaf : (s : Snapshot) (most_tours : ℕ) (root : Root) (is : IsRoot s most_tours root) → IsLeafIn s most_tours is.branch.node is.branch
root_leaf s most_tours root is = leaf_of_kind s most_tours is.branch.node is.branch is.leaf is.at.kind

pub root_calls : (s : Snapshot) (most_tours : ℕ) (root : Root) → IsRoot s most_tours root → length root.series.prices.items ≡ call_count s
root_calls s most_tours root is = is.series.calls

pub root_node : (s : Snapshot) (most_tours : ℕ) (root : Root) → IsRoot s most_tours root → IsNodeOf s (root_of s)
root_node s most_tours root is = subst (IsNodeOf s) is.at.node is.at.is_node

pub root_branch : (s : Snapshot) (most_tours : ℕ) (root : Root) (is : IsRoot s most_tours root) → leaf_of_root root ≡ is.branch
root_branch s most_tours root is = ap (λ (tree : List Branch). at_place tree 0) is.lone

pub root_lone : (s : Snapshot) (most_tours : ℕ) (root : Root) → IsRoot s most_tours root → length root.tree.branches ≡ 1
root_lone s most_tours root is = ap length is.lone

-- ---- one turn

module _ (s : Snapshot) (most_tours : ℕ) (old new : Root) (cars : List TurnOf) (is : IsRoot s most_tours old)
    (given : AreAnswersIn s most_tours (root_of s) old.series.prices.items cars) (taken : HasTaken s most_tours old new cars) where
  abbrev prices : List ℤ
  prices = old.series.prices.items

  sheet : IsNotedSheet s most_tours is.branch.node is.branch.sheet (sheet_of_turn prices cars) (noted is.branch prices cars).sheet
  sheet =
      noted-sheet s most_tours is.branch.node is.branch prices cars (root_leaf s most_tours old is) is.begins
      (subst (λ (n : Node). AreAnswersIn s most_tours n prices cars) (sym is.at.node) given)

  new_leaf : leaf_of_root new ≡ noted is.branch prices cars
  new_leaf =
      ap (λ (bs : List Branch). at_place bs 0) taken.tree ∙ ap (λ (bs : List Branch). at_place (set bs 0 (noted (at_place bs 0) prices cars)) 0) is.lone

  pub has_turned : HasTurned old new
  has_turned =
      record {
        start = start_pushed old new cars taken.pushed;
        rises = (let up = sheet.rises in let was = ap (λ (b : Branch). sum_of_sheet b.sheet) (root_branch s most_tours old is) in
            let now = ap (λ (b : Branch). sum_of_sheet b.sheet) new_leaf in omega (arith, ints, up, was, now));
        cheaper = taken.cheaper;
      }

  pub has_one_turn : old.series.turns.items ≡ [] → HasOneTurn s most_tours new
  has_one_turn none =
      record {
        turn = turn_with prices cars;
        turns = taken.pushed.turns ∙ ap (λ (ts : List Turn). ts ++ turn_with prices cars ∷ []) none;
        answers = given;
        spent = ap (λ (b : Branch). b.spent) new_leaf;
        takes = (let up = sheet.takes in let now = ap (λ (b : Branch). sum_of_sheet b.sheet) new_leaf in omega (arith, ints, up, now));
      }

-- ---- turns one after another

pub turned-none : (root : Root) → HasTurned root root
turned-none root = record { start = refl; rises = omega (arith, ints); cheaper = omega arith }

pub turned-more : (a b c : Root) → HasTurned a b → HasTurned b c → HasTurned a c
turned-more a b c h i =
    let up = h.rises in
    let up' = i.rises in
    let down = h.cheaper in
    let down' = i.cheaper in
    record { start = i.start ∙ h.start; rises = omega (arith, ints, up, up'); cheaper = omega (arith, down, down') }

-- ---- a cheaper plan

pub root-cheaper : (s : Snapshot) (most_tours : ℕ) (old : Root) (best : Best) → IsRoot s most_tours old → IsBest s best → best.pool ≡ old.best.pool
    → best.cost ≤ old.best.cost → IsRoot s most_tours (record { tree = old.tree; best = best; series = old.series })
root-cheaper s most_tours old best is is_best pool cheaper =
    record {
      branch = is.branch;
      lone = is.lone;
      at = is.at;
      leaf = is.leaf;
      rounds = is.rounds;
      begins = is.begins;
      best = is_best;
      series = is.series;
      few_turns = is.few_turns;
      takes = is.takes;
      pooled = subst (λ (p : TourPool). All (IsPooled s p) old.series.turns.items) (sym pool) is.pooled;
      few = subst (λ (p : TourPool). (c : ℕ) → length (tours_of_car p c) ≤ 1 + length old.series.turns.items) (sym pool) is.few;
      covered = λ lt enough plan made.
          (let most = is.covered lt enough plan (subst (λ (p : TourPool). IsMadeOf p plan) pool made) in omega (arith, most, cheaper));
    }

pub turned-cheaper : (old : Root) (best : Best) → best.cost ≤ old.best.cost
    → HasTurned old (record { tree = old.tree; best = best; series = old.series })
turned-cheaper old best cheaper = record { start = refl; rises = omega (arith, ints); cheaper = cheaper }

pub none_of : {X : Type 0} (o : Option X) → is_some o ≡ false → o ≡ None
none_of None e = refl
none_of (Some x) e = absurd (both_ways true e refl)
