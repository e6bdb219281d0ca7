-- What a search answers that was told to stop.
use Rattle.std.proofs.Common.{◌≡◌, ℕ, ◌≤◌, List, length, map, refl, sym, ap, subst, arith}
use Rattle.std.specs.Prelude.{ℤ, pos, ◌≤ℤ◌}
use Rattle.std.proofs.lemmas.Int.{ints}
use Rattle.elevator_model.specs.declared.Stop.{Stop}
use Rattle.elevator_model.specs.Snapshot.{Snapshot, car_count}
use Rattle.search_model.specs.declared.Turn.{Turn}
use Rattle.search_model.specs.declared.Twig.{Twig}
use Rattle.search_model.specs.declared.StopReason.{StopReason}
use Rattle.search_model.specs.declared.StopReason.TheVariants.{Solved, Rounds, Moves, Told}
use Rattle.search_model.specs.Solving.{IsFound, IsReason, IsSearchAnswer, IsToldAnswer}
use Rattle.search_tree.specs.Sheets.{PriceSheet}
use Rattle.search_tree.specs.Branches.{twig_of}
use Rattle.search_tree.specs.Standing.{bound_of_sheet}
use Rattle.search_tree.proofs.FoundLaws.{found}
use Rattle.node_search.specs.declared.root.Root.{Root}
use Rattle.node_search.specs.declared.search.Search.{Search}
use Rattle.node_search.specs.Roots.{leaf_of_root}
use Rattle.node_search.specs.Found.{HasDueTurns, HasTurnsAbove, IsBegun, IsTurned, IsTurnedSoFar, least_of}
use Rattle.node_search.proofs.SearchStart.{branches_alone, turns_above}
use Rattle.node_search.proofs.SearchEnd.{found_begun}

-- what ended by itself is an answer
pub found_answer : (start : List ℤ) (least : ℤ) (s : Snapshot) (rounds most_tours : ℕ) (plan : List (List Stop)) (cost bound : ℕ) (tree : List Twig)
    (turns : List Turn) (why : StopReason) → IsFound start least s rounds most_tours plan cost bound tree turns why
    → IsSearchAnswer start least s rounds most_tours plan cost bound tree turns why
found_answer start least s rounds most_tours plan cost bound tree turns Solved is = is
found_answer start least s rounds most_tours plan cost bound tree turns (Rounds done) is = is
found_answer start least s rounds most_tours plan cost bound tree turns (Moves car count) is = is
found_answer start least s rounds most_tours plan cost bound tree turns Told is = absurd is.reason

-- and was not told to stop
pub found_untold : (start : List ℤ) (least : ℤ) (s : Snapshot) (rounds most_tours : ℕ) (plan : List (List Stop)) (cost bound : ℕ) (tree : List Twig)
    (turns : List Turn) (why : StopReason) → IsFound start least s rounds most_tours plan cost bound tree turns why → why ≡ Told → ⊥
found_untold start least s rounds most_tours plan cost bound tree turns why is told = subst (IsReason s rounds most_tours cost bound tree) told is.reason

-- what was not told to stop ended by itself
pub answer_found : (start : List ℤ) (least : ℤ) (s : Snapshot) (rounds most_tours : ℕ) (plan : List (List Stop)) (cost bound : ℕ) (tree : List Twig)
    (turns : List Turn) (why : StopReason) → (why ≡ Told → ⊥) → IsSearchAnswer start least s rounds most_tours plan cost bound tree turns why
    → IsFound start least s rounds most_tours plan cost bound tree turns why
answer_found start least s rounds most_tours plan cost bound tree turns Solved untold is = is
answer_found start least s rounds most_tours plan cost bound tree turns (Rounds done) untold is = is
answer_found start least s rounds most_tours plan cost bound tree turns (Moves car count) untold is = is
answer_found start least s rounds most_tours plan cost bound tree turns Told untold is = absurd (untold refl)

pub told_answer : (start : List ℤ) (least : ℤ) (s : Snapshot) (rounds most_tours : ℕ) (plan : List (List Stop)) (cost bound : ℕ) (tree : List Twig)
    (turns : List Turn) (why : StopReason) → why ≡ Told → IsToldAnswer start least s rounds most_tours plan cost bound tree turns
    → IsSearchAnswer start least s rounds most_tours plan cost bound tree turns why
told_answer start least s rounds most_tours plan cost bound tree turns why told is =
    subst (IsSearchAnswer start least s rounds most_tours plan cost bound tree turns) (sym told) is

-- ---- the root

-- all turns were made that are due
pub turned_of : (s : Snapshot) (rounds most_tours : ℕ) (start : PriceSheet) (root : Root) → IsTurnedSoFar s rounds most_tours start root
    → HasDueTurns s rounds root → IsTurned s rounds most_tours start root
turned_of s rounds most_tours start root far due =
    record { stands = far.stands; start_is = far.start_is; sheet = far.sheet; rises = far.rises; due = due }

-- no more are due where the root is not open
pub closed_due : (s : Snapshot) (rounds : ℕ) (root : Root) → length root.series.turns.items ≤ rounds
    → pos root.best.cost ≤ℤ bound_of_sheet (leaf_of_root root).sheet → HasDueTurns s rounds root
closed_due s rounds root few closed =
    record {
      few = few;
      begun = λ is_open. absurd (omega (arith, ints, closed, is_open));
      single = λ _ is_open. absurd (omega (arith, ints, closed, is_open));
      many = λ _ is_open. absurd (omega (arith, ints, closed, is_open));
    }

-- After some turns: as many rounds as turns.
pub told_turning : (s : Snapshot) (rounds most_tours : ℕ) (start : PriceSheet) (root : Root) (bound : ℕ) → 1 ≤ car_count s
    → IsTurnedSoFar s rounds most_tours start root → pos bound ≡ least_of root.best.cost root.tree.branches
    → IsToldAnswer start.prices (bound_of_sheet start) s rounds most_tours root.best.plan root.best.cost bound (map twig_of root.tree.branches)
    root.series.turns.items
told_turning s rounds most_tours start root bound cars far bound_is =
    record {
      done = length root.series.turns.items;
      fewer = far.few;
      ending = found s (length root.series.turns.items) most_tours start root.series.turns.items root.tree.branches root.best.plan root.best.cost bound
          (Unit {0})
          (record {
            sheet = above.sheet;
            root_turns = above.root_turns;
            few_turns = above.few_turns;
            branches = branches_alone s rounds most_tours start root far;
            above_start = above.above_start;
            above_turns = above.above_turns;
          }) (let one = ap length far.stands.lone in omega (arith, one)) far.stands.best.feasible far.stands.best.costs bound_is
          (λ _ _. (let few = above.few_turns in omega (arith, few))) above.tours tt;
    }
  where
    above : HasTurnsAbove s most_tours start root.series.turns.items root.tree.branches root.best.cost
    above = turns_above s rounds most_tours start root far cars

-- ---- below the root

pub told_rounds : (s : Snapshot) (rounds most_tours : ℕ) (start : PriceSheet) (turns : List Turn) (x : Search) (bound : ℕ)
    → IsBegun s rounds most_tours start turns x → pos bound ≡ least_of x.best.cost x.tree.branches
    → IsToldAnswer start.prices (bound_of_sheet start) s rounds most_tours x.best.plan x.best.cost bound (map twig_of x.tree.branches) turns
told_rounds s rounds most_tours start turns x bound begun bound_is =
    record { done = rounds; fewer = omega arith; ending = found_begun (Unit {0}) s rounds most_tours start turns x begun bound bound_is tt }
