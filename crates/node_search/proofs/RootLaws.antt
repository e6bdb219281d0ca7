-- One turn at the root.
use Rattle.std.proofs.Common.{◌≡◌, ℕ, ◌+◌, ◌<◌, ◌≤◌, List, ◌∷◌, [], length, get_or, set, sym, ap, ◌∙◌, subst, arith}
use Rattle.std.specs.Prelude.{ℤ, All, Option, IfSome}
use Rattle.std.specs.List.{Contains}
use Rattle.std.proofs.lemmas.Int.{ints}
use Rattle.std.proofs.lemmas.List.Elements.{All-push, All-weaker}
use Rattle.elevator_model.specs.declared.Stop.{Stop}
use Rattle.elevator_model.specs.Snapshot.{Snapshot, car_count}
use Rattle.search_model.specs.declared.TurnOf.{TurnOf}
use Rattle.search_model.specs.declared.Turn.{Turn}
use Rattle.search_model.specs.Nodes.{Node, root_of}
use Rattle.search_model.specs.Certificates.{root_place}
use Rattle.search_model.specs.Solving.{no_turn}
use Rattle.restricted_master.specs.Pools.{TourPool, tours_of_car}
use Rattle.search_tree.specs.declared.branches.Branch.{Branch}
use Rattle.search_tree.specs.Sheets.{sum_of_sheet, sheet_of_turn}
use Rattle.search_tree.specs.Branches.{at_place, noted}
use Rattle.search_tree.specs.Answers.{AreAnswersIn}
use Rattle.search_tree.proofs.TurnLaws.{IsNotedSheet, noted-sheet}
use Rattle.search_tree.proofs.TreeLaws.{noted-branch}
use Rattle.root_turns.specs.Dues.{IsTurnBelow, turn_with}
use Rattle.root_turns.specs.Pools.{IsPooled}
use Rattle.root_turns.specs.Series.{IsTurnSeries}
use Rattle.root_turns.proofs.PoolLists.{turn_of_pool, IsTurnOfCar}
use Rattle.root_turns.proofs.SeriesLaws.{series_count, series_more}
use Rattle.root_turns.proofs.TurnLists.{turn-sum}
use Rattle.node_search.specs.declared.root.Root.{Root}
use Rattle.node_search.specs.Roots.{HasTaken, IsRoot, start_of_series}
use Rattle.node_search.proofs.RootTurns.{root_leaf, start_pushed}

module _ (s : Snapshot) (most_tours : ℕ) (few_cars : car_count s ≤ 16) (old new : Root) (cars : List TurnOf) (is : IsRoot s most_tours old)
    (lt : length old.series.turns.items < 20) (given : AreAnswersIn s most_tours (root_of s) old.series.prices.items cars)
    (taken : HasTaken s most_tours old new cars) where
  abbrev b : Branch
  b = is.branch

  abbrev prices : List ℤ
  prices = old.series.prices.items

  abbrev turn : Turn
  turn = turn_with prices cars

  answers : AreAnswersIn s most_tours b.node prices cars
  answers = subst (λ (n : Node). AreAnswersIn s most_tours n prices cars) (sym is.at.node) given

  rounds_few : b.rounds < 20
  rounds_few = let same = is.rounds in omega (arith, lt, same)

  sheet : IsNotedSheet s most_tours b.node b.sheet (sheet_of_turn prices cars) (noted b prices cars).sheet
  sheet = noted-sheet s most_tours b.node b prices cars (root_leaf s most_tours old is) is.begins answers

  first_of : at_place old.tree.branches 0 ≡ b
  first_of = ap (λ (tree : List Branch). at_place tree 0) is.lone

  lone : new.tree.branches ≡ noted b prices cars ∷ []
  lone = taken.tree ∙ ap (λ (a : Branch). set old.tree.branches 0 (noted a prices cars)) first_of
      ∙ ap (λ (tree : List Branch). set tree 0 (noted b prices cars)) is.lone

  count_is : length new.series.turns.items ≡ length old.series.turns.items + 1
  count_is = series_count old.series new.series cars taken.pushed

  few_tours : (c : ℕ) → length (tours_of_car old.best.pool c) < 32
  few_tours c = let most = is.few c in omega (arith, most, lt)

  of_pool : (c : ℕ) → IsTurnOfCar (tours_of_car old.best.pool c) (tours_of_car new.best.pool c) (get_or cars c no_turn).tour
  of_pool c = subst (λ (p : TourPool). IsTurnOfCar (tours_of_car old.best.pool c) (tours_of_car p c) (get_or cars c no_turn).tour) (sym taken.pool)
      (turn_of_pool old.best.pool cars (given.count ∙ sym taken.pools) few_tours c)

  still_pooled : (t : Turn) → IsPooled s old.best.pool t → IsPooled s new.best.pool t
  still_pooled t h c tour below e = (of_pool c).keeps tour (h c tour below e)

  turn_pooled : IsPooled s new.best.pool turn
  turn_pooled c tour below e = subst (λ (g : Option (List Stop)). IfSome g (Contains (tours_of_car new.best.pool c))) e (of_pool c).has

  still_below : (t : Turn) → IsTurnBelow (sum_of_sheet b.sheet) t → IsTurnBelow (sum_of_sheet (noted b prices cars).sheet) t
  still_below t h = let up = sheet.rises in omega (arith, ints, h, up)

  turn_below : IsTurnBelow (sum_of_sheet (noted b prices cars).sheet) turn
  turn_below = let same = turn-sum prices cars in let up = sheet.takes in omega (arith, ints, same, up)

  pub root-step : IsRoot s most_tours new
  root-step =
      record {
        branch = noted b prices cars;
        lone = lone;
        at = noted-branch s most_tours few_cars (root_place s) b prices cars is.at is.leaf rounds_few is.begins answers;
        leaf = is.leaf;
        rounds = (let same = is.rounds in let count = count_is in omega (arith, same, count));
        begins = λ none. absurd (omega (arith, none));
        best = taken.best;
        series = subst (λ (ps : List ℤ). IsTurnSeries s most_tours ps new.series) (sym (start_pushed old new cars taken.pushed))
            (series_more s most_tours (start_of_series old.series) old.series new.series cars is.series given taken.pushed);
        few_turns = (let count = count_is in omega (arith, count, lt));
        takes = subst (All (IsTurnBelow (sum_of_sheet (noted b prices cars).sheet))) (sym taken.pushed.turns)
            (All-push (IsTurnBelow (sum_of_sheet (noted b prices cars).sheet)) old.series.turns.items turn
            (All-weaker (IsTurnBelow (sum_of_sheet b.sheet)) (IsTurnBelow (sum_of_sheet (noted b prices cars).sheet)) still_below
            old.series.turns.items is.takes) turn_below);
        pooled = subst (All (IsPooled s new.best.pool)) (sym taken.pushed.turns)
            (All-push (IsPooled s new.best.pool) old.series.turns.items turn
            (All-weaker (IsPooled s old.best.pool) (IsPooled s new.best.pool) still_pooled old.series.turns.items is.pooled) turn_pooled);
        few = λ c. (let more = (of_pool c).few in let most = is.few c in let count = count_is in omega (arith, more, most, count));
        covered = λ _. taken.cheapest;
      }
