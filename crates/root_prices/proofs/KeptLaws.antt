-- Turns at the root, and what is kept of them.
use Rattle.std.proofs.Common.{◌≡◌, ℕ, ◌+◌, ◌<◌, List, [], ◌∷◌, ◌++◌, length, get_or, refl, sym, ap, ◌∙◌, subst, inl, inr, arith}
use Rattle.std.specs.Prelude.{ℤ, ◌⊎◌, int_lt, Any, Bool, true, false, cond}
use Rattle.std.proofs.lemmas.Int.{ints}
use Rattle.std.proofs.lemmas.List.Elements.{All-nil, All-push, All-weaker}
use Rattle.std.proofs.lemmas.List.Quantifiers.{Any-push}
use Rattle.elevator_model.specs.declared.Stop.{Stop}
use Rattle.elevator_model.specs.Snapshot.{Snapshot, IsAccepted, car_count}
use Rattle.elevator_model.specs.Plans.{IsFeasiblePlan}
use Rattle.search_model.specs.declared.Turn.{Turn}
use Rattle.search_model.specs.declared.TurnOf.{TurnOf}
use Rattle.search_model.specs.Nodes.{root_of}
use Rattle.search_model.specs.Solving.{no_turn, sum_of_turn}
use Rattle.restricted_master.specs.Pools.{TourPool, tours_of_car}
use Rattle.search_tree.specs.Answers.{AreAnswersIn}
use Rattle.search_tree.specs.Sheets.{PriceSheet, better_of, sheet_of_turn, sum_of_sheet}
use Rattle.search_tree.specs.Standing.{IsSheetIn}
use Rattle.search_tree.proofs.TurnLaws.{turn-sheet}
use Rattle.root_turns.specs.Dues.{IsTurnBelow, turn_with}
use Rattle.root_turns.specs.Pools.{HoldsPlan, with_turn}
use Rattle.root_turns.specs.Series.{IsTurnSeries}
use Rattle.root_turns.proofs.AnswerLaws.{feasible_tours}
use Rattle.root_turns.proofs.PlanPools.{holds-few}
use Rattle.root_turns.proofs.PoolLists.{IsTurnOfCar, turn-snapshot, turn_of_pool}
use Rattle.root_turns.proofs.SeriesLaws.{can_push, series_count, series_more}
use Rattle.root_turns.proofs.TurnLists.{turn-sum}
use Rattle.root_prices.specs.declared.kept.KeptTurns.{KeptTurns}
use Rattle.root_prices.specs.KeptTurns.{AreKept, CanTake, HasTaken}
use Rattle.root_prices.specs.ListedTours.{HoldTours}
use Rattle.root_prices.specs.RootAnswers.{IsBestSheet}
use Rattle.root_prices.proofs.ListLaws.{any-left, hold_more, hold_none}

-- ---- before the first turn

pub best_none : (s : Snapshot) (first : PriceSheet) → IsSheetIn s (root_of s) first → IsBestSheet s first [] first
best_none s first within = record {
  in_root = within;
  from = inl refl;
  first_below = omega (arith, ints);
  turns_below = All-nil (IsTurnBelow (sum_of_sheet first));
}

pub new_kept : (s : Snapshot) (most_tours : ℕ) (first : PriceSheet) (x : KeptTurns) → IsFeasiblePlan s x.start.now → IsSheetIn s (root_of s) first
    → HoldsPlan s x.start.now x.pool → x.sheet ≡ first → x.series.turns.items ≡ [] → IsTurnSeries s most_tours first.prices x.series
    → AreKept s most_tours first x
new_kept s most_tours first x feasible within holds sheet none series = record {
  snapshot = holds.snapshot;
  feasible = feasible;
  tours = subst (λ (ts : List Turn). HoldTours s x.start.now ts x.pool.tours) (sym none) (hold_none s x.start.now x.pool holds);
  few = λ c. (let few = holds-few s x.start.now x.pool holds c in omega (arith, few));
  sheet = subst (λ (ts : List Turn). IsBestSheet s first ts x.sheet) (sym none) (subst (IsBestSheet s first []) (sym sheet) (best_none s first within));
  series = series;
}

-- ---- what a turn needs

pub can_take : (s : Snapshot) (most_tours : ℕ) (first : PriceSheet) (x : KeptTurns) (cars : List TurnOf) → IsAccepted s → AreKept s most_tours first x
    → AreAnswersIn s most_tours (root_of s) x.series.prices.items cars → CanTake x cars
can_take s most_tours first x cars accepted is answers = record {
  count = answers.count ∙ ap car_count (sym is.snapshot);
  tours = feasible_tours s x.pool.snapshot most_tours (root_of s) x.series.prices.items cars is.snapshot answers;
  sizes = λ c lt. (answers.each c (let count = answers.count in omega (arith, lt, count))).size;
  push = can_push s most_tours first.prices x.series cars accepted is.series answers;
}

-- ---- the best prices

best_more : (s : Snapshot) (most_tours : ℕ) (first : PriceSheet) (turns : List Turn) (sheet : PriceSheet) (prices : List ℤ) (cars : List TurnOf)
    → IsBestSheet s first turns sheet → AreAnswersIn s most_tours (root_of s) prices cars
    → IsBestSheet s first (turns ++ turn_with prices cars ∷ []) (better_of sheet (sheet_of_turn prices cars))
best_more s most_tours first turns sheet prices cars is answers = by_test (int_lt (sum_of_sheet sheet) (sum_of_sheet turned)) refl
  where
    turned : PriceSheet
    turned = sheet_of_turn prices cars

    turn : Turn
    turn = turn_with prices cars

    same : sum_of_turn turn ≡ sum_of_sheet turned
    same = turn-sum prices cars

    before : (sheet.prices ≡ first.prices) ⊎ Any (λ (t : Turn). sheet.prices ≡ t.prices) turns → (sheet.prices ≡ first.prices)
        ⊎ Any (λ (t : Turn). sheet.prices ≡ t.prices) (turns ++ turn ∷ [])
    before (inl at) = inl at
    before (inr h) = inr (any-left (λ (t : Turn). sheet.prices ≡ t.prices) turns (turn ∷ []) h)

    by_test : (b : Bool) → int_lt (sum_of_sheet sheet) (sum_of_sheet turned) ≡ b → IsBestSheet s first (turns ++ turn ∷ []) (cond b turned sheet)
    by_test true e = record {
      in_root = turn-sheet s most_tours (root_of s) prices cars answers;
      from = inr (Any-push (λ (t : Turn). prices ≡ t.prices) turns turn refl);
      first_below = (let was = is.first_below in omega (arith, ints, e, was));
      turns_below = All-push (IsTurnBelow (sum_of_sheet turned)) turns turn
          (All-weaker (IsTurnBelow (sum_of_sheet sheet)) (IsTurnBelow (sum_of_sheet turned)) (λ t below. omega (arith, ints, e, below)) turns is.turns_below)
          (let at = same in omega (arith, ints, at));
    }
    by_test false e = record {
      in_root = is.in_root;
      from = before is.from;
      first_below = is.first_below;
      turns_below = All-push (IsTurnBelow (sum_of_sheet sheet)) turns turn is.turns_below (let at = same in omega (arith, ints, at, e));
    }

-- ---- one turn more

module _ (s : Snapshot) (most_tours : ℕ) (first : PriceSheet) (old new : KeptTurns) (cars : List TurnOf) (is : AreKept s most_tours first old)
    (few : length old.series.turns.items < 31) (answers : AreAnswersIn s most_tours (root_of s) old.series.prices.items cars)
    (taken : HasTaken old new cars) where
  abbrev prices : List ℤ
  prices = old.series.prices.items

  abbrev turns : List Turn
  turns = old.series.turns.items ++ turn_with prices cars ∷ []

  pools : length cars ≡ length old.pool.tours
  pools = answers.count ∙ ap car_count (sym is.snapshot) ∙ sym taken.pools

  few_tours : (c : ℕ) → length (tours_of_car old.pool c) < 32
  few_tours c = let most = is.few c in omega (arith, most, few)

  of_pool : (c : ℕ) → IsTurnOfCar (tours_of_car old.pool c) (tours_of_car new.pool c) (get_or cars c no_turn).tour
  of_pool c = subst (λ (p : TourPool). IsTurnOfCar (tours_of_car old.pool c) (tours_of_car p c) (get_or cars c no_turn).tour) (sym taken.pool)
      (turn_of_pool old.pool cars pools few_tours c)

  held : HoldTours s old.start.now turns (with_turn old.pool 0 cars).tours
  held = hold_more s old.start.now old.series.turns.items old.pool prices cars pools few_tours is.tours

  tours : HoldTours s new.start.now new.series.turns.items new.pool.tours
  tours =
      subst (λ (plan : List (List Stop)). HoldTours s plan new.series.turns.items new.pool.tours) (sym taken.start)
      (subst (λ (ts : List Turn). HoldTours s old.start.now ts new.pool.tours) (sym taken.pushed.turns)
      (subst (λ (p : TourPool). HoldTours s old.start.now turns p.tours) (sym taken.pool) held))

  pub kept_step : AreKept s most_tours first new
  kept_step = record {
    snapshot = ap (λ (p : TourPool). p.snapshot) taken.pool ∙ turn-snapshot old.pool 0 cars ∙ is.snapshot;
    feasible = subst (IsFeasiblePlan s) (sym taken.start) is.feasible;
    tours = tours;
    few = λ c. (let more = (of_pool c).few in let most = is.few c in let count = series_count old.series new.series cars taken.pushed in
        omega (arith, more, most, count));
    sheet = subst (λ (ts : List Turn). IsBestSheet s first ts new.sheet) (sym taken.pushed.turns)
        (subst (IsBestSheet s first turns) (sym taken.sheet)
        (best_more s most_tours first old.series.turns.items old.sheet prices cars is.sheet answers));
    series = series_more s most_tours first.prices old.series new.series cars is.series answers taken.pushed;
  }
