-- Turns at the root, one after another.
use Rattle.std.proofs.Common.{◌≡◌, ℕ, ◌+◌, ◌≤◌, ◌^◌, List, [], ◌∷◌, length, sym, ap, ◌∙◌, subst, arith}
use Rattle.std.specs.Prelude.{ℤ, pos, ◌≤ℤ◌}
use Rattle.std.proofs.lemmas.Int.{ints}
use Rattle.std.proofs.lemmas.List.{length-append}
use Rattle.elevator_model.specs.Snapshot.{Snapshot, IsAccepted, call_count}
use Rattle.search_model.specs.declared.Turn.{Turn}
use Rattle.search_model.specs.declared.TurnOf.{TurnOf}
use Rattle.search_model.specs.Nodes.{root_of}
use Rattle.search_model.specs.Solving.{AreRootTurns, IsRootTurn, greatest_price}
use Rattle.tour_cost.proofs.Served.{cars-le}
use Rattle.tour_cost.proofs.Short.{calls-le}
use Rattle.search_tree.specs.Answers.{AreAnswersIn}
use Rattle.root_turns.specs.declared.series.TurnSeries.{TurnSeries}
use Rattle.root_turns.specs.Dues.{due_prices, turn_with}
use Rattle.root_turns.specs.Series.{CanPush, HasPushed, IsTurnSeries}
use Rattle.root_turns.proofs.AnswerLaws.{below_tours}
use Rattle.root_turns.proofs.TurnLists.{answers_are_turn, due-more, moved_are_due, turns-more}

-- before the first turn
pub series_none : (s : Snapshot) (most_tours : ℕ) (start : List ℤ) (x : TurnSeries) → length start ≡ call_count s → x.turns.items ≡ []
    → x.prices.items ≡ start → x.step ≡ pos (greatest_price start) → x.step ≤ℤ pos (10 ^ 24) → IsTurnSeries s most_tours start x
series_none s most_tours start x calls none prices step small = record {
  root_turns = subst (AreRootTurns s most_tours start) (sym none) tt;
  due = subst (λ (ts : List Turn). x.prices.items ≡ due_prices s start ts) (sym none) prices;
  calls = ap length prices ∙ calls;
  step = step;
  small = small;
}

-- what a turn needs
pub can_push : (s : Snapshot) (most_tours : ℕ) (start : List ℤ) (x : TurnSeries) (cars : List TurnOf) → IsAccepted s → IsTurnSeries s most_tours start x
    → AreAnswersIn s most_tours (root_of s) x.prices.items cars → CanPush x cars
can_push s most_tours start x cars accepted is answers = record {
  few = (let count = answers.count in let few = cars-le s accepted in omega (arith, count, few));
  boards = below_tours s most_tours (root_of s) x.prices.items cars (calls-le s accepted) answers;
  calls = (let calls = is.calls in let few = calls-le s accepted in omega (arith, calls, few));
  low = (let step = is.step in omega (arith, ints, step));
  high = is.small;
}

-- one turn more
module _ (s : Snapshot) (most_tours : ℕ) (start : List ℤ) (old new : TurnSeries) (cars : List TurnOf) (is : IsTurnSeries s most_tours start old)
    (answers : AreAnswersIn s most_tours (root_of s) old.prices.items cars) (pushed : HasPushed old new cars) where
  abbrev turn : Turn
  turn = turn_with old.prices.items cars

  turn_is : IsRootTurn s most_tours (due_prices s start old.turns.items) turn
  turn_is = subst (λ (ps : List ℤ). IsRootTurn s most_tours ps turn) is.due (answers_are_turn s most_tours old.prices.items cars answers)

  due : new.prices.items ≡ due_prices s start new.turns.items
  due =
      moved_are_due s start old.prices.items new.prices.items (length old.turns.items + 1) cars answers.calls pushed.count
      (pushed.each (greatest_price start) is.step) ∙ sym (due-more s start old.turns.items turn) ∙ ap (due_prices s start) (sym pushed.turns)

  pub series_more : IsTurnSeries s most_tours start new
  series_more = record {
    root_turns = subst (AreRootTurns s most_tours start) (sym pushed.turns) (turns-more s most_tours start old.turns.items turn is.root_turns turn_is);
    due = due;
    calls = pushed.count ∙ is.calls;
    step = pushed.step ∙ is.step;
    small = subst (λ (z : ℤ). z ≤ℤ pos (10 ^ 24)) (sym pushed.step) is.small;
  }

pub series_count : (old new : TurnSeries) (cars : List TurnOf) → HasPushed old new cars → length new.turns.items ≡ length old.turns.items + 1
series_count old new cars pushed = ap length pushed.turns ∙ length-append old.turns.items (turn_with old.prices.items cars ∷ [])
