-- What the pricings of one turn answer.
use Rattle.std.proofs.Common.{◌≡◌, ℕ, ◌*◌, ◌≤◌, List, [], ◌∷◌, length, take, drop, get_or, refl, sym, ap, ◌∙◌, subst, arith}
use Rattle.std.specs.Prelude.{ℤ, Option, Some, None, IfSome}
use Rattle.std.proofs.lemmas.List.{take_all}
use Rattle.elevator_model.specs.Snapshot.{Snapshot, car_count, call_count}
use Rattle.elevator_model.specs.Tours.{IsFeasible}
use Rattle.search_model.specs.declared.TurnOf.{TurnOf}
use Rattle.search_model.specs.Nodes.{Node, IsTourIn}
use Rattle.search_model.specs.Solving.{no_turn}
use Rattle.search_model.proofs.FeasibleLemmas.{boarded-below}
use Rattle.search_tree.specs.Answers.{AreAnswersIn}
use Rattle.pricing_rounds.specs.declared.tasks.Task.{Task}
use Rattle.pricing_rounds.specs.Rounds.{AreAnswersOf, IsTaskOf}
use Rattle.pricing_rounds.proofs.RoundLemmas.{answers_in}
use Rattle.root_turns.specs.Pools.{AreToursOf}
use Rattle.root_turns.specs.Turns.{BoardsBelow, BoardBelow}

-- the answers to one task alone are those of its node
pub one_task : (s : Snapshot) (most_tours : ℕ) (task : Task) (cars : ℕ) (answers : List TurnOf) → AreAnswersOf s most_tours (task ∷ []) cars answers
    → cars ≡ car_count s → length answers ≡ 1 * cars → IsTaskOf s task → AreAnswersIn s most_tours task.node.now task.prices.now answers
one_task s most_tours task cars answers right all count is =
    let given : AreAnswersIn s most_tours task.node.now task.prices.now (take cars (drop (0 * cars) answers)) =
    answers_in s most_tours (task ∷ []) cars answers 0 task all count refl is right in
    let none : 0 * cars ≡ 0 = omega arith in
    let whole : take cars (drop (0 * cars) answers) ≡ answers = ap (λ (n : ℕ). take cars (drop n answers)) none
    ∙ take_all cars answers (omega (arith, count)) in
    subst (AreAnswersIn s most_tours task.node.now task.prices.now) whole given

-- ---- the tours of answers

if_some : {X : Type 0} (P Q : X → Type 0) → ((x : X) → P x → Q x) → (o : Option X) → IfSome o P → IfSome o Q
if_some P Q f None h = tt
if_some P Q f (Some x) h = f x h

pub feasible_tours : (s s' : Snapshot) (most_tours : ℕ) (node : Node) (prices : List ℤ) (cars : List TurnOf) → s' ≡ s
    → AreAnswersIn s most_tours node prices cars → AreToursOf s' cars
feasible_tours s s' most_tours node prices cars same answers c lt =
    if_some (IsTourIn s node c) (IsFeasible s' c) (λ t within. subst (λ (x : Snapshot). IsFeasible x c t) (sym same) within.feasible)
    (get_or cars c no_turn).tour ((answers.each c (let count = answers.count in omega (arith, lt, count))).within)

pub below_tours : (s : Snapshot) (most_tours : ℕ) (node : Node) (prices : List ℤ) (cars : List TurnOf) → call_count s ≤ 128
    → AreAnswersIn s most_tours node prices cars → BoardBelow cars
below_tours s most_tours node prices cars few answers c lt =
    if_some (IsTourIn s node c) BoardsBelow (λ t within j boards. (let below = boarded-below s c t j within.feasible boards in omega (arith, below, few)))
    (get_or cars c no_turn).tour ((answers.each c (let count = answers.count in omega (arith, lt, count))).within)
