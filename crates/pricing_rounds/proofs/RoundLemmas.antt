-- Which pricings stand where in a round.
use Rattle.std.specs.Prelude.{Result, Ok, Err, IfOk, slice_get, slice_index_or, Option, Some}
use Rattle.std.proofs.Common.{◌≡◌, ℕ, ◌+◌, ◌*◌, ◌/◌, ◌%◌, ◌<◌, ◌≤◌, List, length, subst, arith, mul-le-mul_right, zero, suc, take, drop, sym, ◌∙◌}
use Rattle.std.proofs.lemmas.Nat.{div-mul-add, mod-mul-add, div_below}
use Rattle.std.proofs.lemmas.List.{length-take-le, length-drop, get_or-take, get_or-drop}
use Rattle.std.proofs.lemmas.Option.{slice_get-get_or, slice_get_within}
use Rattle.elevator_model.specs.declared.Stop.{Stop}
use Rattle.elevator_model.specs.Snapshot.{Snapshot, car_count}
use Rattle.search_model.specs.declared.TurnOf.{TurnOf}
use Rattle.search_model.specs.Prices.{price_at}
use Rattle.search_model.specs.Solving.{no_turn}
use Rattle.assign_branch.specs.Pricings.{Pricing, GivesWorth}
use Rattle.search_tree.specs.Answers.{GivesTour, IsAnswerIn, AreAnswersIn}
use Rattle.pricing_rounds.specs.declared.tasks.Task.{Task}
use Rattle.pricing_rounds.specs.Rounds.{IsTaskOf, IsAnswerOf, AreAnswersOf}

pub ok_both : {T E : Type 0} (r : Result T E) (P Q R : T → Type 0) → ((x : T) → P x → Q x → R x) → IfOk r P → IfOk r Q → IfOk r R
ok_both (Ok x) P Q R both p q = both x p q
ok_both (Err e) P Q R both p q = tt

-- car c at task i has a number below that of all jobs
pub job-lt : (tasks cars i c : ℕ) → i < tasks → c < cars → i * cars + c < tasks * cars
job-lt tasks cars i c within below =
    let next : i + 1 ≤ tasks = omega (arith, within) in
    let whole : (i + 1) * cars ≤ tasks * cars = mul-le-mul_right cars next in
    omega (arith, whole, below)

-- the task of a job is one of the tasks
pub task-lt : (tasks cars k : ℕ) → k < tasks * cars → k / cars < tasks
task-lt tasks zero k h = omega (arith, h)
task-lt tasks (suc cars) k h = div_below k (suc cars) tasks (omega arith) h

pub gives_tour : (s : Snapshot) (p : Pricing) (given : Option (List Stop)) → GivesWorth s p given
    → GivesTour s p.node p.car (price_at p.prices) (record { priced = p.answer; tour = given })
gives_tour s p given it = record { tour = it.tour; given = it.given_is; within = it.within; has_it = it.value }

pub answers_of : (s : Snapshot) (most_tours : ℕ) (tasks : List Task) (cars : ℕ) (answers : List TurnOf) → length answers ≡ length tasks * cars
    → ((k : ℕ) (a : TurnOf) → slice_get answers k ≡ Some a → IsAnswerOf s most_tours tasks (k / cars) (k % cars) a)
    → AreAnswersOf s most_tours tasks cars answers
answers_of s most_tours tasks cars answers count right i c below task at =
    let k = i * cars + c in
    let a = slice_index_or answers k no_turn in
    let there : k < length answers = omega (arith, count, job-lt (length tasks) cars i c (slice_get_within tasks i task at) below) in
    let is = right k a (slice_get-get_or answers k no_turn there) in
    subst (λ n. IsAnswerOf s most_tours tasks n c a) (div-mul-add i cars c below)
    (subst (λ n. IsAnswerOf s most_tours tasks (k / cars) n a) (mod-mul-add i cars c below) is) task at

-- what stands for one task are the answers of its node
pub answers_in : (s : Snapshot) (most_tours : ℕ) (tasks : List Task) (cars : ℕ) (answers : List TurnOf) (i : ℕ) (task : Task) → cars ≡ car_count s
    → length answers ≡ length tasks * cars → slice_get tasks i ≡ Some task → IsTaskOf s task → AreAnswersOf s most_tours tasks cars answers
    → AreAnswersIn s most_tours task.node.now task.prices.now (take cars (drop (i * cars) answers))
answers_in s most_tours tasks cars answers i task all count at is right =
    let rest = drop (i * cars) answers in
    let next : i + 1 ≤ length tasks = omega (arith, slice_get_within tasks i task at) in
    let whole : (i + 1) * cars ≤ length tasks * cars = mul-le-mul_right cars next in
    let enough : cars ≤ length rest = omega (arith, whole, count, length-drop (i * cars) answers) in
    record {
      calls = is.prices;
      count = length-take-le cars rest enough ∙ all;
      each = λ c h.
          let below : c < cars = omega (arith, h, all) in
          let there = get_or-take cars rest c no_turn below ∙ get_or-drop (i * cars) answers c no_turn in
          subst (IsAnswerIn s most_tours task.node.now (price_at task.prices.now) c) (sym there) (right i c below task at);
    }
