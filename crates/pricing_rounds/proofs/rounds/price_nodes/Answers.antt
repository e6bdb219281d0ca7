use Rattle.std.specs.Prelude.{slice_get, Some}
use Rattle.std.proofs.Common.{rules, ◌≡◌, ℕ, ◌*◌, List, length, sym, subst, ◌∙◌, Vec, Global}
use Rattle.std.specs.List.{Contains, zip}
use Rattle.std.proofs.lemmas.Option.{get_or_from_slice_get, slice_get_within}
use Rattle.std.proofs.lemmas.Result.{err_from_is_err_and}
use Rattle.search_model.specs.declared.TurnOf.{TurnOf}
use Rattle.pricing_rounds.specs.Rounds.{IsOrderOf, IsTaskOf}
use Rattle.pricing_rounds.proofs.DrawingLemmas.{answer_at, order_below, order_long}
use Rattle.pricing_rounds.proofs.Interruptions.{passed_memory}
use Rattle.pricing_rounds.proofs.RoundLemmas.{answers_of}
use Rattle.pricing_rounds.proofs.rounds.price_nodes.Goals as goal

-- what the slice holds is the order that was made
order_is : (n : ℕ) (made now : List ℕ) → now ≡ made → IsOrderOf n made → IsOrderOf n now
order_is n made now same is = subst (IsOrderOf n) (sym same) is

pub invariant_of-round : goal.invariant_of-round
invariant_of-round g c =
    let count = length c.args.tasks.now * c.args.cars in
    let order = c.deref.result.now in
    let is = order_is count c.in_ok-order.order.items order c.deref.ensures.value c.in_ok-order.ensures.order in
    record {
      is_round = record {
        few_tasks = c.requires.few;
        few_cars = search rules;
        cars_are = c.requires.cars;
        each = λ i task at.
            subst (IsTaskOf (g.P.Pricer.snapshot c.args.pricer.now)) (get_or_from_slice_get c.args.tasks.now i task task at)
            (c.requires.tasks i task (slice_get_within c.args.tasks.now i task at));
        drawn = order_long count order is;
        below = order_below count order is;
      };
    }

pub returns-clause-answers : goal.returns-clause-answers
returns-clause-answers g c =
    let s = g.P.Pricer.snapshot c.args.pricer.now in
    let tasks = c.args.tasks.now in
    let cars = c.args.cars in
    let order = c.deref.result.now in
    let drawn = c.in_ok-drawn.drawn.items in
    let count = c.in_ok-answers.ensures.count in
    let same : length drawn ≡ length order = c.in_ok-drawn.ensures.count ∙ count
    ∙ sym (order_long (length tasks * cars) order
    (order_is (length tasks * cars) c.in_ok-order.order.items order c.deref.ensures.value c.in_ok-order.ensures.order)) in
    let kept : c.deref-3.result.now ≡ order = c.deref-3.ensures.value ∙ sym c.deref.ensures.value in
    let turns = c.in_ok-turns.turns in
    let From : List ℕ → Vec TurnOf Global → Type 0 = λ o v. (p : ℕ) (a : TurnOf) → slice_get v.items p ≡ Some a → Contains (zip o drawn) (p, a) in
    answers_of s c.args.limits.most_tours tasks cars turns.items c.in_ok-turns.ensures.count
    (λ p a at. answer_at s c.args.limits.most_tours tasks cars order drawn same
    (λ n b there. c.in_ok-answers.ensures.right n (Some b) (c.in_ok-drawn.ensures.from n b there)) p a
    (subst (λ (o : List ℕ). From o turns) kept c.in_ok-turns.ensures.from p a at))

pub returns-in_err-drawn-clause-goes_on : goal.returns-in_err-drawn-clause-goes_on
returns-in_err-drawn-clause-goes_on g c going =
    let passed = err_from_is_err_and c.from_residual-in_err-drawn.result c.from_residual-in_err-drawn.ensures.1 in
    passed_memory c.from_residual-in_err-drawn.result c.in_err-drawn.field-0.0 passed.0 passed.1 passed.2
    (c.in_err-drawn.ensures.goes_on (c.in_ok-answers.ensures.done going))
