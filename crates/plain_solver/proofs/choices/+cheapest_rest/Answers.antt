use Rattle.std.proofs.Common.{◌≡◌, ◌+◌, ◌<◌, ◌≤◌, ◌∙◌, ◌||◌, [], ℕ, List, Bool, length, true, false, sym, ap, subst, arith}
use Rattle.std.proofs.lemmas.Bool.{both_ways}
use Rattle.std.proofs.lemmas.List.{get_or_read}
use Rattle.call_sets.specs.Counting.{has}
use Rattle.elevator_model.specs.declared.Stop.{Stop}
use Rattle.elevator_model.specs.Tours.{IsFeasible}
use Rattle.elevator_model.specs.Costs.{cost_of}
use Rattle.elevator_model.specs.Plans.{is_boarded_in}
use Rattle.partial_tours.specs.Listed.{tour_at}
use Rattle.tour_cost.specs.Completing.{with_calls_of}
use Rattle.plain_solver.specs.Rests.{AreChoicesFrom, IsCheapest, IsCheapestOf, IsSmallCost, better_of, no_sums, sums_at}
use Rattle.plain_solver.proofs.RestLemmas.{skipped, taken_up, all_tried, choice_free, choice_apart, choice_with, better_small}
use Rattle.plain_solver.proofs.choices.+cheapest_rest.Goals as goal
use Rattle.plain_solver.proofs.choices.+cheapest_rest.Goals.{then-are_apart+in_ok-rest+in_ok-best, else-are_apart}

pub overflow_add-car : goal.overflow_add-car
overflow_add-car t c = let few = c.requires.few in omega (arith, few)

pub loop-place-preserved : goal.loop-place-preserved
loop-place-preserved t c =
    let s = c.args.snapshot.now in
    let car = c.args.car in
    let taken = has c.args.taken in
    let tours = c.in-Some.first.now.tours.items in
    let sums = c.in-Some.first.now.sums.items in
    let place = c.loop-place.place in
    let best = c.loop-place.best in
    let from = subst (AreChoicesFrom s car) c.in-Some.ensures.cases.0 c.requires.choices in
    let are = from.1 in
    let long = c.in-Some.ensures.cases.1 in
    let within : place < length tours = omega (arith, c.loop-place-test.true, c.len-place-end.ensures) in
    let counted = are.counted in
    let next : c.index-next.result.now ≡ sums_at sums place =
    get_or_read sums place c.index-next.result.now (omega (arith, within, counted)) c.index-next.ensures no_sums in
    let iv = c.loop-place.invariant in
    elim c.if-are_apart.branch [
      | then-are_apart+in_ok-rest+in_ok-best w ↦ (
          let tour = w.index.result.now in
          let cost = c.index-next.result.now.cost in
          let rest = w.in_ok-rest.rest in
          let at : tour ≡ tour_at tours place = get_or_read tours place tour within w.index.ensures [] in
          let apart = λ (j : ℕ) (below : j < 128) (h : has (sums_at sums place).calls j ≡ true).
          c.are_apart.ensures.0 w.if-are_apart.true j below (ap (λ x. has x.calls j) next ∙ h) in
          let free = subst (λ (u : List Stop). (j : ℕ) → is_boarded_in u j ≡ true → taken j ≡ false) (sym at)
          (choice_free s car tours sums place taken are within apart) in
          let feasible = subst (IsFeasible s car) (sym at) (are.all.feasible place within) in
          let costs : cost ≡ cost_of s car tour = ap (λ x. x.cost) next ∙ are.cost place within ∙ ap (cost_of s car) (sym at) in
          let joined = λ (j : ℕ). w.union-with_next.ensures j ∙ ap (λ x. has c.args.taken j || has x.calls j) next in
          let set = choice_with s car tours sums place c.args.taken w.union-with_next.result are within joined ∙ ap (with_calls_of taken) (sym at) in
          let cheapest = subst (λ (held : ℕ → Bool). IsCheapest s held (car + 1) rest) set w.in_ok-rest.ensures.cheapest in
          let up = taken_up s taken car tours place tour cost best rest at feasible free costs iv.cheapest cheapest in
          let low = subst (λ (n : ℕ). n ≤ 1000000000000000000) (ap (λ x. x.cost) (sym next)) (are.small place within) in
          let less = better_small (length c.in-Some.later.now) best tour cost rest
          (subst (λ (n : ℕ). IsSmallCost n best) (sym long) iv.small) low w.in_ok-rest.ensures.small in
          let is = w.best-is ∙ w.in_ok-best.ensures in
          record {
            cheapest = subst (IsCheapestOf s taken car tours (place + 1)) (sym is) up;
            small = subst (IsSmallCost (length c.args.choices.now)) (sym is) (subst (λ (n : ℕ). IsSmallCost n (better_of best tour cost rest)) long less);
          })
      | else-are_apart w ↦ (
          let out = skipped s taken car tours place best iv.cheapest
          (λ rest done. both_ways c.are_apart.result w.if-are_apart.false
          (c.are_apart.ensures.1 (λ j below h.
          choice_apart s car tours sums place taken are within done.1 j below (ap (λ x. has x.calls j) (sym next) ∙ h)))) in
          record {
            cheapest = subst (IsCheapestOf s taken car tours (place + 1)) (sym w.best-is) out;
            small = subst (IsSmallCost (length c.args.choices.now)) (sym w.best-is) iv.small;
          })
    ]

pub returns-clause-cheapest : goal.returns-clause-cheapest
returns-clause-cheapest t c =
    let s = c.args.snapshot.now in
    let car = c.args.car in
    let tours = c.in-Some.first.now.tours.items in
    let from = subst (AreChoicesFrom s car) c.in-Some.ensures.cases.0 c.requires.choices in
    let all : c.loop-place.place ≡ length tours = omega (arith, c.loop-place-test.false, c.len-place-end.ensures, c.loop-place.auto.place-end) in
    all_tried s (has c.args.taken) car tours c.loop-place.best from.0 from.1.all
    (subst (λ (n : ℕ). IsCheapestOf s (has c.args.taken) car tours n c.loop-place.best) all c.loop-place.invariant.cheapest)
