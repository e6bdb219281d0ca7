use Rattle.std.proofs.Common.{◌≡◌, ℕ, ◌+◌, ◌-◌, ◌<◌, ◌≤◌, ◌∙◌, ◌∷◌, List, length, IfSome, Option, sym, ap, subst, arith, rules}
use Rattle.std.specs.Prelude.{ℤ}
use mir.Syntax.{w128}
use mir.Val.{to_z, of_z}
use Rattle.std.proofs.lemmas.Int.{ints, to_z-of_z}
use Rattle.std.proofs.lemmas.Bool.{both_ways}
use Rattle.call_sets.specs.Counting.{has}
use Rattle.car_search.specs.declared.candidates.CarChoice.{CarChoice}
use Rattle.car_search.specs.declared.selections.Selection.{Selection}
use Rattle.car_search.specs.Counts.{and_also}
use Rattle.car_search.specs.Choosing.{IsAt, IsSelection, NoneBeats, NoneOfFirstBeats, to_beat, pick_count, AreSmall, AreRising, IsSmall, ReachesCost, Reaches}
use Rattle.car_search.specs.Choosing.{Fits, reach_of, IsBound, IsInRange, rest_bound}
use Rattle.car_search.proofs.ChoosingLemmas.{skipped, tried, joined, bound_on, none_below, not_fitting, rest_range, end_picked, end_beats}
use Rattle.car_search.proofs.NumberLemmas.{one_more, same_function, wrapped, small_fits}
use Rattle.car_search.proofs.search.+cheapest.Goals as goal
use Rattle.car_search.proofs.search.+cheapest.Goals.{then-fits+in-Some-rest, then-fits+in_default-rest, else-fits}

pub cheapest-rest-requires : goal.cheapest-rest-requires
cheapest-rest-requires g t c κs within_lifetimes =
    let times = g.C.CallCounts.times in
    let whole = g.C.CallCounts.whole in
    let all = has c.args.demand.now.all in
    let taken = times c.args.taken.now in
    let car = c.args.car in
    let x = c.in-Some.first.now in
    let items = x.candidates.items in
    let later = c.in-Some.later.now in
    let n = c.loop-place.place in
    let y = c.index-next.result.now in
    let least = c.loop-place.least in
    let bound = c.args.bound in
    let long = c.in-Some.ensures.cases.1 in
    let few_cars = c.requires.few in
    let within : n < length items = omega (arith, c.loop-place-test.true, c.len-place-end.ensures) in
    let at : IsAt items n y = record { within = within; is = sym c.index-next.ensures } in
    let same : to_z w128 (of_z w128 bound) ≡ bound = to_z-of_z w128 bound c.ranges.bound in
    let small = subst AreSmall c.in-Some.ensures.cases.0 c.requires.small in
    let low = subst (λ (l : List (CarChoice g.row.T.Denot g.row.C.Denot)). IsBound times whole all taken l bound) c.in-Some.ensures.cases.0 c.requires.bound in
    let not_far : ReachesCost bound least y
    → ⊥ = λ far. both_ways c.reaches.result c.if-reaches.false (c.reaches.ensures.1 (subst (λ (z : ℤ). ReachesCost z least y) (sym same) far)) in
    let fits : Fits times whole taken (has c.due-due.result) least y = c.fits.ensures.0 c.if-fits.true in
    let rising = subst AreRising c.in-Some.ensures.cases.0 c.requires.rising in
    let reach = subst (Reaches times (reach_of c.args.demand.now) car) c.in-Some.ensures.cases.0 c.requires.reach in
    let set : times c.with-with_next.result ≡ and_also taken (times y.calls) =
    same_function (times c.with-with_next.result) (and_also taken (times y.calls)) c.with-with_next.ensures in
    let one : IsSmall y = subst IsSmall at.is (small.0 n y within) in
    let range = rest_range car bound y least c.requires.range one not_far (omega (arith, c.loop-place.auto.least-fits)) in
    let low_range = range.0 in
    let high_range = range.1 in
    let is : c.bound_of_rest-rest_bound.result ≡ rest_bound bound y = c.bound_of_rest-rest_bound.ensures ∙ ap (λ (z : ℤ). rest_bound z y) same in
    let kept : to_z w128 (of_z w128 c.bound_of_rest-rest_bound.result) ≡ rest_bound bound y =
    wrapped c.bound_of_rest-rest_bound.result (rest_bound bound y) is
    (small_fits (rest_bound bound y) (omega (arith, ints, low_range, few_cars)) (omega (arith, ints, high_range))) in
    let rest = bound_on times whole all taken x later n y bound at low in
    let cheap = fits.cost in
    let room : (j : ℕ) → times c.with-with_next.result j ≤ whole = λ j. (let e = c.with-with_next.ensures j in let r = fits.room j in omega (arith, e, r)) in (
      omega (arith, long, c.decreases),
      (
        search rules,
        (
          search rules,
          (
            omega (arith, long, few_cars),
            (
              room,
              (
                subst (IsBound times whole all (times c.with-with_next.result) later) (sym kept)
                    (subst (λ (held : ℕ → ℕ). IsBound times whole all held later (rest_bound bound y)) (sym set) rest),
                (subst (IsInRange (car + 1)) (sym kept) range, (small.1, (rising.1, (reach.2, omega (arith, cheap))))),
              ),
            ),
          ),
        ),
      ),
    )

pub loop-place-preserved : goal.loop-place-preserved
loop-place-preserved g t c =
    let times = g.C.CallCounts.times in
    let whole = g.C.CallCounts.whole in
    let all = has c.args.demand.now.all in
    let taken = times c.args.taken.now in
    let car = c.args.car in
    let x = c.in-Some.first.now in
    let items = x.candidates.items in
    let later = c.in-Some.later.now in
    let n = c.loop-place.place in
    let y = c.index-next.result.now in
    let least = c.loop-place.least in
    let iv = c.loop-place.invariant in
    let within : n < length items = omega (arith, c.loop-place-test.true, c.len-place-end.ensures) in
    let at : IsAt items n y = record { within = within; is = sym c.index-next.ensures } in
    let more = one_more n (pick_count later) in
    let lower = iv.lower in
    let before = iv.tries in
    let fell = iv.fewer in
    let reach = subst (Reaches times (reach_of c.args.demand.now) car) c.in-Some.ensures.cases.0 c.requires.reach in
    let due = has c.due-due.result in
    elim c.if-fits.branch [
      | then-fits+in-Some-rest w ↦ (
          let better = w.with-better.result in
          let rest = w.in-Some-rest.rest in
          let fits : Fits times whole taken due least y = c.fits.ensures.0 w.if-fits.true in
          let cheap = fits.cost in
          let set : times w.with-with_next.result ≡ and_also taken (times y.calls) =
          same_function (times w.with-with_next.result) (and_also taken (times y.calls)) w.with-with_next.ensures in
          let found = subst (λ (held : ℕ → ℕ). IsSelection times whole all held (car + 1) later (least - y.cost) rest) set w.in-Some-rest.ensures.selection in
          let better_cost : better.cost ≡ rest.cost + y.cost = w.with-better.ensures.cost in
          let less = found.less in
          let tries = w.in-Some-rest.ensures.tries in
          let fewer = w.in-Some-rest.ensures.fewer in
          let left = w.left-is in
          record {
            least = w.least-is ∙ ap (to_beat c.args.beat) (sym w.best-is);
            selection =
                subst (λ (o : Option Selection). IfSome o (IsSelection times whole all taken car c.args.cars.now c.args.beat)) (sym w.best-is)
                (subst (λ (l : List (CarChoice g.row.T.Denot g.row.C.Denot)). IsSelection times whole all taken car l c.args.beat better)
                (sym c.in-Some.ensures.cases.0)
                (joined times whole all taken car x later n least c.args.beat y rest better at cheap found lower w.with-better.ensures.here
                w.with-better.ensures.others better_cost));
            lower = omega (arith, w.least-is, better_cost, less, cheap, lower);
            cheapest = λ pos.
                subst (NoneOfFirstBeats times whole all taken x later (n + 1)) (sym w.least-is)
                (tried times whole all taken x later n least better.cost rest.cost y at (iv.cheapest (omega (arith, pos, left, fewer)))
                (omega (arith, better_cost, less, cheap)) (omega (arith, better_cost))
                (subst (λ (held : ℕ → ℕ). NoneBeats times whole all held later rest.cost) set (w.in-Some-rest.ensures.cheapest (omega (arith, pos, left)))));
            tries = omega (arith, tries, before, left, more);
            fewer = omega (arith, fewer, fell, left);
          })
      | then-fits+in_default-rest w ↦ (
          let fits : Fits times whole taken due least y = c.fits.ensures.0 w.if-fits.true in
          let cheap = fits.cost in
          let set : times w.with-with_next.result ≡ and_also taken (times y.calls) =
          same_function (times w.with-with_next.result) (and_also taken (times y.calls)) w.with-with_next.ensures in
          let tries = w.cheapest-rest.ensures.tries in
          let fewer = w.cheapest-rest.ensures.fewer in
          let left = w.left-is in
          record {
            least = w.least-is ∙ iv.least ∙ ap (to_beat c.args.beat) (sym w.best-is);
            selection =
                subst (λ (o : Option Selection). IfSome o (IsSelection times whole all taken car c.args.cars.now c.args.beat)) (sym w.best-is) iv.selection;
            lower = omega (arith, w.least-is, lower);
            cheapest = λ pos.
                subst (NoneOfFirstBeats times whole all taken x later (n + 1)) (sym w.least-is)
                (tried times whole all taken x later n least least (least - y.cost) y at (iv.cheapest (omega (arith, pos, left, fewer))) (omega arith)
                (omega (arith, cheap)) (subst (λ (held : ℕ → ℕ). NoneBeats times whole all held later (least - y.cost)) set
                (w.in_default-rest.ensures.cheapest (omega (arith, pos, left)))));
            tries = omega (arith, tries, before, left, more);
            fewer = omega (arith, fewer, fell, left);
          })
      | else-fits w ↦ (
          let left = w.left-is in
          let out = not_fitting times whole all taken due (reach_of c.args.demand.now) car x later least y reach c.due-due.ensures
          (λ fits. both_ways c.fits.result w.if-fits.false (c.fits.ensures.1 fits)) in
          record {
            least = w.least-is ∙ iv.least ∙ ap (to_beat c.args.beat) (sym w.best-is);
            selection =
                subst (λ (o : Option Selection). IfSome o (IsSelection times whole all taken car c.args.cars.now c.args.beat)) (sym w.best-is) iv.selection;
            lower = omega (arith, w.least-is, lower);
            cheapest = λ pos.
                subst (NoneOfFirstBeats times whole all taken x later (n + 1)) (sym w.least-is)
                (skipped times whole all taken x later n least y at (iv.cheapest (omega (arith, pos, left))) out);
            tries = omega (arith, before, left, more);
            fewer = omega (arith, fell, left);
          })
    ]

pub bound_of_rest-rest_bound-requires-clause-small : goal.bound_of_rest-rest_bound-requires-clause-small
bound_of_rest-rest_bound-requires-clause-small g t c =
    let within : c.loop-place.place < length c.in-Some.first.now.candidates.items = omega (arith, c.loop-place-test.true, c.len-place-end.ensures) in
    subst IsSmall (sym c.index-next.ensures) ((subst AreSmall c.in-Some.ensures.cases.0 c.requires.small).0 c.loop-place.place c.index-next.result.now within)

-- where the bound reaches the cost at a candidate, no later one is tried
pub returns-then-reaches-clause-cheapest : goal.returns-then-reaches-clause-cheapest
returns-then-reaches-clause-cheapest g t c =
    let times = g.C.CallCounts.times in
    let whole = g.C.CallCounts.whole in
    let all = has c.args.demand.now.all in
    let taken = times c.args.taken.now in
    let x = c.in-Some.first.now in
    let items = x.candidates.items in
    let later = c.in-Some.later.now in
    let n = c.loop-place.place in
    let y = c.index-next.result.now in
    let least = c.loop-place.least in
    let bound = c.args.bound in
    let within : n < length items = omega (arith, c.loop-place-test.true, c.len-place-end.ensures) in
    let at : IsAt items n y = record { within = within; is = sym c.index-next.ensures } in
    let same : to_z w128 (of_z w128 bound) ≡ bound = to_z-of_z w128 bound c.ranges.bound in
    let far : ReachesCost bound least y = subst (λ (z : ℤ). ReachesCost z least y) same (c.reaches.ensures.0 c.if-reaches.true) in
    let small = subst AreSmall c.in-Some.ensures.cases.0 c.requires.small in
    let rising = subst AreRising c.in-Some.ensures.cases.0 c.requires.rising in
    let low = subst (λ (l : List (CarChoice g.row.T.Denot g.row.C.Denot)). IsBound times whole all taken l bound) c.in-Some.ensures.cases.0 c.requires.bound in
    let beaten = to_beat c.args.beat c.loop-place.best in
    λ pos. subst (λ (l : List (CarChoice g.row.T.Denot g.row.C.Denot)). NoneBeats times whole all taken l beaten) (sym c.in-Some.ensures.cases.0)
    (subst (NoneBeats times whole all taken (x ∷ later)) c.loop-place.invariant.least
    (none_below times whole all taken x later n least y bound small rising.0 low at far (c.loop-place.invariant.cheapest pos)))

pub reaches-requires-clause-near : goal.reaches-requires-clause-near
reaches-requires-clause-near g t c =
    let same : to_z w128 (of_z w128 c.args.bound) ≡ c.args.bound = to_z-of_z w128 c.args.bound c.ranges.bound in
    let low = c.requires.range.0 in
    let few = c.requires.few in
    subst (IsInRange 16) (sym same) (omega (arith, ints, low, few), c.requires.range.1)

pub reaches-requires-clause-small : goal.reaches-requires-clause-small
reaches-requires-clause-small g t c =
    let within : c.loop-place.place < length c.in-Some.first.now.candidates.items = omega (arith, c.loop-place-test.true, c.len-place-end.ensures) in
    subst IsSmall (sym c.index-next.ensures) ((subst AreSmall c.in-Some.ensures.cases.0 c.requires.small).0 c.loop-place.place c.index-next.result.now within)

pub bound_of_rest-rest_bound-requires-clause-near : goal.bound_of_rest-rest_bound-requires-clause-near
bound_of_rest-rest_bound-requires-clause-near g t c =
    let same : to_z w128 (of_z w128 c.args.bound) ≡ c.args.bound = to_z-of_z w128 c.args.bound c.ranges.bound in
    let low = c.requires.range.0 in
    let few = c.requires.few in
    subst (IsInRange 16) (sym same) (omega (arith, ints, low, few), c.requires.range.1)

pub with-with_next-requires : goal.with-with_next-requires
with-with_next-requires g t c = (c.fits.ensures.0 c.if-fits.true).room

pub overflow_sub-rest_beat : goal.overflow_sub-rest_beat
overflow_sub-rest_beat g t c =
    let cheap = (c.fits.ensures.0 c.if-fits.true).cost in
    omega (arith, cheap)

pub with-better-requires-clause-car : goal.with-better-requires-clause-car
with-better-requires-clause-car g t c =
    let few = c.requires.few in
    let long = c.in-Some.ensures.cases.1 in
    omega (arith, few, long)

pub with-better-requires-clause-cost : goal.with-better-requires-clause-cost
with-better-requires-clause-cost g t c =
    let cheap = (c.fits.ensures.0 c.if-fits.true).cost in
    let less = c.in-Some-rest.ensures.selection.less in
    omega (arith, less, cheap, c.loop-place.auto.least-fits)

pub returns-then-left-eq0-clause-tries : goal.returns-then-left-eq0-clause-tries
returns-then-left-eq0-clause-tries g t c = omega arith

pub returns-then-left-eq0-clause-fewer : goal.returns-then-left-eq0-clause-fewer
returns-then-left-eq0-clause-fewer g t c = omega arith

pub returns-in_default-clause-fewer : goal.returns-in_default-clause-fewer
returns-in_default-clause-fewer g t c = omega arith

pub returns-in_default-clause-selection : goal.returns-in_default-clause-selection
returns-in_default-clause-selection g t c =
    end_picked g.C.CallCounts.times g.C.CallCounts.whole (has c.args.demand.now.all)
    (g.C.CallCounts.times c.args.taken.now) c.args.car c.args.beat c.args.cars.now c.end_of.result c.in_default.ensures.cases c.requires.beat
    c.requires.room c.end_of.ensures

pub returns-in_default-clause-cheapest : goal.returns-in_default-clause-cheapest
returns-in_default-clause-cheapest g t c = λ pos.
    end_beats g.C.CallCounts.times g.C.CallCounts.whole (has c.args.demand.now.all)
    (g.C.CallCounts.times c.args.taken.now) c.args.beat c.args.cars.now c.end_of.result c.in_default.ensures.cases c.end_of.ensures

pub returns-then-reaches-clause-selection : goal.returns-then-reaches-clause-selection
returns-then-reaches-clause-selection g t c = c.loop-place.invariant.selection

pub returns-then-reaches-clause-fewer : goal.returns-then-reaches-clause-fewer
returns-then-reaches-clause-fewer g t c = let fewer = c.loop-place.invariant.fewer in omega (arith, fewer)

pub returns-clause-selection : goal.returns-clause-selection
returns-clause-selection g t c = c.loop-place.invariant.selection

pub returns-clause-fewer : goal.returns-clause-fewer
returns-clause-fewer g t c = let fewer = c.loop-place.invariant.fewer in omega (arith, fewer)
