use Rattle.std.proofs.Common.{◌≡◌, ℕ, Bool, IfSome, sym, ap, subst, arith}
use mir.Syntax.{w128}
use mir.Val.{to_z, of_z}
use Rattle.std.proofs.lemmas.Int.{to_z-of_z}
use Rattle.std.proofs.lemmas.Bool.{eqb-true}
use Rattle.call_sets.specs.Counting.{has}
use Rattle.car_search.specs.Counts.{no_times}
use Rattle.car_search.specs.Choosing.{IsBound, IsInRange, IsSelection, NoneBeats, to_beat}
use Rattle.car_search.proofs.ChoosingLemmas.{small_all, rising_all}
use Rattle.car_search.proofs.NumberLemmas.{same_function, positive}
use Rattle.car_search.proofs.search.cheapest_picks.Goals as goal

-- what holds of the set of all calls and of what is taken at first
moved : {C : Type 0} (P : (ℕ → Bool) → (ℕ → ℕ) → Type 0) (times : C → ℕ → ℕ) (none : C) (set all : ℕ) → set ≡ all → ((j : ℕ) → times none j ≡ 0)
    → P (has set) (times none) → P (has all) no_times
moved P times none set all same empty held =
    subst (P (has all)) (same_function (times none) no_times empty) (subst (λ (calls : ℕ → Bool). P calls (times none)) (ap has same) held)

back : {C : Type 0} (P : (ℕ → Bool) → (ℕ → ℕ) → Type 0) (times : C → ℕ → ℕ) (none : C) (set all : ℕ) → set ≡ all → ((j : ℕ) → times none j ≡ 0)
    → P (has all) no_times → P (has set) (times none)
back P times none set all same empty held =
    subst (λ (calls : ℕ → Bool). P calls (times none)) (ap has (sym same)) (subst (P (has all)) (sym (same_function (times none) no_times empty)) held)

pub cheapest-picked-requires-clause-bound : goal.cheapest-picked-requires-clause-bound
cheapest-picked-requires-clause-bound g c =
    let times = g.C.CallCounts.times in
    let whole = g.C.CallCounts.whole in
    let same : to_z w128 (of_z w128 c.args.bound) ≡ c.args.bound = to_z-of_z w128 c.args.bound c.ranges.bound in
    subst (IsBound times whole (has c.new-demand.result.all) (times c.none.result) c.args.cars.now) (sym same)
    (back (λ calls taken. IsBound times whole calls taken c.args.cars.now c.args.bound) times c.none.result c.new-demand.result.all c.args.all
    c.new-demand.ensures.all c.none.ensures c.requires.bound)

pub cheapest-picked-requires-clause-range : goal.cheapest-picked-requires-clause-range
cheapest-picked-requires-clause-range g c =
    let same : to_z w128 (of_z w128 c.args.bound) ≡ c.args.bound = to_z-of_z w128 c.args.bound c.ranges.bound in
    subst (IsInRange 0) (sym same) c.requires.range

pub cheapest-picked-requires-clause-room : goal.cheapest-picked-requires-clause-room
cheapest-picked-requires-clause-room g c = λ j. (let none = c.none.ensures j in omega (arith, none))

pub returns-clause-selection : goal.returns-clause-selection
returns-clause-selection g c =
    let times = g.C.CallCounts.times in
    let whole = g.C.CallCounts.whole in
    moved (λ calls taken. IfSome c.cheapest-picked.result (IsSelection times whole calls taken 0 c.args.cars.now c.args.beat)) times c.none.result
    c.new-demand.result.all c.args.all c.new-demand.ensures.all c.none.ensures c.cheapest-picked.ensures.selection

pub returns-clause-cheapest : goal.returns-clause-cheapest
returns-clause-cheapest g c = λ h.
    (let times = g.C.CallCounts.times in
    let whole = g.C.CallCounts.whole in
    moved (λ calls taken. NoneBeats times whole calls taken c.args.cars.now (to_beat c.args.beat c.cheapest-picked.result)) times c.none.result
    c.new-demand.result.all c.args.all c.new-demand.ensures.all c.none.ensures (c.cheapest-picked.ensures.cheapest (positive c.cheapest-picked.new.left h)))

pub returns-clause-spent : goal.returns-clause-spent
returns-clause-spent g c = λ h.
    (let none = eqb-true c.cheapest-picked.new.left 0 h in
    let tries = c.cheapest-picked.ensures.tries in
    omega (arith, none, tries))

pub cheapest-picked-requires-clause-small : goal.cheapest-picked-requires-clause-small
cheapest-picked-requires-clause-small g c = small_all c.args.cars.now c.requires.small

pub cheapest-picked-requires-clause-rising : goal.cheapest-picked-requires-clause-rising
cheapest-picked-requires-clause-rising g c = rising_all c.args.cars.now c.requires.rising
