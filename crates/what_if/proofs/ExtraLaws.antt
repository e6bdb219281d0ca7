-- What the answers of two searches tell of an extra cost.
use Rattle.std.proofs.Common.{◌≡◌, ℕ, ◌<◌, ◌≤◌, Bool, true, false, List, refl, sym, ◌∙◌, subst, inl, inr, arith}
use Rattle.std.specs.Prelude.{ℤ, pos, ◌-ℤ◌, ◌≤ℤ◌, ◌<ℤ◌}
use Rattle.std.proofs.lemmas.Int.{ints}
use Rattle.elevator_model.specs.Snapshot.{Snapshot, IsAccepted, car_count}
use Rattle.elevator_model.specs.declared.Stop.{Stop}
use Rattle.elevator_model.specs.Plans.{IsBound}
use Rattle.search_model.specs.declared.Twig.{Twig}
use Rattle.search_model.specs.declared.Turn.{Turn}
use Rattle.search_model.specs.declared.StopReason.{StopReason}
use Rattle.search_model.specs.declared.StopReason.TheVariants.{Solved}
use Rattle.search_model.specs.Solving.{IsReason, IsSolveAnswer}
use Rattle.search_model.specs.Verdicts.{tours_enough, rounds_enough}
use Rattle.search_model.proofs.TreeLemmas.{proves-bound}
use Rattle.call_state.proofs.PossibleLemmas.{most_cars-le}
use Rattle.what_if.specs.declared.extras.Extra.{Extra}
use Rattle.what_if.specs.declared.extras.Extra.TheVariants.{None as NoExtra, Exact, Between}
use Rattle.what_if.specs.declared.extras.Searched.{Searched}
use Rattle.what_if.specs.WhatIf.{AreClosed, AreEnough, CanTakeAsked, IsExtraCost, IsExtraOf, IsLeastCost, IsOneOpen, IsSearched, has_extra, high_of, is_settled}
use Rattle.what_if.specs.WhatIf.{low_of, takes_asked, with_pin, without_last}
use Rattle.what_if.specs.Ends.{Tells}
use Rattle.what_if.proofs.LeastCosts.{least-exists}

never : (b : Bool) → b ≡ false → b ≡ true → ⊥
never true e f = absurd (cc e)
never false e f = absurd (cc f)

least-below : (s : Snapshot) (a b : ℕ) → IsLeastCost s a → IsLeastCost s b → a ≤ b
least-below s a b x y =
    let le = x.optimal.least y.plan y.optimal.feasible in
    let one = x.costs in
    let other = y.costs in
    omega (arith, le, one, other)

-- there is one least cost
least-same : (s : Snapshot) (a b : ℕ) → IsLeastCost s a → IsLeastCost s b → a ≡ b
least-same s a b x y =
    let le = least-below s a b x y in
    let ge = least-below s b a y x in
    omega (arith, le, ge)

pub bound-below : (s : Snapshot) (rounds most_tours : ℕ) (x : Searched) → IsSearched s rounds most_tours x → x.bound ≤ x.cost
bound-below s rounds most_tours x h =
    let le = h.bound h.plan h.answer.proves.feasible in
    let costs = h.answer.proves.costs in
    omega (arith, le, costs)

-- the least cost lies from the bound to the cost
least-within : (s : Snapshot) (rounds most_tours : ℕ) (x : Searched) (n : ℕ) → IsSearched s rounds most_tours x → IsLeastCost s n → (x.bound ≤ n) × (n ≤ x.cost)
least-within s rounds most_tours x n h least =
    let low = h.bound least.plan least.optimal.feasible in
    let high = least.optimal.least h.plan h.answer.proves.feasible in
    let costs = h.answer.proves.costs in
    let is = least.costs in
    (omega (arith, low, is), omega (arith, high, costs, is))

least-closed : (s : Snapshot) (rounds most_tours : ℕ) (x : Searched) → IsSearched s rounds most_tours x → x.cost ≡ x.bound → IsLeastCost s x.cost
least-closed s rounds most_tours x h same =
    record {
      plan = h.plan;
      optimal = record {
        feasible = h.answer.proves.feasible;
        least = subst (IsBound s) (sym (h.answer.proves.costs ∙ same)) h.bound;
      };
      costs = h.answer.proves.costs;
    }

-- the extra cost of two searches that were solved
extra-closed : (s : Snapshot) (rounds most_tours : ℕ) (before after : Searched) (c : ℕ) (extra : ℤ) → IsSearched (without_last s) rounds most_tours before
    → IsSearched (with_pin s c) rounds most_tours after → AreClosed before after → extra ≡ pos after.cost -ℤ pos before.cost → IsExtraCost s c extra
extra-closed s rounds most_tours before after c extra one other closed is =
    record {
      before = before.cost;
      after = after.cost;
      least_before = least-closed (without_last s) rounds most_tours before one closed.0;
      least_after = least-closed (with_pin s c) rounds most_tours after other closed.1;
      is = is;
    }

-- a car has no two extra costs
pub extra-same : (s : Snapshot) (c : ℕ) (one other : ℤ) → IsExtraCost s c one → IsExtraCost s c other → other ≡ one
extra-same s c one other x y =
    let first = least-same (without_last s) x.before y.before x.least_before y.least_before in
    let second = least-same (with_pin s c) x.after y.after x.least_after y.least_after in
    let e = x.is in
    let f = y.is in
    omega (arith, ints, first, second, e, f)

-- and it has one, since some feasible plan of each of the two costs least
extra-exists : (s : Snapshot) (rounds most_tours : ℕ) (before after : Searched) (c : ℕ) → IsSearched (without_last s) rounds most_tours before
    → IsSearched (with_pin s c) rounds most_tours after → (extra : ℤ) × IsExtraCost s c extra
extra-exists s rounds most_tours before after c one other =
    let first = least-exists (without_last s) one.plan one.answer.proves.feasible in
    let second = least-exists (with_pin s c) other.plan other.answer.proves.feasible in (
      pos second.0 -ℤ pos first.0,
      record { before = first.0; after = second.0; least_before = first.1; least_after = second.1; is = refl },
    )

extra-between : (s : Snapshot) (rounds most_tours : ℕ) (before after : Searched) (c : ℕ) (extra : ℤ) → IsSearched (without_last s) rounds most_tours before
    → IsSearched (with_pin s c) rounds most_tours after → IsExtraCost s c extra → ((pos after.bound -ℤ pos before.cost) ≤ℤ extra)
    × (extra ≤ℤ (pos after.cost -ℤ pos before.bound))
extra-between s rounds most_tours before after c extra one other is =
    let first = least-within (without_last s) rounds most_tours before is.before one is.least_before in
    let second = least-within (with_pin s c) rounds most_tours after is.after other is.least_after in
    let low = first.0 in
    let high = first.1 in
    let from = second.0 in
    let to = second.1 in
    let e = is.is in
    (omega (arith, ints, low, high, from, to, e), omega (arith, ints, low, high, from, to, e))

-- one open search leaves room between the ends
apart-if-open : (before after : Searched) → before.bound ≤ before.cost → after.bound ≤ after.cost → IsOneOpen before after
    → (pos after.bound -ℤ pos before.cost) <ℤ (pos after.cost -ℤ pos before.bound)
apart-if-open before after first second (inl below) = omega (arith, ints, first, second, below)
apart-if-open before after first second (inr below) = omega (arith, ints, first, second, below)

pub extra-told : (s : Snapshot) (rounds most_tours : ℕ) (before after : Searched) (c : ℕ) (x : Extra) → takes_asked s c ≡ true
    → IsSearched (without_last s) rounds most_tours before → IsSearched (with_pin s c) rounds most_tours after → Tells before after x
    → IsExtraOf s rounds most_tours before c x
extra-told s rounds most_tours before after c NoExtra takes one other told = absurd told
extra-told s rounds most_tours before after c (Exact extra) takes one other told =
    let exact = extra-closed s rounds most_tours before after c extra one other told.0 told.1 in
    (takes, record { after = after; searched = other; closed = told.0; is = told.1; extra_cost = exact; only = λ more is. extra-same s c extra more exact is })
extra-told s rounds most_tours before after c (Between low high) takes one other told =
    let exists = extra-exists s rounds most_tours before after c one other in (
      takes,
      record {
        after = after;
        searched = other;
        one_open = told.one_open;
        low_is = told.low_is;
        high_is = told.high_is;
        apart = (let room =
            apart-if-open before after (bound-below (without_last s) rounds most_tours before one)
            (bound-below (with_pin s c) rounds most_tours after other) told.one_open in let low = told.low_is in let high = told.high_is in
            omega (arith, ints, room, low, high));
        extra = exists.0;
        extra_cost = exists.1;
        only = λ more is. extra-same s c exists.0 more exists.1 is;
        holds = λ more is.
            (let ends = extra-between s rounds most_tours before after c more one other is in let from = ends.0 in let to = ends.1 in let low = told.low_is in
            let high = told.high_is in (omega (arith, ints, from, low), omega (arith, ints, to, high)));
      },
    )

-- each extra cost of a car lies between the ends of what is said of it
pub extra-within : (s : Snapshot) (rounds most_tours : ℕ) (before : Searched) (c : ℕ) (x : Extra) (extra : ℤ) → takes_asked s c ≡ true
    → IsExtraOf s rounds most_tours before c x → IsExtraCost s c extra → (low_of x ≤ℤ extra) × (extra ≤ℤ high_of x)
extra-within s rounds most_tours before c NoExtra extra takes of is = absurd (never (takes_asked s c) of takes)
extra-within s rounds most_tours before c (Exact exact) extra takes of is =
    let same = of.1.only extra is in
    (omega (arith, ints, same), omega (arith, ints, same))
extra-within s rounds most_tours before c (Between low high) extra takes of is = of.1.holds extra is

-- a car that can take the call has an extra cost
pub extra-at : (s : Snapshot) (rounds most_tours : ℕ) (before : Searched) (c : ℕ) (x : Extra) → takes_asked s c ≡ true
    → IsExtraOf s rounds most_tours before c x → (extra : ℤ) × IsExtraCost s c extra
extra-at s rounds most_tours before c NoExtra takes of = absurd (never (takes_asked s c) of takes)
extra-at s rounds most_tours before c (Exact extra) takes of = (extra, of.1.extra_cost)
extra-at s rounds most_tours before c (Between low high) takes of = (of.1.extra, of.1.extra_cost)

-- a car of which something is said can take the call, and the other way round
pub takes-has : (s : Snapshot) (rounds most_tours : ℕ) (before : Searched) (c : ℕ) (x : Extra) → IsExtraOf s rounds most_tours before c x
    → takes_asked s c ≡ has_extra x
takes-has s rounds most_tours before c NoExtra of = of
takes-has s rounds most_tours before c (Exact extra) of = of.0
takes-has s rounds most_tours before c (Between low high) of = of.0

-- what is settled is an extra cost
pub settled-is : (s : Snapshot) (rounds most_tours : ℕ) (before : Searched) (c : ℕ) (x : Extra) → takes_asked s c ≡ true → is_settled x ≡ true
    → IsExtraOf s rounds most_tours before c x → IsExtraCost s c (low_of x) × (low_of x ≡ high_of x)
settled-is s rounds most_tours before c NoExtra takes settled of = absurd (never (takes_asked s c) of takes)
settled-is s rounds most_tours before c (Exact extra) takes settled of = (of.1.extra_cost, refl)
settled-is s rounds most_tours before c (Between low high) takes settled of = absurd cc

-- with limits that are enough nothing is open
pub enough-settled : (s : Snapshot) (rounds most_tours : ℕ) (before : Searched) (c : ℕ) (x : Extra) → c < car_count s → AreEnough s rounds most_tours
    → IsSearched (without_last s) rounds most_tours before → IsExtraOf s rounds most_tours before c x → is_settled x ≡ true
enough-settled s rounds most_tours before c NoExtra car enough one of = refl
enough-settled s rounds most_tours before c (Exact extra) car enough one of = refl
enough-settled s rounds most_tours before c (Between low high) car enough one of =
    let takes : CanTakeAsked s c = record { is_car = car; possible = of.0 } in
    let first = one.enough enough.rounds_without enough.moves_without in
    let second = of.1.searched.enough (enough.rounds_with c takes) (enough.moves_with c takes) in
    none before of.1.after first second of.1.one_open
  where
    none : (before after : Searched) → before.cost ≡ before.bound → after.cost ≡ after.bound → IsOneOpen before after → false ≡ true
    none before after first second (inl below) = absurd (omega (arith, first, below))
    none before after first second (inr below) = absurd (omega (arith, second, below))

-- what a search answers, as far as it is asked for here
pub searched-is : (s : Snapshot) (rounds most_tours : ℕ) (plan : List (List Stop)) (cost bound : ℕ) (tree : List Twig) (turns : List Turn) (why : StopReason)
    → IsAccepted s → IsSolveAnswer s rounds most_tours plan cost bound tree turns why → (rounds_enough s ≤ rounds → tours_enough s ≤ most_tours → why ≡ Solved)
    → IsSearched s rounds most_tours (record { cost = cost; bound = bound })
searched-is s rounds most_tours plan cost bound tree turns why accepted answer enough =
    let high = accepted.building.cars_high in
    let most = most_cars-le s.building.version in
    record {
      plan = plan;
      tree = tree;
      turns = turns;
      why = why;
      answer = answer;
      bound = proves-bound s plan cost bound tree (omega (arith, high, most)) answer.proves;
      enough = λ first second. subst (IsReason s rounds most_tours cost bound tree) (enough first second) answer.reason;
    }
