use Rattle.std.proofs.Common.{rules, ◌≡◌, ◌&&◌, ◌+ℤ◌, to_z, of_z}
use Rattle.call_sets.specs.Counting.{has}
use Rattle.elevator_model.specs.Snapshot.{call_count, call_of}
use Rattle.route_bound.specs.ForcedRoute.{is_before as is_before_lem}
use Rattle.partial_tours.specs.Courses.{reached}
use Rattle.search_model.specs.Prices.{price_at}
use Rattle.route_sums.specs.Gathering.{highest, lowest}
use Rattle.std.proofs.Common.{inl, inr, sym, ◌∙◌, subst, arith}
use Rattle.std.proofs.lemmas.Bool.{and_parts, or_cases}
use Rattle.elevator_model.specs.Snapshot.{IsAccepted}
use Rattle.route_bound.specs.ForcedRoute.{halted}
use Rattle.std.proofs.lemmas.Int.{ints}
use Rattle.tour_rules.proofs.Stops.{most_calls_few}
use Rattle.route_sums.proofs.IdleLemmas.{idle_next, idle_none}
use Rattle.route_sums.proofs.RouteLemmas.{fewer, set_apart}
use Rattle.route_sums.proofs.SizeLemmas.{added_whole, sums_size}
use Rattle.route_sums.proofs.AlongLemmas.{along_next_settled, along_none_settled, found_next, found_none, next_from, next_inside, none_from}
use mir.Syntax.{w128}
use Rattle.route_sums.proofs.parts.RouteSums.+route.Goals as goal

pub returns-in_default-clause-added : goal.returns-in_default-clause-added
returns-in_default-clause-added t c x p leads at =
    let same : to_z w128 (of_z w128 c.parts-last.result.added) ≡ c.parts-last.result.added = search rules in
    found_none c.args.prefix.now.snapshot c.args.self.now.snapshot.now c.args.prefix.now.car c.args.self.now.car (price_at c.args.self.now.prices.now)
    (has c.args.self.now.required) (has c.args.way.now.along) (has c.args.rest) c.args.way.now.upward c.args.newest
    (reached c.args.prefix.now.snapshot c.args.prefix.now.car x) c.args.at.now p
    (to_z w128 (of_z w128 c.parts-last.result.added)) c.parts-last.result.added c.requires.same c.requires.car same c.parts-last.ensures.sum at
    (none_from c.args.way.now.upward c.args.at.now.place.floor c.args.at.now.bound_for c.in_default.ensures.up c.in_default.ensures.down)

pub returns-in_default-clause-settled : goal.returns-in_default-clause-settled
returns-in_default-clause-settled t c x p leads at =
    along_none_settled c.args.prefix.now.snapshot c.args.prefix.now.car c.args.way.now.upward c.args.newest
    (reached c.args.prefix.now.snapshot c.args.prefix.now.car x) c.args.at.now p at
    (none_from c.args.way.now.upward c.args.at.now.place.floor c.args.at.now.bound_for c.in_default.ensures.up c.in_default.ensures.down)

pub boards_before-boards-requires-clause-from : goal.boards_before-boards-requires-clause-from
boards_before-boards-requires-clause-from t c = c.args.at.now.near

pub boards_before-boards-requires-clause-to : goal.boards_before-boards-requires-clause-to
boards_before-boards-requires-clause-to t c =
    (next_from c.args.way.now.upward c.args.at.now c.in-Some.floor c.in-Some.ensures.up c.in-Some.ensures.down).1

pub parts-here-requires-clause-within : goal.parts-here-requires-clause-within
parts-here-requires-clause-within t c = λ j e. c.requires.rest j (and_parts (has c.args.rest j) _ (sym (c.boards_before-boards.ensures j) ∙ e)).0

pub halted-requires-clause-to : goal.halted-requires-clause-to
halted-requires-clause-to t c =
    let st = c.requires.stands in
    let next = next_from c.args.way.now.upward c.args.at.now c.in-Some.floor c.in-Some.ensures.up c.in-Some.ensures.down in
    next_inside c.args.prefix.now.snapshot c.args.prefix.now.car c.args.way.now.upward c.args.newest
    (reached c.args.prefix.now.snapshot c.args.prefix.now.car st.1.there) c.args.at.now st.0 c.in-Some.floor
    (subst IsAccepted c.requires.same c.calls.ensures.accepted) st.1.stands next.0

pub along_route-later-requires : goal.along_route-later-requires
along_route-later-requires t c =
    let st = c.requires.stands in
    let next = next_from c.args.way.now.upward c.args.at.now c.in-Some.floor c.in-Some.ensures.up c.in-Some.ensures.down in
    let few = fewer c.args.at.now.bound_for c.halted.result.bound_for c.in-Some.floor c.halted.ensures.bound_for next.0.goes next.1 in (
      omega (arith, few, c.decreases),
      (
        c.requires.same,
        (
          c.requires.car,
          (
            (
              halted c.args.prefix.now.snapshot c.args.prefix.now.car st.0 c.in-Some.floor,
              record { there = st.1.there; leads = st.1.leads; stands = c.halted.ensures.stands st.1.there st.0 st.1.leads st.1.stands },
            ),
            λ j e. c.requires.rest j (and_parts (has c.args.rest j) _ (sym (c.minus-after.ensures j) ∙ e)).0,
          ),
        ),
      ),
    )

pub overflow_add-result : goal.overflow_add-result
overflow_add-result t c =
    let s = c.args.self.now.snapshot.now in
    let few = most_calls_few s c.calls.ensures.accepted in
    let one = sums_size (call_count s) (has c.boards_before-boards.result) few in
    let two = sums_size (call_count s) (has c.minus-after.result) few in
    let one_low = one.0 in
    let one_high = one.1 in
    let two_low = two.0 in
    let two_high = two.1 in
    let low = c.parts-here.ensures.low in
    let high = c.parts-here.ensures.high in
    let later_low = c.along_route-later.ensures.low in
    let later_high = c.along_route-later.ensures.high in
    omega (arith, ints, one_low, one_high, two_low, two_high, low, high, later_low, later_high)

pub returns-clause-added : goal.returns-clause-added
returns-clause-added t c x p leads at =
    let next = next_from c.args.way.now.upward c.args.at.now c.in-Some.floor c.in-Some.ensures.up c.in-Some.ensures.down in
    let whole : to_z w128 (of_z w128 (to_z w128 (of_z w128 c.parts-here.result.added) +ℤ to_z w128 (of_z w128 c.along_route-later.result.added)))
    ≡ c.parts-here.result.added +ℤ c.along_route-later.result.added =
    added_whole (call_count c.args.self.now.snapshot.now) c.boards_before-boards.result c.minus-after.result c.parts-here.result.added
    c.along_route-later.result.added
    (most_calls_few c.args.self.now.snapshot.now c.calls.ensures.accepted) c.parts-here.ensures.low c.parts-here.ensures.high
    c.along_route-later.ensures.low c.along_route-later.ensures.high in
    found_next c.args.prefix.now.snapshot c.args.self.now.snapshot.now c.args.prefix.now.car c.args.self.now.car (price_at c.args.self.now.prices.now)
    (has c.args.self.now.required) (has c.args.way.now.along) (has c.args.rest) (has c.boards_before-boards.result)
    (has c.minus-after.result) c.args.way.now.upward c.args.newest
    (reached c.args.prefix.now.snapshot c.args.prefix.now.car x) c.args.at.now p c.in-Some.floor _ c.parts-here.result.added
    c.along_route-later.result.added c.requires.same c.requires.car whole c.parts-here.ensures.sum
    (subst IsAccepted c.requires.same c.calls.ensures.accepted) at next.0 c.boards_before-boards.ensures c.minus-after.ensures
    (c.along_route-later.ensures.added x (halted c.args.prefix.now.snapshot c.args.prefix.now.car p c.in-Some.floor) leads
    (c.halted.ensures.stands x p leads at))

pub returns-clause-settled : goal.returns-clause-settled
returns-clause-settled t c x p leads at =
    let next = next_from c.args.way.now.upward c.args.at.now c.in-Some.floor c.in-Some.ensures.up c.in-Some.ensures.down in
    along_next_settled c.args.prefix.now.snapshot c.args.prefix.now.car c.args.way.now.upward c.args.newest
    (reached c.args.prefix.now.snapshot c.args.prefix.now.car x) c.args.at.now p c.in-Some.floor c.along_route-later.result.settled
    (subst IsAccepted c.requires.same c.calls.ensures.accepted) at next.0
    (c.along_route-later.ensures.settled x (halted c.args.prefix.now.snapshot c.args.prefix.now.car p c.in-Some.floor) leads
    (c.halted.ensures.stands x p leads at))

pub returns-clause-low : goal.returns-clause-low
returns-clause-low t c =
    let s = c.args.self.now.snapshot.now in
    let whole = added_whole (call_count s) c.boards_before-boards.result c.minus-after.result c.parts-here.result.added c.along_route-later.result.added
    (most_calls_few s c.calls.ensures.accepted) c.parts-here.ensures.low c.parts-here.ensures.high c.along_route-later.ensures.low
    c.along_route-later.ensures.high in
    let apart = set_apart (call_count s) c.boards_before-boards.result c.args.rest c.minus-after.result
    (λ j. has c.args.way.now.along j && is_before_lem c.args.way.now.upward c.args.at.now.place.floor c.in-Some.floor (call_of s j).origin) lowest
    c.boards_before-boards.ensures c.minus-after.ensures in
    let one = c.parts-here.ensures.low in
    let two = c.along_route-later.ensures.low in
    omega (arith, ints, whole, apart, one, two)

pub returns-clause-high : goal.returns-clause-high
returns-clause-high t c =
    let s = c.args.self.now.snapshot.now in
    let whole = added_whole (call_count s) c.boards_before-boards.result c.minus-after.result c.parts-here.result.added c.along_route-later.result.added
    (most_calls_few s c.calls.ensures.accepted) c.parts-here.ensures.low c.parts-here.ensures.high c.along_route-later.ensures.low
    c.along_route-later.ensures.high in
    let apart = set_apart (call_count s) c.boards_before-boards.result c.args.rest c.minus-after.result
    (λ j. has c.args.way.now.along j && is_before_lem c.args.way.now.upward c.args.at.now.place.floor c.in-Some.floor (call_of s j).origin) highest
    c.boards_before-boards.ensures c.minus-after.ensures in
    let one = c.parts-here.ensures.high in
    let two = c.along_route-later.ensures.high in
    omega (arith, ints, whole, apart, one, two)

pub returns-in_default-clause-within : goal.returns-in_default-clause-within
returns-in_default-clause-within t c = c.parts-last.ensures.within

pub returns-in_default-clause-idle : goal.returns-in_default-clause-idle
returns-in_default-clause-idle t c x p leads at = λ j on off.
    idle_none c.args.prefix.now.snapshot c.args.self.now.snapshot.now c.args.prefix.now.car c.args.self.now.car (price_at c.args.self.now.prices.now)
    (has c.args.self.now.required) (has c.args.way.now.along) c.args.way.now.upward c.args.newest
    (reached c.args.prefix.now.snapshot c.args.prefix.now.car x) c.args.at.now p j c.requires.same c.requires.car at
    (none_from c.args.way.now.upward c.args.at.now.place.floor c.args.at.now.bound_for c.in_default.ensures.up c.in_default.ensures.down)
    (c.parts-last.ensures.idle j on off)

pub returns-clause-within : goal.returns-clause-within
returns-clause-within t c = λ j e.
    elim (or_cases (has c.parts-here.result.waiting j) (has c.along_route-later.result.waiting j) (sym (c.union.ensures j) ∙ e)) [
      | inl h ↦ (and_parts (has c.args.rest j) _ (sym (c.boards_before-boards.ensures j) ∙ c.parts-here.ensures.within j h)).0
      | inr h ↦ (and_parts (has c.args.rest j) _ (sym (c.minus-after.ensures j) ∙ c.along_route-later.ensures.within j h)).0
    ]

pub returns-clause-idle : goal.returns-clause-idle
returns-clause-idle t c x p leads at = λ j on off.
    let s = c.args.prefix.now.snapshot in
    let next = next_from c.args.way.now.upward c.args.at.now c.in-Some.floor c.in-Some.ensures.up c.in-Some.ensures.down in
    idle_next s c.args.self.now.snapshot.now c.args.prefix.now.car c.args.self.now.car (price_at c.args.self.now.prices.now) (has c.args.self.now.required)
    (has c.args.way.now.along) c.args.rest c.boards_before-boards.result c.minus-after.result c.parts-here.result.waiting
    c.along_route-later.result.waiting c.union.result c.args.way.now.upward c.args.newest
    (reached s c.args.prefix.now.car x) c.args.at.now p c.in-Some.floor j c.requires.same c.requires.car
    (subst IsAccepted c.requires.same c.calls.ensures.accepted) at next.0 (c.boards_before-boards.ensures j) (c.minus-after.ensures j) (c.union.ensures j)
    (λ here none. c.parts-here.ensures.idle j here none)
    (λ left none. c.along_route-later.ensures.idle x (halted s c.args.prefix.now.car p c.in-Some.floor) leads
    (c.halted.ensures.stands x p leads at) j left none) on off
