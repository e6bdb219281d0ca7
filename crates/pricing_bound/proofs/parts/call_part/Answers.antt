use Rattle.std.proofs.Common.{◌<◌, Bool, subst, sym, ap, ◌∙◌, arith}
use Rattle.std.proofs.lemmas.Int.{ints}
use Rattle.call_sets.specs.Counting.{has}
use Rattle.elevator_model.specs.Snapshot.{Snapshot, IsAccepted, car_count, call_count}
use Rattle.partial_tours.specs.Courses.{reached}
use Rattle.search_model.specs.Prices.{scaled}
use Rattle.search_model.specs.Bounds.{cost_if_straight, waiting_term}
use Rattle.pricing_bound.proofs.PartLemmas.{placed_at, not_carried, boarded_part, waiting_part, no_part}
use Rattle.pricing_bound.proofs.parts.call_part.Goals as goal

pub returns-then-contains-clause-part : goal.returns-then-contains-clause-part
returns-then-contains-clause-part c = λ x e.
    let t = c.args.prefix.now in
    let p = reached t.snapshot t.car x in
    let j = c.args.call in
    let call = subst (λ (s : Snapshot). j < call_count s) c.requires.same c.requires.call in
    let here = sym (c.boarded.ensures x e j call) ∙ sym c.contains.ensures ∙ c.if-contains.true in
    let part = c.boarded_part.ensures.part x e in
    let whole = boarded_part (p.carried j) (p.boarded j) (has c.args.allowed j) (scaled (cost_if_straight t.snapshot p j)) c.args.price
    (waiting_term t.snapshot (λ _. c.args.price) (has c.args.required) p j) here in
    omega (arith, ints, part, whole)

pub returns-then-contains-2-clause-part : goal.returns-then-contains-2-clause-part
returns-then-contains-2-clause-part c = λ x e.
    let t = c.args.prefix.now in
    let p = reached t.snapshot t.car x in
    let j = c.args.call in
    let a = subst IsAccepted c.requires.same c.calls.ensures.accepted in
    let b = subst (λ (s : Snapshot). t.car < car_count s) c.requires.same c.requires.car in
    let call = subst (λ (s : Snapshot). j < call_count s) c.requires.same c.requires.call in
    let here = sym (c.boarded.ensures x e j call) ∙ sym c.contains.ensures ∙ c.if-contains.false in
    let may = sym c.contains-else-contains.ensures ∙ c.if-contains-2.true in
    let part = c.waiting_part.ensures.part x e
    ∙ ap (λ (r : Bool). waiting_term t.snapshot (λ _. c.args.price) (λ _. r) p j) c.contains-then-contains-2.ensures in
    let whole = waiting_part (p.carried j) (p.boarded j) (has c.args.allowed j) (scaled (cost_if_straight t.snapshot p j)) c.args.price
    (waiting_term t.snapshot (λ _. c.args.price) (has c.args.required) p j) (not_carried t.snapshot t.car p j (placed_at t x a b e) call here) here may in
    omega (arith, ints, part, whole)

pub returns-else-contains-2-clause-part : goal.returns-else-contains-2-clause-part
returns-else-contains-2-clause-part c = λ x e.
    let t = c.args.prefix.now in
    let p = reached t.snapshot t.car x in
    let j = c.args.call in
    let a = subst IsAccepted c.requires.same c.calls.ensures.accepted in
    let b = subst (λ (s : Snapshot). t.car < car_count s) c.requires.same c.requires.car in
    let call = subst (λ (s : Snapshot). j < call_count s) c.requires.same c.requires.call in
    let here = sym (c.boarded.ensures x e j call) ∙ sym c.contains.ensures ∙ c.if-contains.false in
    let may = sym c.contains-else-contains.ensures ∙ c.if-contains-2.false in
    sym (no_part (p.carried j) (p.boarded j) (has c.args.allowed j) (scaled (cost_if_straight t.snapshot p j)) c.args.price
    (waiting_term t.snapshot (λ _. c.args.price) (has c.args.required) p j) (not_carried t.snapshot t.car p j (placed_at t x a b e) call here) here may)
