use Rattle.std.proofs.Common.{◌≡◌, ◌^◌, ◌-◌, ◌++◌, [], ◌∷◌, ◌≤◌, ◌∙◌, ℕ, sym, ap, subst, refl, arith, Option, Some, None}
use Rattle.elevator_model.specs.declared.Move.{Move}
use Rattle.call_sets.specs.Counting.{has}
use Rattle.elevator_model.specs.Snapshot.{call_count}
use Rattle.elevator_model.specs.Partial.{Course, IsLawful, lawful_moves}
use Rattle.partial_tours.specs.Orders.{first_of, next_after}
use Rattle.partial_tours.specs.PartialTour.{PartialTour, course, with_move}
use Rattle.partial_tours.specs.Listed.{AddsTours}
use Rattle.partial_tours.proofs.Search.{left_in, left_falls, followers, from_next, Walks, walks_first, walks_lawful, walks_on, walks_end}
use Rattle.plain_solver.proofs.tours.+search.Goals as goal

pub add_tours-loop-next-init : goal.add_tours-loop-next-init
add_tours-loop-next-init t c =
    let p = c.args.prefix.now in
    let led = c.has_ended.ensures in
    let are = c.first_move-next.ensures.value led.0 led.1
    ∙ ap (λ (set : ℕ). first_of (lawful_moves p.snapshot p.car led.0 (has set))) c.from_bits-allowed.ensures in
    record { same = refl; walks = walks_first p led.0 c.first_move-next.result c.args.found.now.items led.1 are }

pub add_tours-add_tours_after-requires : goal.add_tours-add_tours_after-requires
add_tours-add_tours_after-requires t c =
    let p = c.args.prefix.now in
    let led = c.has_ended.ensures in
    let same = c.loop-next.invariant.same in
    let step = c.in-Some.step in
    let few = subst (λ (q : PartialTour). call_count q.snapshot ≤ 128) (sym same) c.requires in
    let walks = subst (λ (o : Option Move). Walks p o c.args.found.now.items c.loop-next.found.items) c.in-Some.is c.loop-next.invariant.walks in
    let lawful = walks_lawful p led.0 step c.args.found.now.items c.loop-next.found.items led.1 walks in
    let here = ap left_in same in
    (omega (arith, here), (few, subst (λ (q : PartialTour). IsLawful q.snapshot q.car (q.moves ++ step ∷ [])) (sym same) lawful))

-- the next move, told of the partial tour at which the loop began
next_is : (p q : PartialTour) (x : Course) (m : Move) (next : Option Move) (set : ℕ) → q ≡ p → course p ≡ Some x
    → ((y : Course) → course q ≡ Some y → next ≡ next_after m (lawful_moves q.snapshot q.car y (has set))) → set ≡ 2 ^ 128 - 1
    → next ≡ next_after m (lawful_moves p.snapshot p.car x (has (2 ^ 128 - 1)))
next_is p q x m next set back leads value all =
    value x (ap course back ∙ leads) ∙ ap (λ (r : PartialTour). next_after m (lawful_moves r.snapshot r.car x (has set))) back
    ∙ ap (λ (n : ℕ). next_after m (lawful_moves p.snapshot p.car x (has n))) all

pub add_tours-loop-next-smaller : goal.add_tours-loop-next-smaller
add_tours-loop-next-smaller t c =
    let p = c.args.prefix.now in
    let led = c.has_ended.ensures in
    let same = c.loop-next.invariant.same in
    let step = c.in-Some.step in
    let more = c.in_ok-add_tours_after.ensures in
    let back = more.prefix ∙ same in
    let walks = subst (λ (o : Option Move). Walks p o c.args.found.now.items c.loop-next.found.items) c.in-Some.is c.loop-next.invariant.walks in
    let added = subst (λ (q : PartialTour). AddsTours (with_move q step) c.loop-next.found.items c.add_tours_after.new.found.items) same more.found in
    let are = next_is p c.add_tours_after.new.prefix led.0 step c.move_after-next.result c.from_bits-allowed.result back led.1 c.move_after-next.ensures.value
    c.from_bits-allowed.ensures in
    let falls = (walks_on p led.0 step c.move_after-next.result c.args.found.now.items c.loop-next.found.items c.add_tours_after.new.found.items led.1 walks
    added are).1 in
    let here = ap (λ (o : Option Move). from_next o (followers p)) c.in-Some.is in
    omega (arith, falls, here)

pub add_tours-loop-next-preserved : goal.add_tours-loop-next-preserved
add_tours-loop-next-preserved t c =
    let p = c.args.prefix.now in
    let led = c.has_ended.ensures in
    let same = c.loop-next.invariant.same in
    let step = c.in-Some.step in
    let more = c.in_ok-add_tours_after.ensures in
    let back = more.prefix ∙ same in
    let walks = subst (λ (o : Option Move). Walks p o c.args.found.now.items c.loop-next.found.items) c.in-Some.is c.loop-next.invariant.walks in
    let added = subst (λ (q : PartialTour). AddsTours (with_move q step) c.loop-next.found.items c.add_tours_after.new.found.items) same more.found in
    let are = next_is p c.add_tours_after.new.prefix led.0 step c.move_after-next.result c.from_bits-allowed.result back led.1 c.move_after-next.ensures.value
    c.from_bits-allowed.ensures in
    record {
      same = back;
      walks = (walks_on p led.0 step c.move_after-next.result c.args.found.now.items c.loop-next.found.items c.add_tours_after.new.found.items led.1 walks
          added are).0;
    }

no_move : (o : Option Move) → ((m : Move) → o ≡ Some m → ⊥) → o ≡ None
no_move None h = refl
no_move (Some m) h = absurd (h m refl)

pub add_tours-returns-clause-found : goal.add_tours-returns-clause-found
add_tours-returns-clause-found t c =
    let p = c.args.prefix.now in
    let led = c.has_ended.ensures in
    let none = no_move c.loop-next.next c.in_default.not-Some in
    let walks = subst (λ (o : Option Move). Walks p o c.args.found.now.items c.loop-next.found.items) none c.loop-next.invariant.walks in
    walks_end p led.0 c.args.found.now.items c.loop-next.found.items c.requires led.1 (sym led.2 ∙ c.if-has_ended.false) walks

pub add_tours_after-add_tours-requires : goal.add_tours_after-add_tours-requires
add_tours_after-add_tours-requires t c =
    let falls = left_falls c.args.prefix.now c.args.next c.requires.lawful in
    let here = ap left_in c.push.ensures in
    (omega (arith, falls, here), subst (λ (q : PartialTour). call_count q.snapshot ≤ 128) (sym c.push.ensures) c.requires.few)
