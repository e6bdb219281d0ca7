use Rattle.std.proofs.Common.{◌||◌, Bool, sym, ◌∙◌, ap, refl, length}
use Rattle.std.proofs.lemmas.Bool.{or_left}
use Rattle.call_sets.specs.Counting.{any_below}
use Rattle.tour_rules.specs.Places.{group_heads}
use Rattle.tour_rules.proofs.Riders.{carried_any}
use Rattle.tour_rules.proofs.places.any_carried.Goals as goal

pub returns-then-any_call_heads : goal.returns-then-any_call_heads
returns-then-any_call_heads c = λ p t.
    let s = c.args.snapshot.now in
    let groups = any_below (length s.aboard) (group_heads s.aboard c.args.car c.args.place.now.visited c.args.heading) in
    let a = rw c.calls.ensures.value at c.any_call_heads.ensures in
    c.if-any_call_heads.true ∙ sym (or_left c.any_call_heads.result groups c.if-any_call_heads.true)
    ∙ carried_any s c.args.car c.args.place.now c.args.heading c.any_call_heads.result groups a refl p t

pub returns-else-any_call_heads : goal.returns-else-any_call_heads
returns-else-any_call_heads c = λ p t.
    let s = c.args.snapshot.now in
    let a = rw c.calls.ensures.value at c.any_call_heads.ensures in
    let b = rw c.aboard.ensures.value at c.any_group_heads.ensures in
    sym (ap (λ (x : Bool). x || c.any_group_heads.result) c.if-any_call_heads.false)
    ∙ carried_any s c.args.car c.args.place.now c.args.heading c.any_call_heads.result c.any_group_heads.result a b p t
