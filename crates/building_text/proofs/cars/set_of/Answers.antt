use Rattle.std.proofs.Common.{◌≡◌, ◌+◌, ◌*◌, ◌%◌, ◌^◌, sym, refl, ◌∙◌, get_or, arith, ap, Some}
use Rattle.std.proofs.lemmas.Nat.{one_shl}
use Rattle.building_text.proofs.SetLemmas.{set_more, set_high, set_overflow, set_all}
use Rattle.building_text.proofs.cars.set_of.Goals as goal

pub returns-then-floor-ge64 : goal.returns-then-floor-ge64
returns-then-floor-ge64 c =
    sym (sym c.loop-floor.invariant
    ∙ set_high c.loop-floor.set c.loop-floor.floor-index (get_or c.args.floors.now c.loop-floor.floor-index 0) c.args.floors.now
    (omega arith) refl c.if-floor-ge64.true)

pub returns-in_default : goal.returns-in_default
returns-in_default c =
    let f = get_or c.args.floors.now c.loop-floor.floor-index 0 in
    let shifted : 1 * 2 ^ f % 2 ^ 64 ≡ 2 ^ f = one_shl f 64 (omega (arith, c.if-floor-ge64.false)) in
    sym (sym c.loop-floor.invariant
    ∙ set_overflow c.loop-floor.set c.loop-floor.floor-index f c.args.floors.now (omega arith) refl c.if-floor-ge64.false
    (omega (arith, shifted, c.in_default.ensures)))

pub loop-floor-preserved : goal.loop-floor-preserved
loop-floor-preserved c =
    let f = get_or c.args.floors.now c.loop-floor.floor-index 0 in
    let shifted : 1 * 2 ^ f % 2 ^ 64 ≡ 2 ^ f = one_shl f 64 (omega (arith, c.if-floor-ge64.false)) in
    let larger : c.in-Some.larger ≡ c.loop-floor.set + 2 ^ f = omega (arith, shifted, c.in-Some.ensures) in
    rw larger (sym (set_more c.loop-floor.set c.loop-floor.floor-index f c.args.floors.now (omega arith) refl c.if-floor-ge64.false
    (omega (arith, shifted, c.in-Some.ensures))) ∙ c.loop-floor.invariant)

pub returns : goal.returns
returns c = ap Some c.from_bits.ensures ∙ sym (set_all c.loop-floor.set c.loop-floor.floor-index c.args.floors.now (omega arith)) ∙ c.loop-floor.invariant
