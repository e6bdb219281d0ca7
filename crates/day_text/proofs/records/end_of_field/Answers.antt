use Rattle.std.proofs.Common.{◌≡◌, ℕ, ◌+◌, ◌-◌, ◌<◌, ◌∙◌, length, take, sym, ap, arith}
use Rattle.day_text.specs.Records.{end_of_field}
use Rattle.day_text.proofs.RecordLemmas.{end-skipped, end-found, end-none}
use Rattle.day_text.proofs.records.end_of_field.Goals as goal

pub loop-end-preserved : goal.loop-end-preserved
loop-end-preserved c =
    let field = c.args.field.now in
    let iv = c.loop-end.invariant in
    let within = iv.0 in
    let some = c.loop-end-test.true in
    let k = c.loop-end.end - 1 in
    let e : k + 1 ≡ c.loop-end.end = omega (arith, some) in
    let below : k < length field = omega (arith, within, some) in
    (omega (arith, within), iv.1 ∙ ap (λ (n : ℕ). end_of_field (take n field)) (sym e) ∙ end-skipped field k below c.if-field-end-eq32.true)

pub returns-else-field-end-eq32-clause-end : goal.returns-else-field-end-eq32-clause-end
returns-else-field-end-eq32-clause-end c =
    let field = c.args.field.now in
    let iv = c.loop-end.invariant in
    let within = iv.0 in
    let some = c.loop-end-test.true in
    let k = c.loop-end.end - 1 in
    let e : k + 1 ≡ c.loop-end.end = omega (arith, some) in
    let below : k < length field = omega (arith, within, some) in
    sym (iv.1 ∙ ap (λ (n : ℕ). end_of_field (take n field)) (sym e) ∙ end-found field k below c.if-field-end-eq32.false ∙ e)

pub returns-after-loop-end-clause-end : goal.returns-after-loop-end-clause-end
returns-after-loop-end-clause-end c =
    let none = c.loop-end-test.false in
    let e : c.loop-end.end ≡ 0 = omega (arith, none) in
    e ∙ sym (c.loop-end.invariant.1 ∙ ap (λ (n : ℕ). end_of_field (take n c.args.field.now)) e ∙ end-none)
