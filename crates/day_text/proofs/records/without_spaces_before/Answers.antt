use Rattle.std.proofs.Common.{◌≡◌, ℕ, suc, ◌+◌, ◌∙◌, drop, sym, ap, arith}
use Rattle.std.proofs.lemmas.List.{take_rest, drop_all}
use Rattle.day_text.specs.Records.{without_spaces_before}
use Rattle.day_text.proofs.RecordLemmas.{space-skipped, text-begins, none-left}
use Rattle.day_text.proofs.records.without_spaces_before.Goals as goal

pub returns-then-byte-ne32 : goal.returns-then-byte-ne32
returns-then-byte-ne32 c =
    let field = c.args.field.now in
    let i = c.loop-start.start in
    take_rest field i ∙ sym (c.loop-start.invariant ∙ text-begins field i c.loop-start-test.true c.if-byte-ne32.true)

pub loop-start-preserved : goal.loop-start-preserved
loop-start-preserved c =
    let field = c.args.field.now in
    let i = c.loop-start.start in
    let e : suc i ≡ i + 1 = omega arith in
    c.loop-start.invariant ∙ space-skipped field i c.loop-start-test.true c.if-byte-ne32.false ∙ ap (λ (n : ℕ). without_spaces_before (drop n field)) e

pub returns : goal.returns
returns c =
    let field = c.args.field.now in
    sym (c.loop-start.invariant ∙ ap without_spaces_before (drop_all c.loop-start.start field c.loop-start-test.false) ∙ none-left)
