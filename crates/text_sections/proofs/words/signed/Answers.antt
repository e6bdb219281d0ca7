use Rattle.std.proofs.Common.{◌≡◌, Ok, Err, ap, sym, ◌∙◌, rules}
use Rattle.std.proofs.lemmas.Int.{to_z-of_z}
use mir.Syntax.{w128}
use mir.Val.{to_z, of_z}
use Rattle.lift_text.specs.LineReader.{words}
use Rattle.text_sections.specs.Words.{word_at, number_judged}
use Rattle.text_sections.proofs.NumberLemmas.{signed_answer}
use Rattle.text_sections.proofs.words.signed.Goals as goal

pub returns-in-Ok : goal.returns-in-Ok
returns-in-Ok g c =
    let reader = c.args.lines.now in
    let judged = signed_answer c.args.low c.args.high _ _ (word_at (words reader) c.args.k) c.number.result (to_z-of_z w128 c.args.low c.ranges.low)
    (to_z-of_z w128 c.args.high c.ranges.high) c.number.ensures in
    let same = ap number_judged c.in-Ok.is in
    let value : to_z w128 (of_z w128 c.in-Ok.value) ≡ c.in-Ok.value = search rules in
    ap Ok value ∙ sym same ∙ judged

pub returns-in-Err : goal.returns-in-Err
returns-in-Err g c =
    let reader = c.args.lines.now in
    let judged = signed_answer c.args.low c.args.high _ _ (word_at (words reader) c.args.k) c.number.result (to_z-of_z w128 c.args.low c.ranges.low)
    (to_z-of_z w128 c.args.high c.ranges.high) c.number.ensures in
    ap Err c.from.ensures ∙ sym (ap number_judged c.in-Err.is) ∙ judged
