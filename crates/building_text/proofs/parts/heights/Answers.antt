use Rattle.std.proofs.Common.{◌≡◌, ◌++◌, length, ap, arith, ◌∙◌}
use Rattle.lift_text.specs.LineReader.{words}
use Rattle.building_text.proofs.SaidLemmas.{numbers-length}
use Rattle.building_text.proofs.parts.heights.Goals as goal

pub returns-clause-floors : goal.returns-clause-floors
returns-clause-floors g c =
    let low = c.in_ok-at_least.ensures.count in
    let high = c.in_ok-at_most.ensures.count in
    let items = c.in_ok-numbers.ensures in
    let size = numbers-length (words c.args.lines.now) 1 0 1000000 items.0 items.1 in
    let same : c.numbers.new.out.items ≡ items.0 = items.2 ∙ ap (λ old. old ++ items.0) c.new-heights.ensures.items in
    let count = ap length same in
    (omega arith, omega arith)
