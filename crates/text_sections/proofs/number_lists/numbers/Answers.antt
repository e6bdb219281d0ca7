use Rattle.std.proofs.Common.{◌<◌, ◌≤◌, length, arith}
use Rattle.lift_text.specs.LineReader.{words}
use Rattle.std.proofs.lemmas.Result.{err_from_is_err_and}
use Rattle.text_sections.specs.NumberLists.{numbers}
use Rattle.text_sections.proofs.NumberListLemmas.{read_none, read_more, read_bad, read_all, appends_bad}
use Rattle.text_sections.proofs.number_lists.numbers.Goals as goal

pub loop-k-init : goal.loop-k-init
loop-k-init g c = read_none _ _ _ _ _

pub loop-k-preserved : goal.loop-k-preserved
loop-k-preserved g c =
    let line = words c.args.lines.now in
    let inside : c.loop-k.k < length line = omega (arith, c.words-k-end.ensures) in
    read_more line c.args.from c.args.low c.args.high c.loop-k.k c.in_ok-value.value c.args.out.now.items c.loop-k.out.items c.push.new.self.items inside
    c.loop-k.invariant
    c.in_ok-value.ensures.value c.in_ok-push.ensures.items

pub returns : goal.returns
returns g c =
    let line = words c.args.lines.now in
    let past : length line ≤ c.loop-k.k = omega (arith, c.words-k-end.ensures) in
    read_all line c.args.from c.args.low c.args.high c.loop-k.k c.args.out.now.items c.loop-k.out.items past c.loop-k.invariant

pub returns-in_err-value : goal.returns-in_err-value
returns-in_err-value g c =
    let line = words c.args.lines.now in
    let inside : c.loop-k.k < length line = omega (arith, c.words-k-end.ensures) in
    let same = err_from_is_err_and c.from_residual.result c.from_residual.ensures.1 in
    appends_bad (numbers line c.args.from c.args.low c.args.high) c.args.out.now.items c.loop-k.out.items c.from_residual.result same.0
    c.in_err-value.field-0.0 same.1 same.2
    (read_bad line c.args.from c.args.low c.args.high c.loop-k.k c.args.out.now.items c.loop-k.out.items c.in_err-value.field-0.0 inside c.loop-k.invariant
    c.in_err-value.ensures.value)
