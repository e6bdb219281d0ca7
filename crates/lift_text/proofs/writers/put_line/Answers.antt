use Rattle.std.proofs.Common.{◌∙◌}
use Rattle.std.proofs.lemmas.Result.{err_from_is_err_and}
use Rattle.lift_text.specs.Text.{newline, words, line}
use Rattle.lift_text.proofs.TextLemmas.{begins_first, begins_whole}
use Rattle.lift_text.proofs.writers.put_line.Goals as goal

pub returns-in_err-push-clause-err : goal.returns-in_err-push-clause-err
unfolding line
returns-in_err-push-clause-err c =
    let same = err_from_is_err_and c.from_residual-in_err-push.result c.from_residual-in_err-push.ensures.1 in
    let whole = words c.args.name.now c.args.numbers.now in
    let written = c.in_err-push.ensures.items ∙ c.in_ok-put_words.ensures.ok in
    rw same.1 (begins_first c.args.out.now.items c.push.new.self.items whole newline (begins_whole c.args.out.now.items c.push.new.self.items whole written))
