use Rattle.std.proofs.Common.{arith}
use Rattle.std.proofs.lemmas.Result.{err_from_is_err_and}
use Rattle.lift_text.specs.Text.{words}
use Rattle.lift_text.proofs.TextLemmas.{begins_words}
use Rattle.lift_text.proofs.writers.put_words.Goals as goal

pub returns-in_err-put_word-clause-err : goal.returns-in_err-put_word-clause-err
unfolding words
returns-in_err-put_word-clause-err c =
    let same = err_from_is_err_and c.from_residual-in_err-put_word.result c.from_residual-in_err-put_word.ensures.1 in
    rw same.1
    (begins_words c.args.out.now.items c.loop-number.out.items c.put_word.new.out.items c.args.name.now c.args.numbers.now c.loop-number.number-index
    (omega arith) c.loop-number.invariant c.in_err-put_word.ensures.err)
