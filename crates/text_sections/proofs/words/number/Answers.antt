use Rattle.std.proofs.Common.{◌≡◌, ◌≤◌, ℕ, IfOk, Ok, Err, ap, sym, subst, ◌∙◌, arith}
use Rattle.std.proofs.lemmas.Result.{err_from_is_err_and}
use mir.Syntax.{w64}
use mir.Val.{Fits}
use lib.Dec.{T}
use lib.Signed.{non_neg}
use lib.IntN.{ℤ, nat_abs}
use Rattle.lift_text.specs.LineReader.{words}
use Rattle.lift_text.specs.Numbers.{digits_number}
use Rattle.text_sections.specs.Judging.{Judged}
use Rattle.text_sections.specs.Words.{word_at, number}
use Rattle.text_sections.proofs.NumberLemmas.{IsNatural, natural_value, natural_error, widened, written_number, is_within}
use Rattle.text_sections.proofs.words.number.Given.{Over}
use Rattle.text_sections.proofs.words.number.Goals as goal
use Rattle.text_sections.proofs.words.number.Goals.{In_ok-value, After-from_residual}

natural : (g : Over) (c : In_ok-value g) → IsNatural c.args.low c.args.high (word_at (words c.args.lines.now) c.args.k) c.in_ok-value.value
natural g c =
    natural_value c.args.low c.args.high (word_at (words c.args.lines.now) c.args.k) c.in_ok-value.value _ _
    (widened c.args.low c.from.result c.from.ensures (omega (arith, c.ranges.low.fits)))
    (widened c.args.high c.from-2.result c.from-2.ensures (omega (arith, c.ranges.high.fits))) c.in_ok-value.ensures

pub overflow_cast-result : goal.overflow_cast-result
overflow_cast-result g c =
    let n = natural g c in
    let is = widened n.natural c.in_ok-value.value n.is (omega (arith, c.ranges.high.fits, n.not_above)) in
    subst (λ (z : ℤ). T (non_neg z) × Fits w64 (nat_abs z)) (sym is) (tt, record { fits = omega (arith, c.ranges.high.fits, n.not_above) })

pub returns-clause-value : goal.returns-clause-value
returns-clause-value g c =
    let n = natural g c in
    let is = widened n.natural c.in_ok-value.value n.is (omega (arith, c.ranges.high.fits, n.not_above)) in
    ap (λ (z : ℤ). Ok (nat_abs z)) is ∙ sym n.found

value_in_err : (g : Over) (c : After-from_residual g) → c.from_residual.result ≡ number (words c.args.lines.now) c.args.k c.args.low c.args.high
value_in_err g c =
    let same = err_from_is_err_and c.from_residual.result c.from_residual.ensures.1 in
    same.1 ∙ ap Err same.2 ∙
    natural_error c.args.low c.args.high (word_at (words c.args.lines.now) c.args.k) c.in_err-value.field-0.0 _ _
    (widened c.args.low c.from.result c.from.ensures (omega (arith, c.ranges.low.fits)))
    (widened c.args.high c.from-2.result c.from-2.ensures (omega (arith, c.ranges.high.fits))) c.in_err-value.ensures

pub returns-in_err-value-clause-value : goal.returns-in_err-value-clause-value
returns-in_err-value-clause-value g c = value_in_err g c

pub returns-in_err-value-clause-written : goal.returns-in_err-value-clause-written
returns-in_err-value-clause-written g c = λ n small is above below.
    (value_in_err g c ∙ written_number (words c.args.lines.now) c.args.k n c.args.low c.args.high small is above below)

pub returns-clause-written : goal.returns-clause-written
returns-clause-written g c = λ n small is above below.
    (returns-clause-value g c ∙ written_number (words c.args.lines.now) c.args.k n c.args.low c.args.high small is above below)

pub returns-clause-within : goal.returns-clause-within
returns-clause-within g c =
    let word = word_at (words c.args.lines.now) c.args.k in
    subst (λ (answer : Judged ℕ). IfOk answer (λ n. (c.args.low ≤ n) × (n ≤ c.args.high))) (sym (returns-clause-value g c))
    (is_within c.args.low c.args.high (digits_number word))

pub returns-in_err-value-clause-within : goal.returns-in_err-value-clause-within
returns-in_err-value-clause-within g c =
    let word = word_at (words c.args.lines.now) c.args.k in
    subst (λ (answer : Judged ℕ). IfOk answer (λ n. (c.args.low ≤ n) × (n ≤ c.args.high))) (sym (value_in_err g c))
    (is_within c.args.low c.args.high (digits_number word))
