use Rattle.std.proofs.Common.{arith, refl, sym, ◌∙◌}
use Rattle.std.proofs.lemmas.Bool.{false≢true}
use Rattle.lift_text.specs.LineReader.{words}
use Rattle.day_audit.proofs.WordLemmas.{all_right, other_word, right_more}
use Rattle.day_audit.proofs.words.says.Goals as goal

pub loop-k-preserved : goal.loop-k-preserved
loop-k-preserved g c =
    right_more (words c.args.lines.now) c.args.due.now c.loop-k.k _ (omega arith) (omega arith) c.loop-k.invariant (c.is_due.ensures.0 c.if-not-is_due.false)

pub returns-then-not-is_due : goal.returns-then-not-is_due
returns-then-not-is_due g c = (
  (λ e. absurd (false≢true e)),
  (λ same. absurd (other_word (words c.args.lines.now) c.args.due.now c.loop-k.k _ (omega arith)
      (λ e. false≢true (sym c.if-not-is_due.true ∙ c.is_due.ensures.1 e)) same)),
)

pub returns : goal.returns
returns g c = ((λ e. all_right (words c.args.lines.now) c.args.due.now c.loop-k.k (omega arith) (omega arith) c.loop-k.invariant), (λ same. refl))
