use Rattle.std.proofs.Common.{List, ℕ, Option, Some, ap, arith, ◌∙◌, subst, sym}
use Rattle.lift_text.specs.Reading.{TextState, whole_text}
use Rattle.day_audit.specs.Inputs.{IsAudit, IsTextAudited}
use Rattle.day_audit.proofs.InputLemmas.{long_audited, short_audited}
use Rattle.day_audit.proofs.audits.audit_bytes.Goals as goal

pub returns-then-is_long-clause-audit : goal.returns-then-is_long-clause-audit
returns-then-is_long-clause-audit g c =
    let answer = c.audit_text-answer.result in
    let text_is = c.in-Ok.ensures.text ∙ ap (λ (bytes : List ℕ). Some (whole_text bytes)) c.new-held.ensures in
    subst (IsAudit c.args.input.items) (sym c.if_long.ensures)
    (long_audited c.args.input.items answer (omega (arith, c.if-is_long.true, c.len-is_long.ensures))
    (subst (λ (t : Option TextState). IsTextAudited t answer) text_is c.audit_text-answer.ensures.audited))

pub returns-clause-audit : goal.returns-clause-audit
returns-clause-audit g c =
    let answer = c.audit_text-answer.result in
    let text_is = c.in-Ok.ensures.text ∙ ap (λ (bytes : List ℕ). Some (whole_text bytes)) c.new-held.ensures in
    short_audited c.args.input.items answer (omega (arith, c.if-is_long.false, c.len-is_long.ensures))
    (subst (λ (t : Option TextState). IsTextAudited t answer) text_is c.audit_text-answer.ensures.audited)
