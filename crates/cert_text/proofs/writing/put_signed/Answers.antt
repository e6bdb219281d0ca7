use Rattle.std.proofs.Common.{[], ◌∷◌, ◌∙◌}
use Rattle.cert_text.proofs.LineTexts.{begins, err_then}
use Rattle.cert_text.proofs.writing.put_signed.Goals as goal

pub returns-clause-kept : goal.returns-clause-kept
returns-clause-kept c =
    err_then c.put_number.result c.put_number.ensures.err
    (λ same. begins c.args.out.now.items c.put_number.new.out.items (32 ∷ []) (same ∙ c.in_ok-push.ensures.items))
