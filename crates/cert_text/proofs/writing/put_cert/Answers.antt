use Rattle.cert_text.proofs.LineTexts.{begins_behind, err_then, ok_then, wrote_cert}
use Rattle.cert_text.proofs.writing.put_cert.Goals as goal

pub returns-clause-text : goal.returns-clause-text
returns-clause-text c =
    ok_then c.put_line-2.result c.put_line-2.ensures.ok
    (wrote_cert c.args.snapshot.now c.args.tree.now c.args.out.now.items c.put_line.new.out.items c.put_twigs.new.out.items c.put_line-2.new.out.items
    c.in_ok-put_line.ensures.ok c.in_ok-put_twigs.ensures.text)

pub returns-clause-kept : goal.returns-clause-kept
returns-clause-kept c =
    let head = c.put_line.new.out.items in
    err_then c.put_line-2.result c.put_line-2.ensures.err (λ begun.
    begins_behind c.args.out.now.items c.put_twigs.new.out.items c.put_line-2.new.out.items _ _
    (begins_behind c.args.out.now.items head c.put_twigs.new.out.items _ _ c.in_ok-put_line.ensures.ok c.in_ok-put_twigs.ensures.text) begun.items)
