use Rattle.answer_text.proofs.Lines.{wrote_answer, ok_then}
use Rattle.answer_text.proofs.writing.put_answer.Goals as goal

pub returns : goal.returns
returns c =
    ok_then c.put_line-2.result c.put_line-2.ensures.ok
    (wrote_answer c.args.snapshot.now c.args.stated.now c.args.out.now.items c.put_line.new.out.items c.put_body.new.out.items c.put_line-2.new.out.items
    c.in_ok-put_line.ensures.ok c.in_ok-put_body.ensures)
