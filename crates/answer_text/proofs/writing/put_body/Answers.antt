use Rattle.answer_text.proofs.Lines.{wrote_body, ok_then}
use Rattle.answer_text.proofs.writing.put_body.Goals as goal

pub returns : goal.returns
returns c =
    ok_then c.put_tours.result c.put_tours.ensures
    (wrote_body c.args.snapshot.now c.args.plan.now c.args.cost c.args.bound c.args.out.now.items c.put_line.new.out.items c.put_line-2.new.out.items
    c.put_tours.new.out.items
    c.in_ok-put_line.ensures.ok c.in_ok-put_line-2.ensures.ok)
