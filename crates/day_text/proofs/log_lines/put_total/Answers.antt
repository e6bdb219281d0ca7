use Rattle.answer_text.proofs.Lines.{ok_then}
use Rattle.day_text.proofs.LogLineLemmas.{wrote_total}
use Rattle.day_text.proofs.log_lines.put_total.Goals as goal

pub returns : goal.returns
returns c =
    ok_then c.put_solved.result c.put_solved.ensures
    (λ e. wrote_total c.args.accepted c.args.refused c.args.delivered c.args.unsolved c.args.out.now.items c.put_line.new.out.items
    c.extend_from_slice.new.self.items c.put_solved.new.out.items c.in_ok-put_line.ensures.ok c.in_ok-extend_from_slice.ensures.items e)
