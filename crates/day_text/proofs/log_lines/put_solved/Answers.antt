use Rattle.std.proofs.Common.{ℕ, [], ◌∷◌, ◌++◌, ◌∙◌, ap}
use Rattle.std.specs.Prelude.{codes}
use Rattle.lift_text.specs.Text.{line}
use Rattle.answer_text.proofs.Lines.{ok_then}
use Rattle.day_text.proofs.LogLineLemmas.{wrote_stopped}
use Rattle.day_text.proofs.log_lines.put_solved.Goals as goal

pub returns-else-unsolved-eq0 : goal.returns-else-unsolved-eq0
returns-else-unsolved-eq0 c =
    let old = c.args.out.now.items in
    ok_then c.put_line.result c.put_line.ensures.ok
    (λ e. wrote_stopped c.args.unsolved old c.put_line.new.out.items c.if-unsolved-eq0.false
    (e ∙ ap (λ (n : ℕ). old ++ line (codes "# stopped") (n ∷ [])) c.from.ensures))
