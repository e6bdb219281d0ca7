use Rattle.std.proofs.Common.{ℕ, [], ◌∷◌, ◌++◌, ◌∙◌, ap}
use Rattle.std.specs.Prelude.{codes}
use Rattle.lift_text.specs.Text.{line, words}
use Rattle.answer_text.proofs.Lines.{ok_then}
use Rattle.day_text.proofs.LogLineLemmas.{wrote_refused}
use Rattle.day_text.proofs.log_lines.put_refused.Goals as goal

pub returns : goal.returns
returns c =
    let old = c.args.out.now.items in
    let first = c.put_words.new.out.items in
    ok_then c.put_line.result c.put_line.ensures.ok
    (λ e. wrote_refused c.args.number c.args.fault c.code_of.result old first c.put_line.new.out.items c.code_of.ensures
    (c.in_ok-put_words.ensures.ok ∙ ap (λ (n : ℕ). old ++ words (codes "row") (n ∷ [])) c.from.ensures)
    (e ∙ ap (λ (n : ℕ). first ++ line (codes " refused") (n ∷ [])) c.from-2.ensures))
