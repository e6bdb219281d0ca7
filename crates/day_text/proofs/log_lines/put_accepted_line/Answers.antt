use Rattle.std.proofs.Common.{ℕ, [], ◌∷◌, ◌++◌, ◌∙◌, ap}
use Rattle.std.specs.Prelude.{codes}
use Rattle.lift_text.specs.Text.{words}
use Rattle.day_text.proofs.LogLineLemmas.{extended_then, wrote_accepted}
use Rattle.day_text.proofs.log_lines.put_accepted_line.Goals as goal

pub returns : goal.returns
returns c =
    let old = c.args.out.now.items in
    let first = c.put_words.new.out.items in
    let new = c.extend_from_slice.new.self.items in
    extended_then c.extend_from_slice.result first (codes " accepted\n") new c.extend_from_slice.ensures.items
    (λ e. wrote_accepted c.args.number old first new (c.in_ok-put_words.ensures.ok ∙ ap (λ (n : ℕ). old ++ words (codes "row") (n ∷ [])) c.from.ensures) e)
