use Rattle.std.proofs.Common.{ℕ, [], ◌∷◌, ◌++◌, ◌∙◌, ap}
use Rattle.std.specs.Prelude.{codes}
use Rattle.lift_text.specs.Text.{line}
use Rattle.answer_text.proofs.Lines.{ok_then}
use Rattle.day_text.proofs.LogLineLemmas.{wrote_board, wrote_deliver}
use Rattle.day_text.proofs.log_lines.put_event.Goals as goal

pub returns-in-Board : goal.returns-in-Board
returns-in-Board c =
    let old = c.args.out.now.items in
    let m = c.in-Board.moment in
    ok_then c.put_line.result c.put_line.ensures.ok
    (λ e. wrote_board c.args.event.now c.in-Board.call c.in-Board.car m old c.put_line.new.out.items c.in-Board.is
    (e ∙ ap (λ (n : ℕ). old ++ line (codes "board") (n ∷ c.from-in-Board.result ∷ m ∷ [])) c.from.ensures
    ∙ ap (λ (n : ℕ). old ++ line (codes "board") (c.in-Board.call ∷ n ∷ m ∷ [])) c.from-in-Board.ensures))

pub returns-in-Deliver : goal.returns-in-Deliver
returns-in-Deliver c =
    let old = c.args.out.now.items in
    let m = c.in-Deliver.moment in
    ok_then c.put_line-in-Deliver.result c.put_line-in-Deliver.ensures.ok
    (λ e. wrote_deliver c.args.event.now c.in-Deliver.call c.in-Deliver.car m old c.put_line-in-Deliver.new.out.items c.in-Deliver.is
    (e ∙ ap (λ (n : ℕ). old ++ line (codes "deliver") (n ∷ c.from-in-Deliver-2.result ∷ m ∷ [])) c.from-in-Deliver.ensures
    ∙ ap (λ (n : ℕ). old ++ line (codes "deliver") (c.in-Deliver.call ∷ n ∷ m ∷ [])) c.from-in-Deliver-2.ensures))
