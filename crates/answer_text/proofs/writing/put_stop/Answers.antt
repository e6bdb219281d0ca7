use Rattle.std.proofs.Common.{ℕ, [], ◌∷◌, ◌++◌, ◌∙◌, ap}
use Rattle.std.specs.Prelude.{codes}
use Rattle.lift_text.specs.Text.{words}
use Rattle.answer_text.proofs.Lines.{wrote_stop}
use Rattle.answer_text.proofs.writing.put_stop.Goals as goal

pub returns : goal.returns
returns c =
    let old = c.args.out.now.items in
    wrote_stop c.args.snapshot.now c.args.stop.now old c.put_words.new.out.items c.put_boards.new.out.items c.push.new.self.items
    (c.in_ok-put_words.ensures.ok ∙ ap (λ (n : ℕ). old ++ words (codes "stop") (n ∷ [])) c.from.ensures)
    (rw c.as_slice.ensures at c.in_ok-put_boards.ensures) c.in_ok-push.ensures.items
