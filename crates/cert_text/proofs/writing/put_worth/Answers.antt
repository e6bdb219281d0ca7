use Rattle.std.proofs.Common.{ℤ, ◌≡◌, ◌∷◌, ◌++◌, ◌∙◌, ap, rules}
use mir.Syntax.{w128}
use mir.Val.{to_z, of_z}
use Rattle.std.specs.Fmt.{signed_decimal}
use Rattle.cert_text.proofs.LineTexts.{wrote_worth}
use Rattle.cert_text.proofs.writing.put_worth.Goals as goal

pub returns-clause-text : goal.returns-clause-text
returns-clause-text c =
    let w = c.args.worth.now in
    let front = c.put_words.new.out.items in
    let stored : to_z w128 (of_z w128 w.worth) ≡ w.worth = search rules in
    wrote_worth c.args.snapshot.now w c.id_of_car-id.result c.args.out.now.items front c.put_signed.new.out.items c.put_word.new.out.items c.push.new.self.items
    c.id_of_car-id.ensures c.in_ok-put_words.ensures.ok
    (c.in_ok-put_signed.ensures.text ∙ ap (λ (z : ℤ). front ++ 32 ∷ signed_decimal z) stored) c.in_ok-put_word.ensures.ok c.in_ok-push.ensures.items
