use Rattle.std.proofs.Common.{◌≡◌, ◌∙◌, rules}
use mir.Syntax.{w128}
use mir.Val.{to_z, of_z}
use Rattle.cert_text.proofs.LineTexts.{wrote_price}
use Rattle.cert_text.proofs.writing.put_price.Goals as goal

pub returns-clause-text : goal.returns-clause-text
returns-clause-text c =
    let stored : to_z w128 (of_z w128 c.value.result) ≡ c.value.result = search rules in
    wrote_price c.args.snapshot.now c.args.price.now c.id_of_call-id.result
    (to_z w128 (of_z w128 c.value.result)) c.args.out.now.items c.put_words.new.out.items c.put_signed.new.out.items c.push.new.self.items
    c.id_of_call-id.ensures (stored ∙ c.value.ensures.value) c.in_ok-put_words.ensures.ok c.in_ok-put_signed.ensures.text c.in_ok-push.ensures.items
