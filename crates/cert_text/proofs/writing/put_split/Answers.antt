use Rattle.cert_text.proofs.LineTexts.{wrote_split}
use Rattle.cert_text.proofs.writing.put_split.Goals as goal

pub returns-clause-text : goal.returns-clause-text
returns-clause-text c =
    wrote_split c.args.snapshot.now c.args.call c.args.part c.id_of_call-id.result c.args.out.now.items c.put_words.new.out.items c.put_cars.new.out.items
    c.push.new.self.items
    c.id_of_call-id.ensures c.in_ok-put_words.ensures.ok c.in_ok-put_cars.ensures.text c.in_ok-push.ensures.items
