use Rattle.std.proofs.Common.{◌≡◌, rules, to_z, of_z}
use Rattle.std.specs.Int.{w128}
use Rattle.case_commands.proofs.RootTextLemmas.{wrote_signed}
use Rattle.case_commands.proofs.root_writing.put_signed.Goals as goal

pub returns : goal.returns
returns c =
    let stored : to_z w128 (of_z w128 c.args.last) ≡ c.args.last = search rules in
    wrote_signed c.args.name.now c.args.numbers.now c.args.last
    (to_z w128 (of_z w128 c.args.last)) c.args.out.now.items c.put_words.new.out.items c.push.new.self.items c.put_number.new.out.items
    c.push-2.new.self.items stored c.in_ok-put_words.ensures.ok c.in_ok-push.ensures.items c.in_ok-put_number.ensures.ok c.in_ok-push-2.ensures.items
