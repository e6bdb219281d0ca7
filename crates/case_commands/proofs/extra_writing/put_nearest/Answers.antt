use Rattle.std.proofs.Common.{◌≡◌, rules, to_z, of_z}
use Rattle.std.specs.Int.{w128}
use Rattle.case_commands.proofs.ExtraTextLemmas.{wrote_nearest}
use Rattle.case_commands.proofs.extra_writing.put_nearest.Goals as goal

pub returns : goal.returns
returns c =
    let regret = c.args.regret in
    let low : to_z w128 (of_z w128 regret.low) ≡ regret.low = search rules in
    let high : to_z w128 (of_z w128 regret.high) ≡ regret.high = search rules in
    wrote_nearest c.args.snapshot.now regret c.id_of_car.result (to_z w128 (of_z w128 regret.low))
    (to_z w128 (of_z w128 regret.high)) c.args.out.now.items c.put_words.new.out.items c.put_ends.new.out.items c.push.new.self.items
    c.id_of_car.ensures low high c.in_ok-put_words.ensures.ok c.in_ok-put_ends.ensures c.in_ok-push.ensures.items
