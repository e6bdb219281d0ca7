use Rattle.std.proofs.Common.{◌≡◌, length, rules}
use Rattle.answer_text.proofs.FitsLemmas.{feasible_fits}
use Rattle.answer_text.proofs.Lines.{ok_then}
use Rattle.day_text.proofs.LogLineLemmas.{plan_behind, plan_wanting}
use Rattle.day_text.proofs.log_lines.add_plan.Goals as goal

pub returns-then-place-written-clause-lines : goal.returns-then-place-written-clause-lines
returns-then-place-written-clause-lines c =
    let out = c.args.out.now.items in
    let counted : c.len-written.result ≡ length out = search rules in
    plan_behind c.args.snapshot.now c.args.stated.now c.args.place c.len-written.result out counted c.if-place-written.true

pub write_body-requires : goal.write_body-requires
write_body-requires c = feasible_fits c.args.snapshot.now c.args.stated.now.plan c.requires

pub returns-clause-lines : goal.returns-clause-lines
returns-clause-lines c =
    let old = c.args.out.now.items in
    let counted : c.len-written.result ≡ length old = search rules in
    ok_then c.write_body.result c.write_body.ensures.text
    (plan_wanting c.args.snapshot.now c.args.stated.now c.args.place c.len-written.result old c.write_body.new.out.items counted c.if-place-written.false)
