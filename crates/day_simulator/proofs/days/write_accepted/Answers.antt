use Rattle.std.proofs.Common.{◌≡◌, List, ◌++◌, ◌∙◌, ap, length, rules, subst}
use Rattle.std.specs.Io.{appended_bytes}
use Rattle.elevator_model.specs.Snapshot.{Snapshot}
use Rattle.elevator_model.specs.declared.Stop.{Stop}
use Rattle.day_text.specs.LogTexts.{accepted_text}
use Rattle.day_text.proofs.LogLineLemmas.{wrote_row}
use Rattle.day_simulator.proofs.days.write_accepted.Goals as goal

pub add_plan-requires : goal.add_plan-requires
add_plan-requires g c =
    let proof = appended_bytes c.add_accepted.new.out.items c.plan.new.log.items in
    (c.requires.sound c.snapshot-snapshot.result.now c.plan-held.result.now c.in_ok-stated.stated proof c.in_ok-stated.ensures.planned).feasible

pub returns-clause-row : goal.returns-clause-row
returns-clause-row g c =
    let right = g.P.Planner.right c.args.planner.now in
    let w = c.args.world.now in
    let s = c.snapshot-snapshot.result.now in
    let stated = c.in_ok-stated.stated in
    let old = c.args.out.now.items in
    let front = c.add_accepted.new.out.items in
    let all = c.plan.new.log.items in
    let proof = appended_bytes front all in
    let counted : c.len-place.result ≡ length front = search rules in
    record {
      proof = proof;
      text = wrote_row s c.args.number c.args.events.now stated proof old front all c.add_plan.new.out.items c.len-place.result
          c.in_ok-add_accepted.ensures.lines c.in_ok-stated.ensures.kept counted c.in_ok-add_plan.ensures.lines
          ∙ ap (λ (t : Snapshot). old ++ accepted_text t c.args.number c.args.events.now stated proof) c.snapshot-snapshot.ensures.value;
      right_plan = subst (λ (t : Snapshot). right t w.plan stated proof) c.snapshot-snapshot.ensures.value
          (subst (λ (held : List (List Stop)). right s held stated proof) c.plan-held.ensures c.in_ok-stated.ensures.planned);
    }
