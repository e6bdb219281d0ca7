use Rattle.std.proofs.Common.{◌≡◌, ℕ, [], length, Option, None, Some, arith, sym, subst}
use Rattle.std.specs.Prelude.{IfOk, Result, Ok, Err}
use Rattle.std.specs.Io.{appended_bytes}
use Rattle.std.proofs.lemmas.List.{drop_all}
use Rattle.answer_text.proofs.FitsLemmas.{feasible_fits}
use Rattle.day_planner.specs.SolvedRows.{IsSolvedPlan}
use Rattle.day_planner.proofs.RowLemmas.{certified-row-as, none-there, solved-row}
use Rattle.day_planner.proofs.planning.plan_within.Goals as goal

on_three : {A E : Type 0} (r : Result A E) (P Q R Z : A → Type 0) → ((x : A) → P x → Q x → R x → Z x) → IfOk r P → IfOk r Q → IfOk r R → IfOk r Z
on_three (Ok x) P Q R Z on p q h = on x p q h
on_three (Err e) P Q R Z on p q h = tt

pub returns-in_default-clause-planned : goal.returns-in_default-clause-planned
returns-in_default-clause-planned g c =
    let found = c.in_ok-found.found in
    let s = c.args.snapshot.now in
    let limits = c.args.limits in
    let log = c.args.log.now.items in
    let proof = appended_bytes log log in
    subst (λ (claims : Option ℕ). IsSolvedPlan limits.rounds limits.most_tours claims s found.stated proof)
    (sym (none-there c.args.claims c.in_default.not-Some))
    (solved-row limits.rounds limits.most_tours s c.now-moment.ensures.accepted found.stated found.tree.twigs found.turns found.why
    c.in_ok-found.ensures.answer c.in_ok-found.ensures.enough proof (drop_all (length log) log (omega arith)))

pub write_certified-requires-clause-tours : goal.write_certified-requires-clause-tours
write_certified-requires-clause-tours g c = feasible_fits c.args.snapshot.now c.in_ok-found.found.stated.plan c.in_ok-found.ensures.answer.proves.feasible

pub returns-clause-planned : goal.returns-clause-planned
returns-clause-planned g c =
    let found = c.in_ok-found.found in
    let s = c.args.snapshot.now in
    let limits = c.args.limits in
    let proof = appended_bytes c.args.log.now.items c.write_certified.new.log.items in
    on_three c.write_certified.result _ _ _ _
    (λ printed plan cost written.
    subst (λ (claims : Option ℕ). IsSolvedPlan limits.rounds limits.most_tours claims s printed proof) (sym c.in-Some.is)
    (certified-row-as limits.rounds limits.most_tours s c.now-moment.ensures.accepted found.stated found.tree.twigs found.turns found.why
    c.in_ok-found.ensures.answer c.in_ok-found.ensures.enough c.in-Some.most printed proof plan cost written))
    c.write_certified.ensures.plan c.write_certified.ensures.cost c.write_certified.ensures.written
