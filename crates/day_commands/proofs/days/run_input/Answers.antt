use Rattle.std.proofs.Common.{ℕ, [], arith, Option, rules, subst, ◌∙◌}
use Rattle.search_model.specs.declared.limits.Limits.{Limits}
use Rattle.lift_text.specs.LineReader.{text, unread}
use Rattle.day_planner.specs.SolvedRows.{IsSolvedRow}
use Rattle.day_simulator.specs.TextRuns.{DayAnswered}
use Rattle.day_commands.proofs.days.run_input.Goals as goal

pub new-planner-requires : goal.new-planner-requires
new-planner-requires g c = c.most_claims.ensures.within c.requires

pub returns-in-Err-clause-answered : goal.returns-in-Err-clause-answered
returns-in-Err-clause-answered g c = ([], omega arith, search rules)

pub returns-clause-answered : goal.returns-clause-answered
returns-clause-answered g c =
    let run = c.run_day_text-ended in
    let read = text g.S.Source.left c.in-Ok.lines in
    let ahead = unread run.new.lines in
    let left = g.S.Source.left run.new.lines.source.now in
    let old = g.K.Sink.taken c.args.sink.now in
    let new = g.K.Sink.taken run.new.sink in
    let ended = run.result in
    let asked = c.args.options.search.limits in
    let claims = c.new-planner.result.claims in
    let ran = subst (λ (most : Option ℕ). DayAnswered (IsSolvedRow asked.rounds asked.most_tours most) read ahead left old new ended)
    (c.new-planner.ensures.claims ∙ c.most_claims.ensures.value)
    (subst (λ (limits : Limits). DayAnswered (IsSolvedRow limits.rounds limits.most_tours claims) read ahead left old new ended)
    c.new-planner.ensures.limits run.ensures.answered) in
    let told = rw c.in-Ok.ensures.text at ran in
    (ahead, c.into_source.ensures.few, search (rules, told))
