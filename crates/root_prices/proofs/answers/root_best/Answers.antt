use Rattle.std.proofs.Common.{◌∙◌, length, sym, subst}
use Rattle.elevator_model.specs.Snapshot.{Snapshot}
use Rattle.root_prices.specs.KeptTurns.{AreKept}
use Rattle.root_prices.proofs.MeetingLaws.{answered}
use Rattle.std.proofs.lemmas.Result.{err_from_is_err_and}
use Rattle.pricing_rounds.proofs.Interruptions.{passed_memory}
use Rattle.root_prices.proofs.answers.root_best.Goals as goal

pub run-requires-clause-kept : goal.run-requires-clause-kept
run-requires-clause-kept g c κs within = (
  c.args.sheet,
  subst (λ (z : Snapshot). AreKept z c.args.limits.most_tours c.args.sheet c.in_ok-kept.kept) (sym c.requires.snapshot)
      (c.in_ok-kept.ensures.kept c.args.limits.most_tours),
)

pub answer-requires-clause-kept : goal.answer-requires-clause-kept
answer-requires-clause-kept g c =
    let sheet = c.args.sheet in
    let most_tours = c.args.limits.most_tours in
    let x = c.run.new.self in
    let new = subst (λ (z : Snapshot). AreKept z most_tours sheet c.in_ok-kept.kept) (sym c.requires.snapshot)
    (c.in_ok-kept.ensures.kept most_tours) in
    let is = c.in_ok-run.ensures.kept sheet new in
    (sheet, subst (λ (z : Snapshot). AreKept z most_tours sheet x) (sym is.snapshot) is)

pub returns-clause-answer : goal.returns-clause-answer
returns-clause-answer g c =
    let sheet = c.args.sheet in
    let most_tours = c.args.limits.most_tours in
    let x = c.run.new.self in
    let new = subst (λ (z : Snapshot). AreKept z most_tours sheet c.in_ok-kept.kept) (sym c.requires.snapshot)
    (c.in_ok-kept.ensures.kept most_tours) in
    let is = c.in_ok-run.ensures.kept sheet new in
    let own = subst (λ (z : Snapshot). AreKept z most_tours sheet x) (sym is.snapshot) is in
    answered c.args.snapshot.now x.pool.snapshot c.args.start.now x.start.now sheet c.args.limits.rounds
    (length x.series.turns.items) most_tours c.in_ok-best.best
    (is.snapshot ∙ c.requires.snapshot) (c.in_ok-run.ensures.start ∙ c.in_ok-kept.ensures.start) c.in_ok-run.ensures.turns
    (c.in_ok-best.ensures sheet own)

pub returns-in_err-run-clause-goes_on : goal.returns-in_err-run-clause-goes_on
returns-in_err-run-clause-goes_on g c going =
    let passed = err_from_is_err_and c.from_residual-in_err-run.result c.from_residual-in_err-run.ensures.1 in
    passed_memory c.from_residual-in_err-run.result c.in_err-run.field-0.0 passed.0 passed.1 passed.2 (c.in_err-run.ensures.goes_on going)
