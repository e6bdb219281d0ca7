use Rattle.std.specs.Prelude.{◌≤ℤ◌}
use Rattle.std.proofs.Common.{◌≡◌, inl, inr, subst, sym, ◌∙◌, rules, pos}
use Rattle.std.proofs.lemmas.Bool.{both_ways}
use Rattle.elevator_model.specs.Snapshot.{Snapshot}
use Rattle.search_model.specs.declared.StopReason.TheVariants.{Solved, Told}
use Rattle.search_model.specs.Solving.{IsFound, IsToldAnswer}
use Rattle.search_tree.specs.Standing.{bound_of_sheet}
use Rattle.pricing_rounds.proofs.RoundLemmas.{ok_both}
use Rattle.node_search.specs.Reasons.{HasLastState}
use Rattle.node_search.specs.Roots.{leaf_of_root}
use Rattle.node_search.proofs.SearchEnd.{if_ok}
use Rattle.node_search.proofs.ToldLaws.{closed_due, found_answer, found_untold, told_answer, turned_of}
use Rattle.node_search.proofs.found.find_at.Goals as goal

-- ---- a root that is not open

pub close-requires-clause-turned : goal.close-requires-clause-turned
close-requires-clause-turned g c κs within =
    let s = g.P.Pricer.snapshot c.args.pricer.now in
    let root = c.in_ok-root.field-0.root in
    let far = c.in_ok-root.ensures.so_far in
    let high : pos root.best.cost ≤ℤ bound_of_sheet (leaf_of_root root).sheet = search rules in (
      c.args.sheet,
      c.requires.sum,
      turned_of s c.args.limits.rounds c.args.limits.most_tours c.args.sheet root far (closed_due s c.args.limits.rounds root far.few high),
    )

pub returns-then-not-is_open-clause-answer : goal.returns-then-not-is_open-clause-answer
returns-then-not-is_open-clause-answer g c =
    let sheet = c.args.sheet in
    let limits = c.args.limits in
    let s = g.P.Pricer.snapshot c.args.pricer.now in
    let root = c.in_ok-root.field-0.root in
    let far = c.in_ok-root.ensures.so_far in
    let high : pos root.best.cost ≤ℤ bound_of_sheet (leaf_of_root root).sheet = search rules in
    let closed = turned_of s limits.rounds limits.most_tours sheet root far (closed_due s limits.rounds root far.few high) in
    if_ok c.close.result _ _
    (λ f h. found_answer sheet.prices (bound_of_sheet sheet) c.args.snapshot.now limits.rounds limits.most_tours f.stated.plan f.stated.cost f.stated.bound
    f.tree.twigs f.turns f.why (subst (λ (x : Snapshot).
    IsFound sheet.prices (bound_of_sheet sheet) x limits.rounds limits.most_tours f.stated.plan f.stated.cost f.stated.bound f.tree.twigs f.turns f.why)
    c.requires.snapshot (h sheet closed))) c.close.ensures.found

pub returns-then-not-is_open-clause-goes_on : goal.returns-then-not-is_open-clause-goes_on
returns-then-not-is_open-clause-goes_on g c going =
    if_ok c.close.result _ _ (λ f is told. (let clash : Solved ≡ Told = sym is ∙ told in absurd cc)) c.close.ensures.why

pub returns-then-not-is_open-clause-why : goal.returns-then-not-is_open-clause-why
returns-then-not-is_open-clause-why g c = if_ok c.close.result _ _ (λ f h. inl h) c.close.ensures.why

-- ---- turns that were told to stop

pub stop_turning-requires-clause-turned : goal.stop_turning-requires-clause-turned
stop_turning-requires-clause-turned g c κs within = (c.args.sheet, c.requires.sum, c.in_ok-root.ensures.so_far)

pub returns-then-is_told-clause-answer : goal.returns-then-is_told-clause-answer
returns-then-is_told-clause-answer g c =
    let sheet = c.args.sheet in
    let limits = c.args.limits in
    ok_both c.stop_turning.result _ _ _
    (λ f h told. told_answer sheet.prices (bound_of_sheet sheet) c.args.snapshot.now limits.rounds limits.most_tours f.stated.plan f.stated.cost f.stated.bound
    f.tree.twigs f.turns f.why told (subst (λ (x : Snapshot).
    IsToldAnswer sheet.prices (bound_of_sheet sheet) x limits.rounds limits.most_tours f.stated.plan f.stated.cost f.stated.bound f.tree.twigs f.turns)
    c.requires.snapshot (h sheet c.in_ok-root.ensures.so_far))) c.stop_turning.ensures.found c.stop_turning.ensures.why

pub returns-then-is_told-clause-goes_on : goal.returns-then-is_told-clause-goes_on
returns-then-is_told-clause-goes_on g c going =
    absurd (both_ways c.in_ok-root.field-0.is_told (c.in_ok-root.ensures.goes_on going) c.if-is_told.true)

pub returns-then-is_told-clause-why : goal.returns-then-is_told-clause-why
returns-then-is_told-clause-why g c = if_ok c.stop_turning.result _ _ (λ f h. inr (inr h)) c.stop_turning.ensures.why

-- ---- rounds

pub go_on-requires-clause-turned : goal.go_on-requires-clause-turned
go_on-requires-clause-turned g c κs within = (
  c.args.sheet,
  turned_of (g.P.Pricer.snapshot c.args.pricer.now) c.args.limits.rounds c.args.limits.most_tours c.args.sheet c.in_ok-root.field-0.root
      c.in_ok-root.ensures.so_far (c.in_ok-root.ensures.due c.if-is_told.false),
)

pub go_on-requires-clause-desks : goal.go_on-requires-clause-desks
go_on-requires-clause-desks g c κs within = c.in_ok-root.ensures.desks c.if-is_told.false

pub stop-requires-clause-begun : goal.stop-requires-clause-begun
stop-requires-clause-begun g c κs within =
    let turned = turned_of (g.P.Pricer.snapshot c.args.pricer.now) c.args.limits.rounds c.args.limits.most_tours c.args.sheet c.in_ok-root.field-0.root
    c.in_ok-root.ensures.so_far (c.in_ok-root.ensures.due c.if-is_told.false) in
    (c.args.sheet, c.requires.sum, c.in_ok-begun.ensures.begun c.args.sheet turned)

pub returns-then-begun-clause-answer : goal.returns-then-begun-clause-answer
returns-then-begun-clause-answer g c =
    let sheet = c.args.sheet in
    let limits = c.args.limits in
    let turned = turned_of (g.P.Pricer.snapshot c.args.pricer.now) c.args.limits.rounds c.args.limits.most_tours c.args.sheet c.in_ok-root.field-0.root
    c.in_ok-root.ensures.so_far (c.in_ok-root.ensures.due c.if-is_told.false) in
    ok_both c.stop.result _ _ _
    (λ f h told. told_answer sheet.prices (bound_of_sheet sheet) c.args.snapshot.now limits.rounds limits.most_tours f.stated.plan f.stated.cost f.stated.bound
    f.tree.twigs f.turns f.why told (subst (λ (x : Snapshot).
    IsToldAnswer sheet.prices (bound_of_sheet sheet) x limits.rounds limits.most_tours f.stated.plan f.stated.cost f.stated.bound f.tree.twigs f.turns)
    c.requires.snapshot (h sheet (c.in_ok-begun.ensures.begun sheet turned)))) c.stop.ensures.found c.stop.ensures.why

pub returns-then-begun-clause-goes_on : goal.returns-then-begun-clause-goes_on
returns-then-begun-clause-goes_on g c going =
    absurd (both_ways c.in_ok-begun.begun.is_told (c.in_ok-begun.ensures.goes_on going) c.if-begun.true)

pub returns-then-begun-clause-why : goal.returns-then-begun-clause-why
returns-then-begun-clause-why g c = if_ok c.stop.result _ _ (λ f h. inr (inr h)) c.stop.ensures.why

pub end-requires-clause-ended : goal.end-requires-clause-ended
end-requires-clause-ended g c κs within =
    let turned = turned_of (g.P.Pricer.snapshot c.args.pricer.now) c.args.limits.rounds c.args.limits.most_tours c.args.sheet c.in_ok-root.field-0.root
    c.in_ok-root.ensures.so_far (c.in_ok-root.ensures.due c.if-is_told.false) in
    (c.args.sheet, c.requires.sum, c.in_ok-begun.ensures.ended c.if-begun.false c.args.sheet turned)

pub returns-clause-answer : goal.returns-clause-answer
returns-clause-answer g c =
    let sheet = c.args.sheet in
    let limits = c.args.limits in
    let turned = turned_of (g.P.Pricer.snapshot c.args.pricer.now) c.args.limits.rounds c.args.limits.most_tours c.args.sheet c.in_ok-root.field-0.root
    c.in_ok-root.ensures.so_far (c.in_ok-root.ensures.due c.if-is_told.false) in
    if_ok c.end.result _ _
    (λ f h. found_answer sheet.prices (bound_of_sheet sheet) c.args.snapshot.now limits.rounds limits.most_tours f.stated.plan f.stated.cost f.stated.bound
    f.tree.twigs f.turns f.why (subst (λ (x : Snapshot).
    IsFound sheet.prices (bound_of_sheet sheet) x limits.rounds limits.most_tours f.stated.plan f.stated.cost f.stated.bound f.tree.twigs f.turns f.why)
    c.requires.snapshot (h sheet (c.in_ok-begun.ensures.ended c.if-begun.false sheet turned)))) c.end.ensures.found

pub returns-clause-goes_on : goal.returns-clause-goes_on
returns-clause-goes_on g c going =
    let sheet = c.args.sheet in
    let limits = c.args.limits in
    let turned = turned_of (g.P.Pricer.snapshot c.args.pricer.now) c.args.limits.rounds c.args.limits.most_tours c.args.sheet c.in_ok-root.field-0.root
    c.in_ok-root.ensures.so_far (c.in_ok-root.ensures.due c.if-is_told.false) in
    if_ok c.end.result _ _
    (λ f h. found_untold sheet.prices (bound_of_sheet sheet) (g.P.Pricer.snapshot c.args.pricer.now) limits.rounds limits.most_tours f.stated.plan
    f.stated.cost f.stated.bound f.tree.twigs f.turns f.why (h sheet (c.in_ok-begun.ensures.ended c.if-begun.false sheet turned))) c.end.ensures.found

pub returns-clause-why : goal.returns-clause-why
returns-clause-why g c =
    let sheet = c.args.sheet in
    let turned = turned_of (g.P.Pricer.snapshot c.args.pricer.now) c.args.limits.rounds c.args.limits.most_tours c.args.sheet c.in_ok-root.field-0.root
    c.in_ok-root.ensures.so_far (c.in_ok-root.ensures.due c.if-is_told.false) in
    if_ok c.end.result _ _
    (λ f h. inr (inl (subst (λ (x : Snapshot). HasLastState x c.args.limits.rounds c.args.limits.most_tours sheet f) c.requires.snapshot
    (h sheet (c.in_ok-begun.ensures.ended c.if-begun.false sheet turned))))) c.end.ensures.why
