use Rattle.std.proofs.Common.{◌≡◌, List, ap, ◌∙◌, subst}
use Rattle.std.specs.Prelude.{◌⊎◌, ℤ, pos}
use Rattle.search_model.specs.declared.StopReason.TheVariants.{Told}
use Rattle.search_model.specs.Sums.{rounded_up}
use Rattle.search_model.specs.Solving.{IsSearchAnswer, IsSnapshotAnswer, IsSolveAnswer, start_prices, floor_of_bound}
use Rattle.search_tree.specs.Sheets.{sum_of_sheet}
use Rattle.node_search.specs.declared.found.Found.{Found}
use Rattle.node_search.specs.Reasons.{HasReason}
use Rattle.node_search.proofs.ToldLaws.{answer_found}
use Rattle.snapshot_solver.specs.Reasons.{HasReasonOf}
use Rattle.snapshot_solver.proofs.SolveLaws.{rounded_scaled, if_both, if_ok, reason_named, start_sheet_is}
use Rattle.snapshot_solver.proofs.solving.solve_from.Goals as goal

module _ (g : _) (c : goal.After-find_plan g) where
  bound : rounded_up (sum_of_sheet c.in_ok-sheet.sheet) ≡ pos (floor_of_bound c.args.snapshot.now)
  bound = ap rounded_up c.in_ok-sheet.ensures.sum ∙ rounded_scaled (floor_of_bound c.args.snapshot.now)

pub returns-clause-any : goal.returns-clause-any
returns-clause-any g c =
    let s = c.args.snapshot.now in
    let sheet = c.in_ok-sheet.sheet in
    let Answer : List ℤ → ℤ → Found
    → Type 0 = λ prices z f.
    IsSearchAnswer prices z s c.args.limits.rounds c.args.limits.most_tours f.stated.plan f.stated.cost f.stated.bound f.tree.twigs f.turns f.why in
    if_ok (Answer sheet.prices (rounded_up (sum_of_sheet sheet))) (Answer (start_prices s) (pos (floor_of_bound s)))
    (λ f h. subst (λ (z : ℤ). Answer (start_prices s) z f) (bound g c)
    (subst (λ (ps : List ℤ). Answer ps (rounded_up (sum_of_sheet sheet)) f) c.in_ok-sheet.ensures.prices h)) c.find_plan.result c.find_plan.ensures.answer

pub returns-clause-answer : goal.returns-clause-answer
returns-clause-answer g c going =
    let s = c.args.snapshot.now in
    let Any : Found → Type 0 =
    λ f. IsSnapshotAnswer s c.args.limits.rounds c.args.limits.most_tours f.stated.plan f.stated.cost f.stated.bound f.tree.twigs f.turns f.why in
    let Answer : Found → Type 0 =
    λ f. IsSolveAnswer s c.args.limits.rounds c.args.limits.most_tours f.stated.plan f.stated.cost f.stated.bound f.tree.twigs f.turns f.why in
    if_both Any (λ f. f.why ≡ Told → ⊥) Answer
    (λ f h untold. answer_found (start_prices s)
    (pos (floor_of_bound s)) s c.args.limits.rounds c.args.limits.most_tours f.stated.plan f.stated.cost f.stated.bound f.tree.twigs f.turns f.why untold h)
    c.find_plan.result (returns-clause-any g c) (c.find_plan.ensures.goes_on going)

pub returns-clause-why : goal.returns-clause-why
returns-clause-why g c =
    let s = c.args.snapshot.now in
    let sheet = c.in_ok-sheet.sheet in
    let start = c.in_ok-sheet.ensures in
    let limits = c.args.limits in
    if_ok (HasReason s limits.rounds limits.most_tours sheet) (λ (f : Found). (f.why ≡ Told) ⊎ HasReasonOf s limits.rounds limits.most_tours f)
    (λ f named. reason_named s limits.rounds limits.most_tours sheet f (start_sheet_is s sheet start.prices start.worths) named) c.find_plan.result
    c.find_plan.ensures.why

pub returns-clause-enough : goal.returns-clause-enough
returns-clause-enough g c = c.find_plan.ensures.enough
