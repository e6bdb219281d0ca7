use Rattle.std.specs.Prelude.{IfOk, Ok, Result}
use Rattle.std.proofs.Common.{◌≡◌, subst}
use Rattle.search_model.specs.declared.interruptions.Interruption.{Interruption}
use Rattle.root_prices.specs.declared.answers.RootAnswer.{RootAnswer}
use Rattle.root_prices.specs.RootAnswers.{IsRootAnswer}
use Rattle.snapshot_solver.specs.Roots.{IsRootSolution}
use Rattle.snapshot_solver.proofs.SolveLaws.{if_ok}
use Rattle.snapshot_solver.proofs.rooting.solve_root.Goals as goal

pub unstopped-requires : goal.unstopped-requires
unstopped-requires c = c.root_best-answered.ensures.goes_on tt

pub returns : goal.returns
returns c =
    let s = c.args.snapshot.now in
    let sheet = c.in_ok-sheet.sheet in
    let Best : RootAnswer → Type 0 = IsRootAnswer s c.in_ok-start.start sheet c.args.limits.rounds c.args.limits.most_tours in
    if_ok (λ a. c.root_best-answered.result ≡ Ok a) (IsRootSolution s c.args.limits.rounds c.args.limits.most_tours) (λ a is. record {
      plan = c.in_ok-start.start;
      feasible = c.in_ok-start.ensures.feasible;
      first = sheet;
      prices = c.in_ok-sheet.ensures.prices;
      worths = c.in_ok-sheet.ensures.worths;
      answer = subst (λ (r : Result RootAnswer Interruption). IfOk r Best) is c.root_best-answered.ensures.answer;
    }) c.unstopped.result c.unstopped.ensures.done
