-- What `root` tells.
use Rattle.std.proofs.Common.{◌≡◌, ℕ, List, refl, sym, ◌∙◌}
use Rattle.std.specs.Prelude.{All}
use Rattle.std.proofs.lemmas.List.Elements.{All-weaker}
use Rattle.elevator_model.specs.Snapshot.{Snapshot}
use Rattle.elevator_model.specs.Tours.{start_of}
use Rattle.answer_text.specs.Plans.{BoardsCalls}
use Rattle.answer_text.proofs.FitsLemmas.{stops_fit}
use Rattle.half_plans.specs.declared.Share.{Share}
use Rattle.half_plans.specs.Mixtures.{IsMixture, IsShare}
use Rattle.root_prices.specs.declared.answers.RootAnswer.{RootAnswer}
use Rattle.root_prices.specs.declared.reasons.RootReason.{RootReason}
use Rattle.root_prices.specs.declared.reasons.RootReason.TheVariants.{Best, Gap, Moves, Pairs}
use Rattle.snapshot_solver.specs.Roots.{IsRootSolution}
use Rattle.command_ends.specs.declared.status.Status.{Status}
use Rattle.command_ends.specs.declared.status.Status.TheVariants.{Done}
use Rattle.case_commands.specs.RootTexts.{root_text}
use Rattle.case_commands.specs.RootOutcome.{IsRootTold, status_of}

-- each share boards calls of the snapshot alone
pub shares_board : (s : Snapshot) (shares : List Share) (whole cost : ℕ) → IsMixture s shares whole cost → All (λ (x : Share). BoardsCalls s x.tour) shares
shares_board s shares whole cost is =
    All-weaker (IsShare s) (λ (x : Share). BoardsCalls s x.tour) (λ x share. stops_fit s x.car (start_of s x.car) 1 x.tour share.tour.feasible) shares is.each

best_of : (why : RootReason) → status_of why ≡ Done → why ≡ Best
best_of Best e = refl
best_of Gap e = absurd (cc e)
best_of (Moves car count) e = absurd (cc e)
best_of (Pairs count) e = absurd (cc e)

pub is_told : (s : Snapshot) (rounds most_tours : ℕ) (answer : RootAnswer) (status : Status) (text : List ℕ) → IsRootSolution s rounds most_tours answer
    → status ≡ status_of answer.why → text ≡ root_text s answer → IsRootTold s rounds most_tours status text
is_told s rounds most_tours answer status text is status_is is_text = record {
  answer = answer;
  solution = is;
  status_is = status_is;
  is_text = is_text;
  mixture = is.answer.mixture;
  greatest = λ done. is.answer.greatest (best_of answer.why (sym status_is ∙ done));
}
