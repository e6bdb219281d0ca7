use Rattle.std.proofs.Common.{MatchResult, ◌≡◌, ℕ, Bool, Some, None, subst, ap, ◌∙◌}
use Rattle.call_sets.specs.Counting.{has}
use Rattle.elevator_model.specs.Tours.{start_of, first_broken_from}
use Rattle.tour_rules.proofs.Stops.{none_is_empty}
use Rattle.tour_rules.proofs.judging.judge.Goals as goal

pub returns : goal.returns
returns c = subst (λ (t : ℕ → Bool).
    MatchResult c.judge_after.result
    (λ _. first_broken_from c.args.snapshot.now c.args.car t (start_of c.args.snapshot.now c.args.car) 1 c.args.tour.now ≡ None)
    (λ b. first_broken_from c.args.snapshot.now c.args.car t (start_of c.args.snapshot.now c.args.car) 1 c.args.tour.now ≡ Some b))
    (ap has c.empty.ensures ∙ none_is_empty) c.judge_after.ensures
