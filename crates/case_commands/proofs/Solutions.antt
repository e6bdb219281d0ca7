-- What is written of what a search answers.
use Rattle.std.proofs.Common.{◌≡◌, ℕ, ◌≤◌, ◌==◌, Bool, true, false, List, ◌++◌, refl, sym, ap, ◌∙◌, subst, arith}
use Rattle.std.proofs.lemmas.Bool.{eqb-true}
use Rattle.elevator_model.specs.declared.Stop.{Stop}
use Rattle.elevator_model.specs.Snapshot.{Snapshot, IsAccepted, car_count}
use Rattle.elevator_model.specs.Plans.{IsBound, IsOptimal, plan_cost_of}
use Rattle.search_model.specs.declared.Twig.{Twig}
use Rattle.search_model.specs.declared.Turn.{Turn}
use Rattle.search_model.specs.declared.StopReason.{StopReason}
use Rattle.search_model.specs.declared.StopReason.TheVariants.{Solved, Rounds, Moves, Told}
use Rattle.search_model.specs.Solving.{IsSolveAnswer, IsReason}
use Rattle.search_model.specs.Certificates.{Proves}
use Rattle.search_model.specs.Verdicts.{rounds_enough, tours_enough}
use Rattle.search_model.proofs.TreeLemmas.{proves-bound}
use Rattle.call_state.proofs.PossibleLemmas.{most_cars-le}
use Rattle.search_model.specs.declared.Stated.{Stated}
use Rattle.answer_text.specs.Texts.{answer_text}
use Rattle.lift_words.specs.declared.request.SolveOptions.{SolveOptions}
use Rattle.command_ends.specs.declared.status.Status.{Status}
use Rattle.command_ends.specs.declared.status.Status.TheVariants.{Done}
use Rattle.case_commands.specs.declared.endings.Ending.{Ending}
use Rattle.case_text.specs.CaseTexts.{IsCaseText}
use Rattle.case_commands.specs.SolveOutcome.{AreEnough, CanBeChecked, IsPrinted, IsSaidYes, IsSolution, NamesReason, certificate_part, closing_line, ending_of}
use Rattle.case_commands.specs.SolveOutcome.{status_of_ending}
use Rattle.case_commands.specs.MakeOutcome.{status_of}
use Rattle.case_commands.proofs.SearchBounds.{bound_low}

pub cars-le : (s : Snapshot) → IsAccepted s → car_count s ≤ 16
cars-le s accepted = let high = accepted.building.cars_high in omega (arith, high, most_cars-le s.building.version)

-- where the status of a search is done, its cost is its bound
cost_is_bound : (s : Snapshot) (rounds most_tours cost bound : ℕ) (tree : List Twig) (why : StopReason) → status_of why ≡ Done
    → IsReason s rounds most_tours cost bound tree why → cost ≡ bound
cost_is_bound s rounds most_tours cost bound tree Solved e reason = reason
cost_is_bound s rounds most_tours cost bound tree (Rounds done) e reason = absurd (cc e)
cost_is_bound s rounds most_tours cost bound tree (Moves car count) e reason = absurd (cc e)
cost_is_bound s rounds most_tours cost bound tree Told e reason = absurd reason

-- a plan whose cost is a bound that a tree proves is optimal
best_plan : (s : Snapshot) (plan : List (List Stop)) (cost bound : ℕ) (tree : List Twig) → IsAccepted s → Proves s plan cost bound tree → cost ≡ bound
    → IsOptimal s plan
best_plan s plan cost bound tree accepted proves same =
    let reaches : plan_cost_of s plan ≡ bound = proves.costs ∙ same in
    record {
      feasible = proves.feasible;
      least =
          λ other feasible. subst (λ (n : ℕ). n ≤ plan_cost_of s other) (sym reaches)
          (proves-bound s plan cost bound tree (cars-le s accepted) proves other feasible);
    }

-- so is that of a search that is done
pub optimal : (s : Snapshot) (rounds most_tours : ℕ) (plan : List (List Stop)) (cost bound : ℕ) (tree : List Twig) (turns : List Turn) (why : StopReason)
    → IsAccepted s → IsSolveAnswer s rounds most_tours plan cost bound tree turns why → (status : Status) → status ≡ status_of why → status ≡ Done
    → IsOptimal s plan
optimal s rounds most_tours plan cost bound tree turns why accepted answer status is done =
    best_plan s plan cost bound tree accepted answer.proves (cost_is_bound s rounds most_tours cost bound tree why (sym is ∙ done) answer.reason)

-- and no plan costs less than its bound
pub least_bound : (s : Snapshot) (rounds most_tours : ℕ) (plan : List (List Stop)) (cost bound : ℕ) (tree : List Twig) (turns : List Turn)
    (why : StopReason) → IsAccepted s → IsSolveAnswer s rounds most_tours plan cost bound tree turns why → IsBound s bound
least_bound s rounds most_tours plan cost bound tree turns why accepted answer = proves-bound s plan cost bound tree (cars-le s accepted) answer.proves

-- what is done is solved
solved_where_done : (why : StopReason) (limit : ℕ) (solved : Bool) → status_of_ending (ending_of why limit solved) ≡ Done → solved ≡ true
solved_where_done why limit true e = refl
solved_where_done Solved limit false e = absurd (cc e)
solved_where_done (Rounds done) limit false e = absurd (cc e)
solved_where_done (Moves car count) limit false e = absurd (cc e)
solved_where_done Told limit false e = absurd (cc e)

-- the bound that is printed is at most that of the search, also without a certificate
printed_low : (options : SolveOptions) (s : Snapshot) (stated : Stated) (tree : List Twig) (bound : ℕ) (certificate : List Twig)
    → IsPrinted options s stated tree bound certificate → (brief : Bool) → options.brief ≡ brief → bound ≤ stated.bound
printed_low options s stated tree bound certificate printed true e = (let same = printed.brief e in omega (arith, same))
printed_low options s stated tree bound certificate printed false e = (printed.certified e).low

module _ (options : SolveOptions) (s : Snapshot) (stated : Stated) (tree : List Twig) (turns : List Turn) (why : StopReason) (accepted : IsAccepted s)
    (answer : IsSolveAnswer s options.limits.rounds options.limits.most_tours stated.plan stated.cost stated.bound tree turns why)
    (enough : rounds_enough s ≤ options.limits.rounds → tours_enough s ≤ options.limits.most_tours → why ≡ Solved)
    (named : NamesReason s options.limits.rounds options.limits.most_tours stated tree turns why) (bound : ℕ) (certificate : List Twig)
    (printed : IsPrinted options s stated tree bound certificate) where
  abbrev shown : Stated
  shown = record { plan = stated.plan; cost = stated.cost; bound = bound }

  abbrev ending : Ending
  ending = ending_of why options.claims (stated.cost == bound)

  -- where cost and printed bound are equal, they are those of the search
  best : stated.cost ≡ bound → IsOptimal s stated.plan
  best same =
      let low = bound_low s options.limits.rounds options.limits.most_tours stated.plan stated.cost stated.bound tree turns why answer in
      let lower = printed_low options s stated tree bound certificate printed options.brief refl in
      best_plan s stated.plan stated.cost stated.bound tree accepted answer.proves (omega (arith, low, lower, same))

  -- and no plan costs less than what is printed
  least : IsBound s bound
  least other feasible =
      let lower = printed_low options s stated tree bound certificate printed options.brief refl in
      let most = proves-bound s stated.plan stated.cost stated.bound tree (cars-le s accepted) answer.proves other feasible in
      omega (arith, lower, most)

  pub is_solution : (end : Ending) (status : Status) (text : List ℕ) → end ≡ ending → status ≡ status_of_ending end
      → text ≡ answer_text s shown ++ certificate_part options s certificate ++ closing_line s end → (AreEnough options s → status ≡ Done)
      → ((input : List ℕ) → IsCaseText input s → CanBeChecked options input → IsSaidYes (input ++ text) s) → IsSolution options s status text
  is_solution end status text end_is is written unstopped checks =
      record {
        stated = stated;
        tree = tree;
        turns = turns;
        why = why;
        answer = answer;
        enough = enough;
        named = named;
        bound = bound;
        certificate = certificate;
        printed = printed;
        ending = end;
        ending_is = end_is;
        status_is = is;
        optimal = λ done.
            best (eqb-true stated.cost bound (solved_where_done why options.claims (stated.cost == bound) (ap status_of_ending (sym end_is) ∙ sym is ∙ done)));
        least = least;
        is_text = written;
        unstopped = unstopped;
        checks = checks;
      }
