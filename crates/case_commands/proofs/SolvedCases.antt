-- What is written of a generated case that was solved.
use Rattle.std.proofs.Common.{◌≡◌, ℕ, ◌≤◌, ◌<◌, List, [], ap, sym, subst, ◌∙◌, inl, inr, arith}
use Rattle.std.specs.Prelude.{◌⊎◌, ◌↔◌}
use Rattle.elevator_model.specs.declared.Stop.{Stop}
use Rattle.elevator_model.specs.Travel.{Square, IsTravelOf}
use Rattle.elevator_model.specs.Snapshot.{Snapshot, IsAccepted}
use Rattle.search_model.specs.declared.Twig.{Twig}
use Rattle.search_model.specs.declared.Turn.{Turn}
use Rattle.search_model.specs.declared.StopReason.{StopReason}
use Rattle.search_model.specs.declared.StopReason.TheVariants.{Solved, Rounds, Moves, Told}
use Rattle.search_model.specs.Cases.{case_building, case_snapshot}
use Rattle.search_model.specs.Solving.{IsSolveAnswer, IsReason}
use Rattle.search_model.specs.Verdicts.{rounds_enough, tours_enough}
use Rattle.building_text.proofs.TravelLemmas.{same_travel}
use Rattle.lift_words.specs.declared.request.CaseSizes.{CaseSizes}
use Rattle.lift_words.specs.declared.request.RunOptions.{RunOptions}
use Rattle.command_ends.specs.declared.status.Status.{Status}
use Rattle.command_ends.specs.declared.status.Status.TheVariants.{Done, Stopped, Memory}
use Rattle.command_ends.specs.Ends.{Streams, Ends, Puts}
use Rattle.command_ends.proofs.EndLemmas.{ends_either}
use Rattle.case_commands.specs.MakeOutcome.{IsCaseOf, IsCaseSolved, IsSolvedCase, SolvedCaseDue, run_text, status_of}
use Rattle.case_commands.proofs.Solutions.{least_bound, optimal}

-- ---- the number and the sizes have one case

module _ (sizes : CaseSizes) where
  abbrev heights : List ℕ
  heights = (case_building (record { floors = 0; times = [] }) sizes.floors sizes.cars).heights

  abbrev case_with : Square → Snapshot
  case_with travel = case_snapshot travel sizes.number sizes.floors sizes.cars sizes.calls

  travel_is : (s : Snapshot) → IsCaseOf sizes s → IsTravelOf heights 2000 1000 s.building.travel
  travel_is s case = subst (λ (x : Snapshot). IsTravelOf x.building.heights 2000 1000 s.building.travel) case.rest case.travel

  pub one_case : (s t : Snapshot) → IsCaseOf sizes s → IsCaseOf sizes t → s ≡ t
  one_case s t first second =
      first.rest ∙ ap case_with (same_travel heights 2000 1000 s.building.travel t.building.travel (travel_is s first) (travel_is t second)) ∙ sym second.rest

-- ---- what the status tells

module _ (s : Snapshot) (rounds most_tours cost bound : ℕ) (tree : List Twig) (status : Status) where
  done_at : (why : StopReason) → status ≡ status_of why → IsReason s rounds most_tours cost bound tree why → (status ≡ Done) ↔ (cost ≡ bound)
  done_at Solved is reason = (λ _. reason, λ _. is)
  done_at (Rounds done) is reason =
      (λ e. (let never : Stopped ≡ Done = sym is ∙ e in absurd cc), λ e. (let below = reason.below in absurd (omega (arith, e, below))))
  done_at (Moves car count) is reason =
      (λ e. (let never : Stopped ≡ Done = sym is ∙ e in absurd cc), λ e. (let below = reason.below in absurd (omega (arith, e, below))))
  done_at Told is reason = absurd reason

  stopped_at : (why : StopReason) → status ≡ status_of why → IsReason s rounds most_tours cost bound tree why → (status ≡ Stopped) ↔ (bound < cost)
  stopped_at Solved is reason = (λ e. (let never : Done ≡ Stopped = sym is ∙ e in absurd cc), λ below. absurd (omega (arith, reason, below)))
  stopped_at (Rounds done) is reason = (λ _. reason.below, λ _. is)
  stopped_at (Moves car count) is reason = (λ _. reason.below, λ _. is)
  stopped_at Told is reason = absurd reason

-- ---- the lines, and how the command ends

module _ (options : RunOptions) (s : Snapshot) (plan : List (List Stop)) (cost bound : ℕ) (tree : List Twig) (turns : List Turn) (why : StopReason) where
  pub solved_lines : IsCaseOf options.sizes s → IsAccepted s → IsSolveAnswer s options.limits.rounds options.limits.most_tours plan cost bound tree turns why
      → (status : Status) (text : List ℕ) → status ≡ status_of why → text ≡ run_text options.sizes cost bound → IsSolvedCase options status text
  solved_lines case accepted answer status text is written = record {
    snapshot = s;
    case = case;
    accepted = accepted;
    plan = plan;
    cost = cost;
    bound = bound;
    tree = tree;
    turns = turns;
    why = why;
    answer = answer;
    done = done_at s options.limits.rounds options.limits.most_tours cost bound tree status why is answer.reason;
    stopped = stopped_at s options.limits.rounds options.limits.most_tours cost bound tree status why is answer.reason;
    optimal = optimal s options.limits.rounds options.limits.most_tours plan cost bound tree turns why accepted answer status is;
    least = least_bound s options.limits.rounds options.limits.most_tours plan cost bound tree turns why accepted answer;
    is_text = written;
  }

module _ (options : RunOptions) (status : Status) (text : List ℕ) (solved : IsSolvedCase options status text) where
  by_reason : (why : StopReason) → IsReason solved.snapshot options.limits.rounds options.limits.most_tours solved.cost solved.bound solved.tree why
      → (status ≡ Done) ⊎ (status ≡ Stopped)
  by_reason Solved reason = inl (solved.done.1 reason)
  by_reason (Rounds done) reason = inr (solved.stopped.1 reason.below)
  by_reason (Moves car count) reason = inr (solved.stopped.1 reason.below)
  by_reason Told reason = absurd reason

  is_ended : (status ≡ Done) ⊎ (status ≡ Stopped)
  is_ended = by_reason solved.why solved.answer.reason

  -- the lines that were put, unless the sink failed
  pub is_case_solved : (result : Status) → result ≡ status
      → ((s : Snapshot) → IsCaseOf options.sizes s → rounds_enough s ≤ options.limits.rounds → tours_enough s ≤ options.limits.most_tours → status ≡ Done)
      → IsCaseSolved options result
  is_case_solved result put enough = record {
    ended = elim is_ended [ inl done ↦ first (put ∙ done) | inr stopped ↦ second (put ∙ stopped) ];
    enough = λ s case rounds most_tours. inl (put ∙ enough s case rounds most_tours);
  }
    where
      first : result ≡ Done → (result ≡ Done) ⊎ (result ≡ Stopped) ⊎ (result ≡ Memory)
      first e = inl e

      second : result ≡ Stopped → (result ≡ Done) ⊎ (result ≡ Stopped) ⊎ (result ≡ Memory)
      second e = inr (inl e)

  pub ends_solved : (old new : Streams) (result : Status) → Puts text status result old.taken new.taken old.write_faults new.write_faults
      → Ends (SolvedCaseDue options) old new result
  ends_solved old new result put =
      ends_either (SolvedCaseDue options) old new text Done Stopped status result (λ (x : Status). IsSolvedCase options x text) (λ due. due) (λ wrote. wrote)
      (λ due. due) (λ wrote. wrote) is_ended solved put
