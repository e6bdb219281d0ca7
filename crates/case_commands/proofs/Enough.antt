-- With limits that are enough an answer ends solved.
use Rattle.std.proofs.Common.{◌≡◌, ℕ, ◌==◌, Bool, true, false, List, refl, sym, ap, ◌∙◌}
use Rattle.std.proofs.lemmas.Bool.{eq-eqb}
use Rattle.elevator_model.specs.Snapshot.{Snapshot}
use Rattle.search_model.specs.declared.Stated.{Stated}
use Rattle.search_model.specs.declared.Twig.{Twig}
use Rattle.search_model.specs.declared.Turn.{Turn}
use Rattle.search_model.specs.declared.StopReason.{StopReason}
use Rattle.search_model.specs.declared.StopReason.TheVariants.{Solved, Rounds, Moves, Told}
use Rattle.search_model.specs.Solving.{IsSolveAnswer}
use Rattle.certified_search.proofs.Enough.{certified_same}
use Rattle.lift_words.specs.declared.request.SolveOptions.{SolveOptions}
use Rattle.command_ends.specs.declared.status.Status.{Status}
use Rattle.command_ends.specs.declared.status.Status.TheVariants.{Done}
use Rattle.case_commands.specs.declared.endings.Ending.{Ending}
use Rattle.case_commands.specs.SolveOutcome.{AreEnough, IsPrinted, ending_of, status_of_ending}

printed_same : (options : SolveOptions) (s : Snapshot) (stated : Stated) (tree : List Twig) (turns : List Turn) (why : StopReason)
    → IsSolveAnswer s options.limits.rounds options.limits.most_tours stated.plan stated.cost stated.bound tree turns why
    → (bound : ℕ) (certificate : List Twig) → IsPrinted options s stated tree bound certificate → (brief : Bool) → options.brief ≡ brief
    → AreEnough options s → bound ≡ stated.bound
printed_same options s stated tree turns why answer bound certificate printed true is enough = printed.brief is
printed_same options s stated tree turns why answer bound certificate printed false is enough =
    certified_same options.limits.rounds options.limits.most_tours options.claims s stated tree turns why bound certificate answer (printed.certified is)
    (enough.claims is)

pub done_where_enough : (options : SolveOptions) (s : Snapshot) (stated : Stated) (tree : List Twig) (turns : List Turn) (why : StopReason)
    → IsSolveAnswer s options.limits.rounds options.limits.most_tours stated.plan stated.cost stated.bound tree turns why
    → (bound : ℕ) (certificate : List Twig) → IsPrinted options s stated tree bound certificate → (end : Ending) (status : Status)
    → end ≡ ending_of why options.claims (stated.cost == bound) → status ≡ status_of_ending end → why ≡ Solved → AreEnough options s → status ≡ Done
done_where_enough options s stated tree turns Solved answer bound certificate printed end status end_is is solved enough =
    let same = printed_same options s stated tree turns Solved answer bound certificate printed options.brief refl enough in
    let equal : (stated.cost == bound) ≡ true = eq-eqb stated.cost bound (answer.reason ∙ sym same) in
    is ∙ ap status_of_ending end_is ∙ ap (λ (b : Bool). status_of_ending (ending_of Solved options.claims b)) equal
done_where_enough options s stated tree turns (Rounds done) answer bound certificate printed end status end_is is solved enough = absurd cc
done_where_enough options s stated tree turns (Moves car count) answer bound certificate printed end status end_is is solved enough = absurd cc
done_where_enough options s stated tree turns Told answer bound certificate printed end status end_is is solved enough = absurd cc
