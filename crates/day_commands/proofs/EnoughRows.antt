-- A day that is stopped has a row for which the limits are not enough.
use Rattle.std.proofs.Common.{◌≡◌, ℕ, zero, suc, ◌<◌, List, subst, arith, Option, Ok}
use Rattle.search_model.specs.Days.{opening_day}
use Rattle.lift_text.specs.Reading.{TextState}
use Rattle.day_laws.specs.RowLines.{rows_of}
use Rattle.day_simulator.specs.TextRuns.{DayRan}
use Rattle.day_simulator.specs.declared.day_runs.Ended.{Ended}
use Rattle.lift_words.specs.declared.request.DayOptions.{DayOptions}
use Rattle.lift_words.specs.Taken.{most_claims}
use Rattle.command_ends.specs.declared.status.Status.TheVariants.{Stopped}
use Rattle.day_planner.proofs.StoppedLaws.{stopped-rows}
use Rattle.day_commands.specs.DayOutcome.{IsDayStopped, SolvedBy, status_of_unsolved}

some-unsolved : (n : ℕ) → status_of_unsolved n ≡ Stopped → 0 < n
some-unsolved zero is = absurd cc
some-unsolved (suc n) is = omega arith

pub stopped-day : (options : DayOptions) (before : Option TextState) (ahead : List ℕ) (left taken taken' : Option (List ℕ)) (ended : Ended)
    (ran : DayRan (SolvedBy options) before ahead left taken taken' (Ok ended)) → status_of_unsolved ended.unsolved ≡ Stopped → IsDayStopped options ran
stopped-day options before ahead left taken taken' ended ran is =
    stopped-rows options.search.limits.rounds options.search.limits.most_tours (most_claims options) (opening_day ran.opening)
    (rows_of ran.ran.passed) ran.ran.day ran.ran.text ran.ran.done (subst (λ (n : ℕ). 0 < n) ran.ran.wrote.2 (some-unsolved ended.unsolved is))
