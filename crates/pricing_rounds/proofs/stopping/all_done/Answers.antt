use Rattle.std.specs.Prelude.{IsSome, Option, Some, None, All, slice_index_or}
use Rattle.std.proofs.Common.{◌≡◌, ℕ, ◌<◌, List, length, ap, ◌∙◌, subst, sym, arith}
use Rattle.std.proofs.lemmas.Option.{slice_get-get_or, slice_get_within}
use Rattle.search_model.specs.declared.TurnOf.{TurnOf}
use Rattle.work_fan.proofs.Places.{taken_count, taken_from}
use Rattle.pricing_rounds.proofs.stopping.all_done.Goals as goal

abbrev AreDone : List (Option TurnOf) → Type 0
AreDone answers = (k : ℕ) → k < length answers → IsSome (slice_index_or answers k None)

pub returns-clause-count : goal.returns-clause-count
returns-clause-count c =
    let each : AreDone c.args.answers.items = subst AreDone c.deref.ensures.value (c.are_done.ensures.done c.if-not-are_done.false) in
    taken_count c.args.answers.items c.in_ok-turns.turns.items each c.in_ok-turns.ensures

pub returns-clause-from : goal.returns-clause-from
returns-clause-from c k a at =
    let each : AreDone c.args.answers.items = subst AreDone c.deref.ensures.value (c.are_done.ensures.done c.if-not-are_done.false) in
    let count = taken_count c.args.answers.items c.in_ok-turns.turns.items each c.in_ok-turns.ensures in
    let within : k < length c.args.answers.items = omega (arith, count, slice_get_within c.in_ok-turns.turns.items k a at) in
    slice_get-get_or c.args.answers.items k None within
    ∙ ap Some (taken_from c.args.answers.items c.in_ok-turns.turns.items each c.in_ok-turns.ensures k a at)

pub returns-then-not-are_done-clause-goes_on : goal.returns-then-not-are_done-clause-goes_on
returns-then-not-are_done-clause-goes_on c all =
    absurd (c.are_done.ensures.told c.if-not-are_done.true (subst (All IsSome) (sym c.deref.ensures.value) all))
