-- The last move says whether the tour has ended.
use Rattle.std.proofs.Common.{◌≡◌, ◌-◌, ◌∙◌, sym, subst, length, List, Some, None}
use Rattle.std.specs.List.{slice_get}
use Rattle.elevator_model.specs.declared.Move.{Move}
use Rattle.partial_tours.proofs.Search.{ended_last, ended_none}
use Rattle.library_tests.proofs.plans.walks.has_ended.Goals as goal

pub returns-in-Some : goal.returns-in-Some
returns-in-Some c =
    let p = c.args.prefix.now in
    let last = subst (λ (l : List Move). Some c.in-Some.last.now ≡ slice_get l (length l - 1)) c.moves.ensures.value c.in-Some.ensures.value in
    let led = ended_last p.snapshot p.car p.moves c.in-Some.last.now c.moves.ensures.lawful (sym last) in
    (led.0, led.1, c.is_end.ensures ∙ led.2)

pub returns-in-None : goal.returns-in-None
returns-in-None c =
    let p = c.args.prefix.now in
    let last = subst (λ (l : List Move). None ≡ slice_get l (length l - 1)) c.moves.ensures.value c.in-None.ensures.value in
    ended_none p.snapshot p.car p.moves (sym last)
