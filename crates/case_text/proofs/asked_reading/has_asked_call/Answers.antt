use Rattle.std.proofs.Common.{◌≡◌, ◌-◌, sym, subst, length, List, Some, None}
use Rattle.std.specs.List.{slice_get}
use Rattle.elevator_model.specs.declared.Call.{Call}
use Rattle.case_text.proofs.AskedCallLemmas.{asked_last, none_asked}
use Rattle.case_text.proofs.asked_reading.has_asked_call.Goals as goal

pub returns-in-Some : goal.returns-in-Some
returns-in-Some c =
    let last = subst (λ (calls : List Call). Some c.in-Some.call.now ≡ slice_get calls (length calls - 1)) c.calls.ensures.value c.in-Some.ensures.value in
    asked_last c.args.snapshot.now c.in-Some.call.now c.is_none.result (sym last) c.is_none.ensures

pub returns-in-None : goal.returns-in-None
returns-in-None c =
    let last = subst (λ (calls : List Call). None ≡ slice_get calls (length calls - 1)) c.calls.ensures.value c.in-None.ensures.value in
    none_asked c.args.snapshot.now (sym last)
