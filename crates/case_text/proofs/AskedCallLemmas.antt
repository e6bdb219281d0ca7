-- The last call of a snapshot.
use Rattle.std.proofs.Common.{◌≡◌, ℕ, ◌-◌, ◌≤◌, Bool, true, false, not, Option, Some, None, sym, refl, ap, ◌∙◌, arith}
use Rattle.std.specs.Prelude.{◌↔◌, IsTrue, is_some}
use Rattle.std.specs.List.{slice_get}
use Rattle.std.proofs.lemmas.Bool.{false≢true}
use Rattle.std.proofs.lemmas.Option.{none-some, slice_get_within, slice_get-get_or, get_or_from_slice_get}
use Rattle.elevator_model.specs.declared.Call.{Call}
use Rattle.elevator_model.specs.Snapshot.{Snapshot, call_count, call_of, no_call}
use Rattle.case_text.specs.AskedCases.{HasAskedCall}

no_pin : (pin : Option ℕ) (free : Bool) → is_some pin ≡ not free → free ≡ true → pin ≡ None
no_pin None free is free_is = refl
no_pin (Some c) true is free_is = absurd cc
no_pin (Some c) false is free_is = absurd cc

is_free : (pin : Option ℕ) (free : Bool) → is_some pin ≡ not free → pin ≡ None → free ≡ true
is_free None true is none = refl
is_free None false is none = absurd cc
is_free (Some c) free is none = absurd cc

-- where there is a last call, it alone decides
pub asked_last : (s : Snapshot) (call : Call) (free : Bool) → slice_get s.calls (call_count s - 1) ≡ Some call → is_some call.pin ≡ not free → IsTrue free
    ↔ HasAskedCall s
asked_last s call free last is =
    let within = slice_get_within s.calls (call_count s - 1) call last in
    let same : call_of s (call_count s - 1) ≡ call = get_or_from_slice_get s.calls (call_count s - 1) call no_call last in
    let pin : (call_of s (call_count s - 1)).pin ≡ call.pin = ap (λ (x : Call). x.pin) same in (
      λ free_is. record { some = omega (arith, within); free = pin ∙ no_pin call.pin free is free_is },
      λ asked. is_free call.pin free is (sym pin ∙ asked.free),
    )

pub none_asked : (s : Snapshot) → slice_get s.calls (call_count s - 1) ≡ None → IsTrue false ↔ HasAskedCall s
none_asked s none = (λ never. absurd cc, λ asked. absurd (clash asked.some))
  where
    clash : 1 ≤ call_count s → ⊥
    clash some = none-some (call_of s (call_count s - 1)) (sym none ∙ slice_get-get_or s.calls (call_count s - 1) no_call (omega (arith, some)))

pub not_asked : (s : Snapshot) (asked : Bool) → IsTrue asked ↔ HasAskedCall s → asked ≡ false → HasAskedCall s → ⊥
not_asked s asked means none is = false≢true (sym none ∙ means.1 is)
