-- How work ended, and what is passed on of it.
use Rattle.std.specs.Prelude.{Bool, IsErrOf, IsOk, IsOkUnless, OnOk, Result, Ok, Err}
use Rattle.std.proofs.Common.{◌≡◌, ap, refl, subst, sym, ◌∙◌, true, false}
use Rattle.std.proofs.lemmas.Bool.{false≢true}
use Rattle.search_model.specs.declared.interruptions.Interruption.{Interruption}
use Rattle.search_model.specs.declared.interruptions.Interruption.TheVariants.{OutOfMemory, Told}

pub on_ok : {X E : Type 0} (r : Result X E) (P : Type 0) → IsOk r → OnOk r P → P
on_ok (Ok x) P is h = h
on_ok (Err e) P is h = absurd (false≢true is)

-- what can only be out of memory was not told to stop
pub untold : {X : Type 0} (r : Result X Interruption) → IsOkUnless r OutOfMemory → IsErrOf r Told → ⊥
untold {X} r h e = let clash : Told ≡ OutOfMemory = subst (λ (x : Result X Interruption). IsOkUnless x OutOfMemory) e h in absurd cc

pub flag_false : {X : Type 0} (r : Result X Interruption) (told : Bool) → (told ≡ true → IsErrOf r Told) → IsOkUnless r OutOfMemory → told ≡ false
flag_false r true is h = absurd (untold r h (is refl))
flag_false r false is h = refl

-- an interruption f that is passed on is the one, e, with which the work ended
pub passed_memory : {X : Type 0} (r : Result X Interruption) (e f : Interruption) → r ≡ Err f → f ≡ e → e ≡ OutOfMemory → IsOkUnless r OutOfMemory
passed_memory {X} r e f is same memory = subst (λ (x : Result X Interruption). IsOkUnless x OutOfMemory) (sym is) (same ∙ memory)

abbrev interruption_of : {X : Type 0} → Result X Interruption → Interruption
interruption_of (Ok x) = OutOfMemory
interruption_of (Err e) = e

pub passed_told : {X Y : Type 0} (inner : Result X Interruption) (r : Result Y Interruption) (e f : Interruption) → inner ≡ Err e → r ≡ Err f → f ≡ e
    → IsErrOf r Told → IsErrOf inner Told
passed_told inner r e f was is same told = was ∙ ap Err (sym same ∙ ap interruption_of (sym is ∙ told))
