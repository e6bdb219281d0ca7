-- What is known of a split by whether it was refused.
use Rattle.std.proofs.Common.{◌≡◌, Bool, true, false, Result, Ok, Err, refl}
use Rattle.std.specs.Bool.{IsTrue}
use Rattle.std.specs.Result.{IsOk, OnOk, is_err}

pub refused : {T E : Type 0} (b : Bool) (r : Result T E) → (IsTrue b → IsOk r) → true ≡ is_err r → false ≡ b
refused b (Ok x) h e = absurd cc
refused false (Err x) h e = refl
refused true (Err x) h e = absurd (let ok = h refl in cc)

pub accepted : {T E : Type 0} (P : Type 0) (r : Result T E) → OnOk r P → false ≡ is_err r → P
accepted P (Ok x) h e = h
accepted P (Err x) h e = absurd cc
