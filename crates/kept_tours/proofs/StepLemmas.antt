-- An option that has no value.
use Rattle.std.proofs.Common.{◌≡◌, refl, Option, Some, None}

pub none_there : {X : Type 0} (o : Option X) → ((x : X) → o ≡ Some x → ⊥) → o ≡ None
none_there None h = refl
none_there (Some x) h = absurd (h x refl)
