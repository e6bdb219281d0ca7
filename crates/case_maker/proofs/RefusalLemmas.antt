-- What is built from parts that keep the rules is refused for want of memory alone.
use Rattle.std.proofs.Common.{◌≡◌, Result, Ok, Err, IfOk, IfErr, refl, subst}
use Rattle.call_state.specs.declared.StateFault.{StateFault}
use Rattle.call_state.specs.declared.StateFault.TheVariants.{Bad, NoMemory}
use Rattle.call_state.specs.Refusals.{SpeaksAgainst}

no_fault : (claim : Type 0) (e : StateFault) → claim → SpeaksAgainst claim e → e ≡ NoMemory
no_fault claim (Bad fault item) holds against = absurd (against holds)
no_fault claim NoMemory holds against = refl

pub refused-memory : {X : Type 0} (claim : Type 0) (built : Result X StateFault) → claim → IfErr built (SpeaksAgainst claim) → IfErr built (λ e. e ≡ NoMemory)
refused-memory claim (Ok value) holds against = tt
refused-memory claim (Err e) holds against = no_fault claim e holds against

-- what is known of the value that was built is known of the value that is handed on
pub handed-on : {X E F : Type 0} (built : Result X E) (result : Result X F) (P Q : X → Type 0) → ((x : X) → P x → Q x) → IfOk result (λ x. built ≡ Ok x)
    → IfOk built P → IfOk result Q
handed-on built (Ok x) P Q more same holds = more x (subst (λ r. IfOk r P) same holds)
handed-on built (Err e) P Q more same holds = tt
