-- What is judged of the words of a line: a value, or what is wrong with them.
use Rattle.std.specs.Prelude.{◌≡◌, ℕ, Bool, Option, None, Some, Result, Ok, Err, if◌then◌else◌}
use Rattle.lift_text.specs.declared.codes.TextCode.{TextCode}
use Rattle.lift_text.specs.declared.codes.TextCode.TheVariants.{OutOfOrder, UnknownId}
use Rattle.text_sections.specs.declared.faults.LineFault.{LineFault}
use Rattle.text_sections.specs.declared.faults.LineFault.TheVariants.{Bad, NoMemory}

-- what a step gives, or the first code with which the words are bad
abbrev pub Judged : Type 0 → Type 0
Judged A = Result A TextCode

-- one step after another: the first bad one decides
infixl 10 ◌>>=◌
abbrev pub ◌>>=◌ : {A B : Type 0} → Judged A → (A → Judged B) → Judged B
(Ok x) >>= f = f x
(Err code) >>= f = Err code

-- a line that may stand here, or one out of order
abbrev pub in_order : Bool → Judged Unit
in_order is = if is then Ok tt else Err OutOfOrder

-- the index at which an id was found
abbrev pub known : Option ℕ → Judged ℕ
known None = Err UnknownId
known (Some k) = Ok k

-- what was judged is the answer; nothing is said where memory ran out
abbrev pub Gives : {X : Type 0} → Judged X → Result X LineFault → Type 0
Gives judged (Ok x) = judged ≡ Ok x
Gives judged (Err (Bad code)) = judged ≡ Err code
Gives judged (Err NoMemory) = Unit {0}
