-- What a line made of a value.
use Rattle.std.specs.Prelude.{◌≡◌, Result, Ok, Err}
use Rattle.text_sections.specs.declared.faults.LineFault.{LineFault}
use Rattle.text_sections.specs.declared.faults.LineFault.TheVariants.{Bad, NoMemory}
use Rattle.text_sections.specs.Judging.{Judged}

-- what a value became is what was judged; nothing is told of it where memory ran out
abbrev pub Became : {A : Type 0} → Judged A → Result Unit LineFault → A → Type 0
Became judged (Ok done) new = judged ≡ Ok new
Became judged (Err (Bad code)) new = judged ≡ Err code
Became judged (Err NoMemory) new = Unit {0}

-- so is the answer as it is seen
abbrev pub SaysAs : {X A : Type 0} → (X → A) → Judged A → Result X LineFault → Type 0
SaysAs view judged (Ok x) = judged ≡ Ok (view x)
SaysAs view judged (Err (Bad code)) = judged ≡ Err code
SaysAs view judged (Err NoMemory) = Unit {0}
