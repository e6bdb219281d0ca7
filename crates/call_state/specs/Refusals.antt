-- What a refusal says.
use Rattle.std.specs.Prelude.{◌≡◌, Option, Some}
use Rattle.elevator_model.specs.Faults.{Placed}
use Rattle.call_state.specs.declared.StateFault.{StateFault}
use Rattle.call_state.specs.declared.StateFault.TheVariants.{Bad, NoMemory}

-- the error names what was found, or there was no memory left
abbrev pub Names : Option Placed → StateFault → Type 0
Names found (Bad fault item) = found ≡ Some (fault, item)
Names found NoMemory = Unit {0}

-- the error shows that a claim is false, or there was no memory left
abbrev pub SpeaksAgainst : Type 0 → StateFault → Type 0
SpeaksAgainst claim (Bad fault item) = claim → ⊥
SpeaksAgainst claim NoMemory = Unit {0}
