-- The lines of a building's text in their order, by their line words.
use Rattle.std.specs.Prelude.{ℕ, Bool, true, false, not, ◌&&◌, ◌||◌, ◌==◌, nat_lt, List, codes, if◌then◌else◌}
use Rattle.lift_text.specs.declared.codes.TextCode.{TextCode}
use Rattle.lift_text.specs.declared.codes.TextCode.TheVariants.{NoLineWord, OutOfOrder}
use Rattle.text_sections.specs.Sections.{Line}
use Rattle.text_sections.specs.Words.{is_word}
use Rattle.building_text.specs.declared.order.Due.{Due}
use Rattle.building_text.specs.declared.order.Due.TheVariants.{Version, Speed, Accel, Weights, Patience, Floors, Times, FirstCar, NextCar}

-- the line word of the line that is due
abbrev pub name_of : Due → List ℕ
name_of Version = codes "building"
name_of Speed = codes "speed"
name_of Accel = codes "accel"
name_of Weights = codes "weights"
name_of Patience = codes "patience"
name_of Floors = codes "floors"
name_of Times = codes "times"
name_of FirstCar = codes "car"
name_of NextCar = codes "car"

-- nothing was read yet
abbrev pub is_first : Due → Bool
is_first Version = true
is_first Speed = false
is_first Accel = false
is_first Weights = false
is_first Patience = false
is_first Floors = false
is_first Times = false
is_first FirstCar = false
is_first NextCar = false

-- a car was read, so that the section may end
abbrev pub may_end : Due → Bool
may_end Version = false
may_end Speed = false
may_end Accel = false
may_end Weights = false
may_end Patience = false
may_end Floors = false
may_end Times = false
may_end FirstCar = false
may_end NextCar = true

-- version 1 has no patience
abbrev pub after_weights : ℕ → Due
after_weights version = if version == 1 then Floors else Patience

-- the times are stated in version 3 alone
abbrev pub after_floors : ℕ → Due
after_floors version = if version == 3 then Times else FirstCar

-- a line word of every version
abbrev pub is_plain_word : Line → Bool
is_plain_word words =
    is_word words 0 (codes "building") || is_word words 0 (codes "speed") || is_word words 0 (codes "accel") || is_word words 0 (codes "weights")
    || is_word words 0 (codes "floors") || is_word words 0 (codes "car") || is_word words 0 (codes "end")

-- a line word of the section in this version
abbrev pub is_line_word : ℕ → Line → Bool
is_line_word version words =
    is_plain_word words || (nat_lt 1 version && is_word words 0 (codes "patience")) || ((version == 3) && is_word words 0 (codes "times"))

-- what is wrong with a line that is not due: before the first line no other line word is known
abbrev pub misplaced : Due → ℕ → Line → TextCode
misplaced due version words = if not (is_first due) && is_line_word version words then OutOfOrder else NoLineWord
