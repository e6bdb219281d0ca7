-- What a line of rows says: the fields of a record, and the four numbers of a row.
use Rattle.std.specs.Prelude.{◌≡◌, ℕ, ◌+◌, ◌-◌, ◌==◌, ◌&&◌, ◌||◌, nat_eq, nat_le, not, List, [], ◌∷◌, map, take, length, codes, Bool, if◌then◌else◌, Option}
use Rattle.std.specs.Prelude.{Some, None, option_map}
use Rattle.std.specs.List.{list_any, starts_with}
use Rattle.csv.specs.Machine.{next_record}
use Rattle.csv.specs.Records.{field_at}
use Rattle.csv.specs.Reading.{default_config, strip_bom}
use Rattle.csv.specs.declared.parser.State.TheVariants as st
use Rattle.elevator_model.specs.Building.{Building, floor_count}
use Rattle.lift_text.specs.Numbers.{digits_number}
use Rattle.search_model.specs.Days.{Row, is_row}
use Rattle.day_text.specs.declared.headers.Header.{Header}
use Rattle.day_text.specs.declared.headers.Header.TheVariants.{Rows, BankRows}
use Rattle.day_text.specs.declared.rows.GoodRow.{GoodRow}

-- ---- the fields of a line

-- it begins with the bytes of a byte order mark
abbrev pub begins_with_mark : List ℕ → Bool
begins_with_mark line = starts_with nat_eq line (0xEF ∷ 0xBB ∷ 0xBF ∷ [])

-- the byte ends a line
abbrev pub ends_line : ℕ → Bool
ends_line b = (b == 10) || (b == 13)

-- A line that is no record, whatever a reader of records makes of it.
abbrev pub is_set_apart : List ℕ → Bool
is_set_apart line = begins_with_mark line || list_any ends_line line

-- the fields of the first record that `csv` reads from the line
abbrev pub fields_read : List ℕ → Option (List (List ℕ))
fields_read line = option_map (λ p. p.0) (next_record default_config st.StartRecord [] [] (strip_bom line))

-- The fields of the line, where it is a record: between commas, with double quotes, as they stand.
abbrev pub fields_of_line : List ℕ → Option (List (List ℕ))
fields_of_line line = if is_set_apart line then None else fields_read line

-- ---- spaces at both ends of a field

unfoldable pub without_spaces_before : List ℕ → List ℕ
without_spaces_before [] = []
without_spaces_before (b ∷ rest) = if (b == 32) then without_spaces_before rest else b ∷ rest

-- how many bytes come before the spaces at the end
unfoldable pub end_of_field : List ℕ → ℕ
end_of_field [] = 0
end_of_field (b ∷ rest) = if (end_of_field rest == 0) && (b == 32) then 0 else end_of_field rest + 1

abbrev pub without_spaces : List ℕ → List ℕ
without_spaces field = let text = without_spaces_before field in take (end_of_field text) text

-- ---- rows

-- one or more decimal digits
abbrev pub number_of_field : List ℕ → Option ℕ
number_of_field field = digits_number (without_spaces field)

-- the number in a field, where there is one
abbrev pub number_said : Option (List ℕ) → Option ℕ
number_said None = None
number_said (Some field) = number_of_field field

abbrev pub row_of_numbers : (time origin destination persons : Option ℕ) → Option Row
row_of_numbers None origin destination persons = None
row_of_numbers (Some time) None destination persons = None
row_of_numbers (Some time) (Some origin) None persons = None
row_of_numbers (Some time) (Some origin) (Some destination) None = None
row_of_numbers (Some time) (Some origin) (Some destination) (Some persons) =
    Some (record { time = time; origin = origin; destination = destination; persons = persons })

-- four fields with a number each
abbrev pub row_of_fields : List (List ℕ) → Option Row
row_of_fields [] = None
row_of_fields (time ∷ []) = None
row_of_fields (time ∷ origin ∷ []) = None
row_of_fields (time ∷ origin ∷ destination ∷ []) = None
row_of_fields (time ∷ origin ∷ destination ∷ persons ∷ []) =
    row_of_numbers (number_of_field time) (number_of_field origin) (number_of_field destination) (number_of_field persons)
row_of_fields (time ∷ origin ∷ destination ∷ persons ∷ more ∷ rest) = None

abbrev pub row_of_record : Option (List (List ℕ)) → Option Row
row_of_record None = None
row_of_record (Some fields) = row_of_fields fields

-- What a line says, where it says four numbers.
abbrev pub row_of_line : List ℕ → Option Row
row_of_line line = row_of_record (fields_of_line line)

-- the row, where its numbers lie in their ranges
abbrev pub row_within : Building → Option Row → Option Row
row_within b None = None
row_within b (Some row) = if is_row b row then Some row else None

-- the number, where it is at most this one
abbrev pub at_most : ℕ → Option ℕ → Option ℕ
at_most most None = None
at_most most (Some n) = if nat_le n most then Some n else None

-- the four numbers in the fields, where each lies in the range of its field
abbrev pub numbers_within : Building → List (List ℕ) → Option Row
numbers_within b fields =
    row_of_numbers
    (at_most 1000000000 (number_said (field_at fields 0)))
    (at_most (floor_count b - 1) (number_said (field_at fields 1)))
    (at_most (floor_count b - 1) (number_said (field_at fields 2)))
    (at_most 8 (number_said (field_at fields 3)))

-- there is somebody who goes to another floor
abbrev pub carries_someone : Row → Bool
carries_someone row = not (row.origin == row.destination) && nat_le 1 row.persons

-- what the row says, as the definition has it
abbrev pub row_as_said : GoodRow → Row
row_as_said row = record { time = row.time; origin = row.origin; destination = row.destination; persons = row.persons }

-- ---- the header

-- the names of a row's fields
abbrev pub row_names : List (List ℕ)
row_names = codes "time" ∷ codes "origin" ∷ codes "destination" ∷ codes "persons" ∷ []

-- what the fields of a header say
abbrev pub header_fields : Header → List (List ℕ)
header_fields Rows = row_names
header_fields BankRows = codes "bank" ∷ row_names

-- what stands in the fields, without spaces at their ends
abbrev pub texts_of_line : List ℕ → Option (List (List ℕ))
texts_of_line line = option_map (map without_spaces) (fields_of_line line)

-- the field at this place says this, but for spaces at its ends
abbrev pub SaysAt : List (List ℕ) → ℕ → List ℕ → Type 0
SaysAt fields place text = option_map without_spaces (field_at fields place) ≡ Some text

-- the fields from this place on say the names of a row's fields, in their order
pub record SaysRowNames (fields : List (List ℕ)) (first : ℕ) : Type 0 where
  pub time : SaysAt fields first (codes "time")
  pub origin : SaysAt fields (first + 1) (codes "origin")
  pub destination : SaysAt fields (first + 2) (codes "destination")
  pub persons : SaysAt fields (first + 3) (codes "persons")

-- there are four fields, and they say these names
pub record SaysRowHeader (fields : List (List ℕ)) : Type 0 where
  pub four : length fields ≡ 4
  pub names : SaysRowNames fields 0

-- there are five fields, and the bank's name comes before these
pub record SaysBankRowHeader (fields : List (List ℕ)) : Type 0 where
  pub five : length fields ≡ 5
  pub bank : SaysAt fields 0 (codes "bank")
  pub names : SaysRowNames fields 1

-- the fields say this header
abbrev pub SaysHeader : Header → List (List ℕ) → Type 0
SaysHeader Rows fields = SaysRowHeader fields
SaysHeader BankRows fields = SaysBankRowHeader fields
