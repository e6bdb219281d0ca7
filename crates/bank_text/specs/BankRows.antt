-- What a line of rows says: the id of a bank, and a row of it.
use Rattle.std.specs.Prelude.{ℕ, ◌==◌, ◌&&◌, nat_lt, not, List, [], ◌∷◌, ◌++◌, map, length, count_by, Bool, false, Option, None, Some, option_map}
use Rattle.std.specs.Prelude.{if◌then◌else◌}
use Rattle.std.specs.List.{filter_map, list_all, list_any}
use Rattle.std.specs.Char.{is_ascii_digit}
use Rattle.search_model.specs.Days.{Row}
use Rattle.lift_text.specs.Lines.{pieces_of, line_of}
use Rattle.lift_text.specs.Reading.{TextState, line_limit}
use Rattle.day_text.specs.Records.{at_most, fields_of_line, number_of_field, row_of_fields, row_of_line, without_spaces}
use Rattle.bank_text.specs.declared.banks.BankRow.{BankRow}
use Rattle.bank_text.specs.declared.banks.BankRow.TheVariants.{Fields, Other}
use Rattle.bank_text.specs.declared.bank_rows.NamedRow.{NamedRow}
use Rattle.bank_text.specs.declared.bank_rows.RowDigits.{RowDigits}

-- ---- rows of a bank

-- what a row of a bank says, where it says four numbers
abbrev pub row_said : BankRow → Option Row
row_said (Fields line) = row_of_line line.items
row_said Other = None

abbrev pub rows_said : List BankRow → List (Option Row)
rows_said rows = map row_said rows

-- ---- what a line says

-- an id, and the row that is said for the bank with it, `None` where that says no four numbers
abbrev pub Said : Type 0
Said = ℕ × Option Row

abbrev pub greatest_id : ℕ
greatest_id = 4294967295

-- The id in a field: one or more decimal digits, but for spaces at the ends.
abbrev pub id_of_field : List ℕ → Option ℕ
id_of_field field = at_most greatest_id (number_of_field field)

abbrev pub said_with : Option Row → ℕ → Said
said_with row id = (id, row)

-- an id in the first field, and a row in those behind it
abbrev pub said_of_fields : List (List ℕ) → Option Said
said_of_fields [] = None
said_of_fields (first ∷ rest) = option_map (said_with (row_of_fields rest)) (id_of_field first)

abbrev pub said_of_record : Option (List (List ℕ)) → Option Said
said_of_record None = None
said_of_record (Some fields) = said_of_fields fields

abbrev pub said_of_short : List ℕ → Option Said
said_of_short line = said_of_record (fields_of_line line)

-- What a line without its end says; an over-long one says nothing.
abbrev pub said_of_line : List ℕ → Option Said
said_of_line line = if nat_lt line_limit (length line) then None else said_of_short line

-- ---- rows and strays

-- what is said for the bank with this id
abbrev pub said_in : ℕ → Option Said → Option (Option Row)
said_in id None = None
said_in id (Some said) = if id == said.0 then Some said.1 else None

-- The rows of the bank with this id, in the order of what lines say.
abbrev pub rows_of : ℕ → List (Option Said) → List (Option Row)
rows_of id saids = filter_map (said_in id) saids

-- it is said for the bank with this id
abbrev pub is_said_in : Option Said → ℕ → Bool
is_said_in None id = false
is_said_in (Some said) id = id == said.0

-- A line that some byte stands in, and that says nothing for any bank.
abbrev pub is_stray : List ℕ → List ℕ → Bool
is_stray ids line = nat_lt 0 (length line) && not (list_any (is_said_in (said_of_line line)) ids)

abbrev pub strays_of : List ℕ → List (List ℕ) → ℕ
strays_of ids lines = count_by (is_stray ids) lines

-- the lines of a text without their ends
abbrev pub lines_of : TextState → List (List ℕ)
lines_of text = map line_of (pieces_of text.bytes)

-- ---- how a line is read

abbrev pub said_by : NamedRow → Said
said_by named = (named.id, row_said named.row)

abbrev pub id_said : Option (List ℕ) → Option ℕ
id_said None = None
id_said (Some field) = id_of_field field

abbrev pub is_number : List ℕ → Bool
is_number text = nat_lt 0 (length text) && list_all is_ascii_digit text

-- the digits in a field, where it has nothing else but spaces at its ends
abbrev pub digits_said : Option (List ℕ) → Option (List ℕ)
digits_said None = None
digits_said (Some field) = if is_number (without_spaces field) then Some (without_spaces field) else None

-- the numbers of a row as they are written
pub record RowTexts : Type 0 where
  pub time : List ℕ
  pub origin : List ℕ
  pub destination : List ℕ
  pub persons : List ℕ

abbrev pub texts_of : RowDigits → RowTexts
texts_of digits = record { time = digits.time.now; origin = digits.origin.now; destination = digits.destination.now; persons = digits.persons.now }

abbrev pub four_texts : (time origin destination persons : Option (List ℕ)) → Option RowTexts
four_texts None origin destination persons = None
four_texts (Some time) None destination persons = None
four_texts (Some time) (Some origin) None persons = None
four_texts (Some time) (Some origin) (Some destination) None = None
four_texts (Some time) (Some origin) (Some destination) (Some persons) =
    Some (record { time = time; origin = origin; destination = destination; persons = persons })

-- the line of four numbers
abbrev pub texts_line : RowTexts → List ℕ
texts_line texts = texts.time ++ (44 ∷ (texts.origin ++ (44 ∷ (texts.destination ++ (44 ∷ texts.persons)))))

-- the row in the fields behind the first
abbrev pub row_behind : List (List ℕ) → Option Row
row_behind [] = None
row_behind (first ∷ rest) = row_of_fields rest
