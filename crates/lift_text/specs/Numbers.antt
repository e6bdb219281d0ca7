-- The numbers that words write.
use Rattle.std.specs.Prelude.{ℕ, Bool, ◌&&◌, ◌||◌, ◌==◌, List, [], ◌∷◌, length, drop, false, Option, None, Some, option_map, Result, Ok, Err, ℤ, pos, neg_ℤ}
use Rattle.std.specs.Prelude.{nat_lt, int_lt, if◌then◌else◌}
use Rattle.std.specs.List.{list_all}
use Rattle.std.specs.Char.{is_ascii_digit}
use Rattle.std.specs.Str.Parse.{digits_value}
use Rattle.lift_text.specs.declared.codes.TextCode.{TextCode}
use Rattle.lift_text.specs.declared.codes.TextCode.TheVariants.{NoNumber as WordNoNumber, OutOfRange as NumberOutOfRange}
use Rattle.lift_text.specs.declared.numbers.NumberFault.{NumberFault}
use Rattle.lift_text.specs.declared.numbers.NumberFault.TheVariants.{NoNumber, OutOfRange}

-- the number that one or more decimal digits write; leading zeros count for nothing
abbrev pub digits_number : List ℕ → Option ℕ
digits_number digits = if nat_lt 0 (length digits) && list_all is_ascii_digit digits then Some (digits_value 10 digits) else None

abbrev pub starts_with_minus : List ℕ → Bool
starts_with_minus [] = false
starts_with_minus (b ∷ bs) = b == 45

-- the number that a word writes, where a `-` may begin it or not
abbrev pub number_of : Bool → List ℕ → Option ℤ
number_of may_be_negative word =
    if may_be_negative && starts_with_minus word
    then option_map (λ n. neg_ℤ (pos n)) (digits_number (drop 1 word))
    else option_map pos (digits_number word)

-- the number, if there is one from low to high
abbrev pub in_range : ℤ → ℤ → Option ℤ → Result ℤ NumberFault
in_range low high None = Err NoNumber
in_range low high (Some value) = if int_lt value low || int_lt high value then Err OutOfRange else Ok value

-- a word read as a number from low to high; a `-` may begin it where low is below 0
abbrev pub read_number : ℤ → ℤ → List ℕ → Result ℤ NumberFault
read_number low high word = in_range low high (number_of (int_lt low (pos 0)) word)

-- what is wrong with a line of which a word is not read as a number
abbrev pub code_of : NumberFault → TextCode
code_of NoNumber = WordNoNumber
code_of OutOfRange = NumberOutOfRange
