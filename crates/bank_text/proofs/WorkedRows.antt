-- Worked rows: what lines behind the header say, in which bank, and which are strays.
use Rattle.std.proofs.Common.{◌≡◌, ℕ, List, [], ◌∷◌, map, None, Some, refl, arith}
use Rattle.std.specs.Prelude.{codes}
use Rattle.csv.specs.Machine.{next_record}
use Rattle.csv.specs.Reading.{strip_bom}
use Rattle.search_model.specs.Days.{Row}
use Rattle.day_text.specs.Records.{end_of_field, without_spaces_before}
use Rattle.bank_text.specs.BankRows.{rows_of, said_of_line, strays_of}
use Rattle.bank_text.specs.BankTexts.{IsRefusal}
use Rattle.bank_text.specs.declared.faults.BankFault.TheVariants.{UsedId}

-- ---- lines

abbrev one_up : Row
one_up = record { time = 0; origin = 0; destination = 1; persons = 1 }

plain : said_of_line (codes "1,0,0,1,1") ≡ Some (1, Some one_up)
unfolding next_record strip_bom without_spaces_before end_of_field
plain = refl

spaces : said_of_line (codes " 1 ,0, 0,1 ,1") ≡ Some (1, Some one_up)
unfolding next_record strip_bom without_spaces_before end_of_field
spaces = refl

leading_zero : said_of_line (codes "01,0,0,1,1") ≡ Some (1, Some one_up)
unfolding next_record strip_bom without_spaces_before end_of_field
leading_zero = refl

quotes : said_of_line (34 ∷ 49 ∷ 34 ∷ codes ",0,0,1,1") ≡ Some (1, Some one_up)
unfolding next_record strip_bom without_spaces_before end_of_field
quotes = refl

greatest_id : said_of_line (codes "4294967295,0,0,1,1") ≡ Some (4294967295, Some one_up)
unfolding next_record strip_bom without_spaces_before end_of_field
greatest_id = refl

-- no id is so great, and it is not taken for the one that is left of it in 32 bits
too_great : said_of_line (codes "4294967297,0,0,1,1") ≡ None
unfolding next_record strip_bom without_spaces_before end_of_field
too_great = refl

no_number : said_of_line (codes "one,0,0,1,1") ≡ None
unfolding next_record strip_bom without_spaces_before end_of_field
no_number = refl

negative : said_of_line (codes "-1,0,0,1,1") ≡ None
unfolding next_record strip_bom without_spaces_before end_of_field
negative = refl

no_id : said_of_line (codes ",0,0,1,1") ≡ None
unfolding next_record strip_bom without_spaces_before end_of_field
no_id = refl

-- a row of bank 1 that says no four numbers
id_alone : said_of_line (codes "1") ≡ Some (1, None)
unfolding next_record strip_bom without_spaces_before end_of_field
id_alone = refl

field_too_many : said_of_line (codes "1,0,0,1,1,1") ≡ Some (1, None)
unfolding next_record strip_bom without_spaces_before end_of_field
field_too_many = refl

word_for_number : said_of_line (codes "1,0,0,one,1") ≡ Some (1, None)
unfolding next_record strip_bom without_spaces_before end_of_field
word_for_number = refl

no_byte : said_of_line [] ≡ None
unfolding next_record strip_bom
no_byte = refl

-- ---- two banks

abbrev lines : List (List ℕ)
lines = codes "1,0,0,1,1" ∷ codes "2,0,0,1,1" ∷ [] ∷ codes "9,0,0,1,1" ∷ codes "1" ∷ []

rows_of_first : rows_of 1 (map said_of_line lines) ≡ Some one_up ∷ None ∷ []
unfolding next_record strip_bom without_spaces_before end_of_field
rows_of_first = refl

rows_of_second : rows_of 2 (map said_of_line lines) ≡ Some one_up ∷ []
unfolding next_record strip_bom without_spaces_before end_of_field
rows_of_second = refl

one_stray : strays_of (1 ∷ 2 ∷ []) lines ≡ 1
unfolding next_record strip_bom without_spaces_before end_of_field
one_stray = refl

-- ---- ids

-- a second line `bank 1`, line 23 of the text
used_id : IsRefusal (1 ∷ 2 ∷ []) 1 23 (Some (UsedId 23))
used_id = ((0, omega arith, refl), refl)

abbrev sixteen : List ℕ
sixteen = 0 ∷ 1 ∷ 2 ∷ 3 ∷ 4 ∷ 5 ∷ 6 ∷ 7 ∷ 8 ∷ 9 ∷ 10 ∷ 11 ∷ 12 ∷ 13 ∷ 14 ∷ 15 ∷ []

-- a seventeenth bank with an id of the first is refused for its id
used_before_too_many : IsRefusal sixteen 0 23 (Some (UsedId 23))
used_before_too_many = ((0, omega arith, refl), refl)
