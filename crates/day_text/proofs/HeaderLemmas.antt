-- Records of four or five fields: what is said of each is what is said of all.
use Rattle.std.proofs.Common.{◌≡◌, ℕ, List, [], ◌∷◌, map, length, refl, sym, ap, ◌∙◌, arith, Some, Bool, true}
use Rattle.std.specs.Prelude.{option_map}
use Rattle.csv.specs.Records.{field_at}
use Rattle.day_text.specs.declared.headers.Header.{Header}
use Rattle.day_text.specs.declared.headers.Header.TheVariants.{Rows, BankRows}
use Rattle.day_text.specs.Records.{without_spaces, header_fields, SaysRowHeader, SaysBankRowHeader, SaysHeader, fields_of_line, texts_of_line, number_said}
use Rattle.day_text.specs.Records.{row_of_fields, row_of_numbers}

row-header-from : (fields : List (List ℕ)) → SaysRowHeader fields → map without_spaces fields ≡ header_fields Rows
unfolding field_at
row-header-from [] is = let four = is.four in absurd (omega (arith, four))
row-header-from (x ∷ []) is = let four = is.four in absurd (omega (arith, four))
row-header-from (x ∷ y ∷ []) is = let four = is.four in absurd (omega (arith, four))
row-header-from (x ∷ y ∷ z ∷ []) is = let four = is.four in absurd (omega (arith, four))
row-header-from (x ∷ y ∷ z ∷ u ∷ []) is = let a = is.names.time in let b = is.names.origin in let c = is.names.destination in let d = is.names.persons in cc
row-header-from (x ∷ y ∷ z ∷ u ∷ v ∷ rest) is = let four = is.four in absurd (omega (arith, four))

row-header-to : (fields : List (List ℕ)) → map without_spaces fields ≡ header_fields Rows → SaysRowHeader fields
unfolding field_at
row-header-to [] e = absurd cc
row-header-to (x ∷ []) e = absurd cc
row-header-to (x ∷ y ∷ []) e = absurd cc
row-header-to (x ∷ y ∷ z ∷ []) e = absurd cc
row-header-to (x ∷ y ∷ z ∷ u ∷ []) e = record { four = refl; names = record { time = cc; origin = cc; destination = cc; persons = cc } }
row-header-to (x ∷ y ∷ z ∷ u ∷ v ∷ rest) e = absurd cc

bank-row-header-from : (fields : List (List ℕ)) → SaysBankRowHeader fields → map without_spaces fields ≡ header_fields BankRows
unfolding field_at
bank-row-header-from [] is = let five = is.five in absurd (omega (arith, five))
bank-row-header-from (w ∷ []) is = let five = is.five in absurd (omega (arith, five))
bank-row-header-from (w ∷ x ∷ []) is = let five = is.five in absurd (omega (arith, five))
bank-row-header-from (w ∷ x ∷ y ∷ []) is = let five = is.five in absurd (omega (arith, five))
bank-row-header-from (w ∷ x ∷ y ∷ z ∷ []) is = let five = is.five in absurd (omega (arith, five))
bank-row-header-from (w ∷ x ∷ y ∷ z ∷ u ∷ []) is = let a = is.bank in let b = is.names.time in let c = is.names.origin in let d = is.names.destination in
    let e = is.names.persons in cc
bank-row-header-from (w ∷ x ∷ y ∷ z ∷ u ∷ v ∷ rest) is = let five = is.five in absurd (omega (arith, five))

bank-row-header-to : (fields : List (List ℕ)) → map without_spaces fields ≡ header_fields BankRows → SaysBankRowHeader fields
unfolding field_at
bank-row-header-to [] e = absurd cc
bank-row-header-to (w ∷ []) e = absurd cc
bank-row-header-to (w ∷ x ∷ []) e = absurd cc
bank-row-header-to (w ∷ x ∷ y ∷ []) e = absurd cc
bank-row-header-to (w ∷ x ∷ y ∷ z ∷ []) e = absurd cc
bank-row-header-to (w ∷ x ∷ y ∷ z ∷ u ∷ []) e = record { five = refl; bank = cc; names = record { time = cc; origin = cc; destination = cc; persons = cc } }
bank-row-header-to (w ∷ x ∷ y ∷ z ∷ u ∷ v ∷ rest) e = absurd cc

header-from : (header : Header) (fields : List (List ℕ)) → SaysHeader header fields → map without_spaces fields ≡ header_fields header
header-from Rows fields is = row-header-from fields is
header-from BankRows fields is = bank-row-header-from fields is

header-to : (header : Header) (fields : List (List ℕ)) → map without_spaces fields ≡ header_fields header → SaysHeader header fields
header-to Rows fields e = row-header-to fields e
header-to BankRows fields e = bank-row-header-to fields e

-- four fields, and no others, say a row
pub four-fields : (fields : List (List ℕ)) → length fields ≡ 4
    → row_of_fields fields ≡ row_of_numbers (number_said (field_at fields 0)) (number_said (field_at fields 1)) (number_said (field_at fields 2))
    (number_said (field_at fields 3))
unfolding field_at
four-fields [] four = absurd (omega (arith, four))
four-fields (x ∷ []) four = absurd (omega (arith, four))
four-fields (x ∷ y ∷ []) four = absurd (omega (arith, four))
four-fields (x ∷ y ∷ z ∷ []) four = absurd (omega (arith, four))
four-fields (x ∷ y ∷ z ∷ u ∷ []) four = refl
four-fields (x ∷ y ∷ z ∷ u ∷ v ∷ rest) four = absurd (omega (arith, four))

-- what the fields of a line say, the line says
pub header-line : (header : Header) (line : List ℕ) (fields : List (List ℕ)) (b : Bool) → Some fields ≡ fields_of_line line
    → (b ≡ true → SaysHeader header fields) × (SaysHeader header fields → b ≡ true)
    → (b ≡ true → texts_of_line line ≡ Some (header_fields header)) × (texts_of_line line ≡ Some (header_fields header) → b ≡ true)
header-line header line fields b is told =
    let texts : texts_of_line line ≡ Some (map without_spaces fields) = ap (option_map (map without_spaces)) (sym is) in (
      λ h. texts ∙ ap (λ (xs : List (List ℕ)). Some xs) (header-from header fields (told.0 h)),
      λ e. told.1 (header-to header fields (the-fields (map without_spaces fields) (header_fields header) (sym texts ∙ e))),
    )
  where
    the-fields : (xs ys : List (List ℕ)) → Some xs ≡ Some ys → xs ≡ ys
    the-fields xs ys e = cc
