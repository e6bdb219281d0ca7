-- The row that is kept of the fields behind an id says what they say.
use Rattle.std.proofs.Common.{◌≡◌, ℕ, Bool, true, false, cond, List, [], ◌∷◌, length, Option, None, Some, Result, Ok, Err, IfOk, refl, sym, ap, subst, ◌∙◌}
use Rattle.std.proofs.Common.{arith}
use Rattle.std.specs.Prelude.{option_map}
use Rattle.std.specs.Str.Parse.{digits_value}
use Rattle.std.proofs.lemmas.Option.{cond_some, same_Some}
use Rattle.csv.specs.Records.{field_at}
use Rattle.lift_text.specs.Numbers.{digits_number}
use Rattle.search_model.specs.Days.{Row}
use Rattle.day_text.specs.Records.{number_of_field, row_of_fields, row_of_line, row_of_numbers, without_spaces}
use Rattle.bank_text.specs.declared.banks.BankRow.{BankRow}
use Rattle.bank_text.specs.BankRows.{RowTexts, digits_said, four_texts, id_said, is_number, row_behind, row_said, said_of_fields, said_with, texts_line}
use Rattle.bank_text.proofs.DigitLemmas.{digits_of, row_again, whole_text}

-- ---- one field

-- the digits in a field are a number, and the field's
record IsNumberOf (field text : List ℕ) : Type 0 where
  number : is_number text ≡ true
  same : number_of_field text ≡ number_of_field field

number_of : (field text : List ℕ) → digits_said (Some field) ≡ Some text → IsNumberOf field text
number_of field text is =
    let parts = cond_some (is_number (without_spaces field)) (without_spaces field) text is in
    let number = subst (λ (t : List ℕ). is_number t ≡ true) parts.1 parts.0 in
    record { number = number; same = ap digits_number (whole_text text (digits_of text number) ∙ sym parts.1) }

none_by : (b : Bool) (x : List ℕ) (n : ℕ) → cond {A = Option (List ℕ)} b (Some x) None ≡ None → cond {A = Option ℕ} b (Some n) None ≡ None
none_by true x n none = absurd cc
none_by false x n none = refl

no_number : (field : List ℕ) → digits_said (Some field) ≡ None → number_of_field field ≡ None
no_number field none = none_by (is_number (without_spaces field)) (without_spaces field) (digits_value 10 (without_spaces field)) none

-- ---- four fields

record AreFour (a b c d : Option (List ℕ)) (texts : RowTexts) : Type 0 where
  time : a ≡ Some texts.time
  origin : b ≡ Some texts.origin
  destination : c ≡ Some texts.destination
  persons : d ≡ Some texts.persons

all_four : (a b c d : Option (List ℕ)) (texts : RowTexts) → four_texts a b c d ≡ Some texts → AreFour a b c d texts
all_four None b c d texts is = absurd cc
all_four (Some a) None c d texts is = absurd cc
all_four (Some a) (Some b) None d texts is = absurd cc
all_four (Some a) (Some b) (Some c) None texts is = absurd cc
all_four (Some a) (Some b) (Some c) (Some d) texts is =
    let same = same_Some (record { time = a; origin = b; destination = c; persons = d }) texts is in
    record {
      time = ap (λ (t : RowTexts). Some t.time) same;
      origin = ap (λ (t : RowTexts). Some t.origin) same;
      destination = ap (λ (t : RowTexts). Some t.destination) same;
      persons = ap (λ (t : RowTexts). Some t.persons) same;
    }

same_numbers : (a b c d a' b' c' d' : Option ℕ) → a ≡ a' → b ≡ b' → c ≡ c' → d ≡ d' → row_of_numbers a b c d ≡ row_of_numbers a' b' c' d'
same_numbers a b c d a' b' c' d' first second third fourth =
    ap (λ (n : Option ℕ). row_of_numbers n b c d) first ∙ ap (λ (n : Option ℕ). row_of_numbers a' n c d) second
    ∙ ap (λ (n : Option ℕ). row_of_numbers a' b' n d) third
    ∙ ap (λ (n : Option ℕ). row_of_numbers a' b' c' n) fourth

no_second : (a c d : Option ℕ) → row_of_numbers a None c d ≡ None
no_second None c d = refl
no_second (Some a) c d = refl

no_third : (a b d : Option ℕ) → row_of_numbers a b None d ≡ None
no_third None b d = refl
no_third (Some a) None d = refl
no_third (Some a) (Some b) d = refl

no_fourth : (a b c : Option ℕ) → row_of_numbers a b c None ≡ None
no_fourth None b c = refl
no_fourth (Some a) None c = refl
no_fourth (Some a) (Some b) None = refl
no_fourth (Some a) (Some b) (Some c) = refl

-- where some field has no digits, no row is said
some_missing : (p q r s : Option (List ℕ)) (a b c d : Option ℕ) → (p ≡ None → a ≡ None) → (q ≡ None → b ≡ None) → (r ≡ None → c ≡ None) → (s ≡ None → d ≡ None)
    → four_texts p q r s ≡ None → row_of_numbers a b c d ≡ None
some_missing None q r s a b c d first second third fourth none = ap (λ (n : Option ℕ). row_of_numbers n b c d) (first refl)
some_missing (Some p) None r s a b c d first second third fourth none = ap (λ (n : Option ℕ). row_of_numbers a n c d) (second refl) ∙ no_second a c d
some_missing (Some p) (Some q) None s a b c d first second third fourth none = ap (λ (n : Option ℕ). row_of_numbers a b n d) (third refl) ∙ no_third a b d
some_missing (Some p) (Some q) (Some r) None a b c d first second third fourth none = ap (λ (n : Option ℕ). row_of_numbers a b c n) (fourth refl)
    ∙ no_fourth a b c
some_missing (Some p) (Some q) (Some r) (Some s) a b c d first second third fourth none = absurd cc

-- ---- the row

four_behind : (f g h k l : List ℕ) (texts : RowTexts)
    → four_texts (digits_said (Some g)) (digits_said (Some h)) (digits_said (Some k)) (digits_said (Some l)) ≡ Some texts
    → row_of_line (texts_line texts) ≡ row_behind (f ∷ g ∷ h ∷ k ∷ l ∷ [])
four_behind f g h k l texts is =
    let four = all_four (digits_said (Some g)) (digits_said (Some h)) (digits_said (Some k)) (digits_said (Some l)) texts is in
    let time = number_of g texts.time four.time in
    let origin = number_of h texts.origin four.origin in
    let destination = number_of k texts.destination four.destination in
    let persons = number_of l texts.persons four.persons in
    row_again texts.time texts.origin texts.destination texts.persons time.number origin.number destination.number persons.number
    ∙ same_numbers (number_of_field texts.time) (number_of_field texts.origin) (number_of_field texts.destination) (number_of_field texts.persons)
    (number_of_field g) (number_of_field h) (number_of_field k) (number_of_field l) time.same origin.same destination.same persons.same

digits_row : (fields : List (List ℕ)) (texts : RowTexts) → length fields ≡ 5
    → Some texts ≡ four_texts (digits_said (field_at fields 1)) (digits_said (field_at fields 2)) (digits_said (field_at fields 3))
    (digits_said (field_at fields 4))
    → row_of_line (texts_line texts) ≡ row_behind fields
unfolding field_at
digits_row [] texts five is = absurd (omega (arith, five))
digits_row (f ∷ []) texts five is = absurd (omega (arith, five))
digits_row (f ∷ g ∷ []) texts five is = absurd (omega (arith, five))
digits_row (f ∷ g ∷ h ∷ []) texts five is = absurd (omega (arith, five))
digits_row (f ∷ g ∷ h ∷ k ∷ []) texts five is = absurd (omega (arith, five))
digits_row (f ∷ g ∷ h ∷ k ∷ l ∷ []) texts five is = four_behind f g h k l texts (sym is)
digits_row (f ∷ g ∷ h ∷ k ∷ l ∷ m ∷ rest) texts five is = absurd (omega (arith, five))

pub no_digits : (fields : List (List ℕ)) → length fields ≡ 5
    → None ≡ four_texts (digits_said (field_at fields 1)) (digits_said (field_at fields 2)) (digits_said (field_at fields 3)) (digits_said (field_at fields 4))
    → None ≡ row_behind fields
unfolding field_at
no_digits [] five is = absurd (omega (arith, five))
no_digits (f ∷ []) five is = absurd (omega (arith, five))
no_digits (f ∷ g ∷ []) five is = absurd (omega (arith, five))
no_digits (f ∷ g ∷ h ∷ []) five is = absurd (omega (arith, five))
no_digits (f ∷ g ∷ h ∷ k ∷ []) five is = absurd (omega (arith, five))
no_digits (f ∷ g ∷ h ∷ k ∷ l ∷ []) five is =
    sym (some_missing (digits_said (Some g)) (digits_said (Some h)) (digits_said (Some k)) (digits_said (Some l))
    (number_of_field g) (number_of_field h) (number_of_field k) (number_of_field l) (no_number g) (no_number h) (no_number k) (no_number l) (sym is))
no_digits (f ∷ g ∷ h ∷ k ∷ l ∷ m ∷ rest) five is = absurd (omega (arith, five))

pub other_count : (fields : List (List ℕ)) → (length fields ≡ 5 → ⊥) → None ≡ row_behind fields
other_count [] other = refl
other_count (f ∷ []) other = refl
other_count (f ∷ g ∷ []) other = refl
other_count (f ∷ g ∷ h ∷ []) other = refl
other_count (f ∷ g ∷ h ∷ k ∷ []) other = refl
other_count (f ∷ g ∷ h ∷ k ∷ l ∷ []) other = absurd (other refl)
other_count (f ∷ g ∷ h ∷ k ∷ l ∷ m ∷ rest) other = refl

pub row_made : {E : Type 0} (fields : List (List ℕ)) (texts : RowTexts) (made : Result BankRow E) → length fields ≡ 5
    → Some texts ≡ four_texts (digits_said (field_at fields 1)) (digits_said (field_at fields 2)) (digits_said (field_at fields 3))
    (digits_said (field_at fields 4))
    → IfOk made (λ row. row_said row ≡ row_of_line (texts_line texts)) → IfOk made (λ row. row_said row ≡ row_behind fields)
row_made fields texts (Ok row) five is made = made ∙ digits_row fields texts five is
row_made fields texts (Err error) five is made = tt

-- ---- an id and a row

pub nothing_said : (fields : List (List ℕ)) → None ≡ id_said (field_at fields 0) → None ≡ said_of_fields fields
unfolding field_at
nothing_said [] none = refl
nothing_said (f ∷ rest) none = ap (option_map (said_with (row_of_fields rest))) none

pub both_said : (fields : List (List ℕ)) (id : ℕ) (row : Option Row) → Some id ≡ id_said (field_at fields 0) → row ≡ row_behind fields
    → Some (said_with row id) ≡ said_of_fields fields
unfolding field_at
both_said [] id row is same = absurd cc
both_said (f ∷ rest) id row is same = ap (λ (r : Option Row). Some (said_with r id)) same ∙ ap (option_map (said_with (row_of_fields rest))) is
