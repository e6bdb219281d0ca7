-- What is read of a number, with its code.
use Rattle.std.proofs.Common.{◌≡◌, ℕ, ◌<◌, ◌≤◌, Bool, true, false, cond, List, length, rules, IfOk, Option, None, Some, Result, Ok, Err, ◌^◌, ap, refl, arith}
use Rattle.std.proofs.Common.{◌∙◌, sym, subst}
use mir.Syntax.{w128}
use mir.Val.{SFits, to_z, of_z}
use Rattle.std.proofs.lemmas.Int.{to_z-of_z}
use Rattle.std.specs.Prelude.{ℤ, pos, ◌||◌, ◌&&◌, nat_lt, int_lt, option_map, decimal}
use Rattle.std.specs.Char.{is_ascii_digit}
use Rattle.std.specs.List.{list_all}
use Rattle.std.specs.Str.Parse.{digits_value}
use Rattle.std.proofs.lemmas.Str.Parse.{IsDigitsTest, IsNumeralModel, numerals_by_value}
use Rattle.std.proofs.lemmas.Fmt.{digits_decimal, digits_value-decimal, decimal_nonempty}
use Rattle.std.proofs.lemmas.Bool.Decides.{nat_tests}
use Rattle.lift_text.specs.Numbers.{digits_number, number_of, in_range, read_number}
use Rattle.lift_text.specs.declared.numbers.NumberFault.{NumberFault}
use Rattle.lift_text.specs.declared.codes.TextCode.{TextCode}
use Rattle.lift_text.specs.declared.codes.TextCode.TheVariants.{OutOfRange}
use Rattle.text_sections.specs.Judging.{Judged}
use Rattle.text_sections.specs.Words.{within, signed_within, number_judged, number, word_at}

-- what the reader answers, with its code
pub judged_in_range : (low high : ℤ) (value : Option ℤ) → number_judged (in_range low high value) ≡ signed_within low high value
judged_in_range low high None = refl
judged_in_range low high (Some value) = by_case (int_lt value low || int_lt high value) refl
  where
    by_case : (outside : Bool) → (int_lt value low || int_lt high value) ≡ outside
        → number_judged (in_range low high (Some value)) ≡ signed_within low high (Some value)
    by_case true is = rw is refl
    by_case false is = rw is refl

-- a number without a sign, as one with a sign
abbrev pub as_signed : Judged ℕ → Judged ℤ
as_signed (Ok n) = Ok (pos n)
as_signed (Err code) = Err code

pub signed_number : (low high : ℕ) (word : List ℕ)
    → signed_within (pos low) (pos high) (number_of (int_lt (pos low) (pos 0)) word) ≡ as_signed (within low high (digits_number word))
signed_number low high word = ap (λ b. signed_within (pos low) (pos high) (number_of b word)) (not_below low) ∙ by_case (digits_number word)
  where
    not_below : (n : ℕ) → nat_lt n 0 ≡ false
    not_below n = grind (arith, nat_tests)

    by_test : (outside : Bool) (n : ℕ) → cond outside (Err OutOfRange) (Ok (pos n)) ≡ as_signed (cond outside (Err OutOfRange) (Ok n))
    by_test true n = refl
    by_test false n = refl

    by_case : (value : Option ℕ) → signed_within (pos low) (pos high) (option_map pos value) ≡ as_signed (within low high value)
    by_case None = refl
    by_case (Some n) = by_test (nat_lt n low || nat_lt high n) n

pub within_high : (low high n : ℕ) (value : Option ℕ) → within low high value ≡ Ok n → n ≤ high
within_high low high n None is = absurd cc
within_high low high n (Some m) is = by_test (nat_lt m low) (nat_lt high m) refl refl is
  where
    by_test : (below above : Bool) → nat_lt m low ≡ below → nat_lt high m ≡ above → cond (below || above) (Err OutOfRange) (Ok m) ≡ Ok n → n ≤ high
    by_test true above b a same = absurd cc
    by_test false true b a same = absurd cc
    by_test false false b a same = let same_number : m ≡ n = cc in grind (arith, nat_tests)

-- what the reader answers of a number, with its code
pub signed_answer : (low high low' high' : ℤ) (word : List ℕ) (answer : Result ℤ NumberFault) → low' ≡ low → high' ≡ high → answer ≡ read_number low' high' word
    → number_judged answer ≡ signed_within low high (number_of (int_lt low (pos 0)) word)
signed_answer low high low' high' word answer same_low same_high is =
    ap number_judged (is ∙ ap (λ z. read_number z high' word) same_low ∙ ap (λ z. read_number low z word) same_high)
    ∙ judged_in_range low high (number_of (int_lt low (pos 0)) word)

pub is_within : (low high : ℕ) (value : Option ℕ) → IfOk (within low high value) (λ n. (low ≤ n) × (n ≤ high))
is_within low high None = tt
is_within low high (Some m) = by_test (nat_lt m low) (nat_lt high m) refl refl
  where
    by_test : (below above : Bool) → nat_lt m low ≡ below → nat_lt high m ≡ above
        → IfOk (cond (below || above) (Err OutOfRange) (Ok m)) (λ n. (low ≤ n) × (n ≤ high))
    by_test true above b a = tt
    by_test false true b a = tt
    by_test false false b a = (grind (arith, nat_tests), grind (arith, nat_tests))

-- a number without a sign that was read
pub record IsNatural (low high : ℕ) (word : List ℕ) (value : ℤ) : Type 0 where
  pub natural : ℕ
  pub is : value ≡ pos natural
  pub not_above : natural ≤ high
  pub found : within low high (digits_number word) ≡ Ok natural

pub natural_value : (low high : ℕ) (word : List ℕ) (value low' high' : ℤ) → low' ≡ pos low → high' ≡ pos high
    → Ok value ≡ signed_within low' high' (number_of (int_lt low' (pos 0)) word)
    → IsNatural low high word value
natural_value low high word value low' high' same_low same_high is =
    by_case (within low high (digits_number word)) refl
    (is ∙ ap (λ z. signed_within z high' (number_of (int_lt z (pos 0)) word)) same_low
    ∙ ap (λ z. signed_within (pos low) z (number_of (int_lt (pos low) (pos 0)) word)) same_high ∙ signed_number low high word)
  where
    by_case : (judged : Judged ℕ) → within low high (digits_number word) ≡ judged → Ok value ≡ as_signed judged → IsNatural low high word value
    by_case (Ok n) found same = record { natural = n; is = cc; not_above = within_high low high n (digits_number word) found; found = found }
    by_case (Err code) found same = absurd cc

pub natural_error : (low high : ℕ) (word : List ℕ) (code : TextCode) (low' high' : ℤ) → low' ≡ pos low → high' ≡ pos high
    → Err code ≡ signed_within low' high' (number_of (int_lt low' (pos 0)) word)
    → Err code ≡ within low high (digits_number word)
natural_error low high word code low' high' same_low same_high is =
    by_case (within low high (digits_number word))
    (is ∙ ap (λ z. signed_within z high' (number_of (int_lt z (pos 0)) word)) same_low
    ∙ ap (λ z. signed_within (pos low) z (number_of (int_lt (pos low) (pos 0)) word)) same_high ∙ signed_number low high word)
  where
    by_case : (judged : Judged ℕ) → Err code ≡ as_signed judged → Err code ≡ judged
    by_case (Ok n) same = absurd cc
    by_case (Err other) same = cc

-- a number of 64 bits as one of 128 with a sign
pub widened : (n : ℕ) (value : ℤ) → value ≡ pos n → n < 2 ^ 64 → to_z w128 (of_z w128 value) ≡ pos n
widened n value is small = to_z-of_z w128 value (subst (SFits w128) (sym is) (record { sfits = omega arith })) ∙ is

own : IsNumeralModel (λ digits. list_all is_ascii_digit digits ≡ true) (digits_value 10)
own = numerals_by_value (λ digits. list_all is_ascii_digit digits ≡ true) tells_digits_by_all
  where
    tells_digits_by_all : IsDigitsTest (λ digits. list_all is_ascii_digit digits ≡ true)
    tells_digits_by_all = search rules

-- a number that was written is read again
pub number_again : (n low high : ℕ) → n < 2 ^ 64 → low ≤ n → n ≤ high → within low high (digits_number (decimal n)) ≡ Ok n
number_again n low high small above below =
    let digits : list_all is_ascii_digit (decimal n) ≡ true = digits_decimal own n small in
    let value : digits_value 10 (decimal n) ≡ n = digits_value-decimal own n small in
    let some = decimal_nonempty n small in
    let has : nat_lt 0 (length (decimal n)) ≡ true = grind (arith, nat_tests) in
    let not_below : nat_lt n low ≡ false = grind (arith, nat_tests) in
    let not_above : nat_lt high n ≡ false = grind (arith, nat_tests) in
    ap (λ e. within low high (cond (e && list_all is_ascii_digit (decimal n)) (Some (digits_value 10 (decimal n))) None)) has
    ∙ ap (λ e. within low high (cond e (Some (digits_value 10 (decimal n))) None)) digits
    ∙ ap (λ m. within low high (Some m)) value
    ∙ ap (λ e. cond (e || nat_lt high n) (Err OutOfRange) (Ok n)) not_below
    ∙ ap (λ e. cond e (Err OutOfRange) (Ok n)) not_above

pub written_number : (line : List (List ℕ)) (k n low high : ℕ) → n < 2 ^ 64 → word_at line k ≡ decimal n → low ≤ n → n ≤ high → number line k low high ≡ Ok n
written_number line k n low high small is above below = ap (λ word. within low high (digits_number word)) is ∙ number_again n low high small above below

pub number_in : (line : List (List ℕ)) (k low high n : ℕ) → number line k low high ≡ Ok n → (low ≤ n) × (n ≤ high)
number_in line k low high n is = subst (λ (r : Judged ℕ). IfOk r (λ m. (low ≤ m) × (m ≤ high))) is (is_within low high (digits_number (word_at line k)))

pub number_one : (line : List (List ℕ)) (n : ℕ) → number line 1 1 1 ≡ Ok n → 1 ≡ n
number_one line n is = let both = number_in line 1 1 1 n is in omega (arith, both)
