-- Numbers of more than 64 bits in decimal digits.
use Rattle.std.proofs.Common.{◌≡◌, ℕ, suc, ◌+◌, ◌/◌, ◌%◌, ◌^◌, ◌<◌, ◌≤◌, ◌&&◌, ◌==◌, drop, Bool, true, false, cond, List, [], ◌∷◌, ◌++◌, length, Some, None}
use Rattle.std.proofs.Common.{refl, sym, ap, ◌∙◌, subst, arith, length-append}
use Rattle.std.specs.Prelude.{ℤ, pos, negsuc, neg_ℤ, nat_lt, decimal, option_map, if◌then◌else◌}
use Rattle.std.specs.List.{list_all, AllByRecursion}
use Rattle.std.specs.Char.{is_ascii_digit, digit_value}
use Rattle.std.specs.Fmt.{signed_decimal}
use Rattle.std.specs.Str.Parse.{digits_value}
use Rattle.std.proofs.lemmas.Bool.{and_parts, ne_eqb, false≢true}
use Rattle.std.proofs.lemmas.Bool.Decides.{nat_tests}
use Rattle.std.proofs.lemmas.Int.Digits.{digits_value_push}
use Rattle.std.proofs.lemmas.Str.{digit_value_digit}
use Rattle.std.proofs.lemmas.List.Folds.{list_all-append}
use Rattle.std.proofs.lemmas.Fmt.{decimal_by_steps_wide}
use Rattle.lift_text.specs.Numbers.{digits_number, number_of, starts_with_minus}
use Rattle.text_sections.specs.Canonical.{IsWordByte}

-- ---- the digits of a number

-- digits that write this number
pub record Writes (n : ℕ) (ds : List ℕ) : Type 0 where
  pub digits : list_all is_ascii_digit ds ≡ true
  pub some : 0 < length ds
  pub value : digits_value 10 ds ≡ n
  pub bytes : AllByRecursion IsWordByte ds

is_digit : (d : ℕ) → d < 10 → is_ascii_digit (48 + d) ≡ true
is_digit d low = grind (arith, nat_tests)

digit_byte : (d : ℕ) → d < 10 → IsWordByte (48 + d)
digit_byte d low = (omega arith, omega arith, λ is. omega (arith, is))

value_of_digit : (d : ℕ) → d < 10 → digit_value (48 + d) ≡ d
value_of_digit d low = let e = digit_value_digit (48 + d) (omega arith, omega arith) in omega (arith, e)

bytes-append : (xs ys : List ℕ) → AllByRecursion IsWordByte xs → AllByRecursion IsWordByte ys → AllByRecursion IsWordByte (xs ++ ys)
bytes-append [] ys all more = more
bytes-append (x ∷ xs) ys all more = (all.0, bytes-append xs ys all.1 more)

writes_one : (n : ℕ) → n < 10 → Writes n ((48 + n) ∷ [])
writes_one n low = record {
  digits = ap (λ (b : Bool). b && true) (is_digit n low);
  some = omega arith;
  value =
      (let push = digits_value_push 10 [] (48 + n) in let digit = value_of_digit n low in let none : digits_value 10 [] ≡ 0 = refl in
      omega (arith, push, digit, none));
  bytes = (digit_byte n low, tt);
}

writes_more : (n : ℕ) (ds : List ℕ) → 10 ≤ n → Writes (n / 10) ds → Writes n (ds ++ ((48 + n % 10) ∷ []))
writes_more n ds high before =
    let low : n % 10 < 10 = omega arith in
    let size = length-append ds ((48 + n % 10) ∷ []) in
    let value = digits_value_push 10 ds (48 + n % 10) in
    record {
      digits = list_all-append is_ascii_digit ds ((48 + n % 10) ∷ []) ∙ ap (λ (b : Bool). b && (is_ascii_digit (48 + n % 10) && true)) before.digits
          ∙ ap (λ (b : Bool). b && true) (is_digit (n % 10) low);
      some = omega (arith, size);
      value = (let digit = value_of_digit (n % 10) low in omega (arith, value, digit, before.value));
      bytes = bytes-append ds ((48 + n % 10) ∷ []) before.bytes (digit_byte (n % 10) low, tt);
    }

pub writes : (n : ℕ) → n < 10 ^ 64 → Writes n (decimal n)
writes n small = decimal_by_steps_wide Writes writes_one writes_more n small

digits_again : (n : ℕ) → n < 10 ^ 64 → digits_number (decimal n) ≡ Some n
digits_again n small =
    let w = writes n small in
    let has : nat_lt 0 (length (decimal n)) ≡ true = (let some = w.some in grind (arith, nat_tests)) in
    ap (λ (e : Bool). cond (e && list_all is_ascii_digit (decimal n)) (Some (digits_value 10 (decimal n))) None) has
    ∙ ap (λ (e : Bool). cond e (Some (digits_value 10 (decimal n))) None) w.digits
    ∙ ap (λ (m : ℕ). Some m) w.value

-- ---- numbers with a sign

-- the absolute value
abbrev pub IsSize : ℤ → ℕ → Type 0
IsSize (pos m) n = m ≡ n
IsSize (negsuc m) n = suc m ≡ n

-- digits begin with no sign
no_sign : (n : ℕ) → n < 10 ^ 64 → starts_with_minus (decimal n) ≡ false
no_sign n small = by_bytes (decimal n) (writes n small).digits
  where
    by_bytes : (ds : List ℕ) → list_all is_ascii_digit ds ≡ true → starts_with_minus ds ≡ false
    by_bytes [] all = refl
    by_bytes (d ∷ ds) all = by_first d (and_parts (is_ascii_digit d) (list_all is_ascii_digit ds) all).0
      where
        by_first : (d : ℕ) → is_ascii_digit d ≡ true → (d == 45) ≡ false
        by_first d is = ne_eqb d 45 (λ same. false≢true (ap is_ascii_digit (sym same) ∙ is))

pub signed_again : (z : ℤ) (n : ℕ) → n < 10 ^ 64 → IsSize z n → number_of true (signed_decimal z) ≡ Some z
signed_again (pos m) n small size =
    let same : m < 10 ^ 64 = subst (λ (k : ℕ). k < 10 ^ 64) (sym size) small in
    ap (λ (b : Bool). if true && b then option_map (λ k. neg_ℤ (pos k)) (digits_number (drop 1 (decimal m))) else option_map pos (digits_number (decimal m)))
    (no_sign m same)
    ∙ ap (option_map pos) (digits_again m same)
signed_again (negsuc m) n small size =
    let same : suc m < 10 ^ 64 = subst (λ (k : ℕ). k < 10 ^ 64) (sym size) small in
    ap (option_map (λ k. neg_ℤ (pos k))) (digits_again (suc m) same)
