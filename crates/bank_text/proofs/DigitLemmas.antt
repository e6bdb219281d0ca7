-- Decimal digits between commas are the fields of one record.
use Rattle.std.proofs.Common.{◌≡◌, ℕ, ◌+◌, Bool, true, false, cond, ◌&&◌, eqb, List, [], ◌∷◌, ◌++◌, length, take, Option, None, Some, refl, sym, ap, subst, ◌∙◌}
use Rattle.std.proofs.Common.{arith, append-nil, append_assoc}
use Rattle.std.specs.Prelude.{option_map, nat_lt, nat_le}
use Rattle.std.specs.List.{list_all, list_any}
use Rattle.std.specs.Char.{is_ascii_digit}
use Rattle.std.proofs.lemmas.Bool.{and_parts, and_right, leb-true, ne_eqb, or_from}
use Rattle.std.proofs.lemmas.List.{take_all}
use Rattle.csv.specs.Machine.{Read, next_record}
use Rattle.csv.specs.Reading.{default_config, strip_bom}
use Rattle.csv.specs.declared.parser.State.TheVariants as st
use Rattle.csv.proofs.RoundTrip.{record-same, start-same}
use Rattle.day_text.specs.Records.{begins_with_mark, end_of_field, ends_line, fields_of_line, fields_read, is_set_apart, row_of_fields, row_of_line}
use Rattle.day_text.specs.Records.{row_of_record, without_spaces, without_spaces_before}
use Rattle.bank_text.specs.BankRows.{is_number}

-- ---- digits

abbrev pub AreDigits : List ℕ → Type 0
AreDigits text = list_all is_ascii_digit text ≡ true

-- the byte is no mark of a record
pub record IsPlain (b : ℕ) : Type 0 where
  pub comma : eqb b 44 ≡ false
  pub quote : eqb b 34 ≡ false
  pub cr : eqb b 13 ≡ false
  pub feed : eqb b 10 ≡ false
  pub space : eqb b 32 ≡ false
  pub mark : eqb b 0xEF ≡ false
  pub begins_mark : eqb 0xEF b ≡ false

plain : (b : ℕ) → is_ascii_digit b ≡ true → IsPlain b
plain b is =
    let parts = and_parts (nat_le 48 b) (nat_le b 57) is in
    let low = leb-true 48 b parts.0 in
    let high = leb-true b 57 parts.1 in
    record {
      comma = ne_eqb b 44 (λ e. omega (arith, e, low));
      quote = ne_eqb b 34 (λ e. omega (arith, e, low));
      cr = ne_eqb b 13 (λ e. omega (arith, e, low));
      feed = ne_eqb b 10 (λ e. omega (arith, e, low));
      space = ne_eqb b 32 (λ e. omega (arith, e, low));
      mark = ne_eqb b 0xEF (λ e. omega (arith, e, high));
      begins_mark = ne_eqb 0xEF b (λ e. omega (arith, e, high));
    }

-- the first of digits, and those behind it
pub record StartsPlain (b : ℕ) (rest : List ℕ) : Type 0 where
  pub first : IsPlain b
  pub later : AreDigits rest

pub starts_plain : (b : ℕ) (rest : List ℕ) → AreDigits (b ∷ rest) → StartsPlain b rest
starts_plain b rest are = let parts = and_parts (is_ascii_digit b) (list_all is_ascii_digit rest) are in record { first = plain b parts.0; later = parts.1 }

pub digits_of : (text : List ℕ) → is_number text ≡ true → AreDigits text
digits_of text is = (and_parts (nat_lt 0 (length text)) (list_all is_ascii_digit text) is).1

-- ---- digits have no spaces at their ends

begins_whole : (text : List ℕ) → AreDigits text → without_spaces_before text ≡ text
unfolding without_spaces_before
begins_whole [] are = refl
begins_whole (b ∷ rest) are = ap (λ (x : Bool). cond {A = List ℕ} x (without_spaces_before rest) (b ∷ rest)) (starts_plain b rest are).first.space

one_more : (n : ℕ) (x : Bool) → x ≡ false → cond {A = ℕ} (eqb n 0 && x) 0 (n + 1) ≡ n + 1
one_more n x none = ap (λ (y : Bool). cond {A = ℕ} y 0 (n + 1)) (and_right (eqb n 0) x none)

ends_whole : (text : List ℕ) → AreDigits text → end_of_field text ≡ length text
unfolding end_of_field
ends_whole [] are = refl
ends_whole (b ∷ rest) are =
    let is = starts_plain b rest are in
    let later = ends_whole rest is.later in
    one_more (end_of_field rest) (eqb b 32) is.first.space ∙ omega (arith, later)

pub whole_text : (text : List ℕ) → AreDigits text → without_spaces text ≡ text
whole_text text are =
    let end = ends_whole text are in
    ap (λ (t : List ℕ). take (end_of_field t) t) (begins_whole text are) ∙ take_all (end_of_field text) text (omega (arith, end))

-- ---- the record

-- the digits of a field
run : (fields : List (List ℕ)) (field x tail : List ℕ) → AreDigits x
    → next_record default_config st.InField fields field (x ++ tail) ≡ next_record default_config st.InField fields (field ++ x) tail
unfolding next_record
run fields field [] tail are = rw (append-nil field) refl
run fields field (b ∷ rest) tail are =
    let is = starts_plain b rest are in
    let comma = is.first.comma in
    let cr = is.first.cr in
    let feed = is.first.feed in
    rw (comma, cr, feed) (run fields (field ++ (b ∷ [])) rest tail is.later
    ∙ ap (λ (f : List ℕ). next_record default_config st.InField fields f tail) (append_assoc field (b ∷ []) rest))

field_start : (fields : List (List ℕ)) (x tail : List ℕ) → is_number x ≡ true
    → next_record default_config st.StartField fields [] (x ++ tail) ≡ next_record default_config st.InField fields x tail
field_start fields [] tail is = absurd cc
field_start fields (b ∷ rest) tail is =
    let are = digits_of (b ∷ rest) is in
    start-same fields [] b (rest ++ tail) (starts_plain b rest are).first.quote ∙ run fields [] (b ∷ rest) tail are

record_start : (x tail : List ℕ) → is_number x ≡ true
    → next_record default_config st.StartRecord [] [] (x ++ tail) ≡ next_record default_config st.InField [] x tail
record_start [] tail is = absurd cc
record_start (b ∷ rest) tail is =
    let first = (starts_plain b rest (digits_of (b ∷ rest) is)).first in
    record-same [] [] b (rest ++ tail) first.cr first.feed ∙ field_start [] (b ∷ rest) tail is

-- a comma ends a field, and the end of the line the record
field_end : (fields : List (List ℕ)) (x tail : List ℕ)
    → next_record default_config st.InField fields x (44 ∷ tail) ≡ next_record default_config st.StartField (fields ++ (x ∷ [])) [] tail
unfolding next_record
field_end fields x tail = refl

record_end : (fields : List (List ℕ)) (x : List ℕ) → next_record default_config st.InField fields x [] ≡ Some (fields ++ (x ∷ []), st.StartRecord, [])
unfolding next_record
record_end fields x = refl

last_field : (fields : List (List ℕ)) (x : List ℕ) → is_number x ≡ true
    → next_record default_config st.StartField fields [] x ≡ Some (fields ++ (x ∷ []), st.StartRecord, [])
last_field fields x is =
    ap (λ (t : List ℕ). next_record default_config st.StartField fields [] t) (sym (append-nil x)) ∙ field_start fields x [] is ∙ record_end fields x

four_fields : (a b c d : List ℕ) → is_number a ≡ true → is_number b ≡ true → is_number c ≡ true → is_number d ≡ true
    → next_record default_config st.StartRecord [] [] (a ++ (44 ∷ (b ++ (44 ∷ (c ++ (44 ∷ d)))))) ≡ Some (a ∷ b ∷ c ∷ d ∷ [], st.StartRecord, [])
four_fields a b c d first second third fourth =
    record_start a (44 ∷ (b ++ (44 ∷ (c ++ (44 ∷ d))))) first
    ∙ field_end [] a (b ++ (44 ∷ (c ++ (44 ∷ d))))
    ∙ field_start (a ∷ []) b (44 ∷ (c ++ (44 ∷ d))) second
    ∙ field_end (a ∷ []) b (c ++ (44 ∷ d))
    ∙ field_start (a ∷ b ∷ []) c (44 ∷ d) third
    ∙ field_end (a ∷ b ∷ []) c d
    ∙ last_field (a ∷ b ∷ c ∷ []) d fourth

-- ---- the line

no_end : (x rest : List ℕ) → AreDigits x → list_any ends_line rest ≡ false → list_any ends_line (x ++ rest) ≡ false
no_end [] rest are none = none
no_end (b ∷ x) rest are none =
    let is = starts_plain b x are in
    or_from (ends_line b) (list_any ends_line (x ++ rest)) (or_from (eqb b 10) (eqb b 13) is.first.feed is.first.cr) (no_end x rest is.later none)

not_marked : (b : ℕ) (rest : List ℕ) → eqb 0xEF b ≡ false → begins_with_mark (b ∷ rest) ≡ false
not_marked b rest other = rw other refl

no_mark : (b : ℕ) (rest : List ℕ) → eqb b 0xEF ≡ false → strip_bom (b ∷ rest) ≡ b ∷ rest
unfolding strip_bom
no_mark b [] other = refl
no_mark b (c ∷ []) other = refl
no_mark b (c ∷ d ∷ rest) other = rw other refl

fields_from : (b : ℕ) (rest : List ℕ) (fields : List (List ℕ)) → IsPlain b → list_any ends_line (b ∷ rest) ≡ false
    → next_record default_config st.StartRecord [] [] (b ∷ rest) ≡ Some (fields, st.StartRecord, [])
    → fields_of_line (b ∷ rest) ≡ Some fields
fields_from b rest fields is none read =
    let apart : is_set_apart (b ∷ rest) ≡ false =
    or_from (begins_with_mark (b ∷ rest)) (list_any ends_line (b ∷ rest)) (not_marked b rest is.begins_mark) none in
    ap (λ (x : Bool). cond {A = Option (List (List ℕ))} x None (fields_read (b ∷ rest))) apart
    ∙ ap (λ (line : List ℕ). option_map (λ (p : Read). p.0) (next_record default_config st.StartRecord [] [] line)) (no_mark b rest is.mark)
    ∙ ap (option_map (λ (p : Read). p.0)) read

-- what is read of a line of four numbers
pub row_again : (a b c d : List ℕ) → is_number a ≡ true → is_number b ≡ true → is_number c ≡ true → is_number d ≡ true
    → row_of_line (a ++ (44 ∷ (b ++ (44 ∷ (c ++ (44 ∷ d)))))) ≡ row_of_fields (a ∷ b ∷ c ∷ d ∷ [])
row_again [] b c d first second third fourth = absurd cc
row_again (x ∷ a) b c d first second third fourth =
    let last : list_any ends_line d ≡ false = subst (λ (t : List ℕ). list_any ends_line t ≡ false) (append-nil d) (no_end d [] (digits_of d fourth) refl) in
    let none = no_end (x ∷ a) (44 ∷ (b ++ (44 ∷ (c ++ (44 ∷ d))))) (digits_of (x ∷ a) first)
    (no_end b (44 ∷ (c ++ (44 ∷ d))) (digits_of b second) (no_end c (44 ∷ d) (digits_of c third) last)) in
    ap row_of_record (fields_from x (a ++ (44 ∷ (b ++ (44 ∷ (c ++ (44 ∷ d)))))) ((x ∷ a) ∷ b ∷ c ∷ d ∷ [])
    (starts_plain x a (digits_of (x ∷ a) first)).first none (four_fields (x ∷ a) b c d first second third fourth))
