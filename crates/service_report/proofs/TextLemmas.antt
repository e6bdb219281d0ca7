-- Fields that are written as they are, and the lines of such fields.
use Rattle.std.proofs.Common.{◌≡◌, ◌≢◌, ℕ, ◌+◌, ◌%◌, ◌<◌, ◌≤◌, ◌^◌, true, false, List, [], ◌∷◌, ◌++◌, Option, Some, None, Result, Ok, Err, refl, sym, ap, subst}
use Rattle.std.proofs.Common.{◌∙◌, arith, append_assoc, eqb}
use Rattle.std.specs.Prelude.{decimal}
use Rattle.std.proofs.lemmas.Bool.{ne_eqb}
use Rattle.std.proofs.lemmas.Fmt.{decimal_by_steps}
use Rattle.std.proofs.lemmas.List.{append-nil}
use Rattle.std.proofs.lemmas.List.Folds.{list_any-append}
use Rattle.std.specs.Result.{OnOk, is_ok}
use Rattle.std.specs.Io.KnownBytes.{Appends}
use Rattle.csv.specs.Writing.{default_writer, row_text, fields_text, is_blank, needs_byte, writer_setup, fields_written, has_written, text_written}
use Rattle.csv.specs.declared.writer.Writer.{Writer}
use Rattle.csv.specs.declared.writer.WriterBuilder.{WriterBuilder}
use Rattle.csv.specs.declared.writer.QuoteStyle.TheVariants as style
use Rattle.service_report.specs.ReportTexts.{line_of}
use Rattle.service_report.specs.Writers.{HasWritten, IsPlain}

-- a byte from the slash to the digit 9 is plain
plain_byte : (b : ℕ) → 47 ≤ b → b ≤ 57 → needs_byte default_writer b ≡ false
plain_byte b low high =
    let comma : eqb b 44 ≡ false = ne_eqb b 44 (λ is. omega (arith, is)) in
    let quote : eqb b 34 ≡ false = ne_eqb b 34 (λ is. omega (arith, is)) in
    let carriage : eqb b 13 ≡ false = ne_eqb b 13 (λ is. omega (arith, is)) in
    let feed : eqb b 10 ≡ false = ne_eqb b 10 (λ is. omega (arith, is)) in
    rw (comma, quote, carriage, feed)

plain_one : (b : ℕ) → 47 ≤ b → b ≤ 57 → IsPlain (b ∷ [])
plain_one b low high = rw (plain_byte b low high)

pub plain-append : (xs ys : List ℕ) → IsPlain xs → IsPlain ys → IsPlain (xs ++ ys)
plain-append xs ys a b = list_any-append (needs_byte default_writer) xs ys ∙ rw (a, b)

pub plain_decimal : (n : ℕ) → n < 2 ^ 64 → IsPlain (decimal n)
plain_decimal n small =
    decimal_by_steps (λ m text. IsPlain text)
    (λ d low. plain_one (48 + d) (omega arith) (omega arith))
    (λ m ds large before. plain-append ds ((48 + m % 10) ∷ []) before (plain_one (48 + m % 10) (omega arith) (omega arith)))
    n small

pub plain_slash : (xs ys : List ℕ) → IsPlain xs → IsPlain ys → IsPlain (xs ++ 47 ∷ ys)
plain_slash xs ys a b = plain-append xs (47 ∷ ys) a (plain-append (47 ∷ []) ys refl b)

pub row_is : (measure wait ride total : List ℕ) → IsPlain measure → IsPlain wait → IsPlain ride → IsPlain total
    → row_text default_writer (measure ∷ wait ∷ ride ∷ total ∷ []) ≡ line_of measure wait ride total
unfolding is_blank fields_text
row_is measure wait ride total a b c d = rw (a, b, c, d) (simp (append_assoc, append-nil))

appends_some : (known : Option (List ℕ)) (text row : List ℕ) → Appends (Some text) known row → known ≡ Some (text ++ row)
appends_some None text row h = absurd h
appends_some (Some all) text row h = ap Some h

-- a record of four plain fields is a line
pub line_written : {W : Type 0} (contents : W → Option (List ℕ)) (old new : Writer W) (text measure wait ride total : List ℕ) → IsPlain measure → IsPlain wait
    → IsPlain ride → IsPlain total → HasWritten contents old text → writer_setup new ≡ writer_setup old → fields_written new ≡ 0 → has_written new ≡ false
    → (fields_written old ≡ 0 → has_written old ≡ false → (writer_setup old).style ≢ style.NonNumeric
    → Appends (text_written contents old) (text_written contents new) (row_text (writer_setup old) (measure ∷ wait ∷ ride ∷ total ∷ [])))
    → HasWritten contents new (text ++ line_of measure wait ride total)
line_written contents old new text measure wait ride total a b c d h setup fields clean bytes =
    let IsRead : WriterBuilder → Type 0 = λ cfg. cfg.style ≢ style.NonNumeric in
    let read : (writer_setup old).style ≢ style.NonNumeric = subst IsRead (sym h.setup) (λ e. cc e) in
    let row_of : WriterBuilder → List ℕ = λ cfg. row_text cfg (measure ∷ wait ∷ ride ∷ total ∷ []) in
    let row : row_of (writer_setup old) ≡ line_of measure wait ride total = ap row_of h.setup ∙ row_is measure wait ride total a b c d in
    let From : Option (List ℕ) → Type 0 = λ known. Appends known (text_written contents new) (row_of (writer_setup old)) in
    let Row : List ℕ → Type 0 = λ bs. Appends (Some text) (text_written contents new) bs in
    record {
      setup = setup ∙ h.setup;
      fields = fields;
      clean = clean;
      text_is = appends_some (text_written contents new) text (line_of measure wait ride total)
          (subst Row row (subst From h.text_is (bytes h.fields h.clean read)));
    }

-- the same where the call that writes the record answers Ok
pub line_answered : {T E W : Type 0} (r : Result T E) (contents : W → Option (List ℕ)) (old new : Writer W) (text measure wait ride total : List ℕ)
    → IsPlain measure → IsPlain wait → IsPlain ride → IsPlain total → HasWritten contents old text → true ≡ is_ok r
    → OnOk r (writer_setup new ≡ writer_setup old) → OnOk r (fields_written new ≡ 0) → OnOk r (has_written new ≡ false)
    → OnOk r (fields_written old ≡ 0 → has_written old ≡ false → (writer_setup old).style ≢ style.NonNumeric
    → Appends (text_written contents old) (text_written contents new) (row_text (writer_setup old) (measure ∷ wait ∷ ride ∷ total ∷ [])))
    → HasWritten contents new (text ++ line_of measure wait ride total)
line_answered (Ok x) contents old new text measure wait ride total a b c d h ok setup fields clean bytes =
    line_written contents old new text measure wait ride total a b c d h setup fields clean bytes
line_answered (Err e) contents old new text measure wait ride total a b c d h ok setup fields clean bytes = cc ok

pub plain_fraction : (over under : ℕ) → over < 2 ^ 64 → under < 2 ^ 64 → IsPlain (decimal over ++ 47 ∷ decimal under)
plain_fraction over under a b = plain_slash (decimal over) (decimal under) (plain_decimal over a) (plain_decimal under b)
