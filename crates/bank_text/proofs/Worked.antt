-- Worked rows: the lines between the sections of banks.
use Rattle.std.proofs.Common.{◌≡◌, [], ◌∷◌, true, false, Ok, Err, refl}
use Rattle.std.specs.Prelude.{codes}
use Rattle.lift_text.specs.declared.codes.TextCode.TheVariants.{NoLineWord, Missing, TooMany, NoNumber, OutOfRange, OutOfOrder}
use Rattle.bank_text.specs.Heads.{first_said, head_said}
use Rattle.bank_text.specs.declared.heads.Head.TheVariants.{Bank, Rows}

-- ---- the first line

first : first_said (codes "banks" ∷ codes "1" ∷ []) ≡ Ok tt
first = refl

other_version : first_said (codes "banks" ∷ codes "2" ∷ []) ≡ Err OutOfRange
other_version = refl

no_version : first_said (codes "banks" ∷ codes "one" ∷ []) ≡ Err NoNumber
no_version = refl

version_missing : first_said (codes "banks" ∷ []) ≡ Err Missing
version_missing = refl

first_too_long : first_said (codes "banks" ∷ codes "1" ∷ codes "1" ∷ []) ≡ Err TooMany
first_too_long = refl

no_first : first_said (codes "bank" ∷ codes "1" ∷ []) ≡ Err NoLineWord
no_first = refl

-- ---- banks and rows

least_id : head_said false (codes "bank" ∷ codes "0" ∷ []) ≡ Ok (Bank 0)
least_id = refl

greatest_id : head_said true (codes "bank" ∷ codes "4294967295" ∷ []) ≡ Ok (Bank 4294967295)
greatest_id = refl

id_too_great : head_said true (codes "bank" ∷ codes "4294967296" ∷ []) ≡ Err OutOfRange
id_too_great = refl

same_id : head_said true (codes "bank" ∷ codes "01" ∷ []) ≡ Ok (Bank 1)
same_id = refl

no_id : head_said true (codes "bank" ∷ codes "one" ∷ []) ≡ Err NoNumber
no_id = refl

id_missing : head_said true (codes "bank" ∷ []) ≡ Err Missing
id_missing = refl

bank_too_long : head_said true (codes "bank" ∷ codes "1" ∷ codes "2" ∷ []) ≡ Err TooMany
bank_too_long = refl

rows : head_said true (codes "rows" ∷ []) ≡ Ok Rows
rows = refl

rows_too_long : head_said true (codes "rows" ∷ codes "x" ∷ []) ≡ Err TooMany
rows_too_long = refl

rows_before_banks : head_said false (codes "rows" ∷ []) ≡ Err OutOfOrder
rows_before_banks = refl

out_of_order_first : head_said false (codes "rows" ∷ codes "x" ∷ []) ≡ Err OutOfOrder
out_of_order_first = refl

first_again : head_said true (codes "banks" ∷ codes "1" ∷ []) ≡ Err OutOfOrder
first_again = refl

no_bank : head_said true (codes "building" ∷ codes "1" ∷ []) ≡ Err NoLineWord
no_bank = refl
