-- What the words of a line say.
use Rattle.std.specs.Prelude.{ℕ, ℤ, pos, Bool, ◌||◌, nat_lt, int_lt, List, [], length, slice_index_or, Option, None, Some, Result, Ok, Err, codes}
use Rattle.std.specs.Prelude.{if◌then◌else◌}
use Rattle.std.specs.Str.{bytes_eq}
use Rattle.lift_text.specs.Numbers.{digits_number, number_of, code_of}
use Rattle.lift_text.specs.declared.numbers.NumberFault.{NumberFault}
use Rattle.lift_text.specs.declared.codes.TextCode.TheVariants.{NoLineWord, Missing, TooMany, NoNumber, OutOfRange}
use Rattle.text_sections.specs.Judging.{Judged, ◌>>=◌}

-- word k, counted from 0
abbrev pub word_at : List (List ℕ) → ℕ → List ℕ
word_at words k = slice_index_or words k []

-- word k is this text
abbrev pub is_word : List (List ℕ) → ℕ → List ℕ → Bool
is_word words k text = bytes_eq (word_at words k) text

-- there are at least this many words
abbrev pub at_least : List (List ℕ) → ℕ → Judged Unit
at_least words count = if nat_lt (length words) count then Err Missing else Ok tt

-- there are at most this many words
abbrev pub at_most : List (List ℕ) → ℕ → Judged Unit
at_most words count = if nat_lt count (length words) then Err TooMany else Ok tt

-- there are exactly this many words
abbrev pub exactly : List (List ℕ) → ℕ → Judged Unit
exactly words count = at_least words count >>= λ _. at_most words count

-- the first word is this one
abbrev pub named : List ℕ → List (List ℕ) → Judged Unit
named name words = if is_word words 0 name then Ok tt else Err NoLineWord

-- the last line of a section
abbrev pub says_end : List (List ℕ) → Judged Unit
says_end words = named (codes "end") words >>= λ _. exactly words 1

-- a number from low to high, if it is one
abbrev pub within : ℕ → ℕ → Option ℕ → Judged ℕ
within low high None = Err NoNumber
within low high (Some n) = if nat_lt n low || nat_lt high n then Err OutOfRange else Ok n

-- word k read as a number from low to high
abbrev pub number : List (List ℕ) → ℕ → ℕ → ℕ → Judged ℕ
number words k low high = within low high (digits_number (word_at words k))

-- word k as an id, a floor or a number of persons
abbrev pub short : List (List ℕ) → ℕ → Judged ℕ
short words k = number words k 0 4294967295

abbrev pub signed_within : ℤ → ℤ → Option ℤ → Judged ℤ
signed_within low high None = Err NoNumber
signed_within low high (Some value) = if int_lt value low || int_lt high value then Err OutOfRange else Ok value

-- word k read as a number from low to high, which a `-` may begin where low is below 0
abbrev pub signed : List (List ℕ) → ℕ → ℤ → ℤ → Judged ℤ
signed words k low high = signed_within low high (number_of (int_lt low (pos 0)) (word_at words k))

-- what a reader's answer about a number says of the word
abbrev pub number_judged : {A : Type 0} → Result A NumberFault → Judged A
number_judged (Ok x) = Ok x
number_judged (Err fault) = Err (code_of fault)
