-- Options that are repeated.
use Rattle.std.specs.Prelude.{◌≡◌, ◌<◌, ◌==◌, ℕ, List, length, take, codes, slice_index_or, []}
use Rattle.std.specs.List.{before_first}
use Rattle.clap.specs.Walk.{Text}

-- the word up to its first `=` (61), or all of it where it has none
abbrev pub named_part : Text → Text
named_part word = before_first (λ b. b == 61) word

-- both words begin with two dashes, and they are equal up to their first `=`
pub record Repeats (first second : Text) : Type 0 where
  pub first_option : take 2 first ≡ codes "--"
  pub second_option : take 2 second ≡ codes "--"
  pub same : named_part first ≡ named_part second

-- the word repeats one of these, or one of these repeats it
abbrev pub RepeatsOneOf : Text → List Text → Type 0
RepeatsOneOf word words = (k : ℕ) × (k < length words) × Repeats word (slice_index_or words k [])

-- one of the words repeats an earlier one
pub record IsRepeated (words : List Text) : Type 0 where
  pub first : ℕ
  pub second : ℕ
  pub order : first < second
  pub within : second < length words
  pub repeats : Repeats (slice_index_or words first []) (slice_index_or words second [])
