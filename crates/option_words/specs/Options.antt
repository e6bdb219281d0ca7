-- Options of a command: as `clap` sees them, and the numbers that their values write.
use Rattle.std.specs.Prelude.{◌≡◌, ◌≤◌, ◌&&◌, ℕ, nat_le, true, List, [], map, Option, Some, None, if◌then◌else◌, option_and_then}
use Rattle.std.specs.List.{list_all}
use Rattle.std.specs.Borrow.{Bor}
use Rattle.lift_text.specs.Numbers.{digits_number}
use Rattle.clap.specs.Walk.{Rule, Text}
use Rattle.clap.specs.Simple.{App, built, is_simple, new_rule, with_rule}
use Rattle.clap.specs.Takes.{default_passes}
use Rattle.clap.specs.Faults.{is_simple_and_free}
use Rattle.clap.specs.declared.builder.action.ArgAction.TheVariants.{SetTrue}
use Rattle.option_words.specs.declared.values.Setting.{Setting}

-- ---- as `clap` sees them: long options alone, each with one value, and flags

abbrev pub option_rule : Text → Rule
option_rule name = record (new_rule name) { long = Some name }

abbrev pub flag_rule : Text → Rule
flag_rule name = record (option_rule name) { action = Some SetTrue }

abbrev pub with_option : App → Text → App
with_option app name = with_rule app (option_rule name)

abbrev pub with_flag : App → Text → App
with_flag app name = with_rule app (flag_rule name)

-- A command without subcommands, of which `clap` says exactly which words it takes.
pub record IsPlain (app : App) : Type 0 where
  pub simple : is_simple app ≡ true
  pub simple_and_free : is_simple_and_free app ≡ true
  pub no_subcommand : (built app).subs ≡ []
  pub defaults_pass : list_all default_passes (built app).top.rules ≡ true
  pub free : list_all (λ a. a.is_free) (built app).top.rules ≡ true

-- ---- numbers

-- an option that takes a number: its name without the dashes, its least and its greatest value, and
-- the value where it is not given
pub record OptionRow : Type 0 where
  pub name : Text
  pub low : ℕ
  pub high : ℕ
  pub default : ℕ

abbrev pub row : Text → ℕ → ℕ → ℕ → OptionRow
row name low high default = record { name = name; low = low; high = high; default = default }

abbrev pub within : ℕ → ℕ → ℕ → Option ℕ
within low high n = if nat_le low n && nat_le n high then Some n else None

-- the number that a word writes, where it is a number word from low to high
abbrev pub number_in_range : ℕ → ℕ → Text → Option ℕ
number_in_range low high word = option_and_then (within low high) (digits_number word)

-- the number of an option: that of its value, or the default where it has none
abbrev pub number_from : OptionRow → Option Text → Option ℕ
number_from row None = Some row.default
number_from row (Some word) = number_in_range row.low row.high word

abbrev pub IsInRange : OptionRow → ℕ → Type 0
IsInRange row n = (row.low ≤ n) × (n ≤ row.high)

-- ---- what a program's own values show

abbrev pub texts : List (Bor Text) → List Text
texts = map (λ s. s.now)

abbrev pub shown : Setting → OptionRow
shown setting = row setting.name.now setting.low setting.high setting.default

-- the setting shows this row, field by field
pub record Shows (setting : Setting) (shown : OptionRow) : Type 0 where
  pub name : setting.name.now ≡ shown.name
  pub low : setting.low ≡ shown.low
  pub high : setting.high ≡ shown.high
  pub default : setting.default ≡ shown.default

-- ---- what is asked for

-- an answer is one that passes, and there is none only where none passes
abbrev pub ExactlyWhere : {X : Type 0} → (X → Type 0) → Option X → Type 0
ExactlyWhere P (Some x) = P x
ExactlyWhere {X} P None = (x : X) → P x → ⊥
