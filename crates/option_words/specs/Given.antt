-- Which options the words of a command line give.
use Rattle.std.specs.Prelude.{◌≡◌, ◌⊎◌, true, List, drop, codes}
use Rattle.std.specs.List.{Contains}
use Rattle.clap.specs.Walk.{Row, Text}
use Rattle.clap.specs.Simple.{App, matches_of}
use Rattle.clap.specs.Takes.{takes}
use Rattle.option_words.specs.Repeats.{IsRepeated}

-- a word is `--` alone, or an option is repeated
abbrev pub AreUnclear : (options : List Text) → Type 0
AreUnclear options = Contains options (codes "--") ⊎ IsRepeated options

-- `clap` finds these values in the words, of which the first is the program's name and the second the command.
pub record AreGiven (app : App) (words : List Text) (rows : List Row) : Type 0 where
  -- behind the command no word is `--` alone, and no option is repeated
  pub clear : AreUnclear (drop 2 words) → ⊥
  -- `clap` takes the words from the command on
  pub accepted : takes app (drop 1 words) ≡ true
  pub found : rows ≡ matches_of app (drop 1 words)
