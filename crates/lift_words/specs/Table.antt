-- The table of commands and their options.
use Rattle.std.specs.Prelude.{◌^◌, ◌-◌, List, [], ◌∷◌, fold, codes, Option}
use Rattle.std.specs.List.{find}
use Rattle.std.specs.Str.{bytes_eq}
use Rattle.clap.specs.Walk.{Text}
use Rattle.clap.specs.Simple.{App, new_app}
use Rattle.option_words.specs.Options.{OptionRow, row, with_flag, with_option}
use Rattle.lift_words.specs.declared.table.CommandWord.{CommandWord}
use Rattle.lift_words.specs.declared.table.CommandWord.TheVariants.{Solve, Check, Day, Report, Make, Table, WhatIf, Banks, Root, Audit}
use Rattle.lift_words.specs.declared.table.NumberOption.{NumberOption}
use Rattle.lift_words.specs.declared.table.NumberOption.TheVariants.{Rounds, Turns, Moves, Claims, Workers, Number, Floors, Cars, Calls}

-- what the table says of each option that takes a number
abbrev pub setting_of : NumberOption → OptionRow
setting_of Rounds = row (codes "rounds") 1 (10 ^ 18) 2000
setting_of Turns = row (codes "rounds") 1 31 20
setting_of Moves = row (codes "moves") 1 (10 ^ 18) 75000
setting_of Claims = row (codes "claims") 1 (10 ^ 10) (10 ^ 9)
setting_of Workers = row (codes "workers") 1 16 1
setting_of Number = row (codes "number") 0 (2 ^ 64 - 1) 1
setting_of Floors = row (codes "floors") 2 64 12
setting_of Cars = row (codes "cars") 1 8 4
setting_of Calls = row (codes "calls") 0 64 20

abbrev pub word_of : CommandWord → Text
word_of Solve = codes "solve"
word_of Check = codes "check"
word_of Day = codes "day"
word_of Report = codes "report"
word_of Make = codes "make"
word_of Table = codes "table"
word_of WhatIf = codes "whatif"
word_of Banks = codes "banks"
word_of Root = codes "root"
word_of Audit = codes "audit"

abbrev pub all_commands : List CommandWord
all_commands = Solve ∷ Check ∷ Day ∷ Report ∷ Make ∷ Table ∷ WhatIf ∷ Banks ∷ Root ∷ Audit ∷ []

-- the command that a word names
abbrev pub command_of : Text → Option CommandWord
command_of word = find (λ command. bytes_eq word (word_of command)) all_commands

-- the options of a command that take a number
abbrev pub numbers_of : CommandWord → List NumberOption
numbers_of Solve = Rounds ∷ Moves ∷ Workers ∷ Claims ∷ []
numbers_of Check = Workers ∷ []
numbers_of Day = Rounds ∷ Moves ∷ Workers ∷ Claims ∷ []
numbers_of Report = Rounds ∷ Moves ∷ Workers ∷ []
numbers_of Make = Number ∷ Floors ∷ Cars ∷ Calls ∷ Rounds ∷ Moves ∷ []
numbers_of Table = []
numbers_of WhatIf = Rounds ∷ Moves ∷ Workers ∷ []
numbers_of Banks = Rounds ∷ Moves ∷ Workers ∷ []
numbers_of Root = Turns ∷ Moves ∷ []
numbers_of Audit = Workers ∷ []

-- and those that take no value
abbrev pub flags_of : CommandWord → List Text
flags_of Solve = codes "brief" ∷ codes "progress" ∷ []
flags_of Check = []
flags_of Day = codes "certs" ∷ codes "progress" ∷ []
flags_of Report = []
flags_of Make = codes "run" ∷ []
flags_of Table = []
flags_of WhatIf = []
flags_of Banks = []
flags_of Root = []
flags_of Audit = []

-- ---- as `clap` sees it

abbrev pub with_number : App → NumberOption → App
with_number app option = with_option app (setting_of option).name

-- the command as one simple command of `clap`
abbrev pub app : CommandWord → App
app command = fold with_flag (fold with_number (new_app (word_of command)) (numbers_of command)) (flags_of command)
