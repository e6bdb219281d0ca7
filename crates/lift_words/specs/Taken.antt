-- Which words are taken, and what they ask for.
use Rattle.std.specs.Prelude.{◌≡◌, ◌↔◌, ℕ, List, drop, codes, slice_get, true, false, IsTrue, Option, Some, None, IsSome, if◌then◌else◌}
use Rattle.std.specs.List.{Contains}
use Rattle.clap.specs.Walk.{Row, Text, first_of}
use Rattle.clap.specs.Simple.{matches_of}
use Rattle.clap.specs.Takes.{takes}
use Rattle.lift_words.specs.Table.{app, setting_of, word_of}
use Rattle.option_words.specs.Options.{IsInRange as IsInRangeOf, number_from}
use Rattle.option_words.specs.Repeats.{IsRepeated}
use Rattle.lift_words.specs.declared.table.CommandWord.{CommandWord}
use Rattle.lift_words.specs.declared.table.CommandWord.TheVariants as command
use Rattle.lift_words.specs.declared.table.NumberOption.{NumberOption}
use Rattle.lift_words.specs.declared.table.NumberOption.TheVariants.{Rounds, Turns, Moves, Claims, Workers, Number, Floors, Cars, Calls}
use Rattle.lift_words.specs.declared.request.Request.{Request}
use Rattle.lift_words.specs.declared.request.Request.TheVariants.{Solve, Check, Day, Report, Make, Run, Table, WhatIf, Banks, Root, Audit}
use Rattle.lift_words.specs.declared.request.SolveOptions.{SolveOptions}
use Rattle.lift_words.specs.declared.request.CheckOptions.{CheckOptions}
use Rattle.lift_words.specs.declared.request.DayOptions.{DayOptions}
use Rattle.lift_words.specs.declared.request.SearchOptions.{SearchOptions}
use Rattle.lift_words.specs.declared.request.RootOptions.{RootOptions}
use Rattle.lift_words.specs.declared.request.CaseSizes.{CaseSizes}
use Rattle.lift_words.specs.declared.request.RunOptions.{RunOptions}
use Rattle.search_model.specs.declared.limits.Limits.{Limits}
use Rattle.work_fan.specs.declared.runtime.Workers.{Workers as WorkerCount}

-- the number of an option, by what `clap` found
abbrev pub number_of : List Row → NumberOption → Option ℕ
number_of rows option = number_from (setting_of option) (first_of (setting_of option).name rows)

-- no certificate is to be written
abbrev pub AsksForBrief : List Row → Type 0
AsksForBrief rows = first_of (codes "brief") rows ≡ Some (codes "true")

-- how far the work has come is to be told
abbrev pub AsksForProgress : List Row → Type 0
AsksForProgress rows = first_of (codes "progress") rows ≡ Some (codes "true")

-- how far a search may go
pub record AsksForLimits (rows : List Row) (limits : Limits) : Type 0 where
  pub rounds : number_of rows Rounds ≡ Some limits.rounds
  pub moves : number_of rows Moves ≡ Some limits.most_tours

-- how many share the work
abbrev pub AsksForWorkers : List Row → WorkerCount → Type 0
AsksForWorkers rows workers = number_of rows Workers ≡ Some workers.count

pub record AsksToSolve (rows : List Row) (options : SolveOptions) : Type 0 where
  pub brief : IsTrue options.brief ↔ AsksForBrief rows
  pub progress : IsTrue options.progress ↔ AsksForProgress rows
  pub rounds : number_of rows Rounds ≡ Some options.limits.rounds
  pub moves : number_of rows Moves ≡ Some options.limits.most_tours
  pub workers : number_of rows Workers ≡ Some options.workers.count
  pub claims : number_of rows Claims ≡ Some options.claims

abbrev pub AsksToCheck : List Row → CheckOptions → Type 0
AsksToCheck rows options = number_of rows Workers ≡ Some options.workers.count

-- by the words of `report`, `whatif` or `banks`, or among those of `day`
pub record AsksForSearch (rows : List Row) (options : SearchOptions) : Type 0 where
  pub rounds : number_of rows Rounds ≡ Some options.limits.rounds
  pub moves : number_of rows Moves ≡ Some options.limits.most_tours
  pub workers : number_of rows Workers ≡ Some options.workers.count

-- certificates are to be written
abbrev pub AsksForCerts : List Row → Type 0
AsksForCerts rows = first_of (codes "certs") rows ≡ Some (codes "true")

pub record AsksForDay (rows : List Row) (options : DayOptions) : Type 0 where
  pub certs : IsTrue options.certs ↔ AsksForCerts rows
  pub progress : IsTrue options.progress ↔ AsksForProgress rows
  pub search : AsksForSearch rows options.search
  pub claims : number_of rows Claims ≡ Some options.claims

-- what the claims of each certificate may sum to, where certificates are wanted
abbrev pub most_claims : DayOptions → Option ℕ
most_claims options = if options.certs then Some options.claims else None

-- a day whose certificates are not wanted; what their claims may sum to has no effect
abbrev pub without_certificates : SearchOptions → DayOptions
without_certificates options = record { search = options; claims = 1; certs = false; progress = false }

pub record AsksForRoot (rows : List Row) (options : RootOptions) : Type 0 where
  pub rounds : number_of rows Turns ≡ Some options.limits.rounds
  pub moves : number_of rows Moves ≡ Some options.limits.most_tours

pub record AsksForSizes (rows : List Row) (sizes : CaseSizes) : Type 0 where
  pub number : number_of rows Number ≡ Some sizes.number
  pub floors : number_of rows Floors ≡ Some sizes.floors
  pub cars : number_of rows Cars ≡ Some sizes.cars
  pub calls : number_of rows Calls ≡ Some sizes.calls

-- the case is to be solved, and not written
abbrev pub AsksForRun : List Row → Type 0
AsksForRun rows = first_of (codes "run") rows ≡ Some (codes "true")

pub record AsksToMake (rows : List Row) (sizes : CaseSizes) : Type 0 where
  pub no_run : AsksForRun rows → ⊥
  pub case : AsksForSizes rows sizes
  -- in their ranges, and of no effect
  pub rounds : IsSome (number_of rows Rounds)
  pub moves : IsSome (number_of rows Moves)

pub record AsksToRun (rows : List Row) (options : RunOptions) : Type 0 where
  pub run : AsksForRun rows
  pub case : AsksForSizes rows options.sizes
  pub rounds : number_of rows Rounds ≡ Some options.limits.rounds
  pub moves : number_of rows Moves ≡ Some options.limits.most_tours

abbrev pub command_asked : Request → CommandWord
command_asked (Solve options) = command.Solve
command_asked (Check options) = command.Check
command_asked (Day options) = command.Day
command_asked (Report options) = command.Report
command_asked (Make sizes) = command.Make
command_asked (Run options) = command.Make
command_asked Table = command.Table
command_asked (WhatIf options) = command.WhatIf
command_asked (Banks options) = command.Banks
command_asked (Root options) = command.Root
command_asked (Audit options) = command.Audit

abbrev pub Asks : List Row → Request → Type 0
Asks rows (Solve options) = AsksToSolve rows options
Asks rows (Check options) = AsksToCheck rows options
Asks rows (Day options) = AsksForDay rows options
Asks rows (Report options) = AsksForSearch rows options
Asks rows (Make sizes) = AsksToMake rows sizes
Asks rows (Run options) = AsksToRun rows options
Asks rows Table = Unit {0}
Asks rows (WhatIf options) = AsksForSearch rows options
Asks rows (Banks options) = AsksForSearch rows options
Asks rows (Root options) = AsksForRoot rows options
Asks rows (Audit options) = AsksToCheck rows options

-- the request is one of this command, and has the numbers that were found
abbrev pub AsksBy : CommandWord → List Row → Request → Type 0
AsksBy command rows request = (command_asked request ≡ command) × Asks rows request

-- the second word is that of the command
abbrev pub IsSecond : List Text → CommandWord → Type 0
IsSecond words command = slice_get words 1 ≡ Some (word_of command)

-- The words of the command line, the program's name first, are taken as this request.
pub record AreTaken (words : List Text) (request : Request) : Type 0 where
  -- the second word is the command
  pub command : IsSecond words (command_asked request)
  -- after it no option is repeated, and no word is `--` alone
  pub unrepeated : IsRepeated (drop 2 words) → ⊥
  pub no_dashes : Contains (drop 2 words) (codes "--") → ⊥
  -- `clap` takes the words from the command on, by the command's row of the table
  pub accepted : takes (app (command_asked request)) (drop 1 words) ≡ true
  -- each value that `clap` finds is a number word in its range; the request has the values, or the
  -- defaults
  pub asks : Asks (matches_of (app (command_asked request)) (drop 1 words)) request

-- ---- the ranges of what is asked; limits and workers keep their own

abbrev pub IsInRange : NumberOption → ℕ → Type 0
IsInRange option n = IsInRangeOf (setting_of option) n

pub record AreSolveOptions (options : SolveOptions) : Type 0 where
  pub claims : IsInRange Claims options.claims

pub record AreDayOptions (options : DayOptions) : Type 0 where
  pub claims : IsInRange Claims options.claims

pub record AreRootOptions (options : RootOptions) : Type 0 where
  pub rounds : IsInRange Turns options.limits.rounds

pub record AreCaseSizes (sizes : CaseSizes) : Type 0 where
  pub number : IsInRange Number sizes.number
  pub floors : IsInRange Floors sizes.floors
  pub cars : IsInRange Cars sizes.cars
  pub calls : IsInRange Calls sizes.calls

pub record AreRunOptions (options : RunOptions) : Type 0 where
  pub sizes : AreCaseSizes options.sizes

abbrev pub IsWithin : Request → Type 0
IsWithin (Solve options) = AreSolveOptions options
IsWithin (Check options) = Unit {0}
IsWithin (Day options) = AreDayOptions options
IsWithin (Report options) = Unit {0}
IsWithin (Make sizes) = AreCaseSizes sizes
IsWithin (Run options) = AreRunOptions options
IsWithin Table = Unit {0}
IsWithin (WhatIf options) = Unit {0}
IsWithin (Banks options) = Unit {0}
IsWithin (Root options) = AreRootOptions options
IsWithin (Audit options) = Unit {0}
