-- Which words of the command line ask for which picture.
use Rattle.std.specs.Prelude.{◌≡◌, ℕ, List, codes, slice_get, Option, None, Some, if◌then◌else◌}
use Rattle.std.specs.Str.{bytes_eq}
use Rattle.clap.specs.Walk.{Row, Text, first_of}
use Rattle.clap.specs.Simple.{App, new_app}
use Rattle.option_words.specs.Given.{AreGiven}
use Rattle.option_words.specs.Options.{OptionRow, number_from, row, with_option}
use Rattle.lift_picture.specs.declared.frames.Size.{Size}
use Rattle.draw_command.specs.declared.words.Request.{Request}
use Rattle.draw_command.specs.declared.words.SizeOption.{SizeOption}
use Rattle.draw_command.specs.declared.words.SizeOption.TheVariants.{Width, Height}
use Rattle.draw_command.specs.declared.words.Subject.{Subject}
use Rattle.draw_command.specs.declared.words.Subject.TheVariants.{Day, Plan}

-- the word by which a subject is asked for
abbrev pub word_of : Subject → Text
word_of Day = codes "day"
word_of Plan = codes "plan"

-- what is drawn by this word
abbrev pub subject_named : Text → Option Subject
subject_named word = if bytes_eq word (codes "day") then Some Day else (if bytes_eq word (codes "plan") then Some Plan else None)

-- each option, with its least and its greatest number, and the one where it is not given
abbrev pub setting_of : SizeOption → OptionRow
setting_of Width = row (codes "width") 400 10000 1200
setting_of Height = row (codes "height") 400 10000 600

-- as `clap` sees the words from the subject on
abbrev pub app : Subject → App
app subject = with_option (with_option (new_app (word_of subject)) (setting_of Width).name) (setting_of Height).name

-- the number of an option, by what `clap` found
abbrev pub number_of : List Row → SizeOption → Option ℕ
number_of rows option = number_from (setting_of option) (first_of (setting_of option).name rows)

abbrev pub size_of_numbers : (width height : Option ℕ) → Option Size
size_of_numbers None height = None
size_of_numbers (Some width) None = None
size_of_numbers (Some width) (Some height) = Some (record { width = width; height = height })

-- the size that the options ask for: each value is a number word in its range, or there is the default
abbrev pub size_asked : List Row → Option Size
size_asked rows = size_of_numbers (number_of rows Width) (number_of rows Height)

-- the second word is that of the subject
abbrev pub IsSecond : List Text → Subject → Type 0
IsSecond words subject = slice_get words 1 ≡ Some (word_of subject)

-- The words of the command line, the program's name first, ask for this picture.
pub record AreTaken (words : List Text) (request : Request) : Type 0 where
  pub subject : IsSecond words request.subject
  -- what `clap` finds in the options behind it
  pub rows : List Row
  pub given : AreGiven (app request.subject) words rows
  pub size : size_asked rows ≡ Some request.size
