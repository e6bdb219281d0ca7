-- What the program leaves: what was read and written, and why it ended.
use Rattle.std.specs.Prelude.{◌≡◌, ℕ, ◌≤◌, ◌⊎◌, List, length, codes}
use Rattle.byte_streams.specs.Streams.{Rose}
use Rattle.lift_text.specs.Reading.{TextState}
use Rattle.lift_picture.specs.declared.frames.Size.{Size}
use Rattle.lift_picture.specs.declared.scenes.Scene.{Scene}
use Rattle.lift_picture.specs.Svg.{picture_text}
use Rattle.picture_reader.specs.DayScenes.{day_telling}
use Rattle.picture_reader.specs.PlanScenes.{plan_telling}
use Rattle.picture_reader.specs.Tellings.{IsSceneOf, Shown, Telling}
use Rattle.command_ends.specs.declared.input_faults.InputFault.{InputFault}
use Rattle.command_ends.specs.declared.input_faults.InputFault.TheVariants.{Text, Own}
use Rattle.command_ends.specs.declared.status.Status.{Status}
use Rattle.command_ends.specs.declared.status.Status.TheVariants.{Done, Words, Stopped, Refused, Input, Read, Write, Memory}
use Rattle.command_ends.specs.Ends.{DueTexts, Ends, Streams}
use Rattle.command_ends.specs.WholeTexts.{Form}
use Rattle.command_ends.specs.Runs.{Runs}
use Rattle.draw_command.specs.declared.words.Request.{Request}
use Rattle.draw_command.specs.declared.words.Subject.{Subject}
use Rattle.draw_command.specs.declared.words.Subject.TheVariants.{Day, Plan}
use Rattle.draw_command.specs.Words.{AreTaken}

-- ---- what is read

-- what a text tells of this subject
abbrev pub telling_of : Subject → Telling
telling_of Day = day_telling
telling_of Plan = plan_telling

-- a line can be bad, or the text too long
abbrev pub IsWrong : Telling → TextState → InputFault → Type 0
IsWrong telling text (Text fault) = telling.wrong text fault
IsWrong telling text (Own line code) = ⊥

-- a text that tells what is drawn, or what is wrong with it
abbrev pub scene_form : Subject → Form Scene
scene_form subject = record {
  Meaning = Shown;
  says = λ text shown. (telling_of subject).says text shown;
  wrong = IsWrong (telling_of subject);
  means = λ scene shown. IsSceneOf shown scene;
  right = λ scene. length scene.cars.items ≤ 16;
}

-- ---- what is written

-- the picture of the scene, in this size
abbrev pub IsDrawn : Size → Scene → DueTexts
IsDrawn size scene Done text = text ≡ picture_text size scene
IsDrawn size scene Words text = ⊥
IsDrawn size scene Stopped text = ⊥
IsDrawn size scene Refused text = ⊥
IsDrawn size scene Input text = ⊥
IsDrawn size scene Read text = ⊥
IsDrawn size scene Write text = ⊥
IsDrawn size scene Memory text = ⊥

-- What is asked for is read to its end and drawn, and any other input is refused.
abbrev pub RunsDraw : Request → (old new : Streams) → Status → Type 0
RunsDraw request old new status = Runs (scene_form request.subject) (IsDrawn request.size) old new status

-- so by words that ask for a picture
abbrev pub DrawsByWords : (words : List (List ℕ)) → (old new : Streams) → Status → Type 0
DrawsByWords words old new status = (request : Request) → AreTaken words request → RunsDraw request old new status

-- ---- other words

-- the words ask for no picture
abbrev pub AskForNone : (words : List (List ℕ)) → Type 0
AskForNone words = (request : Request) → AreTaken words request → ⊥

abbrev pub usage_text : List ℕ
usage_text = codes "usage: lift_draw day|plan [--width N] [--height N]\n"

abbrev pub UsageIsDue : DueTexts
UsageIsDue Done text = ⊥
UsageIsDue Words text = text ≡ usage_text
UsageIsDue Stopped text = ⊥
UsageIsDue Refused text = ⊥
UsageIsDue Input text = ⊥
UsageIsDue Read text = ⊥
UsageIsDue Write text = ⊥
UsageIsDue Memory text = ⊥

-- The usage line is written, unless the sink fails or memory runs out.
pub record RefusesWords (old new : Streams) (status : Status) : Type 0 where
  pub ends : Ends UsageIsDue old new status
  pub refuses : (Rose old.write_faults new.write_faults → ⊥) → (status ≡ Words) ⊎ (status ≡ Memory)
