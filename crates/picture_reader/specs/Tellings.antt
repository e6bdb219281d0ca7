-- Texts that tell what is drawn, and what a reader of them answers.
use Rattle.std.specs.Prelude.{◌≡◌, ℕ, ◌⊎◌, List, Option, IfSome, IfOk, IfErr, Result, Ok, Err}
use Rattle.lift_text.specs.Reading.{TextState, Reading, reading, line_with, finished, bad_line, past_limit}
use Rattle.lift_text.specs.declared.codes.TextCode.TheVariants.{OutOfOrder}
use Rattle.lift_text.specs.declared.faults.TextFault.{TextFault}
use Rattle.text_sections.specs.Sections.{Line, Outcome, Step, accepted, outcome, refused, too_long}
use Rattle.case_text.specs.CaseTexts.{IsRefusedWith, Tells}
use Rattle.lift_picture.specs.declared.scenes.Axis.{Axis}
use Rattle.lift_picture.specs.declared.scenes.Leg.{Leg}
use Rattle.lift_picture.specs.declared.scenes.Refusal.{Refusal}
use Rattle.lift_picture.specs.declared.scenes.Scene.{Scene}

-- ---- what is drawn

-- What a scene has, wherever that is kept.
pub record Shown : Type 0 where
  pub axis : Axis
  pub floors : ℕ
  pub start : ℕ
  pub cars : List ℕ
  pub legs : List Leg
  pub refusals : List Refusal

-- the scene has this
pub record IsSceneOf (shown : Shown) (scene : Scene) : Type 0 where
  pub axis : scene.axis ≡ shown.axis
  pub floors : scene.floors ≡ shown.floors
  pub start : scene.start ≡ shown.start
  pub cars : scene.cars.items ≡ shown.cars
  pub legs : scene.legs.items ≡ shown.legs
  pub refusals : scene.refusals.items ≡ shown.refusals

-- ---- what a text tells from some place on

-- what is shown by it, and what is wrong first with a text that tells nothing
pub record Telling : Type 1 where
  pub says : TextState → Shown → Type 0
  pub wrong : TextState → TextFault → Type 0

-- a scene of this is answered: only a failed read and want of memory come in its place
abbrev pub IsAnswered : Shown → Result Scene TextFault → Type 0
IsAnswered shown (Ok scene) = IsSceneOf shown scene
IsAnswered shown (Err fault) = Tells fault ⊥

module _ (telling : Telling) where
  -- the scene is of what the text tells
  abbrev pub IsRead : Option TextState → Scene → Type 0
  IsRead before scene = (shown : Shown) × IsSceneOf shown scene × IfSome before (λ text. telling.says text shown)

  -- the text is wrong, as is told
  abbrev pub IsRefused : Option TextState → TextFault → Type 0
  IsRefused before fault = IfSome before (λ text. Tells fault (telling.wrong text fault))

  -- What a reader answers, where the source tells what it has left.
  pub record IsAnsweredBy (before : Option TextState) (answer : Result Scene TextFault) : Type 0 where
    pub reads : IfOk answer (IsRead before)
    pub refuses : IfErr answer (IsRefused before)
    -- where the text tells something, that is read
    pub takes : (shown : Shown) → IfSome before (λ text. telling.says text shown → IsAnswered shown answer)

-- ---- a section that nothing may follow

-- what is read of it: another line with a word is out of order
abbrev pub alone : {A : Type 0} → Outcome A → Outcome A
alone (accepted end (line_with line words rest)) = refused line OutOfOrder
alone (accepted end (finished lines)) = accepted end (finished lines)
alone (accepted end (bad_line line code)) = refused line code
alone (accepted end past_limit) = too_long
alone (refused line code) = refused line code
alone too_long = too_long

-- `shown_by` is what its last state shows
module _ {A : Type 0} (after : A → Line → Step A) (start : A) (shown_by : A → Shown) where
  -- a whole section, and no other line with a word
  pub record SaysAlone (read : Reading) (shown : Shown) : Type 0 where
    pub end : A
    pub lines : ℕ
    pub whole : alone (outcome after read start) ≡ accepted end (finished lines)
    pub shown_is : shown ≡ shown_by end

  -- else its first bad line, or the first line behind it
  abbrev pub section : Telling
  section = record {
    says = λ text shown. SaysAlone (reading text) shown;
    wrong = λ text fault. IsRefusedWith (alone (outcome after (reading text) start)) fault;
  }

-- ---- a part in front, and what is told behind it

-- The part in front says an `A`, or is bad; what is told behind it depends on that.
module _ {A : Type 0} (IsFront : TextState → A → TextState → Type 0) (IsBad : TextState → TextFault → Type 0) (rest : A → Telling) where
  pub record SaysBehind (text : TextState) (shown : Shown) : Type 0 where
    pub said : A
    pub place : TextState
    pub front : IsFront text said place
    pub told : (rest said).says place shown

  -- what is wrong with the part in front, or behind it
  abbrev pub FailsBehind : TextState → TextFault → Type 0
  FailsBehind text fault = IsBad text fault ⊎ ((said : A) × (place : TextState) × IsFront text said place × (rest said).wrong place fault)

  abbrev pub behind : Telling
  behind = record { says = SaysBehind; wrong = FailsBehind }
