-- What was read of a plan is what the definitions say, layer by layer.
use Rattle.std.proofs.Common.{◌≡◌, Option, None, Some, Result, Ok, Err, sym, subst}
use Rattle.elevator_model.specs.Snapshot.{Snapshot}
use Rattle.search_model.specs.declared.Stated.{Stated}
use Rattle.lift_text.specs.Reading.{TextState, Reading, reading}
use Rattle.lift_text.specs.declared.faults.TextFault.{TextFault}
use Rattle.case_text.specs.CaseTexts.{IsEnd, IsNoEnd, IsReadCase, IsRefusedCase, TakesCases}
use Rattle.answer_text.specs.Drafts.{after, blank}
use Rattle.answer_text.specs.Answers.{IsReadAnswer, IsRefusedAnswer}
use Rattle.lift_picture.specs.declared.scenes.Scene.{Scene}
use Rattle.picture_reader.specs.PlanScenes.{IsCaseBad, IsCaseInFront, answer_shown, answer_telling, plan_shown, plan_telling}
use Rattle.picture_reader.specs.Tellings.{IsAnsweredBy, IsSceneOf, SaysAlone, SaysBehind, Shown}
use Rattle.picture_reader.proofs.TellingLemmas.{IsFrontRead, answered_behind, refused_in_front, section_bad, section_late, section_read}

-- ---- an answer

module _ (s : Snapshot) (before : Option TextState) where
  pub answer_read : (mid : Option TextState) (stated : Stated) (scene : Scene) → IsReadAnswer before s stated mid → IsEnd mid
      → IsSceneOf (plan_shown s stated) scene → IsAnsweredBy (answer_telling s) before (Ok scene)
  answer_read mid stated scene read ends is =
      section_read after (blank s) (answer_shown s) before mid read.0 scene read.2 ends
      (subst (λ (x : Stated). IsSceneOf (plan_shown s x) scene) (sym read.1) is)

  pub answer_bad : (now : Option TextState) (fault : TextFault) → IsRefusedAnswer before s fault now → IsAnsweredBy (answer_telling s) before (Err fault)
  answer_bad now fault bad = section_bad after (blank s) (answer_shown s) before now bad.0 fault bad.1

  pub answer_late : (mid : Option TextState) (stated : Stated) (fault : TextFault) → IsReadAnswer before s stated mid → IsNoEnd mid fault
      → IsAnsweredBy (answer_telling s) before (Err fault)
  answer_late mid stated fault read late = section_late after (blank s) (answer_shown s) before mid read.0 fault read.2 late

-- ---- a text

-- the case in front is the one that was read
one_case : (text place : TextState) (s : Snapshot) → TakesCases (Some text) (Ok s) (Some place) → (shown : Shown)
    → SaysBehind IsCaseInFront IsCaseBad answer_telling text shown → (answer_telling s).says place shown
one_case text place s takes shown says =
    let same = takes says.said (reading says.place) says.front in
    subst (λ (x : Snapshot). SaysAlone after (blank x) (answer_shown x) (reading place) shown) (sym same.0)
    (subst (λ (r : Reading). SaysAlone after (blank says.said) (answer_shown says.said) r shown) (sym same.1) says.told)

case_front : (before mid : Option TextState) (s : Snapshot) → IsReadCase before s mid → TakesCases before (Ok s) mid
    → IsFrontRead IsCaseInFront IsCaseBad answer_telling before s mid
case_front None mid s case takes = tt
case_front (Some text) None s case takes = absurd case
case_front (Some text) (Some place) s case takes = record { front = case; one = one_case text place s takes }

pub plan_answered : (s : Snapshot) (before mid : Option TextState) (answer : Result Scene TextFault) → IsReadCase before s mid → TakesCases before (Ok s) mid
    → IsAnsweredBy (answer_telling s) mid answer → IsAnsweredBy plan_telling before answer
plan_answered s before mid answer case takes told =
    answered_behind IsCaseInFront IsCaseBad answer_telling before mid s answer (case_front before mid s case takes) told

pub case_refused : (before now : Option TextState) (fault : TextFault) → IsRefusedCase before fault → TakesCases before (Err fault) now
    → IsAnsweredBy plan_telling before (Err fault)
case_refused None now fault bad takes = refused_in_front IsCaseInFront IsCaseBad answer_telling None fault tt tt
case_refused (Some text) now fault bad takes =
    refused_in_front IsCaseInFront IsCaseBad answer_telling (Some text) fault bad (λ shown says. takes says.said (reading says.place) says.front)
