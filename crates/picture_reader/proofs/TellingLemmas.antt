-- What a reader answers of a text that tells what is drawn: of a section that nothing may follow, and behind a part in front.
use Rattle.std.proofs.Common.{◌≡◌, ℕ, List, Option, None, Some, Result, Ok, Err, IfSome, IfErr, refl, sym, ap, ◌∙◌, subst, inl, inr}
use Rattle.std.specs.Prelude.{IsSomeAnd}
use Rattle.lift_text.specs.Reading.{TextState, Reading, reading, line_with, finished, bad_line, past_limit}
use Rattle.lift_text.specs.Shows.{FaultShows, WentOn}
use Rattle.lift_text.specs.declared.codes.TextCode.TheVariants.{OutOfOrder}
use Rattle.lift_text.specs.declared.faults.TextFault.{TextFault}
use Rattle.lift_text.specs.declared.faults.TextFault.TheVariants.{Bad, NoMemory, Read, TooLong}
use Rattle.lift_text.proofs.ShowLemmas.{fault_behind}
use Rattle.text_sections.specs.Sections.{Line, Outcome, ReadAs, Step, accepted, outcome, refused, too_long}
use Rattle.case_text.specs.CaseTexts.{IsEnd, IsFaultBehind, IsNoEnd, IsRefusedWith, Tells}
use Rattle.lift_picture.specs.declared.scenes.Scene.{Scene}
use Rattle.picture_reader.specs.Tellings.{FailsBehind, IsAnsweredBy, IsSceneOf, SaysBehind, Shown, Telling, alone, behind, section}

-- what is told of one thing is told of another that follows
tells : (fault : TextFault) (P Q : Type 0) → (P → Q) → Tells fault P → Tells fault Q
tells (Bad line code) P Q more is = more is
tells TooLong P Q more is = more is
tells Read P Q more is = tt
tells NoMemory P Q more is = tt

-- of want of memory nothing is told
pub unkept : (telling : Telling) (before : Option TextState) → IsAnsweredBy telling before (Err NoMemory)
unkept telling None = record { reads = tt; refuses = tt; takes = λ shown. tt }
unkept telling (Some text) = record { reads = tt; refuses = tt; takes = λ shown says. tt }

-- what shows in a later state of the text shows in an earlier one
pub answer_shows : {A : Type 0} (before after : Option TextState) (answer : Result A TextFault) (left : Option (List ℕ)) → WentOn before after
    → IfErr answer (λ fault. FaultShows after fault left) → IfErr answer (λ fault. FaultShows before fault left)
answer_shows before after (Ok value) left went shown = tt
answer_shows before after (Err fault) left went shown = fault_behind before after fault left went shown

-- ---- a section that nothing may follow

one_state : {A : Type 0} (x y : A) (rest others : Reading) → accepted x rest ≡ accepted y others → x ≡ y
one_state x y rest others same = cc

-- a section that is whole has no fault
none_bad : {A : Type 0} (out : Outcome A) (end : A) (rest : Reading) (fault : TextFault) → out ≡ accepted end rest → Tells fault (IsRefusedWith out fault)
    → Tells fault ⊥
none_bad out end rest (Bad line code) is bad = let clash : accepted end rest ≡ refused line code = sym is ∙ bad in absurd cc
none_bad out end rest TooLong is bad = let clash : accepted end rest ≡ too_long = sym is ∙ bad in absurd cc
none_bad out end rest Read is bad = tt
none_bad out end rest NoMemory is bad = tt

-- what is wrong behind its last line
late : {A : Type 0} (end : A) (rest : Reading) (fault : TextFault) → IsFaultBehind rest fault → IsRefusedWith (alone (accepted end rest)) fault
late {A} end (line_with line words rest) fault is = subst (λ (f : TextFault). IsRefusedWith {A = A} (refused line OutOfOrder) f) (sym is) refl
late {A} end (finished lines) fault is = absurd is
late {A} end (bad_line line code) fault is = subst (λ (f : TextFault). IsRefusedWith {A = A} (refused line code) f) (sym is) refl
late {A} end past_limit fault is = subst (λ (f : TextFault). IsRefusedWith {A = A} too_long f) (sym is) refl

module _ {A : Type 0} (after : A → Line → Step A) (start : A) (shown_by : A → Shown) where
  section_refused : (before : Option TextState) (fault : TextFault)
      → IfSome before (λ text. Tells fault (IsRefusedWith (alone (outcome after (reading text) start)) fault))
      → IsAnsweredBy (section after start shown_by) before (Err fault)
  section_refused None fault told = record { reads = tt; refuses = tt; takes = λ shown. tt }
  section_refused (Some text) fault told = record {
    reads = tt;
    refuses = told;
    takes = λ shown says. none_bad (alone (outcome after (reading text) start)) says.end (finished says.lines) fault says.whole told;
  }

  bad_told : (before now : Option TextState) (end : A) (fault : TextFault) → ReadAs after before start (Err fault) end now
      → IfSome before (λ text. Tells fault (IsRefusedWith (alone (outcome after (reading text) start)) fault))
  bad_told None now end fault read = tt
  bad_told (Some text) now end (Bad line code) read = ap (λ (out : Outcome A). alone out) read
  bad_told (Some text) now end TooLong read = ap (λ (out : Outcome A). alone out) read
  bad_told (Some text) now end Read read = tt
  bad_told (Some text) now end NoMemory read = tt

  pub section_bad : (before now : Option TextState) (end : A) (fault : TextFault) → ReadAs after before start (Err fault) end now
      → IsAnsweredBy (section after start shown_by) before (Err fault)
  section_bad before now end fault read = section_refused before fault (bad_told before now end fault read)

  pub section_late : (before mid : Option TextState) (end : A) (fault : TextFault) → ReadAs after before start (Ok tt) end mid → IsNoEnd mid fault
      → IsAnsweredBy (section after start shown_by) before (Err fault)
  section_late None mid end fault read none = section_refused None fault tt
  section_late (Some text) None end fault read none = absurd read
  section_late (Some text) (Some rest) end fault read none =
      section_refused (Some text) fault
      (tells fault (IsFaultBehind (reading rest) fault) (IsRefusedWith (alone (outcome after (reading text) start)) fault)
      (λ is. subst (λ (out : Outcome A). IsRefusedWith (alone out) fault) (sym read) (late end (reading rest) fault is)) none)

  pub section_read : (before mid : Option TextState) (end : A) (scene : Scene) → ReadAs after before start (Ok tt) end mid → IsEnd mid
      → IsSceneOf (shown_by end) scene → IsAnsweredBy (section after start shown_by) before (Ok scene)
  section_read None mid end scene read ends is = record { reads = (shown_by end, is, tt); refuses = tt; takes = λ shown. tt }
  section_read (Some text) None end scene read ends is = absurd read
  section_read (Some text) (Some rest) end scene read ends is =
      let whole : alone (outcome after (reading text) start) ≡ accepted end (finished ends.0) =
      ap (λ (out : Outcome A). alone out) (read ∙ ap (λ (r : Reading). accepted end r) ends.1) in
      record {
        reads = (shown_by end, is, record { end = end; lines = ends.0; whole = whole; shown_is = refl });
        refuses = tt;
        takes = λ shown says.
            subst (λ (s : Shown). IsSceneOf s scene)
            (ap shown_by (one_state end says.end (finished ends.0) (finished says.lines) (sym whole ∙ says.whole)) ∙ sym says.shown_is) is;
      }

-- ---- a part in front

module _ {A : Type 0} (IsFront : TextState → A → TextState → Type 0) (IsBad : TextState → TextFault → Type 0) (rest : A → Telling) where
  -- the part in front says this, and nothing else is told behind it
  pub record IsOneFront (text : TextState) (said : A) (place : TextState) : Type 0 where
    pub front : IsFront text said place
    pub one : (shown : Shown) → SaysBehind IsFront IsBad rest text shown → (rest said).says place shown

  abbrev pub IsFrontRead : Option TextState → A → Option TextState → Type 0
  IsFrontRead before said mid = IfSome before (λ text. IsSomeAnd mid (λ place. IsOneFront text said place))

  pub answered_behind : (before mid : Option TextState) (said : A) (answer : Result Scene TextFault) → IsFrontRead before said mid
      → IsAnsweredBy (rest said) mid answer → IsAnsweredBy (behind IsFront IsBad rest) before answer
  answered_behind None mid said (Ok scene) front told = record { reads = (told.reads.0, told.reads.1, tt); refuses = tt; takes = λ shown. tt }
  answered_behind None mid said (Err fault) front told = record { reads = tt; refuses = tt; takes = λ shown. tt }
  answered_behind (Some text) None said (Ok scene) front told = absurd front
  answered_behind (Some text) None said (Err fault) front told = absurd front
  answered_behind (Some text) (Some place) said (Ok scene) front told = record {
    reads = (told.reads.0, told.reads.1, record { said = said; place = place; front = front.front; told = told.reads.2 });
    refuses = tt;
    takes = λ shown says. told.takes shown (front.one shown says);
  }
  answered_behind (Some text) (Some place) said (Err fault) front told = record {
    reads = tt;
    refuses = tells fault ((rest said).wrong place fault) (FailsBehind IsFront IsBad rest text fault) (λ bad. inr (said, place, front.front, bad)) told.refuses;
    takes = λ shown says. told.takes shown (front.one shown says);
  }

  pub refused_in_front : (before : Option TextState) (fault : TextFault) → IfSome before (λ text. Tells fault (IsBad text fault))
      → IfSome before (λ text. (shown : Shown) → SaysBehind IsFront IsBad rest text shown → Tells fault ⊥)
      → IsAnsweredBy (behind IsFront IsBad rest) before (Err fault)
  refused_in_front None fault bad never = record { reads = tt; refuses = tt; takes = λ shown. tt }
  refused_in_front (Some text) fault bad never = record {
    reads = tt;
    refuses = tells fault (IsBad text fault) (FailsBehind IsFront IsBad rest text fault) (λ here. inl here) bad;
    takes = λ shown says. never shown says;
  }
