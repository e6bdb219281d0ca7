-- Reading a section line by line.
use Rattle.std.proofs.Common.{◌≡◌, ℕ, ◌+◌, ◌≤◌, Bool, true, false, Option, None, Some, Ok, Err, ap, refl, arith, ◌∙◌}
use Rattle.std.specs.Prelude.{IsSomeAnd, IfSome}
use Rattle.lift_text.specs.Reading.{TextState, reading, NextLine}
use Rattle.lift_text.specs.declared.codes.TextCode.{TextCode}
use Rattle.lift_text.specs.declared.codes.TextCode.TheVariants.{CutShort}
use Rattle.lift_text.specs.declared.faults.TextFault.{TextFault}
use Rattle.lift_text.specs.declared.faults.TextFault.TheVariants.{Read, TooLong, Bad, NoMemory}
use Rattle.lift_text.proofs.ShowLemmas.{line_rises}
use Rattle.text_sections.specs.declared.faults.LineFault.TheVariants.{Bad as BadLine}
use Rattle.text_sections.specs.declared.sections.AfterLine.TheVariants.{More, Whole}
use Rattle.text_sections.specs.Sections.{Line, Step, continued, outcome, Did, ReadAs}

-- ---- from line to line

-- this many lines were read, where the source tells what it has left
abbrev pub Counted : Option TextState → ℕ → Option TextState → Type 0
Counted None count now = Unit {0}
Counted (Some text) count now = IfSome now (λ here. count ≤ here.line)

pub counted_none : (text : Option TextState) → Counted text 0 text
counted_none None = tt
counted_none (Some text) = omega arith

module _ {A : Type 0} (after : A → Line → Step A) where
  -- what is read from one state on is what is read from a later one on
  abbrev pub Leads : Option TextState → A → A → Option TextState → Type 0
  Leads None state state' now = Unit {0}
  Leads (Some text) state state' now = IsSomeAnd now (λ here. outcome after (reading text) state ≡ outcome after (reading here) state')

  pub leads_none : (text : Option TextState) (state : A) → Leads text state state text
  leads_none None state = tt
  leads_none (Some text) state = refl

  pub leads_more : (text here now : Option TextState) (state state' new : A) (words : Line) (line : ℕ) → Leads text state state' here
      → NextLine here (Ok true) words line now
      → Did (after state' words) (Ok More) new → Leads text state new now
  leads_more None here now state state' new words line leads next did = tt
  leads_more (Some text) None now state state' new words line leads next did = absurd leads
  leads_more (Some text) (Some at) None state state' new words line leads next did = absurd next
  leads_more (Some text) (Some at) (Some behind) state state' new words line leads next did =
      leads ∙ ap (λ r. outcome after r state') next.0 ∙ ap (λ s. continued s line (reading behind) (outcome after (reading behind))) did

  pub leads_whole : (text here now : Option TextState) (state state' new : A) (words : Line) (line : ℕ) → Leads text state state' here
      → NextLine here (Ok true) words line now
      → Did (after state' words) (Ok Whole) new → ReadAs after text state (Ok tt) new now
  leads_whole None here now state state' new words line leads next did = tt
  leads_whole (Some text) None now state state' new words line leads next did = absurd leads
  leads_whole (Some text) (Some at) None state state' new words line leads next did = absurd next
  leads_whole (Some text) (Some at) (Some behind) state state' new words line leads next did =
      leads ∙ ap (λ r. outcome after r state') next.0 ∙ ap (λ s. continued s line (reading behind) (outcome after (reading behind))) did

  pub leads_bad : (text here now : Option TextState) (state state' new : A) (words : Line) (line : ℕ) (code : TextCode) → Leads text state state' here
      → NextLine here (Ok true) words line now
      → Did (after state' words) (Err (BadLine code)) new → ReadAs after text state (Err (Bad line code)) new now
  leads_bad None here now state state' new words line code leads next did = tt
  leads_bad (Some text) None now state state' new words line code leads next did = absurd leads
  leads_bad (Some text) (Some at) None state state' new words line code leads next did = absurd next
  leads_bad (Some text) (Some at) (Some behind) state state' new words line code leads next did =
      leads ∙ ap (λ r. outcome after r state') next.0 ∙ ap (λ s. continued s line (reading behind) (outcome after (reading behind))) did

  pub leads_cut : (text here now : Option TextState) (state state' new : A) (words : Line) (line : ℕ) → Leads text state state' here
      → NextLine here (Ok false) words line now
      → ReadAs after text state (Err (Bad (line + 1) CutShort)) new now
  leads_cut None here now state state' new words line leads next = tt
  leads_cut (Some text) None now state state' new words line leads next = absurd leads
  leads_cut (Some text) (Some at) now state state' new words line leads next = leads ∙ ap (λ r. outcome after r state') next.0

  pub leads_fault : (text here now : Option TextState) (state state' new : A) (words : Line) (line : ℕ) (fault : TextFault) → Leads text state state' here
      → NextLine here (Err fault) words line now
      → ReadAs after text state (Err fault) new now
  leads_fault None here now state state' new words line fault leads next = tt
  leads_fault (Some text) None now state state' new words line fault leads next = absurd leads
  leads_fault (Some text) (Some at) now state state' new words line (Bad number code) leads next = leads ∙ ap (λ r. outcome after r state') next.0
  leads_fault (Some text) (Some at) now state state' new words line TooLong leads next = leads ∙ ap (λ r. outcome after r state') next
  leads_fault (Some text) (Some at) now state state' new words line Read leads next = tt
  leads_fault (Some text) (Some at) now state state' new words line NoMemory leads next = absurd next

  -- no text has more lines
  pub leads_nowhere : (text here : Option TextState) (state state' new : A) (now : Option TextState) → Leads text state state' here
      → Counted text 67108865 here → (IfSome here (λ at. at.line ≤ 67108864))
      → ReadAs after text state (Err TooLong) new now
  leads_nowhere None here state state' new now leads many few = tt
  leads_nowhere (Some text) None state state' new now leads many few = absurd leads
  leads_nowhere (Some text) (Some at) state state' new now leads many few = absurd (omega (arith, many, few))

  -- after one more line, one more line is counted
  pub counted_more : (text here now : Option TextState) (state state' : A) (words : Line) (line count : ℕ) → Leads text state state' here
      → Counted text count here → NextLine here (Ok true) words line now
      → Counted text (count + 1) now
  counted_more None here now state state' words line count leads counted next = tt
  counted_more (Some text) None now state state' words line count leads counted next = absurd leads
  counted_more (Some text) (Some at) None state state' words line count leads counted next = absurd next
  counted_more (Some text) (Some at) (Some behind) state state' words line count leads counted next =
      let up = line_rises _ at.line at.limit line words (reading behind) next.0 in
      omega (arith, counted, next.1, up)

-- a reader that answered a line had not failed
pub was_none : (failure : Option TextFault) (answer : Bool) → IfSome failure (λ fault. Ok answer ≡ Err fault) → failure ≡ None
was_none None answer again = refl
was_none (Some fault) answer again = absurd cc
