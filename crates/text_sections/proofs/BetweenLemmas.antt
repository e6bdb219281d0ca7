-- From one line of a text to the next.
use Rattle.std.proofs.Common.{ℕ, true, List, [], ◌∷◌, ◌++◌, Option, None, Some, Result, Ok, Err, OnOk, sym, subst, refl, ap, ◌∙◌}
use Rattle.lift_text.specs.Reading.{TextState, reading, line_with, Passed, NextLine}
use Rattle.lift_text.specs.Shows.{WentOn}
use Rattle.lift_text.specs.declared.faults.TextFault.{TextFault}
use Rattle.lift_text.proofs.CrossLemmas.{passed_more}
use Rattle.lift_text.proofs.ShowLemmas.{went_nowhere, went_further}
use Rattle.text_sections.specs.Sections.{Line}
use Rattle.text_sections.specs.Between.{IsNextLine, AreBetween, StandsBehind}

pub behind_none : (text : Option TextState) → StandsBehind text text
behind_none None = tt
behind_none (Some text) = ([], refl)

between_more : (before : TextState) (lines : List Line) (now : TextState) (words : Line) (next : TextState) → AreBetween before lines now
    → IsNextLine now words next → AreBetween before (lines ++ words ∷ []) next
between_more before [] now words next here step = (next, subst (λ (t : TextState). IsNextLine t words next) (sym here) step, refl)
between_more before (first ∷ lines) now words next steps step = (steps.0, steps.1, between_more steps.0 lines now words next steps.2 step)

pub behind_more : (text here now : Option TextState) (words : Line) (line : ℕ) → StandsBehind text here → NextLine here (Ok true) words line now
    → StandsBehind text now
behind_more None here now words line steps next = tt
behind_more (Some before) None now words line steps next = absurd steps
behind_more (Some before) (Some here) None words line steps next = absurd next
behind_more (Some before) (Some here) (Some now) words line steps next =
    let step : IsNextLine here words now = record { reads = next.0 ∙ ap (λ (n : ℕ). line_with n words (reading now)) (sym next.1); passed = next.2 } in
    (steps.0 ++ words ∷ [], between_more before steps.0 here words now steps.1 step)

went_between : (before : TextState) (lines : List Line) (now : TextState) → AreBetween before lines now → Passed before now
went_between before [] now here = subst (λ (t : TextState). Passed before t) here (went_nowhere (Some before))
went_between before (words ∷ lines) now steps = passed_more before steps.0 now steps.1.passed (went_between steps.0 lines now steps.2)

-- where a text goes on right behind some line, it went on
pub behind_went : (text now : Option TextState) → StandsBehind text now → WentOn text now
behind_went None now steps = tt
behind_went (Some before) None steps = absurd steps
behind_went (Some before) (Some now) steps = went_between before steps.0 now steps.1

pub both_went : {A : Type 0} (before middle now : Option TextState) (answer : Result A TextFault) → StandsBehind before middle
    → OnOk answer (StandsBehind middle now) → OnOk answer (WentOn before now)
both_went before middle now (Ok answer) first second = went_further before middle now (behind_went before middle first) (behind_went middle now second)
both_went before middle now (Err fault) first second = tt
