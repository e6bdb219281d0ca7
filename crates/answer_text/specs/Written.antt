-- What is read of the text of an answer.
use Rattle.std.specs.Prelude.{◌≡◌, ℕ, ◌+◌, ◌-◌, ◌^◌, ◌≤◌, ◌<◌, List, ◌++◌, length, Option, IfSome, Result, All}
use Rattle.elevator_model.specs.declared.Stop.{Stop}
use Rattle.elevator_model.specs.Snapshot.{Snapshot, car_count, call_count, spec_of, call_of}
use Rattle.lift_text.specs.Reading.{TextState, reading, line_limit}
use Rattle.lift_text.specs.declared.faults.TextFault.{TextFault}
use Rattle.text_sections.specs.Canonical.{joined}
use Rattle.search_model.specs.declared.Stated.{Stated}
use Rattle.answer_text.specs.Plans.{stated_by_index}
use Rattle.answer_text.specs.Texts.{stop_words, answer_lines, answer_text}
use Rattle.answer_text.specs.Answers.{IsWithin, IsAnswered}

-- the answer has a text: its plan fits the snapshot, its numbers and the ids lie in the ranges of the text,
-- and no line of a stop is over long
pub record HasText (s : Snapshot) (stated : Stated) : Type 0 where
  pub within : IsWithin s stated
  pub car_ids : (c : ℕ) → c < car_count s → (spec_of s c).id < 2 ^ 32
  pub call_ids : (j : ℕ) → j < call_count s → (call_of s j).id < 2 ^ 32
  pub short : All (All (λ (stop : Stop). length (joined (stop_words s stop)) ≤ line_limit)) stated.plan

-- what is left behind the text of an answer, in a text with this state
abbrev pub behind : TextState → Snapshot → Stated → List ℕ → TextState
behind text s stated tail = record { line = text.line + length (answer_lines s stated); limit = text.limit - length (answer_text s stated); bytes = tail }

-- where a text begins with that of an answer, that one is read, whatever follows: with the boards of each stop
-- by rising index, since their order has no meaning
abbrev pub ReadsText : Option TextState → Snapshot → Result Stated TextFault → Option TextState → Type 0
ReadsText before s answer now = (stated : Stated) (tail : List ℕ) → HasText s stated
    → IfSome before (λ text. text.bytes ≡ answer_text s stated ++ tail → length (answer_text s stated) ≤ text.limit
    → IsAnswered (stated_by_index s stated) (reading (behind text s stated tail)) answer now)
