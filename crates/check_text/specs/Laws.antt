-- Laws of plans, answers and texts that stand one after the other.
use Rattle.std.specs.Prelude.{◌≡◌, ℕ, ◌-◌, ◌^◌, ◌<◌, ◌≤◌, List, [], ◌∷◌, ◌++◌, length, All, IsTrue}
use Rattle.std.specs.Io.BufRead.{ends_with_byte}
use Rattle.elevator_model.specs.declared.Stop.{Stop}
use Rattle.elevator_model.specs.Snapshot.{Snapshot, car_count, call_count, spec_of, call_of}
use Rattle.elevator_model.specs.Plans.{IsFeasiblePlan, plan_cost_of}
use Rattle.lift_text.specs.Reading.{reading, whole_text}
use Rattle.search_model.specs.declared.Stated.{Stated}
use Rattle.answer_text.specs.Plans.{plan_by_index, stated_by_index}
use Rattle.answer_text.specs.Texts.{answer_text}
use Rattle.answer_text.specs.Written.{HasText}
use Rattle.case_text.specs.CaseTexts.{CaseInFront, IsCaseText}
use Rattle.search_model.specs.declared.Twig.{Twig}
use Rattle.cert_text.specs.Texts.{cert_text}
use Rattle.cert_text.specs.Written.{HasText as HasTreeText}
use Rattle.check_text.specs.CheckTexts.{IsCheckText}

-- A feasible plan with the boards of each stop by rising index is feasible, and costs the same.
abbrev pub ByIndexLaw : Type 0
ByIndexLaw = (s : Snapshot) (plan : List (List Stop)) → IsFeasiblePlan s plan → IsFeasiblePlan s (plan_by_index s plan)
    × (plan_cost_of s (plan_by_index s plan) ≡ plan_cost_of s plan)

-- the ids of cars and calls lie in the range of a text
pub record HasLowIds (s : Snapshot) : Type 0 where
  pub cars : (c : ℕ) → c < car_count s → (spec_of s c).id < 2 ^ 32
  pub calls : (j : ℕ) → j < call_count s → (call_of s j).id < 2 ^ 32

-- A feasible plan of a case that has a text, with its cost and a bound that is not above it, has a text too, which is
-- short.
abbrev pub StatedTextLaw : Type 0
StatedTextLaw = (input : List ℕ) (s : Snapshot) (stated : Stated) → IsCaseText input s → IsFeasiblePlan s stated.plan
    → stated.cost ≡ plan_cost_of s stated.plan → stated.bound ≤ stated.cost
    → HasText s stated × (length (answer_text s stated) ≤ 200000)

-- The text of a case, ended by a line feed, and more behind it: the text begins with that case, and what comes after it
-- is read of the rest alone.
abbrev pub AppendLaw : Type 0
AppendLaw = (input : List ℕ) (s : Snapshot) (tail : List ℕ) → IsCaseText input s → IsTrue (ends_with_byte 10 input)
    → (line : ℕ) × CaseInFront (reading (whole_text (input ++ tail))) s (reading (record { line = line; limit = 67108864 - length input; bytes = tail }))

-- a comment line that is short, with its line feed: 35 is `#`
pub record IsClosing (closing : List ℕ) : Type 0 where
  pub text : List ℕ
  pub closing_is : closing ≡ 35 ∷ text ++ 10 ∷ []
  pub no_line : All (λ b. b ≡ 10 → ⊥) text
  pub short : length text ≤ 100

-- The texts of a case, of an answer to it and of a certificate, one behind the other, and a comment line behind them,
-- are the text of that case, of the answer with the boards of each stop by rising index, and of the certificate.
abbrev pub AgainLaw : Type 0
AgainLaw = (input : List ℕ) (s : Snapshot) (stated : Stated) (tree : List Twig) (closing : List ℕ) → IsCaseText input s → IsTrue (ends_with_byte 10 input)
    → length input ≤ 1000000
    → HasText s stated → HasTreeText s tree → length (answer_text s stated) ≤ 6100000 → length (cert_text s tree) ≤ 60000000 → IsClosing closing
    → IsCheckText (input ++ answer_text s stated ++ cert_text s tree ++ closing) s (stated_by_index s stated) tree
