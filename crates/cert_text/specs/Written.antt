-- What is read of the text of a certificate.
use Rattle.std.specs.Prelude.{◌≡◌, ℕ, ◌+◌, ◌-◌, ◌^◌, ◌≤◌, ◌<◌, List, ◌++◌, length, Option, IfSome, Result}
use Rattle.elevator_model.specs.Snapshot.{Snapshot, car_count, call_count, spec_of, call_of}
use Rattle.search_model.specs.declared.Twig.{Twig}
use Rattle.lift_text.specs.Reading.{TextState, reading}
use Rattle.lift_text.specs.declared.faults.TextFault.{TextFault}
use Rattle.cert_text.specs.Trees.{IsWithin}
use Rattle.cert_text.specs.Certs.{IsAnswered}
use Rattle.cert_text.specs.Texts.{cert_lines, cert_text}

-- the tree has a text: it lies in the ranges, and so do the ids
pub record HasText (s : Snapshot) (tree : List Twig) : Type 0 where
  pub within : IsWithin s tree
  pub car_ids : (c : ℕ) → c < car_count s → (spec_of s c).id < 2 ^ 32
  pub call_ids : (j : ℕ) → j < call_count s → (call_of s j).id < 2 ^ 32

-- what is left behind the text of a tree, in a text with this state
abbrev pub behind : TextState → Snapshot → List Twig → List ℕ → TextState
behind text s tree tail = record { line = text.line + length (cert_lines s tree); limit = text.limit - length (cert_text s tree); bytes = tail }

-- where a text begins with that of a tree, that one is read, whatever follows
abbrev pub ReadsText : Option TextState → Snapshot → Result (List Twig) TextFault → Option TextState → Type 0
ReadsText before s answer now = (tree : List Twig) (tail : List ℕ) → HasText s tree
    → IfSome before (λ text. text.bytes ≡ cert_text s tree ++ tail → length (cert_text s tree) ≤ text.limit
    → IsAnswered tree (reading (behind text s tree tail)) answer now)
