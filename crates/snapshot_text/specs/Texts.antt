-- The canonical text of a snapshot: the lines that stand for it, with the cars in the building's order.
use Rattle.std.specs.Prelude.{◌≡◌, ℕ, ◌+◌, ◌-◌, ◌^◌, ◌≤◌, ◌<◌, Bool, List, [], ◌∷◌, ◌++◌, length, map, decimal, codes, Option, None, Some, IfSome, Result}
use Rattle.std.specs.Prelude.{if◌then◌else◌}
use Rattle.std.specs.List.{range_with_len}
use Rattle.elevator_model.specs.declared.CarState.{CarState}
use Rattle.elevator_model.specs.declared.CarState.TheVariants.{Idle, Coming, Moving}
use Rattle.elevator_model.specs.declared.Aboard.{Aboard}
use Rattle.elevator_model.specs.declared.Call.{Call}
use Rattle.elevator_model.specs.Building.{Building, car_of}
use Rattle.elevator_model.specs.Snapshot.{Snapshot, IsAccepted, car_count, spec_of, state_of, group_of, call_of}
use Rattle.lift_text.specs.Reading.{TextState, reading}
use Rattle.lift_text.specs.declared.faults.TextFault.{TextFault}
use Rattle.text_sections.specs.Sections.{Line}
use Rattle.text_sections.specs.Canonical.{joined, lines_text}
use Rattle.snapshot_text.specs.Snapshots.{IsAnswered}

-- ---- the words of each line

abbrev pub head_words : ℕ → Line
head_words version = codes "snapshot" ∷ decimal version ∷ []

abbrev pub moment_words : ℕ → Line
moment_words moment = codes "now" ∷ decimal moment ∷ []

abbrev pub direction : Bool → List ℕ
direction up = if up then codes "up" else codes "down"

-- the line of a car with this id
abbrev pub state_words : ℕ → CarState → Line
state_words id (Idle floor free) = codes "car" ∷ decimal id ∷ codes "idle" ∷ decimal floor ∷ decimal free ∷ []
state_words id (Coming floor arrives) = codes "car" ∷ decimal id ∷ codes "coming" ∷ decimal floor ∷ decimal arrives ∷ []
state_words id (Moving from up left) = codes "car" ∷ decimal id ∷ codes "moving" ∷ decimal from ∷ direction up ∷ decimal left ∷ []

abbrev pub car_words : Snapshot → ℕ → Line
car_words s c = state_words (spec_of s c).id (state_of s c)

abbrev pub group_words : Building → Aboard → Line
group_words b group = codes "aboard" ∷ decimal (car_of b group.car).id ∷ decimal group.id ∷ decimal group.destination ∷ decimal group.persons
    ∷ decimal group.boarded ∷ []

abbrev pub pin_word : Building → Option ℕ → List ℕ
pin_word b None = codes "any"
pin_word b (Some c) = decimal (car_of b c).id

-- the line of a call up to its last word
abbrev pub call_front : Call → List ℕ
call_front call = joined (codes "call" ∷ decimal call.id ∷ decimal call.origin ∷ decimal call.destination ∷ decimal call.persons ∷ decimal call.released ∷ [])

abbrev pub call_words : Building → Call → Line
call_words b call = codes "call" ∷ decimal call.id ∷ decimal call.origin ∷ decimal call.destination ∷ decimal call.persons ∷ decimal call.released
    ∷ pin_word b call.pin ∷ []

abbrev pub end_words : Line
end_words = codes "end" ∷ []

-- ---- the lines of a snapshot

abbrev pub car_lines : Snapshot → List Line
car_lines s = map (car_words s) (range_with_len 0 (car_count s))

abbrev pub group_lines : Snapshot → List Line
group_lines s = map (group_words s.building) s.aboard

abbrev pub call_lines : Snapshot → List Line
call_lines s = map (call_words s.building) s.calls

unfoldable pub snapshot_lines : Snapshot → List Line
snapshot_lines s = head_words s.version ∷ moment_words s.moment ∷ (car_lines s ++ group_lines s ++ call_lines s) ++ end_words ∷ []

unfoldable pub snapshot_text : Snapshot → List ℕ
snapshot_text s = lines_text (snapshot_lines s)

-- ---- what is read of it

-- the snapshot has a text: it is accepted, and its ids lie in the range of the text
pub record HasText (s : Snapshot) : Type 0 where
  pub accepted : IsAccepted s
  pub car_ids : (c : ℕ) → c < car_count s → (spec_of s c).id < 2 ^ 32
  pub group_ids : (k : ℕ) → k < length s.aboard → (group_of s k).id < 2 ^ 32
  pub call_ids : (j : ℕ) → j < length s.calls → (call_of s j).id < 2 ^ 32

-- what is left behind the text of a snapshot of the building, in a text with this state
abbrev pub behind : TextState → Snapshot → List ℕ → TextState
behind text s tail = record { line = text.line + length (snapshot_lines s); limit = text.limit - length (snapshot_text s); bytes = tail }

-- where a text begins with that of a snapshot of the building, that one is read, whatever follows
abbrev pub ReadsText : Option TextState → Building → Result Snapshot TextFault → Option TextState → Type 0
ReadsText before b answer now = (s : Snapshot) (tail : List ℕ) → HasText s → s.building ≡ b
    → IfSome before (λ text. text.bytes ≡ snapshot_text s ++ tail → length (snapshot_text s) ≤ text.limit
    → IsAnswered s (reading (behind text s tail)) answer now)
